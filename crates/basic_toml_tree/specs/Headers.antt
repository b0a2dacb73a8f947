-- The headers of sections as contracts see them: for each, in order, where its section begins, and its keys.
use Rattle.std.specs.Prelude.{◌≡◌, ◌≤◌, ℕ, zero, suc, List, [], ◌∷◌, map, slice_get, slice_range, Option, Some, None}
use Rattle.std.specs.Option.{option_map}
use Rattle.basic_toml_grammar.specs.Sections.{Key}
use Rattle.basic_toml_read.specs.declared.section.Key as code
use Rattle.basic_toml_read.specs.SectionView.{key_of}
use Rattle.basic_toml_tree.specs.declared.headers.Head.{Head}

-- the keys of the header with this number, if there is one
abbrev pub keys_at : List (ℕ × List Key) → ℕ → Option (List Key)
keys_at headers n = option_map (λ h. h.1) (slice_get headers n)

-- where the last header begins
abbrev pub last_of : List (ℕ × List Key) → Option ℕ
last_of [] = None
last_of (h ∷ []) = Some h.0
last_of (h ∷ i ∷ headers) = last_of (i ∷ headers)

-- as they are kept: the keys of a header stand after those before it, up to its end
abbrev pub headers_from : ℕ → List Head → List code.Key → List (ℕ × List Key)
headers_from from [] keys = []
headers_from from (h ∷ hs) keys = (h.at, map key_of (slice_range keys from h.end)) ∷ headers_from h.end hs keys

-- where the keys of the header with a number begin and end, and past the last one nowhere
abbrev pub range_of : ℕ → List Head → ℕ → ℕ × ℕ
range_of from [] n = (0, 0)
range_of from (h ∷ hs) zero = (from, h.end)
range_of from (h ∷ hs) (suc n) = range_of h.end hs n

-- the ends do not fall, and with the last all keys have come
abbrev pub EndsRise : ℕ → List Head → ℕ → Type 0
EndsRise from [] all = from ≡ all
EndsRise from (h ∷ hs) all = (from ≤ h.end) × EndsRise h.end hs all
