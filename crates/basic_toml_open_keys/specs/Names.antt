-- Names in one text.
use Rattle.std.specs.Prelude.{◌≡◌, ℕ, ◌≤◌, List, [], ◌∷◌, Option, Some, None, slice_range}
use Rattle.std.specs.Str.{IsCharBoundary}
use Rattle.basic_toml_layout.specs.Texts.{is_bare_key}
use Rattle.basic_toml_open_keys.specs.declared.names.Place.{Place}

abbrev pub name_at : List ℕ → Place → List ℕ
name_at text p = slice_range text p.start p.end

-- a place within the part of the text that is held, which may be cut at both its ends, and whether a bare key stands
-- there
abbrev pub IsPlace : List ℕ → ℕ → Place → Type 0
IsPlace text held p = (p.start ≤ p.end) × (p.end ≤ held) × IsCharBoundary text p.start × IsCharBoundary text p.end
    × (p.is_bare ≡ is_bare_key (name_at text p))

abbrev pub last_after : List ℕ → List (List ℕ) → List ℕ
last_after k [] = k
last_after k (l ∷ ls) = last_after l ls

abbrev pub last_name : List (List ℕ) → Option (List ℕ)
last_name [] = None
last_name (k ∷ ks) = Some (last_after k ks)
