-- The headers of sections, as they are kept and as contracts see them.
use Rattle.std.proofs.Common.{◌≡◌, ◌≤◌, ◌-◌, ℕ, zero, suc, List, [], ◌∷◌, ◌++◌, length, map, drop}
use Rattle.std.proofs.Common.{Some, refl, ap, arith, rules, length-append}
use Rattle.std.specs.Prelude.{slice_get, slice_index_or, slice_range}
use native.Mathlib.Numerals.{unary_clauses}
use Rattle.std.proofs.lemmas.List.{take-append-le, drop-append-le, length-drop, take_all}
use Rattle.std.proofs.Math.Seq.{drop-append_seam}
use Rattle.basic_toml_read.specs.declared.section.Key as code
use Rattle.basic_toml_read.specs.SectionView.{key_of, header_texts}
use Rattle.basic_toml_tree.specs.declared.headers.Head.{Head}
use Rattle.basic_toml_tree.specs.Headers.{keys_at, last_of, headers_from, range_of, EndsRise}
use Rattle.basic_toml_tree.specs.Origin.{header_of}

-- how many there are
pub count_from : (from : ℕ) (hs : List Head) (keys : List code.Key) → length (headers_from from hs keys) ≡ length hs
count_from from [] keys = refl
count_from from (h ∷ hs) keys = ap suc (count_from h.end hs keys)

-- the keys of a header begin where those before them end
pub range_after : (from : ℕ) (hs : List Head) (n m : ℕ) (d h : Head) → suc n ≡ m → slice_get hs m ≡ Some h
    → ((slice_index_or hs n d).end, h.end) ≡ range_of from hs m
range_after from (g ∷ i ∷ hs) zero (suc zero) d h next there = let same : i ≡ h = cc in rw same refl
range_after from (g ∷ hs) (suc n) (suc m) d h next there = range_after g.end hs n m d h (omega (arith, next)) there
range_after from hs n m d h next there = absurd (grind arith)

-- no header is past the last one
pub no_range : (from : ℕ) (hs : List Head) (n : ℕ) → length hs ≤ n → range_of from hs n ≡ (0, 0)
no_range from [] n past = refl
no_range from (h ∷ hs) zero past = absurd (omega (arith, past))
no_range from (h ∷ hs) (suc n) past = no_range h.end hs n (omega (arith, past))

-- they are among all keys
rise_to : (from : ℕ) (hs : List Head) (all : ℕ) → EndsRise from hs all → from ≤ all
rise_to from [] all rise = omega (arith, rise)
rise_to from (h ∷ hs) all rise = omega (arith, rise.0, rise_to h.end hs all rise.1)

pub range_within : (from : ℕ) (hs : List Head) (all n : ℕ) → EndsRise from hs all
    → ((range_of from hs n).0 ≤ (range_of from hs n).1) × ((range_of from hs n).1 ≤ all)
range_within from [] all n rise = (omega arith, omega arith)
range_within from (h ∷ hs) all zero rise = (rise.0, rise_to h.end hs all rise.1)
range_within from (h ∷ hs) all (suc n) rise = range_within h.end hs all n rise.1

-- the keys of the header with a number are those of its range
pub keys_in_range : (from : ℕ) (hs : List Head) (keys : List code.Key) (n : ℕ)
    → header_texts (slice_range keys (range_of from hs n).0 (range_of from hs n).1)
    ≡ header_of (keys_at (headers_from from hs keys) n)
keys_in_range from [] keys n = refl
keys_in_range from (h ∷ hs) keys zero = refl
keys_in_range from (h ∷ hs) keys (suc n) = keys_in_range h.end hs keys n

-- one header more, with the keys that come last
pub one_more : (from : ℕ) (hs : List Head) (keys more : List code.Key) (h : Head) → EndsRise from hs (length keys)
    → h.end ≡ length (keys ++ more)
    → headers_from from (hs ++ h ∷ []) (keys ++ more) ≡ headers_from from hs keys ++ (h.at, map key_of more) ∷ []
one_more from [] keys more h rise end =
    let last = take_all (h.end - length keys) more (omega (arith, end, length-append keys more)) in
    rw (rise, drop-append_seam keys more, last) refl
one_more from (g ∷ hs) keys more h rise end =
    let within = rise_to g.end hs (length keys) rise.1 in
    let begun = drop-append-le from keys more (omega (arith, rise.0, within)) in
    let kept = take-append-le (g.end - from) (drop from keys) more (omega (arith, length-drop from keys, within)) in
    rw (begun, kept, one_more g.end hs keys more h rise.1 end) refl

pub rises_on : (from : ℕ) (hs : List Head) (keys more : List code.Key) (h : Head)
    → EndsRise from hs (length keys) → h.end ≡ length (keys ++ more) → EndsRise from (hs ++ h ∷ []) h.end
rises_on from [] keys more h rise end = (omega (arith, rise, end, length-append keys more), refl)
rises_on from (g ∷ hs) keys more h rise end = (rise.0, rises_on g.end hs keys more h rise.1 end)

-- where the last one begins
pub last_is_last : (from : ℕ) (hs : List Head) (keys : List code.Key) (h : Head)
    → slice_get hs (length hs - 1) ≡ Some h → last_of (headers_from from hs keys) ≡ Some h.at
last_is_last from [] keys h there = search rules
last_is_last from (g ∷ []) keys h there = search rules
last_is_last from (g ∷ i ∷ hs) keys h there =
    last_is_last g.end (i ∷ hs) keys h (simp unary_clauses (simp unary_clauses at there))
