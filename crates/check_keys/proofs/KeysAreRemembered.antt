-- A set of keys, as the list of those that were put into it.
use Rattle.std.proofs.Common.{◌≡◌, Bool, true, List, [], ◌∷◌, map, refl, ap, ◌∙◌, arith, Global}
use Rattle.std.proofs.Common.{String, Vec, not}
use Rattle.std.specs.BTreeSet.{BTreeSet, contains, IsEmpty, Updates}
use Rattle.std.specs.BTreeMap.{is_at}
use Rattle.std.specs.Cmp.Lexicographic.{pointwise, slice_cmp}
use Rattle.std.specs.Str.{bytes_eq}
use Rattle.std.specs.String.{string_cmp, string_bytes}
use Rattle.std.proofs.lemmas.Map.Text.{is_eq-slice_cmp}
use Rattle.check_keys.specs.Findings.{Parts, Remembers, is_among}

-- two keys compare as equal exactly where their parts have the same bytes
same_parts : (xs ys : List (String Global))
    → is_at (slice_cmp string_cmp xs) ys ≡ pointwise bytes_eq (map string_bytes xs) (map string_bytes ys)
same_parts [] [] = refl
same_parts [] (y ∷ ys) = refl
same_parts (x ∷ xs) [] = refl
same_parts (x ∷ xs) (y ∷ ys) = grind (arith, same_parts xs ys, is_eq-slice_cmp (string_bytes x) (string_bytes y))

pub none_remembered : (set : BTreeSet (Vec (String Global) Global)) → IsEmpty set → Remembers set []
none_remembered set empty parts = grind (arith, empty)

pub one_more : (old new : BTreeSet (Vec (String Global) Global)) (before : List Parts)
    → (key : Vec (String Global) Global)
    → Updates (λ a b. slice_cmp string_cmp a.items b.items) old new key true → Remembers old before
    → Remembers new (map string_bytes key.items ∷ before)
one_more old new before key updates remembered parts =
    grind (arith, updates.0 parts, remembered parts, same_parts key.items parts.items)

-- what an insertion answers, and what the set holds then
pub inserted : (old new : BTreeSet (Vec (String Global) Global)) (key : Vec (String Global) Global) (added : Bool)
    → added ≡ not (contains (λ a b. slice_cmp string_cmp a.items b.items) old key)
    → Updates (λ a b. slice_cmp string_cmp a.items b.items) old new key true
    → (before : List Parts) → Remembers old before
    → (added ≡ not (is_among (map string_bytes key.items) before)) × Remembers new (map string_bytes key.items ∷ before)
inserted old new key added told updates before remembered =
    (told ∙ ap not (remembered key), one_more old new before key updates remembered)
