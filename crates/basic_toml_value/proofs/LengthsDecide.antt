-- Equal elements and equal tables, part by part.
use Rattle.std.proofs.Common.{◌≡◌, ℕ, suc, false, List, [], ◌∷◌, length, refl, ap}
use Rattle.std.proofs.Math.Bool.{and-false}
use Rattle.std.specs.Str.{bytes_eq}
use Rattle.basic_toml_value.specs.Equal.{data_eq, items_eq, members_eq}
use Rattle.basic_toml_value.specs.View.{view, entries, items_view}
use Rattle.basic_toml_value.specs.declared.value.Value.{Value}

-- lists of elements of different lengths differ
pub items_eq-lengths : (xs ys : List Value) → (length xs ≡ length ys → ⊥)
    → items_eq (items_view xs) (items_view ys) ≡ false
items_eq-lengths [] [] differ = absurd (differ refl)
items_eq-lengths [] (y ∷ ys) differ = refl
items_eq-lengths (x ∷ xs) [] differ = refl
items_eq-lengths (x ∷ xs) (y ∷ ys) differ =
    rw (items_eq-lengths xs ys (λ same. differ (ap (λ n. suc n) same))) (and-false (data_eq (view x) (view y)))

-- tables of different lengths differ
pub members_eq-lengths : (ps qs : List (List ℕ × Value)) → (length ps ≡ length qs → ⊥)
    → members_eq (entries ps) (entries qs) ≡ false
members_eq-lengths [] [] differ = absurd (differ refl)
members_eq-lengths [] (q ∷ qs) differ = refl
members_eq-lengths (p ∷ ps) [] differ = refl
members_eq-lengths (p ∷ ps) (q ∷ qs) differ =
    rw (members_eq-lengths ps qs (λ same. differ (ap (λ n. suc n) same)), and-false (data_eq (view p.1) (view q.1)))
    (and-false (bytes_eq p.0 q.0))

pub ruleset lengths_decide = (items_eq-lengths, members_eq-lengths)
