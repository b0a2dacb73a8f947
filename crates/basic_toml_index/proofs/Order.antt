-- The order of an index is total, and what stands where in a rising list.
use Rattle.std.proofs.Common.{◌≡◌, ℕ, true, false, List, [], ◌∷◌, ◌++◌, refl, sym, ap, ◌∙◌, ◌⊎◌, inl, inr}
use Rattle.std.specs.List.{list_all}
use Rattle.std.specs.Ordering.{is_lt, is_eq, nat_cmp, ordering_reverse}
use Rattle.std.specs.declared.cmp.Ordering.{Ordering}
use Rattle.std.specs.declared.cmp.Ordering.TheVariants.{Less, Equal, Greater}
use Rattle.std.specs.Cmp.Lexicographic.{slice_cmp, texts_ties}
use Rattle.std.specs.Str.{bytes_eq}
use Rattle.std.proofs.lemmas.Bool.{cases_Bool, and_parts}
use Rattle.std.proofs.lemmas.List.Folds.{list_all-append}
use Rattle.std.proofs.lemmas.Cmp.{nat_list_cmp_total}
use Rattle.std.proofs.lemmas.Slice.Eq.{bytes_eq-Decides}
use Rattle.basic_toml_index.specs.Index.{ending_of, is_below, are_rising, all_below, all_above}
use Rattle.basic_toml_index.specs.Keys.{is_among}

-- a key after its ending
abbrev marked : List ℕ → List ℕ
marked key = ending_of key ∷ key

same_marked : (a b : List ℕ) → marked a ≡ marked b → a ≡ b
same_marked a b same = cc

-- one key is below the other, or they are the same
order_from : (a b : List ℕ) (order : Ordering) → slice_cmp nat_cmp (marked a) (marked b) ≡ order
    → (is_below a b ≡ true) ⊎ ((a ≡ b) ⊎ (is_below b a ≡ true))
order_from a b Less is = inl (ap (λ o. is_lt o) is)
order_from a b Equal is =
    inr (inl (same_marked a b
    ((bytes_eq-Decides (marked a) (marked b)).0 (texts_ties (marked a) (marked b) ∙ ap (λ o. is_eq o) is))))
order_from a b Greater is =
    inr (inr (ap (λ o. is_lt o) (nat_list_cmp_total.antisymm (marked b) (marked a) ∙ ap ordering_reverse is)))

pub order_cases : (a b : List ℕ) → (is_below a b ≡ true) ⊎ ((a ≡ b) ⊎ (is_below b a ≡ true))
order_cases a b = order_from a b (slice_cmp nat_cmp (marked a) (marked b)) refl

is_less : (o : Ordering) → is_lt o ≡ true → o ≡ Less
is_less Less is = refl
is_less Equal is = absurd (cc)
is_less Greater is = absurd (cc)

pub below_trans : (a b c : List ℕ) → is_below a b ≡ true → is_below b c ≡ true → is_below a c ≡ true
below_trans a b c ab bc =
    ap (λ o. is_lt o) (nat_list_cmp_total.trans (marked a) (marked b) (marked c)
    (is_less (slice_cmp nat_cmp (marked a) (marked b)) ab) (is_less (slice_cmp nat_cmp (marked b) (marked c)) bc))

own_reverse : (o : Ordering) → o ≡ ordering_reverse o → is_lt o ≡ false
own_reverse Less is = absurd (cc)
own_reverse Equal is = refl
own_reverse Greater is = refl

pub below_irreflexive : (a : List ℕ) → is_below a a ≡ false
below_irreflexive a = own_reverse (slice_cmp nat_cmp (marked a) (marked a))
    (nat_list_cmp_total.antisymm (marked a) (marked a))

pub below_differs : (a b : List ℕ) → is_below a b ≡ true → bytes_eq a b ≡ false
below_differs a b below = elim (cases_Bool (bytes_eq a b)) [
  | inl same ↦ absurd (cc (rw ((bytes_eq-Decides a b).0 same) at below, below_irreflexive b))
  | inr differs ↦ differs
]

pub above_differs : (a b : List ℕ) → is_below b a ≡ true → bytes_eq a b ≡ false
above_differs a b below = elim (cases_Bool (bytes_eq a b)) [
  | inl same ↦ absurd (cc (rw ((bytes_eq-Decides a b).0 same) at below, below_irreflexive b))
  | inr differs ↦ differs
]

-- a key through another: a < y and y <= key
pub below_through : (a y key : List ℕ) → is_below a y ≡ true → is_below key y ≡ false → is_below a key ≡ true
below_through a y key ay ky = elim (order_cases y key) [
  | inl less ↦ below_trans a y key ay less
  | inr (inl same) ↦ rw same at ay
  | inr (inr more) ↦ absurd (cc (ky, more))
]

-- key <= y and y < b
pub above_through : (b y key : List ℕ) → is_below y b ≡ true → is_below y key ≡ false → is_below key b ≡ true
above_through b y key yb yk = elim (order_cases y key) [
  | inl less ↦ absurd (cc (yk, less))
  | inr (inl same) ↦ rw same at yb
  | inr (inr more) ↦ below_trans key y b more yb
]

-- lists of keys

pub rising-left : (xs : List (List ℕ)) (y : List ℕ) (ys : List (List ℕ)) → are_rising (xs ++ y ∷ ys) ≡ true
    → all_below xs y ≡ true
rising-left [] y ys rising = refl
rising-left (x ∷ xs) y ys rising =
    let parts = and_parts (list_all (is_below x) (xs ++ y ∷ ys)) (are_rising (xs ++ y ∷ ys)) rising in
    let here = and_parts (list_all (is_below x) xs) (list_all (is_below x) (y ∷ ys))
    (sym (list_all-append (is_below x) xs (y ∷ ys)) ∙ parts.0) in
    rw ((and_parts (is_below x y) (list_all (is_below x) ys) here.1).0) (rising-left xs y ys parts.1)

pub rising-right : (xs : List (List ℕ)) (y : List ℕ) (ys : List (List ℕ)) → are_rising (xs ++ y ∷ ys) ≡ true
    → all_above ys y ≡ true
rising-right [] y ys rising = (and_parts (list_all (is_below y) ys) (are_rising ys) rising).0
rising-right (x ∷ xs) y ys rising =
    rising-right xs y ys (and_parts (list_all (is_below x) (xs ++ y ∷ ys)) (are_rising (xs ++ y ∷ ys)) rising).1

pub all_below-through : (xs : List (List ℕ)) (y key : List ℕ) → all_below xs y ≡ true → is_below key y ≡ false
    → all_below xs key ≡ true
all_below-through [] y key below ky = refl
all_below-through (x ∷ xs) y key below ky =
    let parts = and_parts (is_below x y) (all_below xs y) below in
    rw (below_through x y key parts.0 ky) (all_below-through xs y key parts.1 ky)

pub all_above-through : (xs : List (List ℕ)) (y key : List ℕ) → all_above xs y ≡ true → is_below y key ≡ false
    → all_above xs key ≡ true
all_above-through [] y key above yk = refl
all_above-through (x ∷ xs) y key above yk =
    let parts = and_parts (is_below y x) (all_above xs y) above in
    rw (above_through x y key parts.0 yk) (all_above-through xs y key parts.1 yk)

-- a key that goes between
pub rising-insert : (xs ys : List (List ℕ)) (key : List ℕ) → are_rising (xs ++ ys) ≡ true → all_below xs key ≡ true
    → all_above ys key ≡ true → are_rising (xs ++ key ∷ ys) ≡ true
rising-insert [] ys key rising below above = rw above rising
rising-insert (x ∷ xs) ys key rising below above =
    let parts = and_parts (list_all (is_below x) (xs ++ ys)) (are_rising (xs ++ ys)) rising in
    let lows = and_parts (is_below x key) (all_below xs key) below in
    let here = and_parts (list_all (is_below x) xs) (list_all (is_below x) ys)
    (sym (list_all-append (is_below x) xs ys) ∙ parts.0) in
    rw (list_all-append (is_below x) xs (key ∷ ys), here.0, lows.0, here.1)
    (rising-insert xs ys key parts.1 lows.1 above)

pub none_below : (xs : List (List ℕ)) (key : List ℕ) → all_below xs key ≡ true → is_among xs key ≡ false
none_below [] key below = refl
none_below (x ∷ xs) key below =
    let parts = and_parts (is_below x key) (all_below xs key) below in
    rw (above_differs key x parts.0) (none_below xs key parts.1)

pub none_above : (xs : List (List ℕ)) (key : List ℕ) → all_above xs key ≡ true → is_among xs key ≡ false
none_above [] key above = refl
none_above (x ∷ xs) key above =
    let parts = and_parts (is_below key x) (all_above xs key) above in
    rw (below_differs key x parts.0) (none_above xs key parts.1)

pub below_asymmetric : (a b : List ℕ) → is_below a b ≡ true → is_below b a ≡ false
below_asymmetric a b ab =
    elim (cases_Bool (is_below b a)) [
      | inl ba ↦ absurd (cc (below_trans a b a ab ba, below_irreflexive a))
      | inr no_less ↦ no_less
    ]
