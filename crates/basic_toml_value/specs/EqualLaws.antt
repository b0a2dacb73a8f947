-- The test of equal data is equality.
use Rattle.std.proofs.Common.{◌≡◌, Bool, true, false, ◌&&◌, refl, sym, ap}
use Rattle.std.specs.Str.{bytes_eq}
use Rattle.std.specs.Cmp.{IsEquivalence, equiv}
use Rattle.std.specs.Cmp.{both_ways}
use Rattle.std.proofs.lemmas.Bool.Decides.{Decides-int_eq}
use Rattle.std.proofs.lemmas.Slice.Eq.{bytes_eq-Decides}
use Rattle.basic_toml_value.specs.Data.{Data, integer, float, boolean, string, array, table, Items, no_items, item}
use Rattle.basic_toml_value.specs.Data.{Members, no_members, member}
use Rattle.basic_toml_value.specs.Equal.{data_eq, items_eq, members_eq}

both : (a b : Bool) → (a && b) ≡ true → (a ≡ true) × (b ≡ true)
both true true is = (refl, refl)
both true false is = absurd (cc)
both false b is = absurd (cc)

mutual
  pub data_eq_same : (x y : Data) → data_eq x y ≡ true → x ≡ y
  data_eq_same (integer m) (integer n) is = ap (λ z. integer z) ((Decides-int_eq m n).0 is)
  data_eq_same (float m) (float n) is = ap (λ z. float z) ((bytes_eq-Decides m n).0 is)
  data_eq_same (boolean true) (boolean n) is = ap (λ z. boolean z) (sym is)
  data_eq_same (boolean false) (boolean true) is = absurd (cc)
  data_eq_same (boolean false) (boolean false) is = refl
  data_eq_same (string m) (string n) is = ap (λ z. string z) ((bytes_eq-Decides m n).0 is)
  data_eq_same (array m) (array n) is = ap (λ z. array z) (items_eq_same m n is)
  data_eq_same (table m) (table n) is = ap (λ z. table z) (members_eq_same m n is)
  data_eq_same _ _ is = absurd (cc)

  pub items_eq_same : (x y : Items) → items_eq x y ≡ true → x ≡ y
  items_eq_same no_items no_items is = refl
  items_eq_same (item m ms) (item n ns) is = let parts = both (data_eq m n) (items_eq ms ns) is in
      cc (data_eq_same m n parts.0, items_eq_same ms ns parts.1)
  items_eq_same _ _ is = absurd (cc)

  pub members_eq_same : (x y : Members) → members_eq x y ≡ true → x ≡ y
  members_eq_same no_members no_members is = refl
  members_eq_same (member k m ms) (member l n ns) is =
      let first = both (bytes_eq k l) (data_eq m n && members_eq ms ns) is in
      let parts = both (data_eq m n) (members_eq ms ns) first.1 in
      cc ((bytes_eq-Decides k l).0 first.0, data_eq_same m n parts.0, members_eq_same ms ns parts.1)
  members_eq_same _ _ is = absurd (cc)

mutual
  pub data_eq-same : (x : Data) → data_eq x x ≡ true
  data_eq-same (integer m) = (Decides-int_eq m m).1 refl
  data_eq-same (float m) = (bytes_eq-Decides m m).1 refl
  data_eq-same (boolean true) = refl
  data_eq-same (boolean false) = refl
  data_eq-same (string m) = (bytes_eq-Decides m m).1 refl
  data_eq-same (array m) = items_eq-same m
  data_eq-same (table m) = members_eq-same m

  pub items_eq-same : (x : Items) → items_eq x x ≡ true
  items_eq-same no_items = refl
  items_eq-same (item m ms) = rw (data_eq-same m) (items_eq-same ms)

  pub members_eq-same : (x : Members) → members_eq x x ≡ true
  members_eq-same no_members = refl
  members_eq-same (member k m ms) = rw ((bytes_eq-Decides k k).1 refl, data_eq-same m) (members_eq-same ms)

-- a test that holds of equal values alone is an equivalence
equivalence : {K : Type 0} (E : K → K → Bool) → ((x y : K) → E x y ≡ true → x ≡ y) → ((x : K) → E x x ≡ true)
    → IsEquivalence E
equivalence E same reflexive = equiv (record {
  symm = λ x y. both_ways (E x y) (E y x) (λ e. rw (same x y e) (reflexive y)) (λ e. rw (same y x e) (reflexive x));
  trans = λ x y z e f. rw (same x y e) f;
}) reflexive

pub data_eq_equivalence : IsEquivalence data_eq
data_eq_equivalence = equivalence data_eq data_eq_same data_eq-same

pub members_eq_equivalence : IsEquivalence members_eq
members_eq_equivalence = equivalence members_eq members_eq_same members_eq-same
