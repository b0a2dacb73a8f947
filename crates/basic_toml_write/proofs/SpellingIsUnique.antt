-- A list of items spells at most one written value.
use Rattle.std.proofs.Common.{◌≡◌, List, refl, sym, ap, subst}
use Rattle.basic_toml_layout.specs.Written.{Written, array, table, Elements, element, Entries, entry}
use Rattle.basic_toml_emit.specs.Items.{Item}
use Rattle.basic_toml_write.specs.Spelling.{IsValue, one_scalar, none, an_array, a_table, AreElements, array_end}
use Rattle.basic_toml_write.specs.Spelling.{a_some, an_element, member, AreEntries, table_end, by_key, by_field}
use Rattle.basic_toml_write.specs.Spelling.{IsPrefixed, bare, with_some, with_value, Spells, root, root_some}

ap2 : {A B C : Type 0} (f : A → B → C) {a a' : A} {b b' : B} → a ≡ a' → b ≡ b' → f a b ≡ f a' b'
ap2 f p q = λ i. f (p i) (q i)

mutual
  value_once : {is r r' : List Item} {v v' : Written} → IsValue is v r → IsValue is v' r' → (v ≡ v') × (r ≡ r')
  value_once one_scalar one_scalar = (refl, refl)
  value_once none none = (refl, refl)
  value_once (an_array d) (an_array e) = let x = members_once d e in (ap array x.0, x.1)
  value_once (a_table d) (a_table e) = let x = rows_once d e in (ap table x.0, x.1)

  members_once : {is r r' : List Item} {v v' : Elements} → AreElements is v r → AreElements is v' r' → (v ≡ v')
      × (r ≡ r')
  members_once array_end array_end = (refl, refl)
  members_once array_end (member e es) = elim e [ ]
  members_once (a_some d) (a_some e) = members_once d e
  members_once (a_some d) (member e es) = elim e [ ]
  members_once (an_element d) (an_element e) = members_once d e
  members_once (an_element d) (member e es) = elim e [ ]
  members_once (member d ds) array_end = elim d [ ]
  members_once (member d ds) (a_some e) = elim d [ ]
  members_once (member d ds) (an_element e) = elim d [ ]
  members_once {r' = r'} (member d ds) (member {es = vs} e es) =
      let x = value_once d e in
      let y = members_once ds (subst (λ is. AreElements is vs r') (sym x.1) es) in
      (ap2 element x.0 y.0, y.1)

  rows_once : {is r r' : List Item} {v v' : Entries} → AreEntries is v r → AreEntries is v' r' → (v ≡ v') × (r ≡ r')
  rows_once table_end table_end = (refl, refl)
  rows_once {r' = r'} (by_key {k = k} d ds) (by_key {es = vs} e es) =
      let x = marked_once d e in
      let y = rows_once ds (subst (λ is. AreEntries is vs r') (sym x.1) es) in
      (ap2 (entry k) x.0 y.0, y.1)
  rows_once {r' = r'} (by_field {k = k} d ds) (by_field {es = vs} e es) =
      let x = marked_once d e in
      let y = rows_once ds (subst (λ is. AreEntries is vs r') (sym x.1) es) in
      (ap2 (entry k) x.0 y.0, y.1)

  marked_once : {is r r' : List Item} {v v' : Written} → IsPrefixed is v r → IsPrefixed is v' r' → (v ≡ v') × (r ≡ r')
  marked_once (bare d) (bare e) = value_once d e
  marked_once (bare d) (with_some e) = elim d [ ]
  marked_once (bare d) (with_value e) = elim d [ ]
  marked_once (with_some d) (bare e) = elim e [ ]
  marked_once (with_some d) (with_some e) = marked_once d e
  marked_once (with_value d) (bare e) = elim e [ ]
  marked_once (with_value d) (with_value e) = marked_once d e

pub spelled_once : {is : List Item} {v v' : Written} → Spells is v → Spells is v' → v ≡ v'
spelled_once (root d) (root e) = (value_once d e).0
spelled_once (root d) (root_some e) = elim d [ ]
spelled_once (root_some d) (root e) = elim e [ ]
spelled_once (root_some d) (root_some e) = spelled_once d e
