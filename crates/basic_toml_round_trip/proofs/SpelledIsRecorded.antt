-- What items that calls can record spell: each scalar is one that a call can record, and each key is UTF-8.
use Rattle.std.proofs.Common.{List, ◌∷◌}
use Rattle.std.specs.Str.{IsUtf8}
use Rattle.std.proofs.lemmas.List.Elements.{All-head, All-tail}
use Rattle.basic_toml_layout.specs.Written.{text, Written, scalar, absent, array, table, Elements, no_elements}
use Rattle.basic_toml_layout.specs.Written.{element, Entries, no_entries, entry}
use Rattle.basic_toml_emit.specs.Items.{Item, a_scalar, an_absent, open_array, open_table, close, key, field}
use Rattle.basic_toml_emit.specs.Items.{some_prefix, value_prefix, element_prefix}
use Rattle.basic_toml_write.specs.Recordable.{IsRecordableScalar, IsRecordable, AreRecordable}
use Rattle.basic_toml_write.specs.Spelling.{IsValue, one_scalar, none, an_array, a_table, AreElements, array_end}
use Rattle.basic_toml_write.specs.Spelling.{a_some, an_element, member, AreEntries, table_end, by_key, by_field}
use Rattle.basic_toml_write.specs.Spelling.{IsPrefixed, bare, with_some, with_value, Spells, root, root_some}

abbrev mutual
  pub IsRecorded : Written → Type 0
  IsRecorded (scalar l) = IsRecordableScalar l
  IsRecorded absent = Unit {0}
  IsRecorded (array es) = AreRecorded es
  IsRecorded (table es) = AreEntriesRecorded es

  pub AreRecorded : Elements → Type 0
  AreRecorded no_elements = Unit {0}
  AreRecorded (element v es) = IsRecorded v × AreRecorded es

  pub AreEntriesRecorded : Entries → Type 0
  AreEntriesRecorded no_entries = Unit {0}
  AreEntriesRecorded (entry k v es) = IsUtf8 k × IsRecorded v × AreEntriesRecorded es

first : (i : Item) (is : List Item) → AreRecordable (i ∷ is) → IsRecordable i
first i is all = All-head IsRecordable i is all

after : (i : Item) (is : List Item) → AreRecordable (i ∷ is) → AreRecordable is
after i is all = All-tail IsRecordable i is all

mutual
  value_recorded : {is rest : List Item} {w : Written} → IsValue is w rest → AreRecordable is
      → IsRecorded w × AreRecordable rest
  value_recorded (one_scalar {l = l} {rest = rest}) all = (first (a_scalar l) rest all, after (a_scalar l) rest all)
  value_recorded (none {rest = rest}) all = (tt, after an_absent rest all)
  value_recorded (an_array {is = is} h) all = elements_recorded h (after open_array is all)
  value_recorded (a_table {is = is} h) all = entries_recorded h (after open_table is all)

  elements_recorded : {is rest : List Item} {es : Elements} → AreElements is es rest → AreRecordable is
      → AreRecorded es × AreRecordable rest
  elements_recorded (array_end {rest = rest}) all = (tt, after close rest all)
  elements_recorded (a_some {is = is} h) all = elements_recorded h (after some_prefix is all)
  elements_recorded (an_element {is = is} h) all = elements_recorded h (after element_prefix is all)
  elements_recorded (member v h) all =
      let x = value_recorded v all in
      let r = elements_recorded h x.1 in
      ((x.0, r.0), r.1)

  entries_recorded : {is rest : List Item} {es : Entries} → AreEntries is es rest → AreRecordable is
      → AreEntriesRecorded es × AreRecordable rest
  entries_recorded (table_end {rest = rest}) all = (tt, after close rest all)
  entries_recorded (by_key {is = is} {k = k} v h) all =
      let named : AreRecordable (a_scalar (text k) ∷ is) = after key (a_scalar (text k) ∷ is) all in
      let x = marked_recorded v (after (a_scalar (text k)) is named) in
      let r = entries_recorded h x.1 in
      ((first (a_scalar (text k)) is named, x.0, r.0), r.1)
  entries_recorded (by_field {is = is} {k = k} v h) all =
      let x = marked_recorded v (after (field k) is all) in
      let r = entries_recorded h x.1 in
      ((first (field k) is all, x.0, r.0), r.1)

  marked_recorded : {is rest : List Item} {w : Written} → IsPrefixed is w rest → AreRecordable is
      → IsRecorded w × AreRecordable rest
  marked_recorded (bare v) all = value_recorded v all
  marked_recorded (with_some {is = is} h) all = marked_recorded h (after some_prefix is all)
  marked_recorded (with_value {is = is} h) all = marked_recorded h (after value_prefix is all)

pub spelled_recorded : {is : List Item} {w : Written} → Spells is w → AreRecordable is → IsRecorded w
spelled_recorded (root v) all = (value_recorded v all).0
spelled_recorded (root_some {is = is} h) all = spelled_recorded h (after some_prefix is all)
