-- With its rows first data has calls that can be recorded, where its own can be.
use Rattle.std.proofs.Common.{ℕ, Bool, true, false, cond, List, [], ◌∷◌, ◌++◌}
use Rattle.std.proofs.lemmas.List.Elements.{All-nil, All-cons, All-head, All-tail, All-append}
use Rattle.basic_toml_value.specs.Data.{Data, integer, float, boolean, string, array, table, Items, no_items, item}
use Rattle.basic_toml_value.specs.Data.{Members, no_members, member}
use Rattle.basic_toml_layout.specs.Sections.{is_section}
use Rattle.basic_toml_emit.specs.Items.{Item, open_array, open_table, close, field, element_prefix}
use Rattle.basic_toml_write.specs.Impls.{data_calls, items_calls, members_calls}
use Rattle.basic_toml_write.specs.Recordable.{IsRecordable, AreRecordable}
use Rattle.basic_toml_order.specs.RowsFirst.{followed_by, rows_first, items_rows_first, rows_of, sections_of}
use Rattle.basic_toml_order.specs.RowsFirst.{members_rows_first}

front : (is js : List Item) → AreRecordable (is ++ js) → AreRecordable is
front [] js can = All-nil IsRecordable
front (i ∷ is) js can =
    All-cons IsRecordable i is (All-head IsRecordable i (is ++ js) can)
    (front is js (All-tail IsRecordable i (is ++ js) can))

back : (is js : List Item) → AreRecordable (is ++ js) → AreRecordable js
back [] js can = can
back (i ∷ is) js can = back is js (All-tail IsRecordable i (is ++ js) can)

inside : (opening : Item) (is : List Item) → AreRecordable (opening ∷ (is ++ (close ∷ []))) → AreRecordable is
inside opening is can = front is (close ∷ []) (All-tail IsRecordable opening (is ++ (close ∷ [])) can)

closed : (opening : Item) (is : List Item) → IsRecordable opening → AreRecordable is
    → AreRecordable (opening ∷ (is ++ (close ∷ [])))
closed opening is can more =
    All-cons IsRecordable opening (is ++ (close ∷ [])) can
    (All-append IsRecordable is (close ∷ []) more (All-cons IsRecordable close [] tt (All-nil IsRecordable)))

-- a part after its prefix, and what follows
part : (prefix : Item) (is js : List Item) → IsRecordable prefix → AreRecordable is → AreRecordable js
    → AreRecordable (prefix ∷ (is ++ js))
part prefix is js can here more = All-cons IsRecordable prefix (is ++ js) can (All-append IsRecordable is js here more)

own : (prefix : Item) (is js : List Item) → AreRecordable (prefix ∷ (is ++ js)) → AreRecordable is
own prefix is js can = front is js (All-tail IsRecordable prefix (is ++ js) can)

later : (prefix : Item) (is js : List Item) → AreRecordable (prefix ∷ (is ++ js)) → AreRecordable js
later prefix is js can = back is js (All-tail IsRecordable prefix (is ++ js) can)

key : (k : List ℕ) (is js : List Item) → AreRecordable (field k ∷ (is ++ js)) → IsRecordable (field k)
key k is js can = All-head IsRecordable (field k) (is ++ js) can

row_recordable : (k : List ℕ) (d : Data) (ms : Members) (b : Bool) → IsRecordable (field k)
    → AreRecordable (data_calls (rows_first d)) → AreRecordable (members_calls (rows_of ms))
    → AreRecordable (members_calls (cond b (rows_of ms) (member k (rows_first d) (rows_of ms))))
row_recordable k d ms true can here more = more
row_recordable k d ms false can here more =
    part (field k) (data_calls (rows_first d)) (members_calls (rows_of ms)) can here more

section_recordable : (k : List ℕ) (d : Data) (ms : Members) (b : Bool) → IsRecordable (field k)
    → AreRecordable (data_calls (rows_first d)) → AreRecordable (members_calls (sections_of ms))
    → AreRecordable (members_calls (cond b (member k (rows_first d) (sections_of ms)) (sections_of ms)))
section_recordable k d ms true can here more =
    part (field k) (data_calls (rows_first d)) (members_calls (sections_of ms)) can here more
section_recordable k d ms false can here more = more

followed_recordable : (ms ns : Members) → AreRecordable (members_calls ms) → AreRecordable (members_calls ns)
    → AreRecordable (members_calls (followed_by ms ns))
followed_recordable no_members ns can more = more
followed_recordable (member k d ms) ns can more =
    part (field k) (data_calls d) (members_calls (followed_by ms ns)) (key k (data_calls d) (members_calls ms) can)
    (own (field k) (data_calls d) (members_calls ms) can)
    (followed_recordable ms ns (later (field k) (data_calls d) (members_calls ms) can) more)

mutual
  pub recordable : (d : Data) → AreRecordable (data_calls d) → AreRecordable (data_calls (rows_first d))
  recordable (integer z) can = can
  recordable (float t) can = can
  recordable (boolean b) can = can
  recordable (string t) can = can
  recordable (array xs) can =
      closed open_array (items_calls (items_rows_first xs)) tt
      (items_recordable xs (inside open_array (items_calls xs) can))
  recordable (table ms) can =
      closed open_table (members_calls (members_rows_first ms)) tt
      (followed_recordable (rows_of ms) (sections_of ms)
      (rows_recordable ms (inside open_table (members_calls ms) can))
      (sections_recordable ms (inside open_table (members_calls ms) can)))

  items_recordable : (xs : Items) → AreRecordable (items_calls xs) → AreRecordable (items_calls (items_rows_first xs))
  items_recordable no_items can = can
  items_recordable (item d xs) can =
      part element_prefix (data_calls (rows_first d)) (items_calls (items_rows_first xs)) tt
      (recordable d (own element_prefix (data_calls d) (items_calls xs) can))
      (items_recordable xs (later element_prefix (data_calls d) (items_calls xs) can))

  rows_recordable : (ms : Members) → AreRecordable (members_calls ms) → AreRecordable (members_calls (rows_of ms))
  rows_recordable no_members can = can
  rows_recordable (member k d ms) can =
      row_recordable k d ms (is_section d) (key k (data_calls d) (members_calls ms) can)
      (recordable d (own (field k) (data_calls d) (members_calls ms) can))
      (rows_recordable ms (later (field k) (data_calls d) (members_calls ms) can))

  sections_recordable : (ms : Members) → AreRecordable (members_calls ms)
      → AreRecordable (members_calls (sections_of ms))
  sections_recordable no_members can = can
  sections_recordable (member k d ms) can =
      section_recordable k d ms (is_section d) (key k (data_calls d) (members_calls ms) can)
      (recordable d (own (field k) (data_calls d) (members_calls ms) can))
      (sections_recordable ms (later (field k) (data_calls d) (members_calls ms) can))
