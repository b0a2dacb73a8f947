-- A laid-out table has no unsupported shape.
use Rattle.std.proofs.Common.{◌≡◌, ℕ, Bool, true, false, ◌||◌, List, [], refl, ◌∙◌, arith}
use Rattle.std.specs.Prelude.{ℤ, pos, negsuc}
use Rattle.std.specs.Str.{bytes_eq}
use Rattle.std.proofs.lemmas.Bool.{or_from, and_right}
use Rattle.std.proofs.lemmas.Bool.Decides.{nat_tests}
use Rattle.basic_toml_value.specs.Data as d
use Rattle.basic_toml_value.specs.Data.{Data, Items, no_items, item, Members}
use Rattle.basic_toml_layout.specs.Written as w
use Rattle.basic_toml_layout.specs.Written.{Elements, array, table, Entries, entry, is_refused}
use Rattle.basic_toml_write.specs.Shapes.{holds_table, holds_other, holds_array_with_table, holds_absent}
use Rattle.basic_toml_write.specs.Shapes.{has_late_row, has_key, repeats_key, has_bad, element_has_bad}
use Rattle.basic_toml_write.specs.Shapes.{entry_has_bad}
use Rattle.basic_toml_layout.specs.Trees.{written_of, elements_of, entries_of}
use Rattle.basic_toml_grammar.specs.Sections.{KeyTexts}
use Rattle.basic_toml_round_trip.proofs.IntegersAreReadBack.{fits}
use Rattle.basic_toml_layout.proofs.OrderedText.{HoldsNone, AllHoldNone}
use Rattle.basic_toml_round_trip.proofs.LaidOut.{IsInRow, AreInRow, IsNone, IsPlainRow, LaidBy, a_row, then_parts}
use Rattle.basic_toml_round_trip.proofs.LaidOut.{PartsLaid, no_parts, a_table, an_array, NodesLaid, no_nodes, a_node}
use Rattle.basic_toml_round_trip.proofs.SupportedStandsInRows.{ArePlain}
use Rattle.basic_toml_round_trip.proofs.RowsMakeHeadersDue.{row_form}

not_refused : (z : ℤ) → fits z ≡ true → is_refused (w.integer z) ≡ false
not_refused (pos n) h = grind (arith, nat_tests)
not_refused (negsuc n) h = refl

array_fine : (es : Elements) → ArePlain es → has_bad (array es) ≡ false
array_fine es h = rw (h.tables, h.arrays, h.absents, h.bad) refl

-- values of rows
mutual
  value_fine : (x : Data) → HoldsNone x → IsInRow x → has_bad (written_of x) ≡ false
  value_fine (d.integer z) n h = not_refused z h
  value_fine (d.float t) n h = refl
  value_fine (d.boolean b) n h = refl
  value_fine (d.string t) n h = refl
  value_fine (d.array xs) n h = array_fine (elements_of xs) (items_plain xs n h)
  value_fine (d.table ms) n h = absurd n

  items_plain : (xs : Items) → AllHoldNone xs → AreInRow xs → ArePlain (elements_of xs)
  items_plain no_items n h = record { tables = refl; absents = refl; arrays = refl; bad = refl }
  items_plain (item (d.table ms) xs) n h = absurd n.0
  items_plain (item (d.array ys) xs) n h =
      let a : ArePlain (elements_of ys) = items_plain ys n.0 h.0 in
      let r : ArePlain (elements_of xs) = items_plain xs n.1 h.1 in
      let bad : element_has_bad (elements_of (item (d.array ys) xs)) ≡ false =
      or_from _ _ (array_fine (elements_of ys) a) r.bad in
      record { tables = r.tables; absents = r.absents; arrays = or_from _ _ a.tables r.arrays; bad = bad }
  items_plain (item (d.integer z) xs) n h =
      let r : ArePlain (elements_of xs) = items_plain xs n.1 h.1 in
      record { tables = r.tables; absents = r.absents; arrays = r.arrays; bad = or_from _ _ (not_refused z h.0) r.bad }
  items_plain (item x xs) n h =
      let r : ArePlain (elements_of xs) = items_plain xs n.1 h.1 in
      record { tables = r.tables; absents = r.absents; arrays = r.arrays; bad = r.bad }

-- no key is repeated
present_key : (k l : List ℕ) (x : Data) (es : Entries)
    → has_key k (entry l (written_of x) es) ≡ (bytes_eq k l || has_key k es)
present_key k l (d.table ms) es = refl
present_key k l x es = refl

present_repeats : (k : List ℕ) (x : Data) (es : Entries)
    → repeats_key (entry k (written_of x) es) ≡ (has_key k es || repeats_key es)
present_repeats k (d.table ms) es = refl
present_repeats k x es = refl

parts_lack : (k : List ℕ) {seen : KeyTexts} {ms : Members} (parts : PartsLaid IsPlainRow seen ms) → IsNone k seen
    → has_key k (entries_of ms) ≡ false
parts_lack k no_parts h = refl
parts_lack k (a_table {k = l} new text laid parts) h = or_from _ _ (h l new) (parts_lack k parts (λ j n. h j n.1))
parts_lack k (an_array {k = l} new text nodes parts) h = or_from _ _ (h l new) (parts_lack k parts (λ j n. h j n.1))

laid_lacks : (k : List ℕ) {seen : KeyTexts} {ms : Members} (laid : LaidBy IsPlainRow seen ms) → IsNone k seen
    → has_key k (entries_of ms) ≡ false
laid_lacks k (a_row {k = l} {x = x} {ms = ms} new text value laid) h =
    present_key k l x (entries_of ms) ∙ or_from _ _ (h l new) (laid_lacks k laid (λ j n. h j n.1))
laid_lacks k (then_parts parts) h = parts_lack k parts h

parts_differ : {seen : KeyTexts} {ms : Members} (parts : PartsLaid IsPlainRow seen ms) → repeats_key (entries_of ms) ≡ false
parts_differ no_parts = refl
parts_differ (a_table {k = k} new text laid parts) = or_from _ _ (parts_lack k parts (λ l n. n.0)) (parts_differ parts)
parts_differ (an_array {k = k} new text nodes parts) =
    or_from _ _ (parts_lack k parts (λ l n. n.0)) (parts_differ parts)

laid_differ : {seen : KeyTexts} {ms : Members} (laid : LaidBy IsPlainRow seen ms) → repeats_key (entries_of ms) ≡ false
laid_differ (a_row {k = k} {x = x} {ms = ms} new text value laid) =
    present_repeats k x (entries_of ms) ∙ or_from _ _ (laid_lacks k laid (λ l n. n.0)) (laid_differ laid)
laid_differ (then_parts parts) = parts_differ parts

-- no row stands after a part
parts_late : {seen : KeyTexts} {ms : Members} (parts : PartsLaid IsPlainRow seen ms) (late : Bool)
    → has_late_row late (entries_of ms) ≡ false
parts_late no_parts late = refl
parts_late (a_table new text laid parts) late = parts_late parts true
parts_late (an_array new text nodes parts) late = parts_late parts true

laid_late : {seen : KeyTexts} {ms : Members} (laid : LaidBy IsPlainRow seen ms) → has_late_row false (entries_of ms) ≡ false
laid_late (a_row {x = x} new text value laid) = rw (row_form x value.none) (laid_late laid)
laid_late (then_parts parts) = parts_late parts false

table_fine : {ms : Members} (laid : LaidBy IsPlainRow [] ms) → entry_has_bad (entries_of ms) ≡ false
    → has_bad (table (entries_of ms)) ≡ false
table_fine laid e = rw (laid_late laid, laid_differ laid) e

-- an array of tables alone
record AreTables (es : Elements) : Type 0 where
  others : holds_other es ≡ false
  absents : holds_absent es ≡ false
  arrays : holds_array_with_table es ≡ false
  bad : element_has_bad es ≡ false

tables_fine : (es : Elements) → AreTables es → has_bad (array es) ≡ false
tables_fine es t = rw (t.others, t.arrays, t.absents, t.bad, and_right (holds_table es) false refl) refl

mutual
  laid_fine : {seen : KeyTexts} {ms : Members} (laid : LaidBy IsPlainRow seen ms) → entry_has_bad (entries_of ms) ≡ false
  laid_fine (a_row {x = x} new text value laid) = or_from _ _ (value_fine x value.none value.value) (laid_fine laid)
  laid_fine (then_parts parts) = parts_fine parts

  parts_fine : {seen : KeyTexts} {ms : Members} (parts : PartsLaid IsPlainRow seen ms) → entry_has_bad (entries_of ms) ≡ false
  parts_fine no_parts = refl
  parts_fine (a_table new text laid parts) = or_from _ _ (table_fine laid (laid_fine laid)) (parts_fine parts)
  parts_fine (an_array {x = x} {xs = xs} new text nodes parts) =
      or_from _ _ (tables_fine (elements_of (item (d.table x) xs)) (nodes_fine nodes)) (parts_fine parts)

  nodes_fine : {xs : Items} (nodes : NodesLaid IsPlainRow xs) → AreTables (elements_of xs)
  nodes_fine no_nodes = record { others = refl; absents = refl; arrays = refl; bad = refl }
  nodes_fine (a_node laid nodes) =
      let r = nodes_fine nodes in
      let bad = or_from _ _ (table_fine laid (laid_fine laid)) r.bad in
      record { others = r.others; absents = r.absents; arrays = r.arrays; bad = bad }

pub laid_supported : {ms : Members} (laid : LaidBy IsPlainRow [] ms) → has_bad (written_of (d.table ms)) ≡ false
laid_supported laid = table_fine laid (laid_fine laid)
