-- A written table whose scalars calls can record, and in which no shape is unsupported, is rows and then parts.
use Rattle.std.proofs.Common.{◌≡◌, ℕ, Bool, true, false, ◌||◌, List, [], ◌∷◌, refl}
use Rattle.std.specs.Str.{bytes_eq, IsUtf8}
use Rattle.std.proofs.lemmas.Bool.{or_parts, true≢false}
use Rattle.basic_toml_value.specs.Data.{Data, Members, member}
use Rattle.basic_toml_layout.specs.Written.{scalar, absent, array, table, Elements, no_elements, element, Entries}
use Rattle.basic_toml_layout.specs.Written.{no_entries, entry, is_refused}
use Rattle.basic_toml_write.specs.Shapes.{holds_other, holds_absent, holds_array_with_table, has_late_row, has_key}
use Rattle.basic_toml_write.specs.Shapes.{repeats_key, is_bad_table, has_bad, element_has_bad, entry_has_bad}
use Rattle.basic_toml_layout.specs.Trees.{scalar_tree, tree_of, element_trees, entry_trees}
use Rattle.basic_toml_grammar.specs.Sections.{KeyTexts}
use Rattle.basic_toml_round_trip.proofs.LaidOut.{IsNew, IsPlainRow, LaidBy, a_row, then_parts, PartsLaid}
use Rattle.basic_toml_round_trip.proofs.LaidOut.{no_parts, a_table, an_array, NodesLaid, no_nodes, a_node}
use Rattle.basic_toml_round_trip.proofs.SpelledIsRecorded.{AreRecorded, AreEntriesRecorded}
use Rattle.basic_toml_round_trip.proofs.SupportedStandsInRows.{scalar_in_row, array_in_row}

-- the present keys are new
abbrev AreNew : KeyTexts → Entries → Type 0
AreNew seen no_entries = Unit {0}
AreNew seen (entry k absent es) = AreNew seen es
AreNew seen (entry k v es) = IsNew k seen × AreNew seen es

none_seen : (es : Entries) → AreNew [] es
none_seen no_entries = tt
none_seen (entry k absent es) = none_seen es
none_seen (entry k v es) = (tt, none_seen es)

one_seen : (k : List ℕ) (seen : KeyTexts) (es : Entries) → has_key k es ≡ false → AreNew seen es → AreNew (k ∷ seen) es
one_seen k seen no_entries h n = tt
one_seen k seen (entry l absent es) h n = one_seen k seen es h n
one_seen k seen (entry l v es) h n =
    let p : (bytes_eq k l ≡ false) × (has_key k es ≡ false) = or_parts _ _ h in
    ((p.0, n.0), one_seen k seen es p.1 n.1)

-- parts where a row came too late, else rows and parts
abbrev LaidAfter : Bool → KeyTexts → Members → Type 0
LaidAfter true seen ms = PartsLaid IsPlainRow seen ms
LaidAfter false seen ms = LaidBy IsPlainRow seen ms

part : (late : Bool) {seen : KeyTexts} {ms : Members} → PartsLaid IsPlainRow seen ms → LaidAfter late seen ms
part true p = p
part false p = then_parts p

one_row : (late : Bool) (seen : KeyTexts) (k : List ℕ) (x : Data) (ms : Members) → late ≡ false → IsNew k seen
    → IsUtf8 k
    → IsPlainRow x
    → LaidAfter late (k ∷ seen) ms → LaidAfter late seen (member k x ms)
one_row true seen k x ms e new text value laid = absurd (true≢false e)
one_row false seen k x ms e new text value laid = a_row new text value laid

-- what the entries of a table need
record Goes (late : Bool) (seen : KeyTexts) (es : Entries) : Type 0 where
  rows : has_late_row late es ≡ false
  keys : repeats_key es ≡ false
  new : AreNew seen es
  bad : entry_has_bad es ≡ false
  recorded : AreEntriesRecorded es

table_goes : (es : Entries) → has_bad (table es) ≡ false → AreEntriesRecorded es → Goes false [] es
table_goes es b r =
    let p : (is_bad_table es ≡ false) × (entry_has_bad es ≡ false) = or_parts _ _ b in
    let q : (has_late_row false es ≡ false) × (repeats_key es ≡ false) = or_parts _ _ p.0 in
    record { rows = q.0; keys = q.1; new = none_seen es; bad = p.1; recorded = r }

-- an array that begins with a table holds tables alone
only_tables : (x : Entries) (vs : Elements) → has_bad (array (element (table x) vs)) ≡ false
    → (holds_other vs ≡ false) × (holds_absent vs ≡ false)
only_tables x vs b =
    let p : (holds_other vs ≡ false) × ((holds_array_with_table vs || holds_absent vs) ≡ false) =
    or_parts _ _ (or_parts _ _ b).0 in
    (p.0, (or_parts _ _ p.1).1)

-- after a present entry
goes_on : (late : Bool) (k : List ℕ) (seen : KeyTexts) (es : Entries) → has_late_row late es ≡ false
    → (has_key k es || repeats_key es) ≡ false → AreNew seen es
    → entry_has_bad es ≡ false → AreEntriesRecorded es → Goes late (k ∷ seen) es
goes_on late k seen es l q n b r =
    let p : (has_key k es ≡ false) × (repeats_key es ≡ false) = or_parts _ _ q in
    record { rows = l; keys = p.1; new = one_seen k seen es p.0 n; bad = b; recorded = r }

mutual
  entries_laid : (es : Entries) (late : Bool) (seen : KeyTexts) → Goes late seen es
      → LaidAfter late seen (entry_trees es)
  entries_laid no_entries late seen g = part late no_parts
  entries_laid (entry k absent es) late seen g =
      entries_laid es late seen
      (record { rows = g.rows; keys = g.keys; new = g.new; bad = g.bad; recorded = g.recorded.2 })
  entries_laid (entry k (scalar l) es) late seen g =
      let e : (late ≡ false) × (has_late_row late es ≡ false) = or_parts _ _ g.rows in
      let b : (is_refused l ≡ false) × (entry_has_bad es ≡ false) = or_parts _ _ g.bad in
      one_row late seen k (scalar_tree l) (entry_trees es) e.0 g.new.0 g.recorded.0 (scalar_in_row l b.0 g.recorded.1)
      (entries_laid es late (k ∷ seen) (goes_on late k seen es e.1 g.keys g.new.1 b.1 g.recorded.2))
  entries_laid (entry k (table x) es) late seen g =
      let b : (has_bad (table x) ≡ false) × (entry_has_bad es ≡ false) = or_parts _ _ g.bad in
      part late (a_table g.new.0 g.recorded.0 (entries_laid x false [] (table_goes x b.0 g.recorded.1))
      (entries_laid es true (k ∷ seen) (goes_on true k seen es g.rows g.keys g.new.1 b.1 g.recorded.2)))
  entries_laid (entry k (array (element (table x) vs)) es) late seen g =
      let b : (has_bad (array (element (table x) vs)) ≡ false) × (entry_has_bad es ≡ false) = or_parts _ _ g.bad in
      let v : (has_bad (table x) ≡ false) × (element_has_bad vs ≡ false) = or_parts _ _ (or_parts _ _ b.0).1 in
      let o : (holds_other vs ≡ false) × (holds_absent vs ≡ false) = only_tables x vs b.0 in
      part late (an_array g.new.0 g.recorded.0
      (a_node (entries_laid x false [] (table_goes x v.0 g.recorded.1.0)) (tables_laid vs o.0 o.1 v.1 g.recorded.1.1))
      (entries_laid es true (k ∷ seen) (goes_on true k seen es g.rows g.keys g.new.1 b.1 g.recorded.2)))
  entries_laid (entry k (array vs) es) late seen g =
      let e : (late ≡ false) × (has_late_row late es ≡ false) = or_parts _ _ g.rows in
      let b : (has_bad (array vs) ≡ false) × (entry_has_bad es ≡ false) = or_parts _ _ g.bad in
      one_row late seen k (tree_of (array vs)) (entry_trees es) e.0 g.new.0 g.recorded.0
      (array_in_row vs refl b.0 g.recorded.1)
      (entries_laid es late (k ∷ seen) (goes_on late k seen es e.1 g.keys g.new.1 b.1 g.recorded.2))

  tables_laid : (vs : Elements) → holds_other vs ≡ false → holds_absent vs ≡ false → element_has_bad vs ≡ false
      → AreRecorded vs → NodesLaid IsPlainRow (element_trees vs)
  tables_laid no_elements o a b r = no_nodes
  tables_laid (element (table x) vs) o a b r =
      let v : (has_bad (table x) ≡ false) × (element_has_bad vs ≡ false) = or_parts _ _ b in
      a_node (entries_laid x false [] (table_goes x v.0 r.0)) (tables_laid vs o a v.1 r.1)
  tables_laid (element absent vs) o a b r = absurd (true≢false a)
  tables_laid (element (scalar l) vs) o a b r = absurd (true≢false o)
  tables_laid (element (array us) vs) o a b r = absurd (true≢false o)

pub table_laid : (es : Entries) → has_bad (table es) ≡ false → AreEntriesRecorded es → LaidBy IsPlainRow [] (entry_trees es)
table_laid es b r = entries_laid es false [] (table_goes es b r)
