-- What the sections of a laid-out table mention is the table, its keys in order.
use Rattle.std.proofs.Common.{◌≡◌, ℕ, suc, ◌≤◌, List, [], ◌∷◌, ◌++◌, Some, None, refl, ap, sym, ◌∙◌, subst, arith}
use Rattle.std.proofs.lemmas.Bool.{ne_eqb}
use Rattle.basic_toml_value.specs.Data as d
use Rattle.basic_toml_value.specs.Data.{Data, Items, no_items, item, Members, no_members, member}
use Rattle.basic_toml_grammar.specs.Sections.{KeyTexts}
use Rattle.basic_toml_grammar.specs.Steps.{key, number}
use Rattle.basic_toml_grammar.specs.Tree.{Mention, value_here, IsTree, here, grouped, AreGroups, no_steps}
use Rattle.basic_toml_grammar.specs.Growth.{tree_of}
use Rattle.basic_toml_grammar.specs.Mentions.{finished, finished_elements, row_mentions}
use Rattle.basic_toml_grammar.specs.Placed.{Placed}
use Rattle.basic_toml_grammar.proofs.Trees.TreeIsGrouped.{tree_is_grouped}
use Rattle.basic_toml_grammar.proofs.Trees.EnteringGrows.{placed_mentions}
use Rattle.basic_toml_round_trip.proofs.LaidOut.{IsInRow, AreInRow, AreFields, IsNone, Laid, a_row, then_parts, Parts}
use Rattle.basic_toml_round_trip.proofs.LaidOut.{no_parts, a_table, an_array, Nodes, no_nodes, a_node}
use Rattle.basic_toml_round_trip.proofs.SectionsOfTable.{raw, raw_items, raw_fields, rows, placed_here, head_placed}
use Rattle.basic_toml_round_trip.proofs.SectionsOfTable.{inner_placed, part_placed, node_offsets}
use Rattle.basic_toml_round_trip.proofs.StepsGroupMentions.{after, below_first, AllOff, off_after, value_after}
use Rattle.basic_toml_round_trip.proofs.StepsGroupMentions.{Filled, filled, filled_after, one_group, table_here}
use Rattle.basic_toml_round_trip.proofs.StepsGroupMentions.{groups_here, groups_of, table_made, groups_from}
use Rattle.basic_toml_round_trip.proofs.StepsGroupMentions.{array_made}

abbrev value_mention : Data → Mention
value_mention x = record { path = []; value = Some (finished (raw x)) }

-- a value in a row is finished as itself, an inline table by the groups of its rows
no_value_of_fields : (ms : Members) → value_here (row_mentions [] (raw_fields ms)) ≡ None
no_value_of_fields no_members = refl
no_value_of_fields (member k x ms) = no_value_of_fields ms

fields_off : (k : List ℕ) (seen : KeyTexts) (ms : Members) → IsNone k seen → AreFields seen ms
    → AllOff (key k) (row_mentions [] (raw_fields ms))
fields_off k seen no_members none h = tt
fields_off k seen (member l x ms) none h = (none l h.0.0, fields_off k (l ∷ seen) ms (λ j n. none j n.1) h.1.1)

mutual
  row_finished : (x : Data) → IsInRow x → finished (raw x) ≡ x
  row_finished (d.integer z) h = refl
  row_finished (d.float t) h = refl
  row_finished (d.boolean b) h = refl
  row_finished (d.string t) h = refl
  row_finished (d.array xs) h = ap d.array (items_finished xs h)
  row_finished (d.table ms) h =
      sym ((tree_is_grouped (row_mentions [] (raw_fields ms)) _).0
      (subst (IsTree (row_mentions [] (raw_fields ms))) (table_made ms)
      (grouped (no_value_of_fields ms) (fields_groups ms [] h))))

  items_finished : (xs : Items) → AreInRow xs → finished_elements (raw_items xs) ≡ xs
  items_finished no_items h = refl
  items_finished (item x xs) h = (λ i. item (row_finished x h.0 i) (items_finished xs h.1 i))

  fields_groups : (ms : Members) (seen : KeyTexts) → AreFields seen ms
      → AreGroups (row_mentions [] (raw_fields ms)) (groups_of ms)
  fields_groups no_members seen h = no_steps refl
  fields_groups (member k x ms) seen h =
      one_group (key k) {ms = value_mention x ∷ []} (row_mentions [] (raw_fields ms)) filled
      (here (ap Some (row_finished x h.1.0))) (fields_off k (k ∷ seen) ms (λ l n. n.0) h.1.1)
      (fields_groups ms (k ∷ seen) h.1.1)

-- what the rows and the parts of a table mention, and what they do with the mention of the table where it has a header
abbrev pub inner_mentions : {seen : KeyTexts} {ms : Members} → Laid seen ms → List Mention
inner_mentions laid = row_mentions [] (rows laid) ++ placed_mentions (inner_placed laid)

abbrev whole_mentions : {seen : KeyTexts} {ms : Members} → Laid seen ms → List Mention
whole_mentions laid = placed_mentions (head_placed laid ++ inner_placed laid)

-- none of them has a value at the empty path
no_value : {seen : KeyTexts} {ms : Members} (parts : Parts seen ms)
    → value_here (placed_mentions (part_placed parts)) ≡ None
no_value no_parts = refl
no_value (a_table {k = k} new text laid parts) =
    ap value_here (below_first (key k) (head_placed laid ++ inner_placed laid) (part_placed parts))
    ∙ value_after (key k) (whole_mentions laid) (placed_mentions (part_placed parts)) ∙ no_value parts
no_value (an_array {k = k} new text nodes parts) =
    ap value_here (below_first (key k) (node_offsets 0 nodes) (part_placed parts))
    ∙ value_after (key k) (placed_mentions (node_offsets 0 nodes)) (placed_mentions (part_placed parts))
    ∙ no_value parts

no_value_inside : {seen : KeyTexts} {ms : Members} (laid : Laid seen ms) → value_here (inner_mentions laid) ≡ None
no_value_inside (a_row new text value laid) = no_value_inside laid
no_value_inside (then_parts parts) = no_value parts

-- none goes by a key that is not new
parts_off : (k : List ℕ) {seen : KeyTexts} {ms : Members} (parts : Parts seen ms) → IsNone k seen
    → AllOff (key k) (placed_mentions (part_placed parts))
parts_off k no_parts h = tt
parts_off k (a_table {k = l} new text laid parts) h =
    subst (AllOff (key k)) (sym (below_first (key l) (head_placed laid ++ inner_placed laid) (part_placed parts)))
    (off_after (key k) (key l) (whole_mentions laid) _ (h l new) (parts_off k parts (λ j n. h j n.1)))
parts_off k (an_array {k = l} new text nodes parts) h =
    subst (AllOff (key k)) (sym (below_first (key l) (node_offsets 0 nodes) (part_placed parts)))
    (off_after (key k) (key l) (placed_mentions (node_offsets 0 nodes)) _ (h l new)
    (parts_off k parts (λ j n. h j n.1)))

laid_off : (k : List ℕ) {seen : KeyTexts} {ms : Members} (laid : Laid seen ms) → IsNone k seen
    → AllOff (key k) (inner_mentions laid)
laid_off k (a_row {k = l} new text value laid) h = (h l new, laid_off k laid (λ j n. h j n.1))
laid_off k (then_parts parts) h = parts_off k parts h

-- an element is a table one step below
abbrev element_offsets : {seen : KeyTexts} {ms : Members} → Laid seen ms → List Placed
element_offsets laid = placed_here None (rows laid) ∷ inner_placed laid

node_first : (i : ℕ) {x : Members} {xs : Items} (laid : Laid [] x) (nodes : Nodes xs)
    → placed_mentions (node_offsets i (a_node laid nodes))
    ≡ after (number i) (placed_mentions (element_offsets laid)) ++ placed_mentions (node_offsets (suc i) nodes)
node_first i laid nodes = below_first (number i) (element_offsets laid) (node_offsets (suc i) nodes)

no_value_there : (i : ℕ) {xs : Items} (nodes : Nodes xs) → value_here (placed_mentions (node_offsets i nodes)) ≡ None
no_value_there i no_nodes = refl
no_value_there i (a_node laid nodes) =
    ap value_here (node_first i laid nodes)
    ∙ value_after (number i) (placed_mentions (element_offsets laid)) (placed_mentions (node_offsets (suc i) nodes))
    ∙ no_value_there (suc i) nodes

-- nor goes a later element by an earlier number
nodes_off : (i j : ℕ) {xs : Items} (nodes : Nodes xs) → suc i ≤ j
    → AllOff (number i) (placed_mentions (node_offsets j nodes))
nodes_off i j no_nodes h = tt
nodes_off i j (a_node laid nodes) h =
    subst (AllOff (number i)) (sym (node_first j laid nodes))
    (off_after (number i) (number j) (placed_mentions (element_offsets laid)) _ (ne_eqb i j (λ e. omega arith))
    (nodes_off i (suc j) nodes (omega arith)))

-- each part mentions something
part_filled : {seen : KeyTexts} {ms : Members} (laid : Laid seen ms) → Filled (whole_mentions laid)
part_filled (a_row new text value laid) = filled
part_filled (then_parts no_parts) = filled
part_filled (then_parts (a_table {k = k} new text laid parts)) =
    subst Filled (sym (below_first (key k) (head_placed laid ++ inner_placed laid) (part_placed parts)))
    (filled_after (key k) _ (part_filled laid))
part_filled (then_parts (an_array new text (a_node laid nodes) parts)) = filled

-- a table, with its header or without
with_header : {ms : List Mention} {x : Members} → AreGroups ms (groups_of x) → value_here ms ≡ None
    → IsTree (table_here ∷ ms) (d.table x)
with_header {ms = ms} {x = x} g e = subst (IsTree (table_here ∷ ms)) (table_made x) (grouped e (groups_here g))

without_header : {ms : List Mention} {x : Members} → AreGroups ms (groups_of x) → value_here ms ≡ None
    → IsTree ms (d.table x)
without_header {ms = ms} {x = x} g e = subst (IsTree ms) (table_made x) (grouped e g)

whole_tree : {seen : KeyTexts} {x : Members} (laid : Laid seen x) → AreGroups (inner_mentions laid) (groups_of x)
    → IsTree (whole_mentions laid) (d.table x)
whole_tree (a_row new text value laid) g = with_header g (no_value_inside (a_row new text value laid))
whole_tree (then_parts no_parts) g = with_header g refl
whole_tree (then_parts (a_table new text laid parts)) g = without_header g (no_value (a_table new text laid parts))
whole_tree (then_parts (an_array new text nodes parts)) g = without_header g (no_value (an_array new text nodes parts))

array_tree : {x : Data} {xs : Items} (nodes : Nodes (item x xs))
    → AreGroups (placed_mentions (node_offsets 0 nodes)) (groups_from 0 (item x xs))
    → IsTree (placed_mentions (node_offsets 0 nodes)) (d.array (item x xs))
array_tree {x = x} {xs = xs} nodes g =
    subst (IsTree (placed_mentions (node_offsets 0 nodes))) (array_made 0 x xs) (grouped (no_value_there 0 nodes) g)

later_keys : (k : List ℕ) (seen : KeyTexts) → IsNone k (k ∷ seen)
later_keys k seen l n = n.0

nodes_filled : (i : ℕ) {x : Data} {xs : Items} (nodes : Nodes (item x xs))
    → Filled (placed_mentions (node_offsets i nodes))
nodes_filled i (a_node laid nodes) = filled

-- rows and parts are grouped as the members, and the elements of an array by their numbers
mutual
  laid_groups : {seen : KeyTexts} {ms : Members} (laid : Laid seen ms) → AreGroups (inner_mentions laid) (groups_of ms)
  laid_groups (a_row {seen = seen} {k = k} {x = x} new text value laid) =
      one_group (key k) {ms = value_mention x ∷ []} (inner_mentions laid) filled (here (ap Some (row_finished x value)))
      (laid_off k laid (later_keys k seen)) (laid_groups laid)
  laid_groups (then_parts parts) = parts_groups parts

  parts_groups : {seen : KeyTexts} {ms : Members} (parts : Parts seen ms)
      → AreGroups (placed_mentions (part_placed parts)) (groups_of ms)
  parts_groups no_parts = no_steps refl
  parts_groups (a_table {seen = seen} {k = k} {x = x} {ms = ms} new text laid parts) =
      subst (λ l. AreGroups l (groups_of (member k (d.table x) ms)))
      (sym (below_first (key k) (head_placed laid ++ inner_placed laid) (part_placed parts)))
      (one_group (key k) _ (part_filled laid) (whole_tree laid (laid_groups laid))
      (parts_off k parts (later_keys k seen)) (parts_groups parts))
  parts_groups (an_array {seen = seen} {k = k} {x = x} {xs = xs} {ms = ms} new text nodes parts) =
      subst (λ l. AreGroups l (groups_of (member k (d.array (item (d.table x) xs)) ms)))
      (sym (below_first (key k) (node_offsets 0 nodes) (part_placed parts)))
      (one_group (key k) _ (nodes_filled 0 nodes) (array_tree nodes (nodes_groups 0 nodes))
      (parts_off k parts (later_keys k seen)) (parts_groups parts))

  nodes_groups : (i : ℕ) {xs : Items} (nodes : Nodes xs)
      → AreGroups (placed_mentions (node_offsets i nodes)) (groups_from i xs)
  nodes_groups i no_nodes = no_steps refl
  nodes_groups i (a_node {x = x} {xs = xs} laid nodes) =
      subst (λ l. AreGroups l (groups_from i (item (d.table x) xs))) (sym (node_first i laid nodes))
      (one_group (number i) {ms = table_here ∷ inner_mentions laid} _ filled
      (with_header (laid_groups laid) (no_value_inside laid)) (nodes_off i (suc i) nodes (omega arith))
      (nodes_groups (suc i) nodes))

-- with the root section, which stands in the list only where there are rows
pub root_tree : {x : Members} (laid : Laid [] x) → tree_of (table_here ∷ inner_mentions laid) ≡ d.table x
root_tree laid =
    sym
    ((tree_is_grouped (table_here ∷ inner_mentions laid) _).0 (with_header (laid_groups laid) (no_value_inside laid)))

pub rootless_tree : {x : Members} (laid : Laid [] x) → tree_of (inner_mentions laid) ≡ d.table x
rootless_tree laid =
    sym ((tree_is_grouped (inner_mentions laid) _).0 (without_header (laid_groups laid) (no_value_inside laid)))
