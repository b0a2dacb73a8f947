use Rattle.std.proofs.Common.{◌≡◌, ◌≤◌, suc, ◌++◌, IsTrue}
use Rattle.basic_toml_value.specs.Entries.{seen}
use Rattle.basic_toml_value.specs.View.{view, entries, items_view}
use Rattle.basic_toml_value.proofs.Sizes.{data_size, items_size, members_size}
use Rattle.basic_toml_order.specs.RowsFirst.{items_rows_first, rows_of, sections_of}
use Rattle.basic_toml_order.specs.Sound.{are_sound, hold_sound}
use Rattle.basic_toml_order.proofs.MovedParts.{items_then, members_then}
use Rattle.basic_toml_order.proofs.order.+moves.Given as goal

abbrev pub decreases-value_rows_first : goal.decreases-value_rows_first
decreases-value_rows_first l = data_size (view l.value)

abbrev pub decreases-elements_rows_first : goal.decreases-elements_rows_first
decreases-elements_rows_first l = items_size (items_view l.values.items)

abbrev pub decreases-table_rows_first : goal.decreases-table_rows_first
decreases-table_rows_first l = suc (members_size (entries l.table))

abbrev pub decreases-pairs_rows_first : goal.decreases-pairs_rows_first
decreases-pairs_rows_first l = members_size (entries (seen l.pairs.items))

-- what was passed is moved, in order, and the rest is left
abbrev pub invariant-elements_rows_first-loop-value : goal.invariant-elements_rows_first-loop-value
invariant-elements_rows_first-loop-value l = record {
  order : items_then l.moved.items (items_rows_first (items_view l.value-iterator.rest.items))
      ≡ items_rows_first (items_view l.initial.value-iterator.rest.items);
  sound : IsTrue (are_sound (items_view l.value-iterator.rest.items))
      → IsTrue (are_sound (items_view l.initial.value-iterator.rest.items));
  smaller : items_size (items_view l.value-iterator.rest.items)
      ≤ items_size (items_view l.initial.value-iterator.rest.items);
}

-- the rows passed are moved, and so are the sections
abbrev pub invariant-pairs_rows_first-loop-pair : goal.invariant-pairs_rows_first-loop-pair
invariant-pairs_rows_first-loop-pair l = record {
  rows : members_then l.rows.items (rows_of (entries (seen l.pair-iterator.rest.items)))
      ≡ rows_of (entries (seen l.initial.pair-iterator.rest.items));
  sections : members_then l.sections.items (sections_of (entries (seen l.pair-iterator.rest.items)))
      ≡ sections_of (entries (seen l.initial.pair-iterator.rest.items));
  sound : IsTrue (hold_sound (entries (seen l.pair-iterator.rest.items)))
      → IsTrue (hold_sound (entries (seen l.initial.pair-iterator.rest.items)));
  smaller : members_size (entries (seen l.pair-iterator.rest.items))
      ≤ members_size (entries (seen l.initial.pair-iterator.rest.items));
}

-- the sections passed stand after the rows, and the rest is left
abbrev pub invariant-pairs_rows_first-loop-section : goal.invariant-pairs_rows_first-loop-section
invariant-pairs_rows_first-loop-section l =
    l.rows.items ++ l.section-iterator.rest.items ≡ l.initial.rows.items ++ l.initial.section-iterator.rest.items
