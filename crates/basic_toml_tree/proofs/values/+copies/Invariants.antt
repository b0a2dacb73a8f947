use Rattle.std.proofs.Common.{◌≡◌, ◌+◌, ◌*◌, map, take}
use Rattle.basic_toml_value.specs.Data.{items_of, members_of}
use Rattle.basic_toml_value.specs.View.{view}
use Rattle.basic_toml_value.proofs.Sizes.{data_size, items_size, members_size}
use Rattle.basic_toml_plain.specs.Values.{value_pair}
use Rattle.basic_toml_tree.specs.Data.{data_of, child_data, table_data, child_pair}
use Rattle.basic_toml_tree.proofs.values.+copies.Given as goal

abbrev pub decreases-value_of : goal.decreases-value_of
decreases-value_of l = 2 * data_size (data_of l.item.now) + 1

abbrev pub decreases-elements_of : goal.decreases-elements_of
decreases-elements_of l = 2 * items_size (items_of (map child_data l.children.now))

abbrev pub decreases-tables_of : goal.decreases-tables_of
decreases-tables_of l = 2 * items_size (items_of (map table_data l.tables.now))

abbrev pub decreases-entries_of : goal.decreases-entries_of
decreases-entries_of l = 2 * members_size (members_of (map child_pair l.pairs.now))

abbrev pub decreases-table_of : goal.decreases-table_of
decreases-table_of l = 2 * data_size (table_data l.table.now)

-- what was passed is copied, in order
abbrev pub invariant-elements_of-loop-child : goal.invariant-elements_of-loop-child
invariant-elements_of-loop-child l = map view l.elements.items ≡ map child_data (take l.child-index l.children)

abbrev pub invariant-tables_of-loop-table : goal.invariant-tables_of-loop-table
invariant-tables_of-loop-table l = map view l.elements.items ≡ map table_data (take l.table-index l.tables)

abbrev pub invariant-entries_of-loop-pair : goal.invariant-entries_of-loop-pair
invariant-entries_of-loop-pair l = map value_pair l.copies.items ≡ map child_pair (take l.pair-index l.pairs)
