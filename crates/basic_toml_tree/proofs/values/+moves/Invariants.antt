use Rattle.std.proofs.Common.{◌≡◌, ◌≤◌, ◌+◌, ◌*◌, ◌++◌, length, map}
use Rattle.std.specs.Vec.{vec_len, vec_capacity}
use Rattle.basic_toml_value.specs.Data.{items_of, members_of}
use Rattle.basic_toml_value.specs.View.{view}
use Rattle.basic_toml_value.proofs.Sizes.{data_size, items_size, members_size}
use Rattle.basic_toml_plain.specs.Values.{value_pair}
use Rattle.basic_toml_grow.specs.declared.item.Item.{Array, Tables}
use Rattle.basic_toml_tree.specs.Data.{data_of, child_data, table_data, child_pair}
use Rattle.basic_toml_tree.proofs.values.+moves.Given as goal

abbrev pub decreases-into_value : goal.decreases-into_value
decreases-into_value l = 3 * data_size (data_of l.item) + 2

abbrev pub decreases-into_array : goal.decreases-into_array
decreases-into_array l = 3 * data_size (data_of (Array l.children)) + 1

abbrev pub decreases-into_inner_table : goal.decreases-into_inner_table
decreases-into_inner_table l = 3 * data_size (table_data l.table.value) + 1

abbrev pub decreases-into_array_of_tables : goal.decreases-into_array_of_tables
decreases-into_array_of_tables l = 3 * data_size (data_of (Tables l.tables)) + 1

abbrev pub decreases-into_elements : goal.decreases-into_elements
decreases-into_elements l = 3 * items_size (items_of (map child_data l.children.items))

abbrev pub decreases-into_tables : goal.decreases-into_tables
decreases-into_tables l = 3 * items_size (items_of (map table_data l.tables.items))

abbrev pub decreases-into_entries : goal.decreases-into_entries
decreases-into_entries l = 3 * members_size (members_of (map child_pair l.pairs.items)) + 1

abbrev pub decreases-into_many_entries : goal.decreases-into_many_entries
decreases-into_many_entries l = 3 * members_size (members_of (map child_pair l.pairs.items))

abbrev pub decreases-into_table : goal.decreases-into_table
decreases-into_table l = 3 * data_size (table_data l.table)

-- what was passed is moved, in order, and the rest is left
abbrev pub invariant-into_elements-loop-child : goal.invariant-into_elements-loop-child
invariant-into_elements-loop-child l =
    map view l.elements.items ++ map child_data l.child-iterator ≡ map child_data l.fn.children.items

-- and there is room for them
abbrev pub invariant-into_tables-loop-table : goal.invariant-into_tables-loop-table
invariant-into_tables-loop-table l = record {
  made : map view l.elements.items ++ map table_data l.table-iterator ≡ map table_data l.fn.tables.items;
  room : vec_len l.elements + length l.table-iterator ≤ vec_capacity l.elements;
}

abbrev pub invariant-into_many_entries-loop-pair : goal.invariant-into_many_entries-loop-pair
invariant-into_many_entries-loop-pair l = record {
  made : map value_pair l.moved.items ++ map child_pair l.pair-iterator ≡ map child_pair l.fn.pairs.items;
  room : vec_len l.moved + length l.pair-iterator ≤ vec_capacity l.moved;
}

abbrev pub invariant-into_entries-loop-pair : goal.invariant-into_entries-loop-pair
invariant-into_entries-loop-pair l = record {
  made : map value_pair l.moved.items ++ map child_pair l.pair-iterator.rest.items ≡ map child_pair l.fn.pairs.items;
  room : vec_len l.moved + length l.pair-iterator.rest.items ≤ vec_capacity l.moved;
}
