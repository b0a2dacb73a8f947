use Rattle.std.proofs.Common.{◌≡◌, ◌+◌, ◌*◌, map, take}
use Rattle.basic_toml_value.specs.Data.{items_of}
use Rattle.basic_toml_value.specs.View.{view}
use Rattle.basic_toml_value.proofs.Sizes.{data_size, items_size}
use Rattle.basic_toml_plain.specs.Plain.{plain_data, element_data, rows_data}
use Rattle.basic_toml_plain.specs.Values.{value_pair, row_pair}
use Rattle.basic_toml_plain.proofs.values.+copies.Given as goal

abbrev pub decreases-plain_value : goal.decreases-plain_value
decreases-plain_value l = 2 * data_size (plain_data l.value.now) + 1

abbrev pub decreases-plain_values : goal.decreases-plain_values
decreases-plain_values l = 2 * items_size (items_of (map element_data l.elements.now))

abbrev pub decreases-plain_table : goal.decreases-plain_table
decreases-plain_table l = 2 * data_size (rows_data l.rows.now)

-- the values of the elements passed are copied, in order
abbrev pub invariant-plain_values-loop-element : goal.invariant-plain_values-loop-element
invariant-plain_values-loop-element l =
    map view l.copies.items ≡ map element_data (take l.element-index l.elements)

-- and the rows passed
abbrev pub invariant-plain_table-loop-row : goal.invariant-plain_table-loop-row
invariant-plain_table-loop-row l = map value_pair l.copies.items ≡ map row_pair (take l.row-index l.rows)
