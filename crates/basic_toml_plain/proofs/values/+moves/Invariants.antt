use Rattle.std.proofs.Common.{◌+◌, ◌*◌, map}
use Rattle.basic_toml_value.specs.Data.{items_of}
use Rattle.basic_toml_value.specs.View.{view}
use Rattle.basic_toml_value.proofs.Sizes.{data_size, items_size}
use Rattle.basic_toml_read.specs.declared.section.Row.{out-Row}
use Rattle.basic_toml_plain.specs.Plain.{is_plain, is_plain_element, plain_data, element_data, rows_data}
use Rattle.basic_toml_plain.specs.Values.{value_pair, row_pair}
use Rattle.basic_toml_plain.proofs.WhatIsLeft.{IsMovedSoFar}
use Rattle.basic_toml_plain.proofs.values.+moves.Given as goal

abbrev pub decreases-into_plain_value : goal.decreases-into_plain_value
decreases-into_plain_value l = 3 * data_size (plain_data l.value) + 2

abbrev pub decreases-into_plain_values : goal.decreases-into_plain_values
decreases-into_plain_values l = 3 * items_size (items_of (map element_data l.elements.items)) + 1

abbrev pub decreases-into_many : goal.decreases-into_many
decreases-into_many l = 3 * items_size (items_of (map element_data l.elements.items))

abbrev pub decreases-into_plain_table : goal.decreases-into_plain_table
decreases-into_plain_table l = 3 * data_size (rows_data l.rows.items) + 1

abbrev pub decreases-into_plain_entries : goal.decreases-into_plain_entries
decreases-into_plain_entries l = 3 * data_size (rows_data l.rows.items)

-- the values of the elements passed are moved, in order, and the others are left, which are plain
abbrev pub invariant-into_many-loop-element : goal.invariant-into_many-loop-element
invariant-into_many-loop-element l =
    IsMovedSoFar view element_data (λ e. is_plain_element e 0) l.moved l.element-iterator l.fn.elements.items

abbrev pub invariant-into_plain_values-loop-element : goal.invariant-into_plain_values-loop-element
invariant-into_plain_values-loop-element l =
    IsMovedSoFar view element_data (λ e. is_plain_element e 0) l.moved l.element-iterator.rest.items l.fn.elements.items

-- the same of rows
abbrev pub invariant-into_plain_entries-loop-row : goal.invariant-into_plain_entries-loop-row
invariant-into_plain_entries-loop-row l =
    IsMovedSoFar value_pair row_pair (λ r. is_plain (out-Row r).value 0) l.moved l.row-iterator.rest.items
    l.fn.rows.items
