use Rattle.std.proofs.Common.{◌≤◌, ◌+◌, ◌-◌, ◌*◌, length, Result}
use Rattle.std.specs.Vec.{vec_len, vec_capacity}
use Rattle.basic_toml_value.specs.Nesting.{nesting_limit}
use Rattle.basic_toml_read.specs.SectionView.{rows_seen, elements_view}
use Rattle.basic_toml_grow.specs.declared.clash.Clash.{Clash}
use Rattle.basic_toml_grow.specs.declared.item.Table.{Table}
use Rattle.basic_toml_grow.specs.Takes.{TakesRows}
use Rattle.basic_toml_grow.proofs.ValuesMade.{ElementsAreLeft}
use Rattle.basic_toml_grow.proofs.rows.+finishing.Given as goal

abbrev pub decreases-take_any_rows : goal.decreases-take_any_rows
decreases-take_any_rows l = 7 * (nesting_limit - l.level) + 6

abbrev pub decreases-take_many_rows : goal.decreases-take_many_rows
decreases-take_many_rows l = 7 * (nesting_limit - l.level) + 5

abbrev pub decreases-enter_rows : goal.decreases-enter_rows
decreases-enter_rows l = 7 * (nesting_limit - l.level) + 4

abbrev pub decreases-enter_value : goal.decreases-enter_value
decreases-enter_value l = 7 * (nesting_limit - l.level) + 3

abbrev pub decreases-row_value : goal.decreases-row_value
decreases-row_value l = 7 * (nesting_limit - l.level) + 2

abbrev pub decreases-child_of : goal.decreases-child_of
decreases-child_of l = 7 * (nesting_limit - l.level) + 1

abbrev pub decreases-inline_child : goal.decreases-inline_child
decreases-inline_child l = 7 * (nesting_limit - l.level)

abbrev pub decreases-children_of : goal.decreases-children_of
decreases-children_of l = 7 * (nesting_limit - l.level) + 2

-- what the rows that are left come to from the table as it is, all come to from it as it was
abbrev pub invariant-enter_rows-loop-row : goal.invariant-enter_rows-loop-row
invariant-enter_rows-loop-row l = record {
  within : length l.left ≤ length l.parents;
  left : (after : Table) (r : Result (Unit {0}) Clash)
      → TakesRows (rows_seen l.left l.row-iterator) l.section l.level l.table after r
      → TakesRows (rows_seen l.parents l.fn.rows) l.section l.level l.initial.table after r;
}

abbrev pub invariant-children_of-loop-element : goal.invariant-children_of-loop-element
invariant-children_of-loop-element l = record {
  left : ElementsAreLeft l.section l.level (elements_view l.fn.elements.items) l.children.items
      (elements_view l.element-iterator);
  room : vec_len l.children + length l.element-iterator ≤ vec_capacity l.children;
}
