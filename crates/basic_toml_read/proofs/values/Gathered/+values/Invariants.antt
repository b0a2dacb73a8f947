use Rattle.basic_toml_read.proofs.Common.{◌+◌, ◌-◌, ◌*◌, length, nesting_limit}
use Rattle.basic_toml_read.proofs.values.Gathered.+values.Given as goal
use Rattle.basic_toml_read.proofs.ElementsGathered.{ElementsSoFar}
use Rattle.basic_toml_read.proofs.FieldsGathered.{FieldsSoFar}

abbrev pub decreases-value : goal.decreases-value
decreases-value l = 4 * (nesting_limit + 1 - l.level)

abbrev pub decreases-array : goal.decreases-array
decreases-array l = 4 * (nesting_limit + 1 - l.level) + 2

abbrev pub decreases-elements : goal.decreases-elements
decreases-elements l = 4 * (nesting_limit + 1 - l.level) + 1

abbrev pub decreases-inline : goal.decreases-inline
decreases-inline l = 4 * (nesting_limit + 1 - l.level) + 3

abbrev pub decreases-fields : goal.decreases-fields
decreases-fields l = 4 * (nesting_limit + 1 - l.level) + 2

abbrev pub decreases-row : goal.decreases-row
decreases-row l = 4 * (nesting_limit + 1 - l.level) + 1

abbrev pub invariant-elements-loop-end : goal.invariant-elements-loop-end
invariant-elements-loop-end l = ElementsSoFar l.text l.start l.level l.at l.fn.self l.self

abbrev pub decreases-elements-loop-end : goal.decreases-elements-loop-end
decreases-elements-loop-end l = length l.text - l.at

abbrev pub invariant-fields-loop-after : goal.invariant-fields-loop-after
invariant-fields-loop-after l = FieldsSoFar l.text l.start l.level l.at l.fn.self l.self

abbrev pub decreases-fields-loop-after : goal.decreases-fields-loop-after
decreases-fields-loop-after l = length l.text - l.at
