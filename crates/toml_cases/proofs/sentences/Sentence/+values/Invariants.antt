use Rattle.std.proofs.Common.{◌≡◌, ◌+◌, ◌*◌}
use Rattle.toml_cases.proofs.sentences.Sentence.+values.Given as goal

abbrev pub decreases-value : goal.decreases-value
decreases-value l = 3 * l.levels

abbrev pub decreases-row : goal.decreases-row
decreases-row l = 3 * l.levels + 1

abbrev pub decreases-array : goal.decreases-array
decreases-array l = 3 * l.levels + 2

abbrev pub decreases-inline_table : goal.decreases-inline_table
decreases-inline_table l = 3 * l.levels + 2

abbrev pub invariant-array-loop-at : goal.invariant-array-loop-at
invariant-array-loop-at l = l.levels ≡ l.fn.levels

abbrev pub invariant-inline_table-loop-at : goal.invariant-inline_table-loop-at
invariant-inline_table-loop-at l = l.levels ≡ l.fn.levels
