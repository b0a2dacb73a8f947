use Rattle.std.proofs.Common.{◌+◌, ◌*◌}
use Rattle.basic_toml_serde.specs.Built.{left}
use Rattle.basic_toml_serde.proofs.ItemsAreBuilt.{ElementsSoFar, EntriesSoFar}
use Rattle.basic_toml_serde.proofs.built.+builds.Given as goal

abbrev pub decreases-value_of : goal.decreases-value_of
decreases-value_of l = 3 * l.depth

abbrev pub decreases-elements_of : goal.decreases-elements_of
decreases-elements_of l = 3 * l.depth + 2

abbrev pub decreases-next_element : goal.decreases-next_element
decreases-next_element l = 3 * l.depth + 1

abbrev pub decreases-entries_of : goal.decreases-entries_of
decreases-entries_of l = 3 * l.depth + 2

abbrev pub decreases-entry_value : goal.decreases-entry_value
decreases-entry_value l = 3 * l.depth + 1

-- what is made so far, and what comes now
abbrev pub invariant-elements_of-loop : goal.invariant-elements_of-loop
invariant-elements_of-loop l = ElementsSoFar (left l.fn.rest) (left l.rest) l.values.items

abbrev pub invariant-entries_of-loop : goal.invariant-entries_of-loop
invariant-entries_of-loop l = EntriesSoFar (left l.fn.rest) (left l.rest) l.table
