use Rattle.std.proofs.Common.{◌+◌, ◌*◌, length}
use Rattle.basic_toml_grow.proofs.rows.+leading.Given as goal

abbrev pub decreases-enter_row : goal.decreases-enter_row
decreases-enter_row l = 3 * length l.keys.now

abbrev pub decreases-enter_dotted : goal.decreases-enter_dotted
decreases-enter_dotted l = 3 * length l.rest.now + 2

abbrev pub decreases-extend : goal.decreases-extend
decreases-extend l = 3 * length l.keys.now + 1
