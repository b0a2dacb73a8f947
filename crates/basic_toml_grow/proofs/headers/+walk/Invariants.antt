use Rattle.std.proofs.Common.{◌+◌, ◌*◌, length}
use Rattle.basic_toml_grow.proofs.headers.+walk.Given as goal

abbrev pub decreases-enter_header : goal.decreases-enter_header
decreases-enter_header l = 5 * length l.keys.now

abbrev pub decreases-enter_last : goal.decreases-enter_last
decreases-enter_last l = 4

abbrev pub decreases-enter_element : goal.decreases-enter_element
decreases-enter_element l = 4

abbrev pub decreases-enter_below : goal.decreases-enter_below
decreases-enter_below l = 5 * length l.rest.now + 3

abbrev pub decreases-enter_at : goal.decreases-enter_at
decreases-enter_at l = 5 * length l.rest.now + 2

abbrev pub decreases-enter_item : goal.decreases-enter_item
decreases-enter_item l = 5 * length l.rest.now + 1
