use Rattle.std.proofs.Common.{◌+◌, ◌*◌}
use Rattle.basic_toml_serde.proofs.values.+send.Given as goal

abbrev pub decreases-send : goal.decreases-send
decreases-send g l = 2 * l.depth

abbrev pub decreases-send_elements : goal.decreases-send_elements
decreases-send_elements g l = 2 * l.depth + 1

abbrev pub decreases-send_entries : goal.decreases-send_entries
decreases-send_entries g l = 2 * l.depth + 1
