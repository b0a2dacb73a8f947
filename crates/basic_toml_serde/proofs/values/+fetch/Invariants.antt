use Rattle.std.proofs.Common.{◌+◌, ◌*◌}
use Rattle.basic_toml_serde.proofs.values.+fetch.Given as goal

abbrev pub decreases-fetch : goal.decreases-fetch
decreases-fetch g l = 2 * l.depth

abbrev pub decreases-fetch_elements : goal.decreases-fetch_elements
decreases-fetch_elements g l = 2 * l.depth + 1

abbrev pub decreases-fetch_entries : goal.decreases-fetch_entries
decreases-fetch_entries g l = 2 * l.depth + 1
