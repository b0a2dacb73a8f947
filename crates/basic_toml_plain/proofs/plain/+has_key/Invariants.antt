use Rattle.std.proofs.Common.{length}
use Rattle.basic_toml_plain.proofs.plain.+has_key.Given as goal

abbrev pub decreases-has_key : goal.decreases-has_key
decreases-has_key l = length l.rows.now
