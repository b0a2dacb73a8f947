use Rattle.std.proofs.Common.{length}
use Rattle.basic_toml_origin.proofs.find.+last_key.Given as goal

abbrev pub decreases-last_key : goal.decreases-last_key
decreases-last_key l = length l.path.now
