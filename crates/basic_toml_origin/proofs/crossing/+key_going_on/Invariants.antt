use Rattle.std.proofs.Common.{length}
use Rattle.basic_toml_origin.proofs.crossing.+key_going_on.Given as goal

abbrev pub decreases-key_going_on : goal.decreases-key_going_on
decreases-key_going_on l = length l.keys.now
