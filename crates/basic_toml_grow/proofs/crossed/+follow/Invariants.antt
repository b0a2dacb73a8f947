use Rattle.std.proofs.Common.{length}
use Rattle.basic_toml_grow.proofs.crossed.+follow.Given as goal

abbrev pub decreases-follow : goal.decreases-follow
decreases-follow l = length l.parents.now
