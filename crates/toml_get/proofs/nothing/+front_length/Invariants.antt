use Rattle.std.proofs.Common.{length}
use Rattle.toml_get.proofs.nothing.+front_length.Given as goal

abbrev pub decreases-front_length : goal.decreases-front_length
decreases-front_length l = length l.steps.now
