use Rattle.std.proofs.Common.{length}
use Rattle.basic_toml_index.proofs.leaves.sorted.+sorted.Given as goal

abbrev pub decreases-sorted : goal.decreases-sorted
decreases-sorted g l = length l.slots.now
