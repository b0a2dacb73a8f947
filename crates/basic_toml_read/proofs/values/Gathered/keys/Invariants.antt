use Rattle.std.proofs.Common.{◌-◌, length}
use Rattle.basic_toml_read.proofs.KeysTold.{KeysSoFar}
use Rattle.basic_toml_read.proofs.values.Gathered.keys.Given as goal

abbrev pub invariant-loop-keyed : goal.invariant-loop-keyed
invariant-loop-keyed l = KeysSoFar l.text l.at l.first l.offset l.level l.fn.self l.self

abbrev pub decreases-loop-keyed : goal.decreases-loop-keyed
decreases-loop-keyed l = length l.text - l.offset
