use Rattle.std.proofs.Common.{◌-◌, length}
use Rattle.basic_toml_read.proofs.KeysTold.{KeysTold}
use Rattle.basic_toml_read.proofs.header.header_keys.Given as goal

abbrev pub invariant-loop-keyed : goal.invariant-loop-keyed
invariant-loop-keyed l = KeysTold l.text l.at 2 l.offset l.level l.keys.items

abbrev pub decreases-loop-keyed : goal.decreases-loop-keyed
decreases-loop-keyed l = length l.text - l.offset
