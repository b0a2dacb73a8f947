use Rattle.std.proofs.Common.{◌-◌, length}
use Rattle.basic_toml_read.proofs.RowsRead.{RowsSoFar}
use Rattle.basic_toml_read.proofs.values.Gathered.rows.Given as goal

abbrev pub invariant-loop-at : goal.invariant-loop-at
invariant-loop-at l = RowsSoFar l.text l.start l.level l.at l.fn.self l.self

abbrev pub decreases-loop-at : goal.decreases-loop-at
decreases-loop-at l = length l.text - l.at
