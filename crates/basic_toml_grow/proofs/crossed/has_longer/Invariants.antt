use Rattle.std.proofs.Common.{◌≡◌, List, None, drop}
use Rattle.basic_toml_read.specs.declared.section.Key as keys
use Rattle.basic_toml_read.specs.SectionView.{rows_seen}
use Rattle.basic_toml_grow.specs.Crossed.{crossed_between}
use Rattle.basic_toml_grow.proofs.CrossedIsFault.{Shrink}
use Rattle.basic_toml_grow.proofs.crossed.has_longer.Given as goal

-- where the rows that are left get no longer, none of all goes on from a value
abbrev pub invariant-loop-row : goal.invariant-loop-row
invariant-loop-row l =
    Shrink l.most (drop l.row-index l.rows) → (parents : List keys.Key)
    → crossed_between (rows_seen parents l.rows) ≡ None
