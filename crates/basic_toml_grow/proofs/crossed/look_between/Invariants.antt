use Rattle.std.proofs.Common.{◌≡◌, ◌≤◌, drop, length, map}
use Rattle.basic_toml_read.specs.SectionView.{key_of, lined_of, rows_from, rows_seen}
use Rattle.basic_toml_grow.specs.Crossed.{crossed_after, crossed_between}
use Rattle.basic_toml_grow.specs.KeyTree.{ends_of}
use Rattle.basic_toml_grow.proofs.crossed.look_between.Given as goal

-- the rows before have been followed: what is crossed by all is crossed by those that are left
abbrev pub invariant-loop-row : goal.invariant-loop-row
invariant-loop-row l = record {
  within : length l.left ≤ length l.parents;
  passed : crossed_between (rows_seen l.parents l.rows)
      ≡ crossed_after (ends_of l.tree) (rows_from (map key_of l.left) (map lined_of (drop l.row-index l.rows)));
}
