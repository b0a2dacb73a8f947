-- What is merged and what is left of both runs is all, in order, and there is room for it.
use Rattle.std.proofs.Common.{◌≤◌, ◌+◌, ◌-◌, ◌++◌, length, drop}
use Rattle.std.specs.Vec.{vec_len, vec_capacity}
use Rattle.basic_toml_index.proofs.RunsMerged.{Merging}
use Rattle.basic_toml_index.proofs.leaves.sorted.interleaved.Given as goal

abbrev pub invariant-loop-i : goal.invariant-loop-i
invariant-loop-i g l = record {
  left : l.i ≤ length l.left;
  right : l.j ≤ length l.right;
  now : Merging (g.T.Texts.texts l.texts) (l.left ++ l.right) l.run.items (drop l.i l.left) (drop l.j l.right);
  room : vec_len l.run + ((length l.left - l.i) + (length l.right - l.j)) ≤ vec_capacity l.run;
}

abbrev pub decreases-loop-i : goal.decreases-loop-i
decreases-loop-i g l = (length l.left - l.i) + (length l.right - l.j)
