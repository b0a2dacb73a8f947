-- The leaves passed are copied, in order.
use Rattle.std.proofs.Common.{◌≡◌, take}
use Rattle.basic_toml_index.specs.Index.{leaves_of}
use Rattle.basic_toml_index.proofs.leaves.copy.Given as goal

abbrev pub invariant-loop-leaf : goal.invariant-loop-leaf
invariant-loop-leaf l = leaves_of l.copies.items ≡ leaves_of (take l.leaf-index l.leaves)
