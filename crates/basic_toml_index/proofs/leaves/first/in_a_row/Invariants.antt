-- The slots in a row and those of the leaves that are left are those of all leaves.
use Rattle.std.proofs.Common.{◌≡◌, ◌++◌}
use Rattle.basic_toml_index.specs.Index.{joined, leaves_of}
use Rattle.basic_toml_index.proofs.leaves.first.in_a_row.Given as goal

abbrev pub invariant-loop-leaf : goal.invariant-loop-leaf
invariant-loop-leaf l =
    l.row.items ++ joined (leaves_of l.leaf-iterator.rest.items) ≡ joined (leaves_of l.initial.leaf-iterator.rest.items)
