-- The leaves and the slots that are left are the slots, and no leaf is empty.
use Rattle.std.proofs.Common.{◌≡◌, ◌++◌, length, true}
use Rattle.basic_toml_index.specs.Index.{joined, leaves_of, are_filled}
use Rattle.basic_toml_index.proofs.leaves.first.cut.Given as goal

abbrev pub invariant-loop-rest : goal.invariant-loop-rest
invariant-loop-rest l = record {
  row : joined (leaves_of l.leaves.items) ++ l.rest ≡ l.slots;
  filled : are_filled (leaves_of l.leaves.items) ≡ true;
}

abbrev pub decreases-loop-rest : goal.decreases-loop-rest
decreases-loop-rest l = length l.rest
