-- The first texts stand in the leaves and in the one that is filled, and the last of them last.
use Rattle.std.proofs.Common.{◌≡◌, ◌++◌, ◌∷◌, [], List, true}
use Rattle.basic_toml_index.specs.Index.{joined, leaves_of, are_filled}
use Rattle.basic_toml_index.specs.SlotOrder.{IsRunOfFirst}
use Rattle.basic_toml_index.specs.declared.leaves.Slot.{Slot}
use Rattle.basic_toml_index.proofs.leaves.first.rising.Given as goal

abbrev pub invariant-loop-position : goal.invariant-loop-position
invariant-loop-position g l = record {
  filled : are_filled (leaves_of l.leaves.items) ≡ true;
  before : List Slot;
  leaf : l.leaf.items ≡ before ++ l.last ∷ [];
  first : IsRunOfFirst (g.T.Texts.texts l.texts) l.position (joined (leaves_of l.leaves.items) ++ l.leaf.items);
}
