-- The texts passed are those in the leaves.
use Rattle.basic_toml_index.specs.Index.{leaves_of}
use Rattle.basic_toml_index.specs.SlotOrder.{AreFirst}
use Rattle.basic_toml_index.proofs.leaves.first.put_in.Given as goal

abbrev pub invariant-loop-position : goal.invariant-loop-position
invariant-loop-position g l = AreFirst (g.T.Texts.texts l.texts) l.position (leaves_of l.leaves.items)
