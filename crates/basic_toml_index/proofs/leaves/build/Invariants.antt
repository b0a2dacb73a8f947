-- The texts passed are in the row, and no others.
use Rattle.basic_toml_index.specs.Index.{leaves_of}
use Rattle.basic_toml_index.proofs.IndexGrows.{IsRowOf}
use Rattle.basic_toml_index.proofs.leaves.build.Given as goal

abbrev pub invariant-loop-position : goal.invariant-loop-position
invariant-loop-position g l = IsRowOf (g.T.Texts.texts l.texts) l.position (leaves_of l.leaves.items)
