use Rattle.std.proofs.Common.{refl}
use Rattle.basic_toml_tree.specs.Origin.{is_borrowed}
use Rattle.basic_toml_tree.proofs.Foretold.EveryNode.{every_node}
use Rattle.basic_toml_tree.proofs.Foretold.NodesForetold.{slice_foretold}
use Rattle.basic_toml_tree.proofs.laws.every_node_is_foretold.Goals as goal

pub returns-clause-text : goal.returns-clause-text
returns-clause-text c = every_node

pub returns-clause-slices : goal.returns-clause-slices
returns-clause-slices c = λ node. slice_foretold (is_borrowed node) node refl
