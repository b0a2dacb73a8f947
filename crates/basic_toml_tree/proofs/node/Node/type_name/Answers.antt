use Rattle.basic_toml_tree.specs.Origin.{name_of}
use Rattle.basic_toml_tree.proofs.Foretold.NodesForetold.{name_foretold}
use Rattle.basic_toml_tree.proofs.node.Node.type_name.Goals as goal

pub returns-clause-foretold : goal.returns-clause-foretold
unfolding name_of
returns-clause-foretold c = name_foretold c.type_name.result.now c.args.self c.type_name.ensures
