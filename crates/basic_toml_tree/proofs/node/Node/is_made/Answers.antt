use Rattle.basic_toml_tree.proofs.Foretold.NodesForetold.{made_foretold}
use Rattle.basic_toml_tree.proofs.node.Node.is_made.Goals as goal

pub returns-clause-told : goal.returns-clause-told
returns-clause-told c = made_foretold c.is_made.result c.args.self c.is_made.ensures
