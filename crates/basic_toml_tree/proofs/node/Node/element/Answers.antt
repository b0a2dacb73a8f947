use Rattle.std.proofs.Common.{rules}
use Rattle.basic_toml_tree.proofs.Nodes.NodesCome.{item_comes}
use Rattle.basic_toml_tree.proofs.node.Node.element.Goals as goal

pub returns-clause-comes : goal.returns-clause-comes
returns-clause-comes c = item_comes c.args.child.now _ c.args.self.count (search (rules))
