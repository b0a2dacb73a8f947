use Rattle.std.proofs.Common.{rules}
use Rattle.basic_toml_tree.specs.Origin.{anchor_of}
use Rattle.basic_toml_tree.proofs.Nodes.NodesAnchored.{anchored}
use Rattle.basic_toml_tree.proofs.node.Node.anchor.Goals as goal

pub returns-else-self-eq0-clause-leads : goal.returns-else-self-eq0-clause-leads
unfolding anchor_of
returns-else-self-eq0-clause-leads c = anchored _ c.args.self (search (rules))
