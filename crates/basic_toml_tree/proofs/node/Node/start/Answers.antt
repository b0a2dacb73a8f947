use Rattle.std.proofs.Common.{rules}
use Rattle.basic_toml_tree.specs.Origin.{start_of}
use Rattle.basic_toml_tree.proofs.Foretold.NodesForetold.{start_foretold}
use Rattle.basic_toml_tree.proofs.node.Node.start.Goals as goal

pub returns-then-is_made-clause-foretold : goal.returns-then-is_made-clause-foretold
unfolding start_of
returns-then-is_made-clause-foretold c = start_foretold _ c.args.self (search (rules))

pub returns-else-is_made-clause-foretold : goal.returns-else-is_made-clause-foretold
unfolding start_of
returns-else-is_made-clause-foretold c = start_foretold _ c.args.self (search (rules))
