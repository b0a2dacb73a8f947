use Rattle.std.proofs.Common.{rules}
use Rattle.basic_toml_tree.specs.Origin.{outer_of}
use Rattle.basic_toml_tree.proofs.Foretold.NodesForetold.{outer_foretold}
use Rattle.basic_toml_tree.proofs.node.Node.outer_place.Goals as goal

pub returns-then-is_made-clause-foretold : goal.returns-then-is_made-clause-foretold
unfolding outer_of
returns-then-is_made-clause-foretold c = outer_foretold _ c.args.self (search (rules))

pub returns-in-Some-clause-foretold : goal.returns-in-Some-clause-foretold
unfolding outer_of
returns-in-Some-clause-foretold c = outer_foretold _ c.args.self (search (rules))

pub returns-in-None-clause-foretold : goal.returns-in-None-clause-foretold
unfolding outer_of
returns-in-None-clause-foretold c = outer_foretold _ c.args.self (search (rules))
