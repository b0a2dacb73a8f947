use Rattle.std.proofs.Common.{rules}
use Rattle.basic_toml_tree.specs.Origin.{offset_of}
use Rattle.basic_toml_tree.proofs.Foretold.NodesForetold.{place_foretold}
use Rattle.basic_toml_tree.proofs.node.Node.place.Goals as goal

pub returns-in-Item-Array-clause-foretold : goal.returns-in-Item-Array-clause-foretold
unfolding offset_of
returns-in-Item-Array-clause-foretold c = place_foretold _ c.args.self (search (rules))

pub returns-in-Item-Plain-clause-foretold : goal.returns-in-Item-Plain-clause-foretold
unfolding offset_of
returns-in-Item-Plain-clause-foretold c = place_foretold _ c.args.self (search (rules))

pub returns-in-Plain-clause-foretold : goal.returns-in-Plain-clause-foretold
unfolding offset_of
returns-in-Plain-clause-foretold c = place_foretold _ c.args.self (search (rules))

pub returns-in_default-clause-foretold : goal.returns-in_default-clause-foretold
unfolding offset_of
returns-in_default-clause-foretold c = place_foretold _ c.args.self (search (rules))
