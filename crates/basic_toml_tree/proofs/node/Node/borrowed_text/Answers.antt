use Rattle.std.proofs.Common.{true, false, rules}
use Rattle.basic_toml_tree.proofs.Foretold.NodesForetold.{slice_foretold}
use Rattle.basic_toml_tree.proofs.node.Node.borrowed_text.Goals as goal

pub returns-in-Slice-clause-foretold : goal.returns-in-Slice-clause-foretold
returns-in-Slice-clause-foretold c = slice_foretold true c.args.self (search (rules))

pub returns-in_default-clause-foretold : goal.returns-in_default-clause-foretold
returns-in_default-clause-foretold c = slice_foretold false c.args.self (search (rules))
