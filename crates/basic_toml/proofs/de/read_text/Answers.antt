use Rattle.basic_toml.proofs.MemoryIsWanted.{wanted_by_text, wanted_by_type}
use Rattle.basic_toml.proofs.ReadingEnds.{tree_read}
use Rattle.basic_toml.proofs.de.read_text.Goals as goal

pub returns-in_err-tree-clause-memory : goal.returns-in_err-tree-clause-memory
returns-in_err-tree-clause-memory g c =
    wanted_by_text g.T.Deserialize.grows c.args.text.now c.from_residual.result c.in_err-tree.ensures.more

pub returns-clause-read : goal.returns-clause-read
returns-clause-read g c =
    tree_read g.T.Deserialize.takes g.T.Deserialize.reads g.T.Deserialize.faults c.args.text.now c.in_ok-tree.tree
    c.read_from.result c.in_ok-tree.ensures.tree c.read_from.ensures.ok c.read_from.ensures.err

pub returns-clause-memory : goal.returns-clause-memory
returns-clause-memory g c =
    wanted_by_type g.T.Deserialize.grows c.args.text.now c.in_ok-tree.tree c.read_from.result c.in_ok-tree.ensures.tree
    c.read_from.ensures.memory
