use Rattle.basic_toml.proofs.ReadingEnds.{error_located}
use Rattle.basic_toml.proofs.de.tree_in.Goals as goal

pub returns-in-Err-clause-tree : goal.returns-in-Err-clause-tree
returns-in-Err-clause-tree c =
    error_located c.args.text.now c.in-Err.error c.in_text.result c.in-Err.ensures c.in_text.ensures
