use Rattle.basic_toml_read.proofs.Common.{arith, text_at}
use Rattle.basic_toml_read.proofs.front.after_joint.Goals as goal
use Rattle.basic_toml_read.proofs.LeftAfter.{no_joint}

pub returns-in-None : goal.returns-in-None
returns-in-None c =
    grind (arith, no_joint (text_at c.args.text.now c.args.at) c.in-None.ensures, c.after_punctuation-in-None.ensures)
