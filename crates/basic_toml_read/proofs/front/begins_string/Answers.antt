use Rattle.basic_toml_read.proofs.Common.{arith, text_at}
use Rattle.basic_toml_read.proofs.front.begins_string.Goals as goal
use Rattle.basic_toml_read.proofs.LeftAfter.{no_string}

pub returns-in-None : goal.returns-in-None
returns-in-None c =
    let none = no_string (text_at c.args.text.now c.args.at) c.in-None.ensures in
    rw c.is_some.ensures (grind (arith, none, c.after_punctuation-in-None.ensures))
