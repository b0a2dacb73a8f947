use Rattle.basic_toml_read.proofs.Common.{text_at, rules}
use Rattle.basic_toml_read.proofs.front.after_comment.Goals as goal
use Rattle.basic_toml_read.proofs.LeftAfter.{no_comment}

pub returns-in-None : goal.returns-in-None
returns-in-None c =
    let none = no_comment (text_at c.args.text.now c.args.at) c.in-None.ensures in
    search rules
