use Rattle.basic_toml_read.proofs.Common.{arith, text_end, over_at_end, text_at}
use Rattle.basic_toml_read.proofs.front.after_line.Goals as goal
use Rattle.basic_toml_read.proofs.LeftAfter.{no_end}

pub returns-then-at-text : goal.returns-then-at-text
returns-then-at-text c = grind (arith, text_end c.args.text.now c.args.at (omega arith))

pub returns : goal.returns
returns c =
    let some = over_at_end c.args.text.now c.args.at c.utf8.text c.requires in
    grind (arith, some, no_end (text_at c.args.text.now c.args.at), c.after_feed.ensures)
