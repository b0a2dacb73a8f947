use Rattle.basic_toml_read.proofs.Common.{arith, rules, text_at, is_blank, after_twice}
use Rattle.basic_toml_read.proofs.front.after_gap.Goals as goal
use Rattle.basic_toml_read.proofs.LeftAfter.{gap_past_blanks, gap_past_feed, gap_stands}

pub loop-next-init : goal.loop-next-init
loop-next-init c =
    let text = text_at c.args.text.now c.args.at in
    let twice = after_twice is_blank text in
    let past = gap_past_blanks text in
    search rules

pub loop-next-preserved : goal.loop-next-preserved
loop-next-preserved c =
    let text = text_at c.args.text.now c.in-Some.next in
    let twice = after_twice is_blank text in
    let past = gap_past_blanks text in
    let feed = gap_past_feed c.in-Some.ensures.0 in
    grind (arith, twice, past, feed)

pub returns-in-None : goal.returns-in-None
returns-in-None c =
    let i = c.loop-next.invariant in
    let stands = gap_stands _ i.bare c.in_default.ensures c.in-None.ensures in
    search rules
