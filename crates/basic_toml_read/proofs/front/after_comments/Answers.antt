use Rattle.basic_toml_read.proofs.Common.{◌≡◌, arith, rules, text_at, is_comment, after_gap}
use Rattle.basic_toml_read.proofs.front.after_comments.Goals as goal
use Rattle.basic_toml_read.proofs.LeftAfter.{gap_past_line, gap_past_feed, gap_stops}

pub loop-next-init : goal.loop-next-init
loop-next-init c =
    let past = gap_past_line (text_at c.args.text.now c.args.at) in
    search rules

pub loop-next-preserved : goal.loop-next-preserved
loop-next-preserved c =
    let past = gap_past_line (text_at c.args.text.now c.in-Some.next) in
    grind (arith, past, gap_past_feed c.in-Some.ensures.0)

pub returns : goal.returns
returns c =
    let i = c.loop-next.invariant in
    let stops : after_gap is_comment (text_at c.args.text.now c.loop-next.end)
    ≡ text_at c.args.text.now c.loop-next.end =
    rw i.line.1 (gap_stops i.line.0 (rw i.line.1 at c.in_default.ensures)) in
    search rules
