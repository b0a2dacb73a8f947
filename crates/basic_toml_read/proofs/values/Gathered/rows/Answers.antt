use Rattle.basic_toml_read.proofs.Common.{◌≡◌, sym, ◌∙◌, ap, arith, None, Err, rules, refl, IsPunctuationEnd, text_at}
use Rattle.basic_toml_read.proofs.Common.{end_of, line_end_at, rows_of, no_lines}
use Rattle.basic_toml_read.proofs.values.Gathered.rows.Goals as goal
use Rattle.basic_toml_read.proofs.StandsIn.{is_err, same_deep, stays_in}
use Rattle.basic_toml_read.proofs.GoesOn.{after_none}
use Rattle.basic_toml_read.proofs.LinesGathered.{lines_start}
use Rattle.basic_toml_read.proofs.LeftAfter.{line_of, no_comment}
use Rattle.basic_toml_read.proofs.RowsRead.{NoHeader, bracket_no_gap, comment_stops, line_here, row_stops, rows_bracket}
use Rattle.basic_toml_read.proofs.RowsRead.{rows_empty, rows_more, rows_over, sign_stands, unended_stops}
use Rattle.basic_toml_read.proofs.values.Gathered.rows.Goals.{After-after_comment, Else-is_some, Else-is_some-2}
use Rattle.basic_toml_explain.proofs.NumberFaultIsFound.{none_from}

-- a line without a header
no_header : (c : Else-is_some) → NoHeader c.args.text.now c.loop-at.at c.after_blanks-front.result
no_header c = record {
  line = line_here _ _ _ c.utf8.text c.loop-at.invariant.boundary c.loop-at-test.true c.after_blanks-front.ensures;
  none = rw (none_from _ (sym c.if-is_some.ensures)) at c.after_punctuation.ensures;
}

-- one of a comment
comment : (c : After-after_comment) → line_of (text_at c.args.text.now c.loop-at.at)
    ≡ text_at c.args.text.now c.after_comment.result
comment c = cc (c.after_blanks-front.ensures.left, c.after_comment.ensures.left)

-- one without a comment at its front
no_hash : (c : Else-is_some-2) → IsPunctuationEnd 35 c.args.text.now c.after_blanks-front.result None
no_hash c = rw (none_from _ (sym c.if-is_some-2.ensures)) at c.after_punctuation-in-loop-at.ensures

same_end : (c : Else-is_some-2) → line_end_at (text_at c.args.text.now c.loop-at.at)
    ≡ end_of (text_at c.args.text.now c.after_blanks-front.result)
same_end c = cc (c.after_blanks-front.ensures.left, no_comment _ (no_hash c))

pub loop-at-init : goal.loop-at-init
unfolding lines_start
loop-at-init c = record {
  got = no_lines;
  lines = lines_start c.args.level c.args.self.now;
  told = after_none (rows_of (text_at c.args.text.now c.args.start));
  boundary = c.requires.boundary;
  forward = omega arith;
  gaps = λ g. (g, refl);
  deep = same_deep;
  holes = stays_in;
}

pub loop-at-preserved-in-Some : goal.loop-at-preserved-in-Some
loop-at-preserved-in-Some c =
    let p = goal.at.loop-at-preserved-in-Some c in
    let l = no_header p.Else-is_some in
    rows_empty c.loop-at.invariant l.line l.none c.after_blanks-front.result c.in-Some.next (same_end p.Else-is_some-2)
    (omega arith) c.in-Some.ensures

pub loop-at-preserved-then-is_some-2 : goal.loop-at-preserved-then-is_some-2
loop-at-preserved-then-is_some-2 c =
    let p = goal.at.loop-at-preserved-then-is_some-2 c in
    let l = no_header p.Else-is_some in
    rows_empty c.loop-at.invariant l.line l.none c.after_comment.result c.in_ok-at.at
    (ap end_of (comment p.After-after_comment)) c.after_comment.ensures.forward c.in_ok-at.ensures.read

pub loop-at-preserved : goal.loop-at-preserved
loop-at-preserved c =
    let p = goal.at.loop-at-preserved c in
    let l = no_header p.Else-is_some in
    rows_more c.loop-at.invariant l.line l.none (same_end p.Else-is_some-2 ∙ c.in-None.ensures)
    c.in_ok-end-in-None.ensures.read c.in_ok-at-in-None.at c.in_ok-at-in-None.ensures.read

pub returns-then-is_some : goal.returns-then-is_some
returns-then-is_some c =
    let i = c.loop-at.invariant in
    let text = c.args.text.now in
    let front = c.after_blanks-front.result in
    let l = line_here text c.loop-at.at front c.utf8.text i.boundary c.loop-at-test.true c.after_blanks-front.ensures in
    let sign = sign_stands 91 text front c.after_punctuation.result c.after_punctuation.ensures c.if-is_some.ensures in
    let read = rows_bracket i l sign.0 sign.1 in
    let none = bracket_no_gap i l sign.0 sign.1 in
    search rules

pub returns-in_err-at : goal.returns-in_err-at
returns-in_err-at c =
    let p = goal.at.returns-in_err-at c in
    let l = no_header p.Else-is_some in
    let same = comment p.After-after_comment in
    let sign = sign_stands 35 c.args.text.now c.after_blanks-front.result c.after_punctuation-in-loop-at.result
    c.after_punctuation-in-loop-at.ensures c.if-is_some-2.ensures in
    let e = c.in_err-at.ensures.read in
    rw (is_err c.from_residual.ensures.1 ∙ ap (λ s. Err s) e.1)
    (comment_stops c.loop-at.invariant l.line l.none (ap end_of same ∙ e.0) sign.0 c.after_comment.result sign.1 same
    e.0 c.after_comment.ensures.boundary)

pub returns-in_err-end-in-None : goal.returns-in_err-end-in-None
returns-in_err-end-in-None c =
    let p = goal.at.returns-in_err-end-in-None c in
    let l = no_header p.Else-is_some in
    rw (is_err c.from_residual-in_err-end-in-None.ensures.1)
    (row_stops c.loop-at.invariant l.line l.none (same_end p.Else-is_some-2 ∙ c.in-None.ensures) c.row.new.self
    (no_hash p.Else-is_some-2) _ c.in_err-end-in-None.ensures)

pub returns-in_err-at-in-None : goal.returns-in_err-at-in-None
returns-in_err-at-in-None c =
    let p = goal.at.returns-in_err-at-in-None c in
    let l = no_header p.Else-is_some in
    let e = c.in_err-at-in-None.ensures in
    rw (is_err c.from_residual-in_err-at-in-None.ensures.1)
    (unended_stops c.loop-at.invariant l.line l.none (same_end p.Else-is_some-2 ∙ c.in-None.ensures)
    c.in_ok-end-in-None.ensures.read _ e.read e.inside)

pub returns-clause-read : goal.returns-clause-read
returns-clause-read c = rows_over c.loop-at.invariant (omega (arith, c.loop-at-test.false))
