use Rattle.basic_toml_read.proofs.Common.{ap, ◌∙◌, refl, true, false, Err, rules, text_at}
use Rattle.basic_toml_read.proofs.header.header_at.Goals as goal
use Rattle.basic_toml_read.proofs.StandsIn.{is_err}
use Rattle.basic_toml_read.proofs.EnoughSteps.{header_is}
use Rattle.basic_toml_read.proofs.GoesOn.{then_from}
use Rattle.basic_toml_read.proofs.HeadersRead.{Opened, by_bracket, half_closed, no_header_keys, one_bracket}
use Rattle.basic_toml_read.proofs.HeadersRead.{two_brackets, unclosed}
use Rattle.basic_toml_read.proofs.header.header_at.Goals.{After-after_blanks, After-after_blanks-in-Some}

one : (c : After-after_blanks) → Opened c.args.text.now c.args.at c.after_blanks.result false
one c = one_bracket c.after_blanks.ensures c.in_ok-inner.ensures.read c.in-None.ensures

two : (c : After-after_blanks-in-Some) → Opened c.args.text.now c.args.at c.after_blanks-in-Some.result true
two c = two_brackets c.after_blanks-in-Some.ensures c.in_ok-inner.ensures.read c.in-Some.ensures

pub returns-in_err-inner-clause-read : goal.returns-in_err-inner-clause-read
returns-in_err-inner-clause-read c =
    let e = c.in_err-inner.ensures.read in
    rw (is_err c.from_residual.ensures.1 ∙ ap (λ s. Err s) e.1)
    (header_is (text_at c.args.text.now c.args.at) ∙ then_from _ e.0)

-- the header of a table
pub returns-in_err-after-in-None : goal.returns-in_err-after-in-None
returns-in_err-after-in-None c =
    let b = one (goal.at.returns-in_err-after-in-None c).After-after_blanks in
    rw (is_err c.from_residual-in_err-after-in-None.ensures.1) (no_header_keys b _ c.in_err-after-in-None.ensures)

pub returns-in_err-end-in-None : goal.returns-in_err-end-in-None
returns-in_err-end-in-None c =
    let b = one (goal.at.returns-in_err-end-in-None c).After-after_blanks in
    let e = c.in_err-end-in-None.ensures.read in
    rw (is_err c.from_residual-in_err-end-in-None.ensures.1 ∙ ap (λ s. Err s) e.1)
    (unclosed b c.in_ok-after-in-None.ensures.read e.0)

pub returns-in_ok-end-in-None-clause-read : goal.returns-in_ok-end-in-None-clause-read
returns-in_ok-end-in-None-clause-read c =
    let b = one (goal.at.returns-in_ok-end-in-None-clause-read c).After-after_blanks in
    let k = c.in_ok-after-in-None.ensures.read in
    let e = c.in_ok-end-in-None.ensures.read in
    let is = by_bracket b k c.in_ok-end-in-None.end e in
    search rules

-- the header of an array
pub returns-in_err-after-in-Some : goal.returns-in_err-after-in-Some
returns-in_err-after-in-Some c =
    let b = two (goal.at.returns-in_err-after-in-Some c).After-after_blanks-in-Some in
    rw (is_err c.from_residual-in_err-after-in-Some.ensures.1) (no_header_keys b _ c.in_err-after-in-Some.ensures)

pub returns-in_err-last-in-Some : goal.returns-in_err-last-in-Some
returns-in_err-last-in-Some c =
    let b = two (goal.at.returns-in_err-last-in-Some c).After-after_blanks-in-Some in
    let e = c.in_err-last-in-Some.ensures.read in
    rw (is_err c.from_residual-in_err-last-in-Some.ensures.1 ∙ ap (λ s. Err s) e.1)
    (unclosed b c.in_ok-after-in-Some.ensures.read e.0)

pub returns-in_err-end-in-Some : goal.returns-in_err-end-in-Some
returns-in_err-end-in-Some c =
    let b = two (goal.at.returns-in_err-end-in-Some c).After-after_blanks-in-Some in
    let e = c.in_err-end-in-Some.ensures.read in
    rw (is_err c.from_residual-in_err-end-in-Some.ensures.1 ∙ ap (λ s. Err s) e.1)
    (half_closed b c.in_ok-after-in-Some.ensures.read c.in_ok-last-in-Some.last c.in_ok-last-in-Some.ensures.read refl
    e.0)

pub returns-in_ok-end-in-Some-clause-read : goal.returns-in_ok-end-in-Some-clause-read
returns-in_ok-end-in-Some-clause-read c =
    let b = two (goal.at.returns-in_ok-end-in-Some-clause-read c).After-after_blanks-in-Some in
    let k = c.in_ok-after-in-Some.ensures.read in
    let closes = c.in_ok-last-in-Some.ensures.read in
    let e = c.in_ok-end-in-Some.ensures.read in
    let is = by_bracket b k c.in_ok-last-in-Some.last closes ∙ then_from _ e.0 in
    search rules
