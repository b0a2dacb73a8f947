use Rattle.std.proofs.Common.{◌≡◌, ◌<◌, ℕ, List, length, get_or, inl, ap, sym, subst, ◌∙◌, arith}
use Rattle.basic_toml_tokens.specs.Reading.{IsStep}
use Rattle.basic_toml_tokens.proofs.StepIsTheFold.{text_end}
use Rattle.basic_toml_tokens.proofs.FirstByteTellsTheToken.{string_found, string_refused, feed_found, other_found}
use Rattle.basic_toml_tokens.proofs.scan.rest.Goals as goal

pub returns-then-at-bytes-clause-found : goal.returns-then-at-bytes-clause-found
returns-then-at-bytes-clause-found c =
    text_end c.args.text.now c.args.at (omega (arith, ap length c.as_bytes-bytes.ensures.value, c.if-at-bytes.true))

pub returns-in-Ok-clause-found : goal.returns-in-Ok-clause-found
returns-in-Ok-clause-found c =
    let same = c.as_bytes-bytes.ensures.value in
    let within : c.args.at < length c.args.text.now =
    omega (arith, ap length same, c.requires.boundary.0, c.if-at-bytes.false) in
    let byte : get_or c.args.text.now c.args.at 0 ≡ get_or c.as_bytes-bytes.result.now c.args.at 0 =
    ap (λ (t : List ℕ). get_or t c.args.at 0) (sym same) in
    string_found c.args.text.now c.args.at c.utf8.text c.requires.boundary within c.in-Ok.quoted c.in-Ok.ensures

pub returns-in-Err-clause-found : goal.returns-in-Err-clause-found
returns-in-Err-clause-found c =
    let same = c.as_bytes-bytes.ensures.value in
    let within : c.args.at < length c.args.text.now =
    omega (arith, ap length same, c.requires.boundary.0, c.if-at-bytes.false) in
    string_refused c.args.text.now c.args.at c.utf8.text c.requires.boundary within c.in-Err.stop c.in-Err.ensures

pub returns-in-Some-eq10-default-clause-found : goal.returns-in-Some-eq10-default-clause-found
returns-in-Some-eq10-default-clause-found c =
    let same = c.as_bytes-bytes.ensures.value in
    let within : c.args.at < length c.args.text.now =
    omega (arith, ap length same, c.requires.boundary.0, c.if-at-bytes.false) in
    let byte : get_or c.args.text.now c.args.at 0 ≡ get_or c.as_bytes-bytes.result.now c.args.at 0 =
    ap (λ (t : List ℕ). get_or t c.args.at 0) (sym same) in
    feed_found c.args.text.now c.args.at c.utf8.text c.requires.boundary within c.in-Some-eq10-default.next
    (subst (λ (x : ℕ). IsStep c.args.text.now c.args.at x c.in-Some-eq10-default.next)
    c.in-Some-eq10-default.field-0-0-test c.in-Some-eq10-default.ensures)

pub returns-in-Some-clause-found : goal.returns-in-Some-clause-found
returns-in-Some-clause-found c =
    let same = c.as_bytes-bytes.ensures.value in
    let within : c.args.at < length c.args.text.now =
    omega (arith, ap length same, c.requires.boundary.0, c.if-at-bytes.false) in
    let byte : get_or c.args.text.now c.args.at 0 ≡ get_or c.as_bytes-bytes.result.now c.args.at 0 =
    ap (λ (t : List ℕ). get_or t c.args.at 0) (sym same) in
    inl (other_found c.args.text.now c.args.at c.utf8.text c.requires.boundary within c.in-Some.c
    c.in-Some.next c.in-Some.ensures c.in-Some.c-test.1 c.requires.untold
    (λ e. c.if-byte-eq34.false (sym byte ∙ e)) (λ e. c.if-byte-eq39.false (sym byte ∙ e)))
