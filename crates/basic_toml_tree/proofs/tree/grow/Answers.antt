use Rattle.std.proofs.Common.{◌∙◌, ◌+◌, sym, arith, rules}
use Rattle.std.proofs.lemmas.List.{length-set, drop-set-lt}
use Rattle.basic_toml_tree.specs.FirstStop.{value}
use Rattle.basic_toml_tree.specs.Resolve.{refused}
use Rattle.basic_toml_tree.proofs.SectionsGrown.{want_of, stays_out, goes_on, resolved, begins, none_there}
use Rattle.basic_toml_tree.proofs.tree.grow.Goals as goal

pub returns-in_err-at : goal.returns-in_err-at
returns-in_err-at c = want_of c.args.sections _ (sym c.is_empty.ensures ∙ c.if-is_empty.false) c.from_residual.ensures.1

pub returns-in-Some : goal.returns-in-Some
returns-in-Some c = λ keyed.
    let crossed = rw (c.as_slice.ensures.value, c.in-Some.is) at c.in_ok-at.ensures in
    rw c.at.ensures (refused (value (sym crossed)))

pub returns-in-Err : goal.returns-in-Err
returns-in-Err c = λ keyed.
    stays_out c.loop-number.invariant c.index_mut-section.result.now
    (omega (arith, c.len-number-end.ensures, c.loop-number-test.true, c.loop-number.invariant.count))
    (search (rules, c.index_mut-section.ensures.value))
    (rw (← c.as_slice.ensures.value, ← c.in_ok-at.ensures) (none_there c.in_ok-at.field-0 c.in_default.not-Some))
    _ _ c.in-Err.ensures.named c.enter_section.new.section c.enter_section.ensures.at c.enter_section.ensures.header
    c.error.ensures

pub returns-in_err-push : goal.returns-in_err-push
returns-in_err-push c =
    want_of c.args.sections _ (sym c.is_empty.ensures ∙ c.if-is_empty.false) c.from_residual-in_err-push.ensures.1

pub loop-number-init : goal.loop-number-init
loop-number-init c = begins _ _ _ c.new-headers.ensures c.empty-root.ensures

pub loop-number-preserved : goal.loop-number-preserved
loop-number-preserved c =
    let now = c.loop-number.sections.items in
    let n = c.loop-number.number in
    let new = c.in-Ok.ensures in
    goes_on c.loop-number.invariant c.index_mut-section.result.now
    (omega (arith, c.len-number-end.ensures, c.loop-number-test.true, c.loop-number.invariant.count))
    (search (rules, c.index_mut-section.ensures.value)) _ _ _
    (record { is_in = new.entered; grows = new.origins; marks = new.marks }) (length-set now n _)
    (drop-set-lt (n + 1) now n _ (omega arith))
    (rw (c.enter_section.ensures.at, c.enter_section.ensures.header) at c.in_ok-push.ensures.ok)

pub returns-then-is_empty : goal.returns-then-is_empty
returns-then-is_empty c = λ keyed.
    resolved _ (begins c.args.sections.items _ _ c.new.ensures c.empty.ensures)
    (grind (arith, c.args.sections.ok.0, c.is_empty.ensures, c.if-is_empty.true)) keyed

pub returns : goal.returns
returns c = λ keyed.
    resolved _ c.loop-number.invariant (omega (arith, c.len-number-end.ensures, c.loop-number-test.false)) keyed
