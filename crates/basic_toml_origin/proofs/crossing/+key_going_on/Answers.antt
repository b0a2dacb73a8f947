use Rattle.std.proofs.Common.{sym, ◌∙◌}
use Rattle.basic_toml_origin.proofs.KeysGoOn.{at_key, at_last, at_none}
use Rattle.basic_toml_origin.proofs.crossing.+key_going_on.Goals as goal

pub returns-in_err-parent : goal.returns-in_err-parent
returns-in_err-parent t c = λ own.
    c.from_residual.ensures
    ∙ sym (at_none c.args.last.now own c.args.keys.now c.args.parents.now c.in_err-parent.ensures.cases)

pub returns-in-None : goal.returns-in-None
returns-in-None t c = λ own.
    sym (at_last c.args.last.now own c.args.keys.now c.args.parents.now c.in_ok-parent.left.now c.in_ok-parent.parent.now
    c.as_str-name.result.now _ c.in-None.ensures.cases c.in_ok-parent.ensures.cases.0 c.as_str-name.ensures.value
    c.if-eq.ensures)

pub returns-in-Some : goal.returns-in-Some
returns-in-Some t c = λ own.
    c.key_going_on.ensures own
    ∙ sym (at_key c.args.last.now own c.args.keys.now c.in-Some.others.now c.args.parents.now c.in_ok-parent.left.now
    c.in-Some.key.now c.in_ok-parent.parent.now c.as_str.result.now c.as_str-name.result.now _ c.in-Some.ensures.cases.0
    c.in_ok-parent.ensures.cases.0 c.as_str.ensures.value c.as_str-name.ensures.value c.if-eq-2.ensures)
