use Rattle.std.proofs.Common.{sym, subst}
use Rattle.basic_toml_explain.specs.Explain.{IsWanting}
use Rattle.basic_toml_explain.proofs.ErrorsAreDue.{refusal_found, token_found, end_found}
use Rattle.basic_toml_explain.proofs.explain.wanted.Goals as goal

pub returns-in-Ok-Some : goal.returns-in-Ok-Some
returns-in-Ok-Some c =
    let taken = rw c.in-Ok-Some.field-0-is at c.in-Ok-Some.ensures.found in
    token_found c.args.text.now c.args.at c.args.expected.now c.describe.result.now c.in-Ok-Some.token _
    c.wanted_at.result taken c.describe.ensures c.wanted_at.ensures

pub returns-in-Ok-None : goal.returns-in-Ok-None
returns-in-Ok-None c =
    let over = rw c.in-Ok-None.field-0-is at c.in-Ok-None.ensures.found in
    end_found c.args.text.now c.args.at c.args.expected.now c.wanted_at-in-Ok-None.result over
    c.wanted_at-in-Ok-None.ensures

pub returns-in-Err : goal.returns-in-Err
returns-in-Err c = subst (IsWanting c.args.text.now c.args.at c.args.expected.now) (sym c.from.ensures)
    (refusal_found c.args.text.now c.args.at c.args.expected.now c.in-Err.refusal c.in-Err.ensures.found)
