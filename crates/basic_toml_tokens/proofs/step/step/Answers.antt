use Rattle.std.proofs.Common.{◌≢◌, get_or}
use Rattle.basic_toml_tokens.proofs.StepIsTheFold.{step_other, step_bare, step_feed}
use Rattle.basic_toml_tokens.proofs.step.step.Goals as goal

pub returns-then-c-ne13 : goal.returns-then-c-ne13
returns-then-c-ne13 c = rw c.len_utf8.ensures.value
    (step_other c.args.text.now c.in-Some.rest.now c.args.at c.in-Some.c c.utf8.text c.requires c.in-Some.ensures
    c.if-c-ne13.true)

pub returns-then-first-ne10 : goal.returns-then-first-ne10
returns-then-first-ne10 c =
    let no : get_or c.in-Some.rest.now 0 0 ≢ 10 = rw c.first.ensures at c.if-first-ne10.true in
    rw c.len_utf8.ensures.value
    (step_bare c.args.text.now c.in-Some.rest.now c.args.at c.in-Some.c c.utf8.text c.requires c.in-Some.ensures no)

pub returns-else-first-ne10 : goal.returns-else-first-ne10
returns-else-first-ne10 c = rw c.len_utf8.ensures.value
    (step_feed c.args.text.now c.in-Some.rest.now c.args.at c.in-Some.c c.utf8.text c.requires c.in-Some.ensures
    c.if-c-ne13.false (rw c.first.ensures at c.if-first-ne10.false))
