use Rattle.toml_json.proofs.AnswersAreDue.{json_answered, refusal_answered}
use Rattle.toml_json.proofs.run.answer_to.Goals as goal

pub returns-in_ok-table-in-Ok : goal.returns-in_ok-table-in-Ok
returns-in_ok-table-in-Ok c =
    json_answered c.args.style c.args.name.now c.args.input.now c.in-Ok.tree _ c.json_lines.result c.in-Ok.ensures
    c.in_ok-table-in-Ok.ensures.table c.json_lines.ensures

pub returns-in-Err : goal.returns-in-Err
returns-in-Err c =
    refusal_answered c.args.style c.args.name.now c.args.input.now c.in-Err.unread c.refusal.result c.in-Err.ensures c.refusal.ensures
