use Rattle.json.specs.Value.{value_view}
use Rattle.json_toml.proofs.AnswerIsDue.{json_due}
use Rattle.json_toml.proofs.answer.answer_to_text.Goals as goal

pub returns-in-Ok : goal.returns-in-Ok
returns-in-Ok c =
    json_due c.args.form c.args.name.now c.args.text.now (value_view c.in-Ok.json) c.answer_to_json.result c.requires c.in-Ok.ensures.ok
    c.answer_to_json.ensures
