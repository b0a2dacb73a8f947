use Rattle.basic_toml.specs.View.{entries}
use Rattle.json.specs.Value.{value_view}
use Rattle.json_toml.proofs.AnswerIsDue.{table_due}
use Rattle.json_toml.proofs.answer.answer_to_json.Goals as goal

pub returns-in-Ok : goal.returns-in-Ok
returns-in-Ok c =
    table_due c.args.form c.args.name.now (value_view c.args.json.now) (entries c.in-Ok.table) c.answer_to_table.result c.in-Ok.ensures.ok
    c.answer_to_table.ensures
