use Rattle.toml_c.specs.Jsons.{form_of}
use Rattle.toml_c.proofs.AnswersAreMade.{json_due, json_none}
use Rattle.toml_c.proofs.json.toml_c_json.Goals as goal

pub returns-in-Ok : goal.returns-in-Ok
returns-in-Ok c =
    json_due (form_of c.args.is_tagged) c.form_of.result c.args.input.now c.args.output.now c.put.new.memory _
    c.as_bytes-text.result.now c.in-Ok.due.status c.in-Ok.due.line_col c.answered.result c.form_of.ensures
    c.in-Ok.ensures c.as_bytes-text.ensures.value c.put.ensures c.answered.ensures

pub returns-in-Err : goal.returns-in-Err
returns-in-Err c =
    json_none (form_of c.args.is_tagged) c.args.input.now c.args.output.now c.answered-in-Err.result
    c.answered-in-Err.ensures
