use Rattle.basic_toml.specs.Data.{table}
use Rattle.basic_toml.specs.View.{entries}
use Rattle.toml_c.proofs.AnswersAreMade.{json_written, json_refused}
use Rattle.toml_c.proofs.json.json_due.Goals as goal

pub returns-in_ok-json_of-in-Ok : goal.returns-in_ok-json_of-in-Ok
returns-in_ok-json_of-in-Ok c =
    json_written c.args.form c.args.input.now (table (entries c.in-Ok.table)) _ c.in-Ok.ensures.ok
    c.in_ok-json_of-in-Ok.ensures

pub returns-in_ok-error_text-in-Err : goal.returns-in_ok-error_text-in-Err
returns-in_ok-error_text-in-Err c =
    json_refused c.args.form c.args.input.now c.in-Err.error _ c.line_col.result
    (c.in-Err.ensures.err c.in_ok-error_text-in-Err.ensures.kind) c.in_ok-error_text-in-Err.ensures.text
    c.line_col.ensures
