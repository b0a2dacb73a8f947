use Rattle.std.proofs.Common.{◌∙◌}
use Rattle.basic_toml.specs.Data.{table}
use Rattle.basic_toml.specs.View.{entries}
use Rattle.toml_c.proofs.AnswersAreMade.{check_toml, check_refused, check_none}
use Rattle.toml_c.proofs.check.toml_c_check.Goals as goal

pub returns-in-Ok : goal.returns-in-Ok
returns-in-Ok c =
    check_toml c.args.input.now c.args.message.now c.args.key_path.now (table (entries c.in-Ok.field-0)) c.found.result
    c.in-Ok.ensures.ok c.found.ensures

pub returns-in-Ok-report_of : goal.returns-in-Ok-report_of
returns-in-Ok-report_of c =
    check_refused c.args.input.now c.args.message.now c.put.new.memory c.args.key_path.now
    c.put-in-Ok-report_of.new.memory c.as_bytes-words.result.now c.as_bytes-keys.result.now c.in-Err.error
    c.in-Ok-report_of.report.places c.found-in-Ok-report_of.result (c.in-Err.ensures.err c.in-Ok-report_of.ensures.kind)
    c.in-Ok-report_of.ensures.places (c.as_bytes-words.ensures.value ∙ c.in-Ok-report_of.ensures.message)
    (c.as_bytes-keys.ensures.value ∙ c.in-Ok-report_of.ensures.keys) c.put.ensures c.put-in-Ok-report_of.ensures
    c.found-in-Ok-report_of.ensures

pub returns : goal.returns
returns c =
    check_none c.args.input.now c.args.message.now c.args.key_path.now c.found-in-Err-report_of.result
    c.found-in-Err-report_of.ensures
