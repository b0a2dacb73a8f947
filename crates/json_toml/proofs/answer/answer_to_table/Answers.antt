use Rattle.std.proofs.Common.{rules, string_bytes}
use Rattle.basic_toml.specs.View.{entries}
use Rattle.json_toml.proofs.AnswerIsDue.{too_deep_due}
use Rattle.json_toml.proofs.answer.answer_to_table.Goals as goal

pub returns-in_ok-format-in-Err : goal.returns-in_ok-format-in-Err
returns-in_ok-format-in-Err c =
    too_deep_due c.args.name.now (entries c.args.table.now) c.in-Err.error (string_bytes c.in_ok-format-in-Err.field-0)
    c.in-Err.ensures.text (search rules) c.in_ok-format-in-Err.ensures.ok
