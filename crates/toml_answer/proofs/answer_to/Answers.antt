use Rattle.basic_toml.specs.View.{entries}
use Rattle.basic_toml.specs.TypeReads.{table_takes}
use Rattle.std.proofs.Common.{refl}
use Rattle.toml_answer.specs.Due.{IsDue}
use Rattle.toml_answer.proofs.AnswerIsDue.{error_due, table_fits, writing_due, refused_due}
use Rattle.toml_answer.proofs.answer_to.Goals as goal

pub table_answer-requires : goal.table_answer-requires
table_answer-requires c =
    table_fits table_takes entries c.args.input.now c.in-Ok.table c.in-Ok.ensures.text c.in-Ok.ensures.other

pub returns-in-Ok : goal.returns-in-Ok
returns-in-Ok c =
    writing_due table_takes entries c.args.form c.args.input.now c.in-Ok.table c.table_answer.result
    c.in-Ok.ensures.text c.in-Ok.ensures.other c.table_answer.ensures

pub returns-in-Err : goal.returns-in-Err
returns-in-Err c =
    error_due (IsDue c.args.form c.args.input.now) 1 c.in-Err.fault c.error_answer.result c.error_answer.ensures.status
    c.error_answer.ensures.text c.error_answer.ensures.place c.error_answer.ensures.fault
    (refused_due table_takes entries c.args.form c.args.input.now c.in-Err.fault (λ members. refl)
    c.in-Err.ensures.text c.in-Err.ensures.other)
