use Rattle.basic_toml_layout.proofs.ViewsOfValues.{view-Table}
use Rattle.toml_get.specs.Fronts.{steps_seen}
use Rattle.toml_get.proofs.AnswersAreDue.{document_due}
use Rattle.toml_get.proofs.answer.answer_to.Goals as goal

pub returns-in_ok-table-in-Ok : goal.returns-in_ok-table-in-Ok
returns-in_ok-table-in-Ok c =
    document_due c.args.input.now c.in-Ok.tree _ c.in-Ok.ensures c.in_ok-table-in-Ok.ensures.table c.args.format
    c.args.name.now (steps_seen c.args.steps.now) _ c.answer_in.result (view-Table _) c.answer_in.ensures
