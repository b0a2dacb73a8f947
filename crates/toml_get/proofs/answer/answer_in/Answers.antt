use Rattle.basic_toml.specs.View.{view}
use Rattle.toml_get.specs.Fronts.{steps_seen}
use Rattle.toml_get.specs.Run.{nothing}
use Rattle.toml_get.proofs.AnswersAreDue.{none_there, value_due}
use Rattle.toml_get.proofs.answer.answer_in.Goals as goal

pub returns-in-Some : goal.returns-in-Some
returns-in-Some c =
    value_due (view c.args.document.now) (steps_seen c.args.steps.now) c.value_at.result c.value_at.ensures
    c.args.format c.in-Some.value c.answer_with.result c.in-Some.is c.answer_with.ensures

pub returns-in_ok-nothing_text-in-None : goal.returns-in_ok-nothing_text-in-None
returns-in_ok-nothing_text-in-None c =
    nothing
    (none_there (view c.args.document.now) (steps_seen c.args.steps.now) c.value_at.result c.value_at.ensures
    c.in-None.is)
    c.in_ok-nothing_text-in-None.ensures
