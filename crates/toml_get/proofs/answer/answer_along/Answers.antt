use Rattle.toml_get.specs.Fronts.{steps_seen}
use Rattle.toml_get.proofs.AnswersAreDue.{known_said}
use Rattle.toml_get.proofs.answer.answer_along.Goals as goal
use Rattle.toml_streams.specs.Streams.{display_name}

pub returns-in-Ok : goal.returns-in-Ok
returns-in-Ok g c =
    known_said c.args.format (display_name c.args.name.now) (steps_seen c.args.steps.now)
    (g.S.Source.bytes c.args.source.now c.args.name.now) c.display_name-label.result.now c.in-Ok.input.items
    c.as_slice.result.now c.answer_to.result c.display_name-label.ensures c.in-Ok.ensures c.as_slice.ensures.value
    c.answer_to.ensures
