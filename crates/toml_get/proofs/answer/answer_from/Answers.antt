use Rattle.toml_get.proofs.AnswersAreDue.{path_said}
use Rattle.toml_get.proofs.answer.answer_from.Goals as goal
use Rattle.toml_streams.specs.Streams.{display_name}

pub returns-in-Ok : goal.returns-in-Ok
returns-in-Ok g c =
    path_said c.args.format (display_name c.args.name.now) c.args.path.now
    (g.S.Source.bytes c.args.source.now c.args.name.now) c.in-Ok.steps.items c.as_slice.result.now
    c.answer_along.result c.in-Ok.ensures.0 c.as_slice.ensures.value c.answer_along.ensures
