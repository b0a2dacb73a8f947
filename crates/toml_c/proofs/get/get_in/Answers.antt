use Rattle.basic_toml.specs.View.{view}
use Rattle.toml_c.specs.Gets.{steps_seen}
use Rattle.toml_c.proofs.ValueIsTold.{finds, finds_nothing}
use Rattle.toml_c.proofs.get.get_in.Goals as goal

pub returns-in-Some : goal.returns-in-Some
returns-in-Some c =
    finds (view c.args.value.now) (steps_seen c.args.steps.now) c.args.output.now c.tell.new.output
    (view c.in-Some.value.now) c.tell.result c.in-Some.ensures c.tell.ensures

pub returns-in-None : goal.returns-in-None
returns-in-None c =
    finds_nothing (view c.args.value.now) (steps_seen c.args.steps.now) c.args.output.now c.not_found.result
    c.in-None.ensures c.not_found.ensures
