use Rattle.std.proofs.Common.{refl, rules, ◌∙◌}
use Rattle.basic_toml.specs.View.{view}
use Rattle.toml_c.proofs.ValueIsTold.{tells, tells_nothing}
use Rattle.toml_c.proofs.get.tell.Goals as goal

pub returns-in-Ok : goal.returns-in-Ok
returns-in-Ok c =
    tells (view c.args.value.now) c.args.output.now c.put.new.memory c.as_bytes-text.result.now c.kind_of.result
    c.count_of.result _ _ _ (c.as_bytes-text.ensures.value ∙ c.in-Ok.ensures) c.put.ensures c.kind_of.ensures
    (search rules) c.count_of.ensures refl refl

pub returns-in-Err : goal.returns-in-Err
returns-in-Err c = tells_nothing (view c.args.value.now) c.args.output.now c.not_found.result c.not_found.ensures
