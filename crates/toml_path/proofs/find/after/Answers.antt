use Rattle.std.proofs.Common.{ap}
use Rattle.basic_toml_value.specs.View.{view}
use Rattle.toml_path.specs.Path.{step_of}
use Rattle.toml_path.proofs.ValuesAreFound.{key_ahead, number_ahead}
use Rattle.toml_path.proofs.find.after.Goals as goal

pub returns-in-Some : goal.returns-in-Some
returns-in-Some c =
    key_ahead (view c.args.value.now) (step_of c.args.step.now) _ c.as_str.result.now c.in-Some.table.now c.get.result
    (ap step_of c.in-Key.is) c.as_str.ensures.value c.in-Some.ensures c.get.ensures

pub returns-in-Some-as_array : goal.returns-in-Some-as_array
returns-in-Some-as_array c =
    number_ahead (view c.args.value.now) (step_of c.args.step.now) c.in-Element.number c.in-Some-as_array.values.now
    c.get-in-Some-as_array.result (ap step_of c.in-Element.is) c.in-Some-as_array.ensures
    c.get-in-Some-as_array.ensures.lookup
