use Rattle.std.proofs.Common.{List, Err, subst}
use Rattle.toml_path.specs.declared.path.Step as code
use Rattle.toml_path.specs.declared.path.PathError.{PathError}
use Rattle.toml_c.specs.Gets.{along, AnswersPath, Finds, steps_seen}
use Rattle.toml_c.proofs.ValueIsTold.{gets_malformed, gets_no_steps}
use Rattle.toml_c.proofs.get.toml_c_get.Goals as goal

pub returns-in-Ok : goal.returns-in-Ok
returns-in-Ok c =
    along c.in-Ok.ensures (subst (λ (steps : List code.Step). Finds c.args.input.now (steps_seen steps)
    c.args.output.now c.get.new.output c.get.result) c.as_slice.ensures.value c.get.ensures)

pub returns-in-Err-Malformed : goal.returns-in-Err-Malformed
returns-in-Err-Malformed c =
    gets_malformed c.args.input.now c.args.path.now c.args.output.now c.not_found.result
    (subst (λ (e : PathError). AnswersPath c.args.path.now (Err e)) c.in-Err-Malformed.field-0-is
    c.in-Err-Malformed.ensures) c.not_found.ensures

pub returns-in-Err-OutOfMemory : goal.returns-in-Err-OutOfMemory
returns-in-Err-OutOfMemory c =
    gets_no_steps c.args.input.now c.args.path.now c.args.output.now c.not_found-in-Err-OutOfMemory.result
    c.not_found-in-Err-OutOfMemory.ensures
