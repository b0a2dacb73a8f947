use Rattle.std.proofs.Common.{◌≡◌, ap, sym, ◌∙◌}
use Rattle.basic_toml.specs.Fault.{Fault}
use Rattle.toml_c.specs.Gets.{steps_seen}
use Rattle.toml_c.proofs.ValueIsTold.{finds_in_document, finds_no_document, finds_no_memory}
use Rattle.toml_c.proofs.get.get.Goals as goal

pub returns-in-Ok : goal.returns-in-Ok
returns-in-Ok c =
    finds_in_document c.args.input.now c.in-Ok.table (steps_seen c.args.steps.now) c.args.output.now c.get_in.new.output
    c.get_in.result c.in-Ok.ensures.ok c.get_in.ensures

pub returns-in-Err : goal.returns-in-Err
returns-in-Err c =
    finds_no_memory c.args.input.now (steps_seen c.args.steps.now) c.args.output.now c.not_found.result
    c.not_found.ensures

pub returns-in-Err-2 : goal.returns-in-Err-2
returns-in-Err-2 c =
    let same : c.in-Err.error ≡ c.in-Err-2.field-0 = cc (sym c.in-Err.is ∙ c.in-Err-2.is) in
    let why = c.in-Err-2.ensures.err (λ e. let yes = c.is_out_of_memory.ensures.1 (ap (λ (f : Fault). f.kind) same ∙ e)
    in let no = c.if-is_out_of_memory.false in cc) in
    finds_no_document c.args.input.now (steps_seen c.args.steps.now) c.args.output.now c.in-Err-2.field-0
    c.not_found-in-Err-2.result why c.not_found-in-Err-2.ensures
