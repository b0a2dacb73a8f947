use Rattle.std.proofs.Common.{◌-◌, length, ap, sym, ◌∙◌}
use Rattle.std.proofs.lemmas.List.{take_rest}
use Rattle.std.specs.Prelude.{if◌then◌else◌}
use Rattle.basic_toml_origin.specs.declared.ways.Meeting.TheVariants.{Apart, Reaches}
use Rattle.basic_toml_origin.proofs.StepsLeft.{element_there}
use Rattle.basic_toml_origin.proofs.ways.meet_element.Goals as goal

pub returns-then-is_element : goal.returns-then-is_element
returns-then-is_element c =
    sym (element_there c.args.path.now c.in-Some.rest.now c.in-Some.step.now c.args.number c.args.left c.is_element.result
    (sym (take_rest c.args.path.now (length c.args.path.now - c.args.left)) ∙ c.in-Some.ensures.cases.0) c.is_element.ensures
    ∙ ap (λ b. if b then Reaches (length c.in-Some.rest.now) else Apart) c.if-is_element.true)

pub returns-else-is_element : goal.returns-else-is_element
returns-else-is_element c =
    sym (element_there c.args.path.now c.in-Some.rest.now c.in-Some.step.now c.args.number c.args.left c.is_element.result
    (sym (take_rest c.args.path.now (length c.args.path.now - c.args.left)) ∙ c.in-Some.ensures.cases.0) c.is_element.ensures
    ∙ ap (λ b. if b then Reaches (length c.in-Some.rest.now) else Apart) c.if-is_element.false)
