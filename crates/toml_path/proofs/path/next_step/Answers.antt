use Rattle.std.proofs.Common.{Some, ap, subst, ◌∙◌, option_map}
use Rattle.std.specs.Cow.{cow_str_bytes}
use Rattle.toml_path.specs.Path.{Answers, IsStepAt, key, element}
use Rattle.toml_path.proofs.StepsAreFound.{step_by_key, step_by_number, no_step}
use Rattle.toml_path.proofs.path.next_step.Goals as goal

pub returns-in-Some : goal.returns-in-Some
returns-in-Some c =
    subst (λ o. Answers IsStepAt c.args.tokens.now.text c.args.tokens.now.offset c.key.new.tokens
    (option_map key (option_map cow_str_bytes o))) c.in-Some.is
    (step_by_key c.args.tokens.now.text c.args.tokens.now.offset c.next_sign.new.tokens c.key.new.tokens _ _
    c.in_ok-next_sign.ensures (c.in-Some-Period.is ∙ ap Some c.in-Some-Period.field-0-is)
    c.in_ok-key-in-Some-Period.ensures)

pub returns-in-Some-2 : goal.returns-in-Some-2
returns-in-Some-2 c =
    subst (λ o. Answers IsStepAt c.args.tokens.now.text c.args.tokens.now.offset c.element.new.tokens
    (option_map element o)) c.in-Some-2.is
    (step_by_number c.args.tokens.now.text c.args.tokens.now.offset c.next_sign.new.tokens c.element.new.tokens _ _
    c.in_ok-next_sign.ensures (c.in-Some-Open.is ∙ ap Some c.in-Some-Open.field-0-is)
    c.in_ok-number-in-Some-Open.ensures)

pub returns-in-Some-Close : goal.returns-in-Some-Close
returns-in-Some-Close c =
    no_step c.args.tokens.now.text c.args.tokens.now.offset c.next_sign.new.tokens c.next_sign.new.tokens _
    c.in_ok-next_sign.ensures (λ e. let is = c.in-Some-Close.is ∙ ap Some c.in-Some-Close.field-0-is in cc)
    (λ e. let is = c.in-Some-Close.is ∙ ap Some c.in-Some-Close.field-0-is in cc)

pub returns-in-None : goal.returns-in-None
returns-in-None c =
    no_step c.args.tokens.now.text c.args.tokens.now.offset c.next_sign.new.tokens c.next_sign.new.tokens _
    c.in_ok-next_sign.ensures (λ e. let is = c.in-None.is in cc) (λ e. let is = c.in-None.is in cc)

pub returns-in-None-2 : goal.returns-in-None-2
returns-in-None-2 c =
    subst (λ o. Answers IsStepAt c.args.tokens.now.text c.args.tokens.now.offset c.key.new.tokens
    (option_map key (option_map cow_str_bytes o))) c.in-None-2.is
    (step_by_key c.args.tokens.now.text c.args.tokens.now.offset c.next_sign.new.tokens c.key.new.tokens _ _
    c.in_ok-next_sign.ensures (c.in-Some-Period.is ∙ ap Some c.in-Some-Period.field-0-is)
    c.in_ok-key-in-Some-Period.ensures)

pub returns-in-None-3 : goal.returns-in-None-3
returns-in-None-3 c =
    subst (λ o. Answers IsStepAt c.args.tokens.now.text c.args.tokens.now.offset c.element.new.tokens
    (option_map element o)) c.in-None-3.is
    (step_by_number c.args.tokens.now.text c.args.tokens.now.offset c.next_sign.new.tokens c.element.new.tokens _ _
    c.in_ok-next_sign.ensures (c.in-Some-Open.is ∙ ap Some c.in-Some-Open.field-0-is)
    c.in_ok-number-in-Some-Open.ensures)
