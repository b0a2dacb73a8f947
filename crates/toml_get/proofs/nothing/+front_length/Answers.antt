use Rattle.std.proofs.Common.{sym, ap, ◌∙◌, option_map, Bor}
use Rattle.basic_toml.specs.View.{view}
use Rattle.basic_toml_value.specs.declared.value.Value.{Value}
use Rattle.toml_get.proofs.FrontsAreLongest.{no_steps_left, front_stopped}
use Rattle.toml_get.proofs.nothing.+front_length.Goals as goal

pub returns-in_default : goal.returns-in_default
returns-in_default t c = no_steps_left (view c.args.value.now) c.args.steps.now c.in_default.ensures.cases

pub returns-in-None : goal.returns-in-None
returns-in-None t c =
    front_stopped (view c.args.value.now) c.args.steps.now c.in-Some.others.now c.in-Some.field-0-0.now
    c.in-Some.ensures.cases.0
    (sym c.value_at.ensures ∙ ap (option_map (λ (found : Bor Value). view found.now)) c.in-None.is)
