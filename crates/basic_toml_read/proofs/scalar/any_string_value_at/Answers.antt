use Rattle.basic_toml_read.proofs.Common.{refl, rules, text_at, MissesString}
use Rattle.basic_toml_read.proofs.scalar.any_string_value_at.Goals as goal
use Rattle.basic_toml_explain.specs.declared.stop.Why.TheVariants.{Value}
use Rattle.basic_toml_read.proofs.ScalarsRead.{string_to, refused_by}

pub returns-in-Ok-clause-read : goal.returns-in-Ok-clause-read
returns-in-Ok-clause-read c =
    let s = c.in-Ok.ensures in
    let is = string_to c.args.text.now c.args.at c.utf8.text c.requires.boundary c.in-Ok.quoted.end s.boundary s.string
    s.spelled s.copied in
    search rules

pub returns-in-Err-clause-read : goal.returns-in-Err-clause-read
returns-in-Err-clause-read c =
    let here = text_at c.args.text.now c.args.at in
    rw c.refused.ensures (
      refused_by c.args.text.now c.args.at c.in-Err.refusal (λ why. MissesString why here) Value c.in-Err.ensures tt
          (λ none. none),
      λ _. refl,
    )
