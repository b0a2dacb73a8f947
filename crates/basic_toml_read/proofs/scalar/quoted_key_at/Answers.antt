use Rattle.basic_toml_read.proofs.Common.{None, refl, text_at, MissesKey}
use Rattle.basic_toml_read.proofs.scalar.quoted_key_at.Goals as goal
use Rattle.basic_toml_explain.specs.declared.stop.Why.TheVariants.{Key}
use Rattle.basic_toml_read.proofs.ScalarsRead.{key_by_string, refused_by, string_key}

pub returns-in-Ok-clause-read : goal.returns-in-Ok-clause-read
returns-in-Ok-clause-read c =
    string_key c.args.text.now c.args.at c.in-Ok.quoted c.key_of.result c.requires.none c.in-Ok.ensures c.key_of.ensures

pub returns-in-Err-clause-read : goal.returns-in-Err-clause-read
returns-in-Err-clause-read c =
    let here = text_at c.args.text.now c.args.at in
    rw c.refused.ensures (
      refused_by c.args.text.now c.args.at c.in-Err.refusal (λ why. MissesKey why here) Key c.in-Err.ensures tt
          (key_by_string here None c.requires.none),
      λ _. refl,
    )
