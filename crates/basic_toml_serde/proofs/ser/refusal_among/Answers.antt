use Rattle.basic_toml_serde.specs.Listed.{listed}
use Rattle.basic_toml_serde.proofs.RefusalsHaveKeys.{first_fault}
use Rattle.basic_toml_serde.proofs.ser.refusal_among.Goals as goal

pub returns-in-Ok-Some : goal.returns-in-Ok-Some
returns-in-Ok-Some c =
    let first = rw c.in-Ok-Some.field-0-is at c.in-Ok-Some.ensures in
    first_fault (listed c.args.items.now) c.in-Ok-Some.refusal c.error_of.result first c.error_of.ensures
