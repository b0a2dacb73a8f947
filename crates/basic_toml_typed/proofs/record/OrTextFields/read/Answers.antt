use Rattle.basic_toml_typed.proofs.RecordsRead.{found_is_read, default_is_read}
use Rattle.basic_toml_typed.proofs.record.OrTextFields.read.Goals as goal

pub returns-in-Some-clause-taken : goal.returns-in-Some-clause-taken
returns-in-Some-clause-taken c =
    (found_is_read _ _ _ _ _ c.in-Some.text (rw c.in-Some.is at c.in_ok-text.ensures.ok), tt)

pub returns-in_ok-from_str-in-None-clause-taken : goal.returns-in_ok-from_str-in-None-clause-taken
returns-in_ok-from_str-in-None-clause-taken c = (
  default_is_read _ _ _ _ _ c.in_ok-from_str-in-None.field-0 (rw c.in-None.is at c.in_ok-text.ensures.ok)
      c.in_ok-from_str-in-None.ensures.ok,
  tt,
)
