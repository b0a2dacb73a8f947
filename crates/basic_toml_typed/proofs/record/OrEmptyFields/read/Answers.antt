use Rattle.basic_toml_typed.proofs.RecordsRead.{found_is_read, default_is_read}
use Rattle.basic_toml_typed.proofs.record.OrEmptyFields.read.Goals as goal

pub returns-in-Some-clause-taken : goal.returns-in-Some-clause-taken
returns-in-Some-clause-taken g c =
    (found_is_read _ _ _ _ _ c.in-Some.list (rw c.in-Some.is at c.in_ok-list.ensures.ok), tt)

pub returns-in-None-clause-taken : goal.returns-in-None-clause-taken
returns-in-None-clause-taken g c =
    (default_is_read _ _ _ _ _ c.new.result (rw c.in-None.is at c.in_ok-list.ensures.ok) c.new.ensures.items, tt)
