use Rattle.basic_toml_numbers.proofs.NumbersLemmas.{float_of-canonical}
use Rattle.basic_toml_numbers.proofs.float.Float.as_str.Goals as goal

pub returns-clause-own_reading : goal.returns-clause-own_reading
returns-clause-own_reading c = rw (← c.self.view_is) (float_of-canonical _ c.self.invariant)
