-- Where reading stops.
use Rattle.std.specs.Prelude.{◌⊎◌, ◌≡◌, List, ℕ}
use Rattle.std.specs.Str.{IsCharBoundary}
use Rattle.basic_toml_explain.specs.declared.stop.Stop.{Stop}
use Rattle.basic_toml_explain.specs.declared.stop.Why.TheVariants.{Memory}

abbrev pub no_memory : Stop
no_memory = record { at = 0; why = Memory }

-- in the text, but where memory was refused
abbrev pub StopsInside : List ℕ → Stop → Type 0
StopsInside bytes stop = (stop.why ≡ Memory) ⊎ IsCharBoundary bytes stop.at
