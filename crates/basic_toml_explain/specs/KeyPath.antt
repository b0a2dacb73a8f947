-- Keys that lead on to an error, as its text shows them: each behind a period.
use Rattle.std.specs.Prelude.{ℕ, List, ◌∷◌, String, string_bytes}
use Rattle.std.specs.List.{flat_map}
use Rattle.std.specs.declared.alloc.Global.{Global}
use Rattle.basic_toml_tokens.specs.Ascii as ascii

abbrev pub behind_period : String Global → List ℕ
behind_period key = ascii.period ∷ string_bytes key

abbrev pub with_periods : List (String Global) → List ℕ
with_periods keys = flat_map behind_period keys
