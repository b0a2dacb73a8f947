-- The text of a float, where it stands in place and where in memory of its own.
use Rattle.std.specs.Prelude.{ℕ, List, take, string_bytes}
use Rattle.basic_toml_numbers.specs.declared.float.text.FloatText.{FloatText}
use Rattle.basic_toml_numbers.specs.declared.float.text.FloatText.TheVariants.{Short, Long}
use Rattle.basic_toml_numbers.specs.declared.float.text.Short.{Short as InPlace}

abbrev pub short_bytes : InPlace → List ℕ
short_bytes short = take short.len short.bytes

-- its bytes
abbrev pub text_bytes : FloatText → List ℕ
text_bytes (Short text) = short_bytes text
text_bytes (Long text) = string_bytes text.value
