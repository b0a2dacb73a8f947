-- The text of a key or a string, where it stands in place and where in memory of its own.
use Rattle.std.specs.Prelude.{ℕ, List, take, string_bytes}
use Rattle.basic_toml_value.specs.declared.text.Form.{Form}
use Rattle.basic_toml_value.specs.declared.text.Form.TheVariants.{Short, Long}
use Rattle.basic_toml_value.specs.declared.text.Text.{Text}
use Rattle.basic_toml_value.specs.declared.text.Short.{Short as InPlace}

abbrev pub short_bytes : InPlace → List ℕ
short_bytes short = take short.len short.bytes

abbrev pub form_bytes : Form → List ℕ
form_bytes (Short text) = short_bytes text
form_bytes (Long text) = string_bytes text

-- its bytes
unfoldable pub text_bytes : Text → List ℕ
text_bytes text = form_bytes text.form
