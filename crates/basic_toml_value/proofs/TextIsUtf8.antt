-- The bytes of a text are UTF-8.
use Rattle.std.specs.Str.{IsUtf8}
use Rattle.std.proofs.lemmas.Str.{IsUtf8-had, IsUtf8-string_bytes}
use Rattle.basic_toml_value.specs.Text.{form_bytes, text_bytes}
use Rattle.basic_toml_value.specs.declared.text.Form.{Form}
use Rattle.basic_toml_value.specs.declared.text.Form.TheVariants.{Short, Long}
use Rattle.basic_toml_value.specs.declared.text.Text.{Text}

IsUtf8-form_bytes : (form : Form) → IsUtf8 (form_bytes form)
IsUtf8-form_bytes (Short text) = IsUtf8-had _ text.text
IsUtf8-form_bytes (Long text) = IsUtf8-string_bytes text

pub IsUtf8-text_bytes : (text : Text) → IsUtf8 (text_bytes text)
unfolding text_bytes
IsUtf8-text_bytes text = IsUtf8-form_bytes text.form
