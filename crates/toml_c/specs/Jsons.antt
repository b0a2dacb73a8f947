-- What `toml_c_json` gives to its caller. (own)
use Rattle.std.specs.Prelude.{◌≡◌, ℕ, Bool, true, false, List, length, Option, None}
use Rattle.basic_toml.specs.Data.{Data}
use Rattle.basic_toml.specs.Fault.{Fault}
use Rattle.basic_toml.specs.FaultText.{fault_text}
use Rattle.toml_c.specs.Answers.{with_front, answered, Holds, IsRefusal}
use Rattle.toml_c.specs.declared.answer.TomlAnswer.{TomlAnswer}
use Rattle.toml_json_text.specs.Json.{json}
use Rattle.toml_json_text.specs.declared.form.Form.{Form}
use Rattle.toml_json_text.specs.declared.form.Form.TheVariants.{Plain, Tagged}

abbrev pub form_of : Bool → Form
form_of false = Plain
form_of true = Tagged

-- The status, the text, and the line and the column: the JSON of the document; or an error of bytes without one.
pub data IsJsonDue (form : Form) (input : List ℕ) : ℕ → List ℕ → Option (ℕ × ℕ) → Type 0 where
  written : {tree : Data} → Holds input tree → IsJsonDue form input 0 (json form tree) None
  refused : {fault : Fault} → IsRefusal input fault → IsJsonDue form input 1 (fault_text fault) fault.line_column

-- What is due, and as much of its text as there is room for; or, where memory was refused, the memory as it was.
pub data Jsons (form : Form) (input old new : List ℕ) : TomlAnswer → Type 0 where
  due : {status : ℕ} {text : List ℕ} {place : Option (ℕ × ℕ)} → IsJsonDue form input status text place
      → new ≡ with_front old text → Jsons form input old new (answered status (length text) place)
  no_memory : new ≡ old → Jsons form input old new (answered 3 0 None)
