-- How reading a text as a type that derives ends. (own)
use Rattle.std.specs.Prelude.{◌≡◌, ℕ, List, Result, Ok, Err}
use Rattle.basic_toml_tokens.specs.Text.{folded}
use Rattle.basic_toml_value.specs.Data.{Data}
use Rattle.basic_toml_grammar.specs.Document.{IsDocument}
use Rattle.basic_toml_error.specs.Fault.{Fault}
use Rattle.basic_toml_error.specs.ReadFaults.{lined}
use Rattle.basic_toml.specs.Reading.{ReadsTree}

-- an error with the line and the column of its offset in the text
abbrev pub HasLine : List ℕ → Fault → Type 0
HasLine text fault = (own : Fault) × (fault ≡ lined text own)

-- A value, only where the text has a document; or what `read_tree` answers, where it has none, and of want of memory;
-- or an error of the type, where it has one.
pub data AnswersText {T : Type 0} (text : List ℕ) : Result T Fault → Type 0 where
  value_read : {tree : Data} {value : T} → IsDocument (folded text) tree → AnswersText text (Ok value)
  no_tree : {fault : Fault} → ReadsTree text (Err fault) → AnswersText text (Err fault)
  not_taken : {tree : Data} {fault : Fault} → IsDocument (folded text) tree → HasLine text fault
      → AnswersText text (Err fault)
