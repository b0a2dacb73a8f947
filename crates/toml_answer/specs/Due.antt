-- What is due for the bytes of a text. (own)
use Rattle.std.specs.Prelude.{◌≡◌, ℕ, IsUtf8, false, List, Option, None, Err}
use Rattle.basic_toml.specs.Calls.{outcome}
use Rattle.basic_toml.specs.Data.{Data, Members, table}
use Rattle.basic_toml.specs.Nesting.{nesting_limit}
use Rattle.basic_toml.specs.Document.{IsDocument}
use Rattle.basic_toml.specs.Fault.{without_offset, not_text}
use Rattle.basic_toml.specs.Faults as read
use Rattle.basic_toml.specs.FaultText.{fault_text}
use Rattle.basic_toml.specs.DocumentText.{plain, document_text}
use Rattle.basic_toml.specs.Layout.{layout}
use Rattle.basic_toml.specs.PrettyText.{pretty}
use Rattle.basic_toml.specs.ReadFaults.{fault_in}
use Rattle.basic_toml.specs.Reading.{IsTextFault}
use Rattle.basic_toml.specs.Rules.{CallFault}
use Rattle.basic_toml.specs.Shapes.{is_unsupported}
use Rattle.basic_toml.specs.Trees.{written_of}
use Rattle.basic_toml.specs.Impls.{data_calls}
use Rattle.basic_toml.specs.Ser.{fault_kind}
use Rattle.basic_toml.specs.tokens.Text.{folded}
use Rattle.toml_answer.specs.declared.Form.{Form}
use Rattle.toml_answer.specs.declared.Form.TheVariants.{AsRead, RowsFirst, Pretty}

-- The status, the text and the place of writing data as it was read: its layout, where no unsupported shape occurs in
-- it; else the first error that its calls meet.
pub data IsWriting (d : Data) : ℕ → List ℕ → Option (ℕ × ℕ) → Type 0 where
  writable : is_unsupported nesting_limit (written_of d) ≡ false → IsWriting d 0 (layout (written_of d)) None
  unwritable : {error : CallFault} → outcome nesting_limit (data_calls d) ≡ Err error
      → IsWriting d 2 (fault_text (without_offset (fault_kind error))) None

-- those of a text that was written
abbrev pub IsTidied : List ℕ → ℕ → List ℕ → Option (ℕ × ℕ) → Type 0
IsTidied due status text place = (status ≡ 0) × (text ≡ due) × (place ≡ None)

-- and those of writing a table in the form that is asked for
abbrev pub IsWritten : Form → Members → ℕ → List ℕ → Option (ℕ × ℕ) → Type 0
IsWritten AsRead members = IsWriting (table members)
IsWritten RowsFirst members = IsTidied (document_text plain members)
IsWritten Pretty members = IsTidied (document_text pretty members)

-- The status, the text, and the line and the column: those of writing the document in the form; an error of a text
-- without a document; or that the bytes are no text.
pub data IsDue (form : Form) (input : List ℕ) : ℕ → List ℕ → Option (ℕ × ℕ) → Type 0 where
  of_document : {members : Members} {status : ℕ} {text : List ℕ} {place : Option (ℕ × ℕ)} → IsUtf8 input
      → IsDocument (folded input) (table members) → IsWritten form members status text place
      → IsDue form input status text place
  refused : {error : read.Fault} → IsUtf8 input → IsTextFault input error
      → IsDue form input 1 (fault_text (fault_in input error)) (fault_in input error).line_column
  not_utf8 : (IsUtf8 input → ⊥) → IsDue form input 1 (fault_text not_text) None
