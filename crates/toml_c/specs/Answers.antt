-- What a call gives to its caller: an answer, and text in memory of the caller's. (own)
use Rattle.std.specs.Prelude.{◌≡◌, ℕ, true, false, IsUtf8, List, ◌++◌, take, drop, length, Option, Some, None}
use Rattle.basic_toml.specs.Data.{Data}
use Rattle.basic_toml.specs.Document.{IsDocument}
use Rattle.basic_toml.specs.Fault.{Fault, not_text}
use Rattle.basic_toml.specs.Faults as read
use Rattle.basic_toml.specs.ReadFaults.{fault_in}
use Rattle.basic_toml.specs.Reading.{IsTextFault}
use Rattle.basic_toml.specs.tokens.Text.{folded}
use Rattle.toml_answer.specs.Due.{IsDue}
use Rattle.toml_answer.specs.declared.Form.{Form}
use Rattle.toml_c.specs.declared.answer.TomlAnswer.{TomlAnswer}

-- memory with as much of a text at its front as it has room for, and behind it what was there
abbrev pub with_front : {A : Type 0} → List A → List A → List A
with_front memory text = take (length memory) text ++ drop (length text) memory

-- a status, the length of a text, and a line and a column
abbrev pub answered : ℕ → ℕ → Option (ℕ × ℕ) → TomlAnswer
answered status n None = record { status = status; has_place = false; line = 0; column = 0; length = n }
answered status n (Some p) = record { status = status; has_place = true; line = p.0; column = p.1; length = n }

-- What is due for the bytes in a form, and as much of its text as there is room for; or, where memory was refused, the
-- memory as it was.
pub data Tidies (form : Form) (input old new : List ℕ) : TomlAnswer → Type 0 where
  due : {status : ℕ} {text : List ℕ} {place : Option (ℕ × ℕ)} → IsDue form input status text place
      → new ≡ with_front old text → Tidies form input old new (answered status (length text) place)
  no_memory : new ≡ old → Tidies form input old new (answered 3 0 None)

-- bytes that are a text with this document
abbrev pub Holds : List ℕ → Data → Type 0
Holds input tree = IsUtf8 input × IsDocument (folded input) tree

-- why bytes have no document: an error that their text allows, or that they are no text
pub data IsRefusal (input : List ℕ) : Fault → Type 0 where
  refused : {error : read.Fault} → IsUtf8 input → IsTextFault input error → IsRefusal input (fault_in input error)
  not_utf8 : (IsUtf8 input → ⊥) → IsRefusal input not_text
