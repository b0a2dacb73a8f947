-- What reading a key answers: the key, or its fault.
use Rattle.std.specs.Prelude.{◌⊎◌, ◌≡◌, ℕ, true, List, codes, length, Option, Some, None, Result, Ok, Err}
use Rattle.std.specs.Cow.{cow_str_bytes}
use Rattle.basic_toml_tokens.specs.declared.error.Error.{Error}
use Rattle.basic_toml_tokens.specs.Text.{Text, offset_in}
use Rattle.basic_toml_tokens.specs.TokenAt.{Lexeme, string, IsToken}
use Rattle.basic_toml_tokens.specs.Faults.{IsFault}
use Rattle.basic_toml_tokens.specs.Reading.{Reading, text_of}
use Rattle.basic_toml_explain.specs.declared.key.Key.{Key}
use Rattle.basic_toml_grammar.specs.Sections as sections
use Rattle.basic_toml_grammar.specs.Faults.{multiline_string_key, wanted, Fault}
use Rattle.basic_toml_explain.specs.Error.{token_fault, want_of_memory}
use Rattle.basic_toml_grammar.specs.GrammarFaults.{fault_at, is_key, Stands, IsNot}
use Rattle.basic_toml_grammar.specs.Reader.{key_at}

abbrev pub key_of : Key → sections.Key
key_of k = record { offset = k.offset; text = cow_str_bytes k.text }

-- a multiline string, another token or the end stands where a key is wanted, or no token does
pub data IsKeyStop (end : ℕ) (front : Text) : Fault → Type 0 where
  multiline : {source source' value : List ℕ} {rest : Text} → IsToken source front (string source' value true) rest
      → IsKeyStop end front (fault_at multiline_string_key (offset_in end front))
  other : {found : Option Lexeme} {word : List ℕ} → Stands front found word → IsNot is_key found
      → IsKeyStop end front (fault_at (wanted (codes "a table key") word) (offset_in end front))
  refused : {error : Error} {rest : Text} → IsFault front error rest → IsKeyStop end front (token_fault error)

abbrev pub ReadsKey : Reading → Reading → Result Key Fault → Type 0
ReadsKey old new (Ok k) = (key_at (text_of old) ≡ Some (key_of k, text_of new)) × (new.text ≡ old.text)
ReadsKey old new (Err fault) = (fault ≡ want_of_memory)
    ⊎ ((key_at (text_of old) ≡ None) × IsKeyStop (length old.text) (text_of old) fault)
