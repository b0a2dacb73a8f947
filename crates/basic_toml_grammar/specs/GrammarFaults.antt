-- What the faults of a text outside the grammar speak of, own: what is found where another thing is wanted, a word that is
-- no value, and the faults of tokens. Which fault such a text is due, `Viable` says.
use Rattle.std.specs.Prelude.{◌≡◌, ℕ, Bool, true, false, not, ◌&&◌, ◌||◌, ◌==◌, List, [], ◌∷◌, codes, Option, Some}
use Rattle.std.specs.Prelude.{None}
use Rattle.std.specs.Char.{is_ascii_digit}
use Rattle.std.specs.Str.{bytes_eq}
use Rattle.basic_toml_tokens.specs.Ascii as ascii
use Rattle.basic_toml_tokens.specs.declared.error.Error.{Error}
use Rattle.basic_toml_tokens.specs.declared.error.Error.TheVariants.{InvalidCharInString, InvalidEscape}
use Rattle.basic_toml_tokens.specs.declared.error.Error.TheVariants.{InvalidHexEscape, InvalidEscapeValue}
use Rattle.basic_toml_tokens.specs.declared.error.Error.TheVariants.{NewlineInString, Unexpected, UnterminatedString}
use Rattle.basic_toml_tokens.specs.Text.{Text}
use Rattle.basic_toml_tokens.specs.TokenAt.{Lexeme, keylike, string, IsToken}
use Rattle.basic_toml_tokens.specs.Descriptions.{description_of}
use Rattle.basic_toml_grammar.specs.Faults.{FaultKind, invalid_char_in_string, invalid_escape, invalid_hex_escape}
use Rattle.basic_toml_grammar.specs.Faults.{invalid_escape_value, newline_in_string, unexpected, unterminated_string}
use Rattle.basic_toml_grammar.specs.Faults.{Fault}

-- a key begins with this
abbrev pub is_key : Lexeme → Bool
is_key (keylike _) = true
is_key (string _ _ _) = true
is_key _ = false

-- a word that is neither a value nor the beginning of a number
abbrev pub is_unquoted : List ℕ → Bool
is_unquoted [] = false
is_unquoted (c ∷ cs) =
    not (is_ascii_digit c || c == ascii.hyphen)
    && not ((bytes_eq (c ∷ cs) (codes "true") || bytes_eq (c ∷ cs) (codes "false")) ||
    (bytes_eq (c ∷ cs) (codes "inf") || bytes_eq (c ∷ cs) (codes "nan")))

-- what stands at an offset: a token, by its word, or the end
pub data Stands : Text → Option Lexeme → List ℕ → Type 0 where
  token : {source : List ℕ} {text rest : Text} {l : Lexeme} → IsToken source text l rest
      → Stands text (Some l) (description_of l)
  end : Stands [] None (codes "eof")

-- what is found, if it is a token, is not of this kind
abbrev pub IsNot : (Lexeme → Bool) → Option Lexeme → Type 0
IsNot p None = Unit {0}
IsNot p (Some l) = p l ≡ false

-- the fault of a token, as the reader answers it
abbrev pub fault_at : FaultKind → ℕ → Fault
fault_at kind offset = record { kind = kind; offset = Some offset; key_path = [] }

pub data IsTokenFault : Error → Fault → Type 0 where
  char : {p c : ℕ} → IsTokenFault (InvalidCharInString p c) (fault_at (invalid_char_in_string c) p)
  escape : {p c : ℕ} → IsTokenFault (InvalidEscape p c) (fault_at (invalid_escape c) p)
  hex_escape : {p c : ℕ} → IsTokenFault (InvalidHexEscape p c) (fault_at (invalid_hex_escape c) p)
  escape_value : {p n : ℕ} → IsTokenFault (InvalidEscapeValue p n) (fault_at (invalid_escape_value n) p)
  feed : {p : ℕ} → IsTokenFault (NewlineInString p) (fault_at newline_in_string p)
  other_char : {p c : ℕ} → IsTokenFault (Unexpected p c) (fault_at (unexpected c) p)
  open_string : {p : ℕ} → IsTokenFault (UnterminatedString p) (fault_at unterminated_string p)
