-- The token that stands at the front of a text, with what stands after it (TOML v0.5.0; 'Colon' and 'Plus' are own).
-- One of nine characters of punctuation or a line feed; the longest run of blanks, or of keylike characters; `#` and
-- the longest run of comment characters; a string.
use Rattle.std.specs.Prelude.{◌≡◌, ℕ, Bool, true, ◌==◌, if◌then◌else◌, List, ◌∷◌, encode_utf8_all, Option, Some, None}
use Rattle.basic_toml_tokens.specs.Ascii as ascii
use Rattle.basic_toml_tokens.specs.Text.{Text, StartsWith, run, after_run, is_blank, is_keylike, is_comment}
use Rattle.basic_toml_tokens.specs.Strings.{IsString}

-- a token, its texts as bytes
pub data Lexeme : Type 0 where
  whitespace : List ℕ → Lexeme
  newline : Lexeme
  comment : List ℕ → Lexeme
  equals : Lexeme
  period : Lexeme
  comma : Lexeme
  colon : Lexeme
  plus : Lexeme
  left_brace : Lexeme
  right_brace : Lexeme
  left_bracket : Lexeme
  right_bracket : Lexeme
  keylike : List ℕ → Lexeme
  string : (source value : List ℕ) (multiline : Bool) → Lexeme

-- a token of one character
abbrev pub punctuation_of : ℕ → Option Lexeme
punctuation_of c =
    if c == ascii.line_feed then Some newline else if c == ascii.equals then Some equals else if c == ascii.period
    then Some period else if c == ascii.comma then Some comma
    else if c == ascii.colon then Some colon else if c == ascii.plus then Some plus else if c == ascii.left_brace then
    Some left_brace else if c == ascii.right_brace then Some right_brace
    else if c == ascii.left_bracket then Some left_bracket else if c == ascii.right_bracket then Some right_bracket
    else None

-- The token at the front. `source` is the bytes from its front to its end, which a string holds: its line feeds may be
-- CR LF there.
pub data IsToken (source : List ℕ) : Text → Lexeme → Text → Type 0 where
  punctuation : {p c : ℕ} {l : Lexeme} {text rest : Text} → StartsWith c text p rest → punctuation_of c ≡ Some l
      → IsToken source text l rest
  blanks : {p c : ℕ} {text next : Text} → StartsWith c text p next → is_blank c ≡ true
      → IsToken source text (whitespace (run is_blank text)) (after_run is_blank text)
  word : {p c : ℕ} {text next : Text} → StartsWith c text p next → is_keylike c ≡ true
      → IsToken source text (keylike (run is_keylike text)) (after_run is_keylike text)
  remark : {p : ℕ} {text next : Text} → StartsWith ascii.hash text p next
      → IsToken source text (comment (encode_utf8_all (ascii.hash ∷ run is_comment next))) (after_run is_comment next)
  quoted : {p : ℕ} {m : Bool} {value : List ℕ} {text rest : Text} → IsString text p m value rest
      → IsToken source text (string source (encode_utf8_all value) m) rest
