-- Why no token stands at the front of a text, and what stands after the offset where that is clear (own).
-- A string is refused at its first piece that is none, with the character or the number that stands there, or where the
-- text ends before it closes.
use Rattle.std.specs.Prelude.{◌≡◌, ◌≢◌, ◌≤◌, ◌<◌, ℕ, Bool, true, false, not, ◌&&◌, ◌||◌, ◌==◌, nat_lt, List, []}
use Rattle.std.specs.Prelude.{length, drop, Some, is_none}
use Rattle.std.specs.Char.{IsScalar}
use Rattle.basic_toml_tokens.specs.Ascii as ascii
use Rattle.basic_toml_tokens.specs.declared.error.Error.{Error}
use Rattle.basic_toml_tokens.specs.declared.error.Error.TheVariants.{InvalidCharInString, InvalidEscape}
use Rattle.basic_toml_tokens.specs.declared.error.Error.TheVariants.{InvalidHexEscape, InvalidEscapeValue}
use Rattle.basic_toml_tokens.specs.declared.error.Error.TheVariants.{NewlineInString, Unexpected, UnterminatedString}
use Rattle.basic_toml_tokens.specs.Text.{Text, StartsWith, run, after_run, is_blank, is_keylike}
use Rattle.basic_toml_tokens.specs.Strings.{Quotes, is_quote, letter_value, hex_count, is_hex, hex_value, is_space}
use Rattle.basic_toml_tokens.specs.Strings.{Pieces, Opens}
use Rattle.basic_toml_tokens.specs.TokenAt.{punctuation_of}

-- a control character that no string holds: U+007F, or one below U+0020 but a tab and a line feed
abbrev pub is_control : ℕ → Bool
is_control c = c == ascii.delete || (nat_lt c ascii.space && not (c == ascii.tab || c == ascii.line_feed))

-- a character that begins an escape or, on several lines, may begin a continuation
abbrev pub begins_escape : Quotes → ℕ → Bool
begins_escape k c = (not (is_none (letter_value c)) || not (is_none (hex_count c))) || (k.multiline && is_space c)

-- The front of a body is no piece and does not close the string that begins at `start`.
pub data Breaks (k : Quotes) (start : ℕ) : Text → Error → Text → Type 0 where
  over : Breaks k start [] (UnterminatedString start) []
  feed : {p : ℕ} {text rest : Text} → k.multiline ≡ false → StartsWith ascii.line_feed text p rest
      → Breaks k start text (NewlineInString p) rest
  control : {p c : ℕ} {text rest : Text} → StartsWith c text p rest → is_control c ≡ true
      → Breaks k start text (InvalidCharInString p c) rest
  over_in_escape : {p : ℕ} {text : Text} → k.delimiter ≡ ascii.double_quote → StartsWith ascii.backslash text p []
      → Breaks k start text (UnterminatedString start) []
  escape : {p q c : ℕ} {text next rest : Text} → k.delimiter ≡ ascii.double_quote
      → StartsWith ascii.backslash text p next → StartsWith c next q rest → begins_escape k c ≡ false
      → Breaks k start text (InvalidEscape q c) rest
  -- blanks after a backslash, with no line feed after them
  blank : {p q r b c : ℕ} {text next after rest : Text} → k.delimiter ≡ ascii.double_quote → k.multiline ≡ true
      → StartsWith ascii.backslash text p next → StartsWith b next q after → is_blank b ≡ true
      → StartsWith c (after_run is_blank next) r rest → c ≢ ascii.line_feed
      → Breaks k start text (InvalidEscape q b) (after_run is_blank next)
  over_in_blanks : {p q b : ℕ} {text next after : Text} → k.delimiter ≡ ascii.double_quote → k.multiline ≡ true
      → StartsWith ascii.backslash text p next → StartsWith b next q after → is_blank b ≡ true
      → after_run is_blank next ≡ [] → Breaks k start text (UnterminatedString start) []
  hex : {p q r c d n : ℕ} {text next digits rest : Text} → k.delimiter ≡ ascii.double_quote
      → StartsWith ascii.backslash text p next → StartsWith c next q digits → hex_count c ≡ Some n
      → length (run is_hex digits) < n → StartsWith d (after_run is_hex digits) r rest
      → Breaks k start text (InvalidHexEscape r d) rest
  over_in_hex : {p q c n : ℕ} {text next digits : Text} → k.delimiter ≡ ascii.double_quote
      → StartsWith ascii.backslash text p next → StartsWith c next q digits → hex_count c ≡ Some n
      → length (run is_hex digits) < n → after_run is_hex digits ≡ []
      → Breaks k start text (UnterminatedString start) []
  value : {p q c n : ℕ} {text next digits : Text} → k.delimiter ≡ ascii.double_quote
      → StartsWith ascii.backslash text p next → StartsWith c next q digits → hex_count c ≡ Some n
      → n ≤ length (run is_hex digits) → ¬ IsScalar (hex_value n digits)
      → Breaks k start text (InvalidEscapeValue q (hex_value n digits)) (drop n digits)

-- a character that begins a token
abbrev pub begins_token : ℕ → Bool
begins_token c = (not (is_none (punctuation_of c)) || is_blank c) || (is_keylike c || (c == ascii.hash || is_quote c))

-- A string opens at the front, and breaks after some pieces.
pub record BreaksString (text : Text) (fault : Error) (rest : Text) : Type 0 where
  pub start : ℕ
  pub kind : Quotes
  pub body : Text
  pub opens : Opens text start kind body
  pub inside : List ℕ
  pub stop : Text
  pub pieces : Pieces kind body inside stop
  pub breaks : Breaks kind start stop fault rest

-- The fault of a text with no token at its front, and where the text goes on after it.
pub data IsFault : Text → Error → Text → Type 0 where
  unexpected : {p c : ℕ} {text rest : Text} → StartsWith c text p rest → begins_token c ≡ false
      → IsFault text (Unexpected p c) rest
  broken : {fault : Error} {text rest : Text} → BreaksString text fault rest → IsFault text fault rest
