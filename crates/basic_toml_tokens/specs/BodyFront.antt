-- What a scanner finds at the front of a string's body, by its first characters. `Strings` and `Faults` say what it
-- means.
use Rattle.std.specs.Prelude.{ℕ, suc, zero, ◌+◌, ◌-◌, ◌*◌, ◌&&◌, ◌==◌, nat_lt, min, if◌then◌else◌, List, [], ◌∷◌}
use Rattle.std.specs.Prelude.{drop, replicate, Option, Some, None}
use Rattle.std.specs.Char.{digit_value}
use lib.Utf8.{scalar}
use Rattle.basic_toml_tokens.specs.Ascii as ascii
use Rattle.basic_toml_tokens.specs.declared.error.Error.{Error}
use Rattle.basic_toml_tokens.specs.declared.error.Error.TheVariants.{InvalidCharInString, InvalidEscape}
use Rattle.basic_toml_tokens.specs.declared.error.Error.TheVariants.{InvalidHexEscape, InvalidEscapeValue}
use Rattle.basic_toml_tokens.specs.declared.error.Error.TheVariants.{NewlineInString, UnterminatedString}
use Rattle.basic_toml_tokens.specs.Text.{Text, after_run, is_blank, is_comment}
use Rattle.basic_toml_tokens.specs.Strings.{Quotes, count_of, letter_value, hex_count, is_hex, is_space}

-- a piece, the end of the body, or a fault, each with what stands after it
pub data Front : Type 0 where
  more : List ℕ → Text → Front
  closed : List ℕ → Text → Front
  broken : Error → Text → Front

-- n hexadecimal digits, after digits that write u; the letter before them stands at p
abbrev pub hex_front : ℕ → ℕ → ℕ → ℕ → Text → Front
hex_front start p u zero text = if scalar u then more (u ∷ []) text else broken (InvalidEscapeValue p u) text
hex_front start p u (suc n) [] = broken (UnterminatedString start) []
hex_front start p u (suc n) (x ∷ text) =
    if is_hex x.1 then hex_front start p (u * 16 + digit_value x.1) n text else broken (InvalidHexEscape x.0 x.1) text

-- after a backslash and blanks, of which y was the first
abbrev pub blanks_front : ℕ → ℕ × ℕ → Text → Front
blanks_front start y [] = broken (UnterminatedString start) []
blanks_front start y (x ∷ text) =
    if x.1 == ascii.line_feed then more [] (after_run is_space text) else broken (InvalidEscape y.0 y.1) (x ∷ text)

-- the letter y after a backslash, as it stands for a character, asks for digits, or neither
abbrev pub letter_front : Quotes → ℕ → ℕ × ℕ → Text → Option ℕ → Option ℕ → Front
letter_front k start y text (Some v) digits = more (v ∷ []) text
letter_front k start y text None (Some n) = hex_front start y.0 0 n text
letter_front k start y text None None =
    if k.multiline && is_space y.1 then blanks_front start y (after_run is_blank (y ∷ text)) else broken
    (InvalidEscape y.0 y.1) text

-- after a backslash
abbrev pub escape_front : Quotes → ℕ → Text → Front
escape_front k start [] = broken (UnterminatedString start) []
escape_front k start (y ∷ text) = letter_front k start y text (letter_value y.1) (hex_count y.1)

-- n delimiters
abbrev pub delimiters_front : Quotes → Text → ℕ → Front
delimiters_front k text n =
    if nat_lt n 3 then more (replicate n k.delimiter) (drop n text) else closed (replicate (min n 5 - 3) k.delimiter)
    (drop (min n 5) text)

abbrev pub front_of : Quotes → ℕ → Text → Front
front_of k start [] = broken (UnterminatedString start) []
front_of k start (x ∷ text) =
    if x.1 == k.delimiter then
    (if k.multiline then delimiters_front k (x ∷ text) (count_of k.delimiter (x ∷ text)) else closed [] text)
    else if x.1 == ascii.backslash && k.delimiter == ascii.double_quote then escape_front k start text
    else if x.1 == ascii.line_feed then
    (if k.multiline then more (ascii.line_feed ∷ []) text else broken (NewlineInString x.0) text)
    else if is_comment x.1 then more (x.1 ∷ []) text
    else broken (InvalidCharInString x.0 x.1) text
