-- A `Token` as a lexeme, and what stands at an offset of a text.
use Rattle.std.specs.Prelude.{◌≡◌, ◌<◌, ◌↔◌, ℕ, false, List}
use Rattle.std.specs.Str.{IsCharBoundary}
use Rattle.std.specs.Cow.{cow_str_bytes, IsBorrowedStr}
use Rattle.basic_toml_tokens.specs.declared.error.Error.{Error}
use Rattle.basic_toml_tokens.specs.declared.token.Token.{Token}
use Rattle.basic_toml_tokens.specs.declared.token.Token.TheVariants as token
use Rattle.basic_toml_tokens.specs.Text.{text_at}
use Rattle.basic_toml_tokens.specs.TokenAt.{Lexeme, whitespace, newline, comment, equals, period, comma, colon, plus}
use Rattle.basic_toml_tokens.specs.TokenAt.{left_brace, right_brace, left_bracket, right_bracket, keylike, string}
use Rattle.basic_toml_tokens.specs.TokenAt.{IsToken}
use Rattle.basic_toml_tokens.specs.Faults.{IsFault}
use Rattle.basic_toml_tokens.specs.Reading.{between}
use Rattle.basic_toml_tokens.specs.Copies.{is_copied}
use Rattle.basic_toml_tokens.specs.String.{IsSlice}

abbrev pub lexeme_of : Token → Lexeme
lexeme_of (token.Whitespace text) = whitespace text.now
lexeme_of token.Newline = newline
lexeme_of (token.Comment text) = comment text.now
lexeme_of token.Equals = equals
lexeme_of token.Period = period
lexeme_of token.Comma = comma
lexeme_of token.Colon = colon
lexeme_of token.Plus = plus
lexeme_of token.LeftBrace = left_brace
lexeme_of token.RightBrace = right_brace
lexeme_of token.LeftBracket = left_bracket
lexeme_of token.RightBracket = right_bracket
lexeme_of (token.Keylike text) = keylike text.now
lexeme_of (token.String src val multiline) = string src.now (cow_str_bytes val) multiline

-- the text of a token is these bytes, where it holds one
abbrev pub HasSource : Token → List ℕ → Type 0
HasSource (token.Whitespace text) bytes = text.now ≡ bytes
HasSource (token.Comment text) bytes = text.now ≡ bytes
HasSource (token.Keylike text) bytes = text.now ≡ bytes
HasSource (token.String src val multiline) bytes = src.now ≡ bytes
HasSource _ bytes = Unit {0}

-- the value of a string is borrowed exactly where nothing in it asks for a copy, and is then a slice of the text
abbrev pub BorrowsRightly : List ℕ → ℕ → Token → ℕ → Type 0
BorrowsRightly bytes at (token.String src val multiline) end =
    (IsBorrowedStr val ↔ (is_copied multiline src.now ≡ false)) × IsSlice bytes at end val
BorrowsRightly bytes at _ end = Unit {0}

-- the token that stands at `at`, up to `end`
pub record TokenAt (bytes : List ℕ) (at : ℕ) (lexeme : Lexeme) (end : ℕ) : Type 0 where
  pub token : IsToken (between bytes at end) (text_at bytes at) lexeme (text_at bytes end)
  pub boundary : IsCharBoundary bytes end
  pub forward : at < end

-- the fault that stands at `at`, after which the text goes on at `next`
pub record FaultAt (bytes : List ℕ) (at : ℕ) (fault : Error) (next : ℕ) : Type 0 where
  pub fault_is : IsFault (text_at bytes at) fault (text_at bytes next)
  pub boundary : IsCharBoundary bytes next
  pub forward : at < next

-- a token of the code, with its texts
pub record IsTaken (bytes : List ℕ) (at : ℕ) (token : Token) (end : ℕ) : Type 0 where
  pub stands : TokenAt bytes at (lexeme_of token) end
  pub source : HasSource token (between bytes at end)
  pub borrows : BorrowsRightly bytes at token end
