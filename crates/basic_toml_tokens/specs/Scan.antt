-- What the code finds at an offset, against `TokenAt` and `Faults`.
use Rattle.std.specs.Prelude.{◌⊎◌, ◌≡◌, ◌==◌, ◌||◌, ℕ, Bool, false, not, List, [], Option, Some, None, is_none, Result}
use Rattle.std.specs.Prelude.{Ok, Err, slice_index}
use Rattle.basic_toml_tokens.specs.Ascii as ascii
use Rattle.basic_toml_tokens.specs.declared.error.Error.TheVariants.{OutOfMemory}
use Rattle.basic_toml_tokens.specs.declared.string.TokenStop.{TokenStop}
use Rattle.basic_toml_tokens.specs.declared.token.Token.{Token}
use Rattle.basic_toml_tokens.specs.declared.token.Token.TheVariants.{Whitespace, Comment, Keylike, String}
use Rattle.basic_toml_tokens.specs.Text.{text_at, is_blank, is_keylike}
use Rattle.basic_toml_tokens.specs.TokenAt.{punctuation_of}
use Rattle.basic_toml_tokens.specs.Copies.{NeedsMemory}
use Rattle.basic_toml_tokens.specs.Token.{lexeme_of, FaultAt, IsTaken}

-- holds no text
abbrev pub IsBare : Token → Type 0
IsBare (Whitespace text) = ⊥
IsBare (Comment text) = ⊥
IsBare (Keylike text) = ⊥
IsBare (String src val multiline) = ⊥
IsBare _ = Unit {0}

-- a token of one character
abbrev pub IsPunctuation : ℕ → Option Token → Type 0
IsPunctuation c None = punctuation_of c ≡ None
IsPunctuation c (Some t) = (punctuation_of c ≡ Some (lexeme_of t)) × IsBare t

-- the first byte of a token tells that it is no string; that of a CR LF does not
abbrev pub tells_unquoted : ℕ → Bool
tells_unquoted c = (not (is_none (punctuation_of c)) || is_blank c) || (is_keylike c || c == ascii.hash)

-- a token whose first byte tells that it is no string, or None
abbrev pub IsUnquoted : List ℕ → ℕ → Option (Token × ℕ) → Type 0
IsUnquoted bytes at (Some pair) = IsTaken bytes at pair.0 pair.1
IsUnquoted bytes at None = tells_unquoted (slice_index bytes at) ≡ false

abbrev pub IsFound : List ℕ → ℕ → Result (Option (Token × ℕ)) TokenStop → Type 0
IsFound bytes at (Ok None) = text_at bytes at ≡ []
IsFound bytes at (Ok (Some pair)) = IsTaken bytes at pair.0 pair.1
IsFound bytes at (Err stop) = FaultAt bytes at stop.error stop.at
    ⊎ ((stop.error ≡ OutOfMemory) × (stop.at ≡ at) × NeedsMemory bytes at)
