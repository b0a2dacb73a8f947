-- Laws about tokens and memory. Each is proved as the contract of a function in `laws`.
use Rattle.std.specs.Prelude.{◌≡◌, ◌↔◌, ℕ, true, List, [], Option, None, Result, Ok}
use Rattle.std.specs.Str.{IsUtf8, IsCharBoundary}
use Rattle.basic_toml_tokens.specs.declared.error.Error.{Error}
use Rattle.basic_toml_tokens.specs.declared.error.Error.TheVariants.{OutOfMemory}
use Rattle.basic_toml_tokens.specs.declared.span.Span.{Span}
use Rattle.basic_toml_tokens.specs.declared.token.Token.{Token}
use Rattle.basic_toml_tokens.specs.Text.{Text, StartsWith, text_at}
use Rattle.basic_toml_tokens.specs.Strings.{is_quote}
use Rattle.basic_toml_tokens.specs.TokenAt.{Lexeme}
use Rattle.basic_toml_tokens.specs.Faults.{BreaksString}
use Rattle.basic_toml_tokens.specs.Reading.{Reading, text_of, between}
use Rattle.basic_toml_tokens.specs.Copies.{is_copied, needs_copy, NeedsMemory}
use Rattle.basic_toml_tokens.specs.Token.{TokenAt}
use Rattle.basic_toml_tokens.specs.Tokenizer.{Stops, NextAnswers}

-- want of memory is answered only where memory is needed, and is no fault of the text
abbrev pub WantOfMemoryIsOwed : Type 0
WantOfMemoryIsOwed = (old new : Reading) → Stops old new OutOfMemory → (new ≡ old) × NeedsMemory old.text old.offset

-- memory is needed only where a quote stands
abbrev pub OnlyStringsTakeMemory : Type 0
OnlyStringsTakeMemory = (bytes : List ℕ) (at : ℕ) → NeedsMemory bytes at → (quote : ℕ) × (rest : Text)
    × StartsWith quote (text_at bytes at) at rest × (is_quote quote ≡ true)

-- of the tokens, those need it that ask for a copy
abbrev pub OnlyCopiesTakeMemory : Type 0
OnlyCopiesTakeMemory = (bytes : List ℕ) (at : ℕ) (lexeme : Lexeme) (end : ℕ) → IsUtf8 bytes → IsCharBoundary bytes at
    → TokenAt bytes at lexeme end → NeedsMemory bytes at ↔ (needs_copy lexeme ≡ true)

-- of the strings that break at `stop`, those that ask for a copy before it
abbrev pub OnlyCopiesBeforeABreak : Type 0
OnlyCopiesBeforeABreak = (bytes : List ℕ) (at : ℕ) (fault : Error) (rest : Text) (stop : ℕ) → IsUtf8 bytes
    → IsCharBoundary bytes at → IsCharBoundary bytes stop
    → (b : BreaksString (text_at bytes at) fault rest) → text_at bytes stop ≡ b.stop
    → NeedsMemory bytes at ↔ (is_copied b.kind.multiline (between bytes at stop) ≡ true)

-- the end of a text is answered whatever memory there is
abbrev pub EndTakesNoMemory : Type 0
EndTakesNoMemory = (old new : Reading) (result : Result (Option (Span × Token)) Error) → text_of old ≡ []
    → NextAnswers old new result → (result ≡ Ok None) × (new ≡ old)
