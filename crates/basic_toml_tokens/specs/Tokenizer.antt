-- What the calls of a tokenizer answer, and where it stands afterwards.
use Rattle.std.specs.Prelude.{◌⊎◌, ◌≡◌, ◌≢◌, ◌==◌, ℕ, List, [], ◌∷◌, length, codes, Bool, true, false, if◌then◌else◌}
use Rattle.std.specs.Prelude.{Option, Some, None, Result, Ok, Err}
use Rattle.std.specs.Cow.{cow_str_bytes}
use Rattle.std.specs.declared.alloc.Global.{Global}
use Rattle.std.specs.declared.borrow.CowStr.{CowStr}
use Rattle.basic_toml_tokens.specs.Ascii as ascii
use Rattle.basic_toml_tokens.specs.declared.error.Error.{Error}
use Rattle.basic_toml_tokens.specs.declared.error.Error.TheVariants.{OutOfMemory, Unexpected, Wanted}
use Rattle.basic_toml_tokens.specs.declared.error.Error.TheVariants.{MultilineStringKey}
use Rattle.basic_toml_tokens.specs.declared.span.Span.{Span}
use Rattle.basic_toml_tokens.specs.declared.token.Token.{Token}
use Rattle.basic_toml_tokens.specs.TokenAt.{Lexeme, newline, keylike, string}
use Rattle.basic_toml_tokens.specs.Text.{Text, after_run, is_comment, after_comment}
use Rattle.basic_toml_tokens.specs.Copies.{needs_copy, NeedsMemory}
use Rattle.basic_toml_tokens.specs.Descriptions.{description_of}
use Rattle.basic_toml_tokens.specs.String.{is_owned}
use Rattle.basic_toml_tokens.specs.Token.{lexeme_of, TokenAt, FaultAt, IsTaken}
use Rattle.basic_toml_tokens.specs.Reading.{Reading, text_of}

-- the text stays, and the offset is this
abbrev pub moved : Reading → ℕ → Reading
moved r offset = record { text = r.text; offset = offset }

-- the token at the offset of `old`, with its span, up to the offset of `new`
pub record Takes (old new : Reading) (span : Span) (token : Token) : Type 0 where
  pub taken : IsTaken old.text old.offset token span.end
  pub start : span.start ≡ old.offset
  pub after : new ≡ moved old span.end

-- a fault at the offset of `old`, after which `new` stands; or no memory for the value of a string, with nothing moved
abbrev pub Stops : Reading → Reading → Error → Type 0
Stops old new error =
    (((next : ℕ) × FaultAt old.text old.offset error next × (new ≡ moved old next)))
    ⊎ ((error ≡ OutOfMemory) × (new ≡ old) × NeedsMemory old.text old.offset)

-- what `next` answers
abbrev pub NextAnswers : Reading → Reading → Result (Option (Span × Token)) Error → Type 0
NextAnswers old new (Ok (Some pair)) = Takes old new pair.0 pair.1
NextAnswers old new (Ok None) = (text_of old ≡ []) × (new ≡ old)
NextAnswers old new (Err error) = Stops old new error

-- the result is this token, or memory ran out
abbrev pub AnswersOnly : ℕ → Lexeme → ℕ → Result (Option (Span × Token)) Error → Type 0
AnswersOnly offset l end (Ok (Some pair)) = (lexeme_of pair.1 ≡ l) × (pair.0 ≡ record { start = offset; end = end })
AnswersOnly offset l end (Ok None) = ⊥
AnswersOnly offset l end (Err error) = error ≡ OutOfMemory

-- one folded character
abbrev pub TakesOne : Reading → Reading → Option (ℕ × ℕ) → Type 0
TakesOne old new None = (text_of old ≡ []) × (new ≡ old)
TakesOne old new (Some found) = (text_of old ≡ found ∷ text_of new) × (new.text ≡ old.text)

-- `new` stands after all that `rest` leaves out
pub record Skips (old new : Reading) (rest : Text) : Type 0 where
  pub text : new.text ≡ old.text
  pub left : text_of new ≡ rest

-- after the next line feed
abbrev pub after_line : Text → Text
after_line [] = []
after_line (x ∷ text) = if x.1 == ascii.line_feed then text else after_line text

-- a comment with the line feed after it, or none; else the character that ends it
abbrev pub EatsComment : Reading → Reading → Result Bool Error → Type 0
EatsComment old new (Ok false) = (after_comment (text_of old) ≡ text_of old) × (new ≡ old)
EatsComment old new (Ok true) = (p : ℕ) × (body : Text) × (text_of old ≡ (p, ascii.hash) ∷ body) × (new.text ≡ old.text)
    × (((after_run is_comment body ≡ []) × (text_of new ≡ []))
    ⊎ ((q : ℕ) × (after_run is_comment body ≡ (q, ascii.line_feed) ∷ text_of new)))
EatsComment old new (Err error) = (p : ℕ) × (body : Text) × (q : ℕ) × (c : ℕ) × (text_of old ≡ (p, ascii.hash) ∷ body)
    × (after_run is_comment body ≡ (q, c) ∷ text_of new) × (c ≢ ascii.line_feed)
    × (error ≡ Unexpected q c) × (new.text ≡ old.text)

-- the token l, for another that was called `expected`
pub record FoundOther (old new : Reading) (at : ℕ) (found : List ℕ) (l : Lexeme) : Type 0 where
  pub stands : TokenAt old.text old.offset l new.offset
  pub text : new.text ≡ old.text
  pub offset : at ≡ old.offset
  pub called : found ≡ description_of l

-- the end of the text, for a token
pub record FoundEnd (old new : Reading) (at : ℕ) (found : List ℕ) : Type 0 where
  pub over : text_of old ≡ []
  pub same : new ≡ old
  pub offset : at ≡ length old.text
  pub called : found ≡ codes "eof"

-- `P` says which tokens were wanted, and `expected` what they are called
abbrev pub Wants : Reading → Reading → List ℕ → (Lexeme → Type 0) → Error → Type 0
Wants old new expected P (Wanted at expected' found) =
    (expected'.now ≡ expected)
    × (((l : Lexeme) × FoundOther old new at found.now l × (P l → ⊥)) ⊎ FoundEnd old new at found.now)
Wants old new expected P _ = ⊥

-- the token `expected` is taken
pub record IsExpected (old new : Reading) (span : Span) (expected : Lexeme) : Type 0 where
  pub stands : TokenAt old.text old.offset expected span.end
  pub start : span.start ≡ old.offset
  pub after : new ≡ moved old span.end

-- another token than `expected` stands there, or none
abbrev pub StandsOther : Reading → Lexeme → Type 0
StandsOther old expected = (text_of old ≡ [])
    ⊎ ((l : Lexeme) × (end : ℕ) × TokenAt old.text old.offset l end × (l ≢ expected))

-- a fault of `next`, with nothing moved
abbrev pub Peeks : Reading → Reading → Error → Type 0
Peeks old new error = (new ≡ old) × ((ahead : Reading) × Stops old ahead error)

abbrev pub EatsSpanned : Lexeme → Reading → Reading → Result (Option Span) Error → Type 0
EatsSpanned expected old new (Ok (Some span)) = IsExpected old new span expected
EatsSpanned expected old new (Ok None) = StandsOther old expected × (new ≡ old)
EatsSpanned expected old new (Err error) = Peeks old new error

abbrev pub Eats : Lexeme → Reading → Reading → Result Bool Error → Type 0
Eats expected old new (Ok true) = TokenAt old.text old.offset expected new.offset × (new.text ≡ old.text)
Eats expected old new (Ok false) = StandsOther old expected × (new ≡ old)
Eats expected old new (Err error) = Peeks old new error

abbrev pub ExpectsSpanned : Lexeme → Reading → Reading → Result Span Error → Type 0
ExpectsSpanned expected old new (Ok span) = IsExpected old new span expected
ExpectsSpanned expected old new (Err error) = Stops old new error
    ⊎ Wants old new (description_of expected) (λ l. l ≡ expected) error

abbrev pub Expects : Lexeme → Reading → Reading → Result (Unit {0}) Error → Type 0
Expects expected old new (Ok _) = TokenAt old.text old.offset expected new.offset × (new.text ≡ old.text)
Expects expected old new (Err error) = Stops old new error
    ⊎ Wants old new (description_of expected) (λ l. l ≡ expected) error

-- a line feed or the end
abbrev pub EndsLine : Reading → Reading → Result (Unit {0}) Error → Type 0
EndsLine old new (Ok _) = ((text_of old ≡ []) × (new ≡ old))
    ⊎ (TokenAt old.text old.offset newline new.offset × (new.text ≡ old.text))
EndsLine old new (Err error) = Stops old new error ⊎ Wants old new (codes "newline") (λ l. l ≡ newline) error

-- a keylike token or a string
abbrev pub IsKeyLike : Lexeme → Type 0
IsKeyLike (keylike text) = Unit {0}
IsKeyLike (string source value multiline) = Unit {0}
IsKeyLike _ = ⊥

-- the key that a token is: a keylike token, or a one-line string, and its text
abbrev pub key_of : Lexeme → Option (List ℕ)
key_of (keylike text) = Some text
key_of (string source value false) = Some value
key_of _ = None

pub record IsKeyTaken (old new : Reading) (span : Span) (key : List ℕ) (owned : Bool) : Type 0 where
  pub lexeme : Lexeme
  pub stands : TokenAt old.text old.offset lexeme span.end
  pub key_is : key_of lexeme ≡ Some key
  pub copied : owned ≡ needs_copy lexeme
  pub start : span.start ≡ old.offset
  pub after : new ≡ moved old span.end

-- a multiline string, where a key is wanted
abbrev pub IsMultilineKey : Reading → Reading → Error → Type 0
IsMultilineKey old new (MultilineStringKey at) = (at ≡ old.offset) × (new.text ≡ old.text)
    × ((source : List ℕ) × (value : List ℕ) × TokenAt old.text old.offset (string source value true) new.offset)
IsMultilineKey old new _ = ⊥

abbrev pub TakesKey : Reading → Reading → Result (Span × CowStr Global) Error → Type 0
TakesKey old new (Ok pair) = IsKeyTaken old new pair.0 (cow_str_bytes pair.1) (is_owned pair.1)
TakesKey old new (Err error) = Stops old new error
    ⊎ (IsMultilineKey old new error ⊎ Wants old new (codes "a table key") IsKeyLike error)
