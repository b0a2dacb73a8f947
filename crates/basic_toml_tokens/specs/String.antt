-- What the code takes for a string, against `Strings` and `Faults`.
use Rattle.std.specs.Prelude.{◌⊎◌, ◌≡◌, ◌≤◌, ◌<◌, ℕ, Bool, true, false, List, [], length, Option, Some, None}
use Rattle.std.specs.Prelude.{string_bytes, String, encode_utf8_all}
use Rattle.std.specs.Str.{IsCharBoundary}
use Rattle.std.specs.List.{list_any}
use Rattle.std.specs.Cow.{cow_str_bytes}
use Rattle.std.specs.declared.alloc.Global.{Global}
use Rattle.std.specs.declared.borrow.CowStr.{CowStr}
use Rattle.std.specs.declared.borrow.CowStr.TheVariants.{Borrowed, Owned}
use Rattle.basic_toml_tokens.specs.declared.error.Error.TheVariants.{OutOfMemory}
use Rattle.basic_toml_tokens.specs.declared.quote.Quote.{Quote}
use Rattle.basic_toml_tokens.specs.declared.string.Quoted.{Quoted}
use Rattle.basic_toml_tokens.specs.declared.string.TokenStop.{TokenStop}
use Rattle.basic_toml_tokens.specs.Text.{Text, StartsWith, text_at}
use Rattle.basic_toml_tokens.specs.Strings.{Quotes, is_quote, is_plain, Opens, IsString}
use Rattle.basic_toml_tokens.specs.Faults.{BreaksString}
use Rattle.basic_toml_tokens.specs.Reading.{between}
use Rattle.basic_toml_tokens.specs.Copies.{is_special, is_copied, NeedsMemory}
use Rattle.basic_toml_tokens.specs.Quote.{kind_of}

-- the copy so far
abbrev pub copied_of : Option (String Global) → List ℕ
copied_of None = []
copied_of (Some copy) = string_bytes copy

-- a string opens at `start`, and its body begins at `body`
pub record IsOpen (bytes : List ℕ) (start : ℕ) (quote : Quote) (body : ℕ) : Type 0 where
  pub opens : Opens (text_at bytes start) start (kind_of quote) (text_at bytes body)
  pub quoted : is_quote quote.delimiter ≡ true
  pub boundary : IsCharBoundary bytes body
  pub forward : start < body
  pub copies : (end : ℕ) → body ≤ end → end ≤ length bytes
      → is_copied quote.multiline (between bytes start end)
      ≡ list_any (is_special quote.delimiter) (between bytes body end)

-- whether the value is a copy
abbrev pub is_owned : CowStr Global → Bool
is_owned (Borrowed text) = false
is_owned (Owned text) = true

-- what is borrowed is a slice of the text
abbrev pub IsSlice : List ℕ → ℕ → ℕ → CowStr Global → Type 0
IsSlice bytes start end (Borrowed text) = (i : ℕ) × (j : ℕ) × (start ≤ i) × (i ≤ j) × (j ≤ end)
    × (text.now ≡ between bytes i j)
IsSlice bytes start end (Owned text) = Unit {0}

-- characters between two delimiters d of which each stands for itself
pub data AreThemselves (d : ℕ) : Text → Text → Type 0 where
  none : {text : Text} → AreThemselves d text text
  one : {p c : ℕ} {text next rest : Text} → StartsWith c text p next → is_plain d c ≡ true
      → AreThemselves d next rest → AreThemselves d text rest

-- a string at p on one line in which each character stands for itself, and what stands after it
pub record IsVerbatim (text : Text) (p : ℕ) (rest : Text) : Type 0 where
  pub kind : Quotes
  pub body : Text
  pub opens : Opens text p kind body
  pub one_line : kind.multiline ≡ false
  pub closer : Text
  pub characters : AreThemselves kind.delimiter body closer
  pub offset : ℕ
  pub closes : StartsWith kind.delimiter closer offset rest

-- a one-line string in which each character stands for itself, and the text goes on at `end`
pub record IsSimple (bytes : List ℕ) (start : ℕ) (body : List ℕ) (end : ℕ) : Type 0 where
  pub value : List ℕ
  pub string : IsString (text_at bytes start) start false value (text_at bytes end)
  pub spelled : body ≡ encode_utf8_all value
  pub boundary : IsCharBoundary bytes end
  pub forward : start < end
  pub verbatim : IsVerbatim (text_at bytes start) start (text_at bytes end)
  pub not_copied : is_copied false (between bytes start end) ≡ false

pub record IsQuoted (bytes : List ℕ) (start : ℕ) (quoted : Quoted) : Type 0 where
  pub value : List ℕ
  pub string : IsString (text_at bytes start) start quoted.multiline value (text_at bytes quoted.end)
  pub spelled : cow_str_bytes quoted.val ≡ encode_utf8_all value
  pub source : quoted.src.now ≡ between bytes start quoted.end
  pub boundary : IsCharBoundary bytes quoted.end
  pub forward : start < quoted.end
  pub copied : is_owned quoted.val ≡ is_copied quoted.multiline (between bytes start quoted.end)
  pub slice : IsSlice bytes start quoted.end quoted.val

-- a fault, or no memory for a copy
abbrev pub IsRefused : List ℕ → ℕ → TokenStop → Type 0
IsRefused bytes start stop =
    (BreaksString (text_at bytes start) stop.error (text_at bytes stop.at) × IsCharBoundary bytes stop.at
    × (start < stop.at))
    ⊎ ((stop.error ≡ OutOfMemory) × (stop.at ≡ start) × NeedsMemory bytes start)
