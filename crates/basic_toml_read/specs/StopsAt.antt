-- Where reading stops, and what does not stand there.
use Rattle.std.specs.Prelude.{◌⊎◌, ◌≡◌, ◌<◌, ℕ, Bool, true, false, List, [], Option, Some, None, Result, Ok, Err}
use Rattle.std.specs.Str.{IsCharBoundary}
use Rattle.std.specs.Cow.{IsOwnedStr}
use Rattle.basic_toml_tokens.specs.declared.error.Error.{Error}
use Rattle.basic_toml_tokens.specs.declared.error.Error.TheVariants.{OutOfMemory}
use Rattle.basic_toml_tokens.specs.declared.string.Quoted.{Quoted}
use Rattle.basic_toml_tokens.specs.Text.{Text, text_at, run}
use Rattle.basic_toml_tokens.specs.Strings.{IsString}
use Rattle.basic_toml_tokens.specs.Reading.{between}
use Rattle.basic_toml_tokens.specs.Copies.{is_copied}
use Rattle.basic_toml_explain.specs.Stop.{no_memory}
use Rattle.basic_toml_explain.specs.declared.stop.End.{End}
use Rattle.basic_toml_explain.specs.declared.stop.Stop.{Stop}
use Rattle.basic_toml_explain.specs.declared.stop.Why.{Why}
use Rattle.basic_toml_explain.specs.declared.stop.Why.TheVariants.{Memory, Deep, Key, Value, Word}
use Rattle.basic_toml_read.specs.declared.scalar.Keyed.{Keyed}
use Rattle.basic_toml_read.specs.declared.scalar.Valued.{Valued}
use Rattle.basic_toml_read.specs.declared.section.Raw as read
use Rattle.basic_toml_read.specs.declared.section.Raw.TheVariants.{Escaped}
use Rattle.basic_toml_grammar.specs.Sections.{Raw}
use Rattle.basic_toml_grammar.specs.Grammar.{is_wordlike}
use Rattle.basic_toml_grammar.specs.Reader as reader
use Rattle.basic_toml_grammar.specs.Reader.{key_at, string_at, string_value_at, word_at}
use Rattle.basic_toml_read.specs.KeyText.{cow_of, key_text_bytes}
use Rattle.basic_toml_read.specs.SectionView.{raw_of}

-- the stop where no string was taken
abbrev pub why_of : Error → Why → Why
why_of OutOfMemory why = Memory
why_of _ why = why

abbrev pub stop_of : Error → ℕ → Why → Stop
stop_of error at why = record { at = at; why = why_of error why }

-- What is missing at the front of a text, by the reason of the stop: nothing where memory was refused; where a level
-- passes the limit, it does in all that stands there.
abbrev pub Misses : {A : Type 0} → Why → Option A → (A → Type 0) → Type 0
Misses Memory o high = Unit {0}
Misses {A = A} Deep o high = (x : A) → o ≡ Some x → high x
Misses _ o high = o ≡ None

-- no key
abbrev pub MissesKey : Why → Text → Type 0
MissesKey Memory text = Unit {0}
MissesKey Key text = key_at text ≡ None
MissesKey _ text = ⊥

abbrev pub ReadsKeyAt : List ℕ → ℕ → Result Keyed Stop → Type 0
ReadsKeyAt bytes at (Ok k) =
    (key_at (text_at bytes at) ≡ Some (record { offset = at; text = key_text_bytes k.key }, text_at bytes k.end))
    × IsCharBoundary bytes k.end × (at < k.end)
ReadsKeyAt bytes at (Err stop) = MissesKey stop.why (text_at bytes at) × (stop.why ≡ Key → stop.at ≡ at)

-- a one-line string as a key, or no memory for an owned one
abbrev pub IsKeyOf : Quoted → ℕ → Result Keyed Stop → Type 0
IsKeyOf quoted at (Ok k) = (quoted.multiline ≡ false) × (cow_of k.key ≡ quoted.val) × (k.end ≡ quoted.end)
IsKeyOf quoted at (Err stop) = ((quoted.multiline ≡ true) × (stop ≡ record { at = at; why = Key }))
    ⊎ ((stop ≡ no_memory) × (quoted.multiline ≡ false) × IsOwnedStr quoted.val)

-- the value that the code has, and where it ends
pub record IsValued (bytes : List ℕ) (at : ℕ) (v : Valued) (found : Option reader.Valued) : Type 0 where
  pub raw : Raw
  pub seen : raw_of v.value ≡ raw
  pub is : found ≡ Some (record { offset = v.offset; value = raw; rest = text_at bytes v.end })
  pub boundary : IsCharBoundary bytes v.end
  pub later : at < v.end

-- no string
abbrev pub MissesString : Why → Text → Type 0
MissesString Memory text = Unit {0}
MissesString Value text = string_at text ≡ None
MissesString _ text = ⊥

-- whether a value is a string that was copied
abbrev pub is_copy : read.Raw → Bool
is_copy (Escaped text) = true
is_copy _ = false

-- the string is borrowed from the text, but where an escape or a line end asks for a copy
pub record IsKept (bytes : List ℕ) (at : ℕ) (v : Valued) : Type 0 where
  pub multiline : Bool
  pub value : List ℕ
  pub string : IsString (text_at bytes at) at multiline value (text_at bytes v.end)
  pub copied : is_copy v.value ≡ is_copied multiline (between bytes at v.end)

abbrev pub ReadsStringAt : List ℕ → ℕ → Result Valued Stop → Type 0
ReadsStringAt bytes at (Ok v) = IsValued bytes at v (string_value_at (text_at bytes at))
ReadsStringAt bytes at (Err stop) = MissesString stop.why (text_at bytes at) × (stop.why ≡ Value → stop.at ≡ at)

-- no number, `true` or `false`; where a word stands, it is none
abbrev pub MissesWord : Why → Text → Type 0
MissesWord Memory text = Unit {0}
MissesWord Value text = (word_at text ≡ None) × (run is_wordlike text ≡ [])
MissesWord (Word end) text = (word_at text ≡ None) × (run is_wordlike text ≡ [] → ⊥)
MissesWord _ text = ⊥

-- it is the end that is wanted after a value
abbrev pub WantsEnd : End → Stop → Type 0
WantsEnd end stop = (other : End) → stop.why ≡ Word other → other ≡ end

abbrev pub ReadsWordAt : List ℕ → ℕ → Result Valued Stop → Type 0
ReadsWordAt bytes at (Ok v) = IsValued bytes at v (word_at (text_at bytes at))
ReadsWordAt bytes at (Err stop) = MissesWord stop.why (text_at bytes at) × ((stop.why ≡ Memory → ⊥) → stop.at ≡ at)
