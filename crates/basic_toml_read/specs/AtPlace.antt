-- What the reader finds at an offset of a text, and where the text goes on.
use Rattle.std.specs.Prelude.{◌⊎◌, ◌≡◌, ◌≤◌, ◌<◌, ℕ, Bool, true, false, List, [], length, slice_index, Option, Some}
use Rattle.std.specs.Prelude.{None}
use Rattle.std.specs.Str.{IsCharBoundary}
use Rattle.basic_toml_tokens.specs.Text.{Text, text_at, run, after_run, is_keylike}
use Rattle.basic_toml_tokens.specs.Strings.{is_quote}
use Rattle.basic_toml_grammar.specs.Grammar.{is_wordlike}
use Rattle.basic_toml_grammar.specs.Reader.{string_at, word_at, end_of}

-- the text goes on at `next`, and this is left of it there
pub record Leaves (bytes : List ℕ) (at next : ℕ) (rest : Text) : Type 0 where
  pub left : text_at bytes next ≡ rest
  pub boundary : IsCharBoundary bytes next
  pub forward : at ≤ next

-- the next line begins there, or the text ends; or another thing stands where a line ends
abbrev pub EndsAt : List ℕ → ℕ → Option ℕ → Type 0
EndsAt bytes at (Some next) = (end_of (text_at bytes at) ≡ Some (text_at bytes next)) × IsCharBoundary bytes next
    × (at ≤ next) × ((at < next) ⊎ (length bytes ≤ next))
EndsAt bytes at None = end_of (text_at bytes at) ≡ None

-- whether a string begins at the offset, where no word does then
abbrev pub BeginsString : List ℕ → ℕ → Bool → Type 0
BeginsString bytes at true = (at < length bytes) × (is_quote (slice_index bytes at) ≡ true)
    × (word_at (text_at bytes at) ≡ None) × (run is_wordlike (text_at bytes at) ≡ [])
BeginsString bytes at false = string_at (text_at bytes at) ≡ None

-- after a period or a plus; or neither stands there
abbrev pub IsJoint : List ℕ → ℕ → Option ℕ → Type 0
IsJoint bytes at (Some next) = (after_run is_wordlike (text_at bytes at) ≡ after_run is_wordlike (text_at bytes next))
    × IsCharBoundary bytes next × (at < next)
IsJoint bytes at None = (after_run is_keylike (text_at bytes at) ≡ text_at bytes at)
    → after_run is_wordlike (text_at bytes at) ≡ text_at bytes at
