-- What the code finds at an offset of a string's body, against `BodyFront`.
use Rattle.std.specs.Prelude.{◌≡◌, ◌≤◌, ◌<◌, ◌==◌, ℕ, ◌+◌, true, false, List, [], ◌∷◌, Option, Some, None, drop}
use Rattle.std.specs.Prelude.{slice_index, replicate, min, encode_utf8_all}
use Rattle.std.specs.Str.{IsCharBoundary}
use Rattle.std.specs.List.{list_any}
use Rattle.basic_toml_tokens.specs.Ascii as ascii
use Rattle.basic_toml_tokens.specs.declared.quote.Quote.{Quote}
use Rattle.basic_toml_tokens.specs.declared.quote.Piece.{Piece}
use Rattle.basic_toml_tokens.specs.declared.quote.Piece.TheVariants.{Verbatim, Replaced, Closed, Broken}
use Rattle.basic_toml_tokens.specs.Text.{text_at, after_run}
use Rattle.basic_toml_tokens.specs.Strings.{Quotes, count_of, is_space, IsPiece, Closes}
use Rattle.basic_toml_tokens.specs.Faults.{Breaks}
use Rattle.basic_toml_tokens.specs.BodyFront.{Front, more, broken}
use Rattle.basic_toml_tokens.specs.Reading.{between, AreFeedBytes}
use Rattle.basic_toml_tokens.specs.Copies.{is_special}

abbrev pub kind_of : Quote → Quotes
kind_of q = record { delimiter = q.delimiter; multiline = q.multiline }

abbrev pub chars_of : Option ℕ → List ℕ
chars_of None = []
chars_of (Some c) = c ∷ []

-- the text goes on at `next`
pub record GoesOn (bytes : List ℕ) (at next : ℕ) : Type 0 where
  pub boundary : IsCharBoundary bytes next
  pub forward : at ≤ next

-- an escape, a continuation or a fault, from `at` on
abbrev pub IsReplaced : Front → List ℕ → ℕ → Piece → Type 0
IsReplaced f bytes at (Replaced c next) = (f ≡ more (chars_of c) (text_at bytes next)) × GoesOn bytes at next
IsReplaced f bytes at (Broken error next) = (f ≡ broken error (text_at bytes next)) × GoesOn bytes at next
IsReplaced f bytes at _ = ⊥

-- bytes that stand for the characters
pub record AreVerbatim (bytes : List ℕ) (at end : ℕ) (value : List ℕ) : Type 0 where
  pub spelled : encode_utf8_all value ≡ between bytes at end
  pub boundary : IsCharBoundary bytes end
  pub forward : at ≤ end

-- what stands at `at`, where the bytes ask for no copy but under `Replaced`
abbrev pub IsAhead : Quotes → ℕ → List ℕ → ℕ → Piece → Type 0
IsAhead k start bytes at (Verbatim next) =
    (chars : List ℕ) × IsPiece k (text_at bytes at) chars (text_at bytes next) × AreVerbatim bytes at next chars
    × (at < next)
    × (list_any (is_special k.delimiter) (between bytes at next) ≡ false)
IsAhead k start bytes at (Replaced c next) =
    IsPiece k (text_at bytes at) (chars_of c) (text_at bytes next) × GoesOn bytes at next × (at < next)
    × (is_special k.delimiter (slice_index bytes at) ≡ true)
IsAhead k start bytes at (Closed end next) =
    (tail : List ℕ) × Closes k (text_at bytes at) tail (text_at bytes next) × AreVerbatim bytes at end tail
    × GoesOn bytes end next × (at < next)
    × (list_any (is_special k.delimiter) (between bytes at next) ≡ false)
IsAhead k start bytes at (Broken error next) = Breaks k start (text_at bytes at) error (text_at bytes next)
    × GoesOn bytes at next

-- after a line feed, or None where none stands at the offset
abbrev pub IsFeed : List ℕ → ℕ → Option ℕ → Type 0
IsFeed bytes at (Some next) = (text_at bytes at ≡ (at, ascii.line_feed) ∷ text_at bytes next)
    × IsCharBoundary bytes next × (at < next) × AreFeedBytes bytes at next
IsFeed bytes at None = after_run (λ c. c == ascii.line_feed) (text_at bytes at) ≡ text_at bytes at

-- the run of blanks and line feeds from `at` on ends at `end`
pub record IsSpaceEnd (bytes : List ℕ) (at end : ℕ) : Type 0 where
  pub rest : text_at bytes end ≡ after_run is_space (text_at bytes at)
  pub boundary : IsCharBoundary bytes end
  pub forward : at ≤ end

-- n delimiters d from `at` on: all that stand there, or `limit` of them
pub record AreDelimiters (d : ℕ) (bytes : List ℕ) (at limit n : ℕ) : Type 0 where
  pub counted : n ≡ min (count_of d (text_at bytes at)) limit
  pub rest : (k : ℕ) → k ≤ n → text_at bytes (at + k) ≡ drop k (text_at bytes at)
  pub boundary : (k : ℕ) → k ≤ n → IsCharBoundary bytes (at + k)
  pub spelled : between bytes at (at + n) ≡ replicate n d
