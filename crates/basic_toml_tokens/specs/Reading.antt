-- A text and an offset in it, as bytes: what a tokenizer stands at.
use Rattle.std.specs.Prelude.{◌⊎◌, ◌≡◌, ◌≢◌, ◌≤◌, ◌<◌, ℕ, ◌+◌, ◌-◌, slice_index, Bool, true, List, ◌∷◌, take, drop}
use Rattle.std.specs.Prelude.{encode_utf8_all}
use Rattle.std.specs.List.{list_all}
use Rattle.std.specs.Str.{IsCharBoundary}
use Rattle.basic_toml_tokens.specs.Ascii as ascii
use Rattle.basic_toml_tokens.specs.Text.{Text, text_at, run, after_run}

-- the whole text, and the byte offset of the next character
pub record Reading : Type 0 where
  pub text : List ℕ
  pub offset : ℕ

abbrev pub text_of : Reading → Text
text_of r = text_at r.text r.offset

-- the bytes of a text between two offsets
abbrev pub between : List ℕ → ℕ → ℕ → List ℕ
between text start end = take (end - start) (drop start text)

-- a line feed is one byte, or two with a CR
abbrev pub AreFeedBytes : List ℕ → ℕ → ℕ → Type 0
AreFeedBytes bytes at next = ((slice_index bytes at ≡ ascii.line_feed) × (next ≡ at + 1))
    ⊎ ((slice_index bytes at ≡ ascii.carriage_return) × (slice_index bytes (at + 1) ≡ ascii.line_feed)
    × (next ≡ at + 2))

-- the character c stands at `at`, and the text goes on at `next`
pub record IsStep (bytes : List ℕ) (at c next : ℕ) : Type 0 where
  pub text : text_at bytes at ≡ (at, c) ∷ text_at bytes next
  pub later : at < next
  pub boundary : IsCharBoundary bytes next
  pub feed : c ≡ ascii.line_feed → AreFeedBytes bytes at next
  pub byte : c < 128 → c ≢ ascii.line_feed → slice_index bytes at ≡ c

-- the longest run from `at` on ends at `end`, and its bytes stand between
pub record IsRun (p : ℕ → Bool) (bytes : List ℕ) (at end : ℕ) : Type 0 where
  pub rest : text_at bytes end ≡ after_run p (text_at bytes at)
  pub boundary : IsCharBoundary bytes end
  pub forward : at ≤ end
  pub spelled : encode_utf8_all (run p (text_at bytes at)) ≡ between bytes at end
  pub passed : list_all p (between bytes at end) ≡ true
