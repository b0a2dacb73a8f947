-- Characters of one byte that stand for themselves wherever they are.
use Rattle.std.specs.Prelude.{◌≡◌, ℕ, ◌+◌, Bool, not, ◌&&◌, ◌||◌, ◌==◌, nat_lt, List, ◌∷◌, Option, Some, None}
use Rattle.std.specs.Prelude.{slice_index}
use Rattle.std.specs.Str.{IsCharBoundary}
use Rattle.basic_toml_tokens.specs.Ascii as ascii
use Rattle.basic_toml_tokens.specs.Text.{text_at, after_run}

-- a character below U+0080 that is no part of a line feed
abbrev pub is_lone : ℕ → Bool
is_lone c = nat_lt c 128 && not (c == ascii.line_feed || c == ascii.carriage_return)

-- after the character c, or None where it does not stand at the offset
abbrev pub IsPunctuationEnd : ℕ → List ℕ → ℕ → Option ℕ → Type 0
IsPunctuationEnd c bytes at (Some next) = (text_at bytes at ≡ (at, c) ∷ text_at bytes next) × IsCharBoundary bytes next
    × (next ≡ at + 1) × (slice_index bytes at ≡ c)
IsPunctuationEnd c bytes at None = after_run (λ x. x == c) (text_at bytes at) ≡ text_at bytes at
