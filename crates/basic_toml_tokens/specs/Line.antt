-- Where a line and a comment end.
use Rattle.std.specs.Prelude.{◌≡◌, ℕ, List, Option, Some, None, Result, Ok, Err, true, false}
use Rattle.std.specs.Str.{IsCharBoundary}
use Rattle.basic_toml_tokens.specs.declared.string.TokenStop.{TokenStop}
use Rattle.basic_toml_tokens.specs.Text.{text_at}
use Rattle.basic_toml_tokens.specs.Reading.{Reading}
use Rattle.basic_toml_tokens.specs.Tokenizer.{after_line, EatsComment}

-- the text goes on at `end` after a line feed, or is over there
pub record IsLineEnd (bytes : List ℕ) (at end : ℕ) : Type 0 where
  pub rest : text_at bytes end ≡ after_line (text_at bytes at)
  pub boundary : IsCharBoundary bytes end

-- the bytes and an offset, as a tokenizer has them
abbrev pub reading : List ℕ → ℕ → Reading
reading bytes at = record { text = bytes; offset = at }

abbrev pub IsCommentEnd : List ℕ → ℕ → Result (Option ℕ) TokenStop → Type 0
IsCommentEnd bytes at (Ok None) = EatsComment (reading bytes at) (reading bytes at) (Ok false)
IsCommentEnd bytes at (Ok (Some next)) = EatsComment (reading bytes at) (reading bytes next) (Ok true)
    × IsCharBoundary bytes next
IsCommentEnd bytes at (Err stop) = EatsComment (reading bytes at) (reading bytes stop.at) (Err stop.error)
    × IsCharBoundary bytes stop.at
