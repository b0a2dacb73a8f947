-- Line and column of an offset in a text, both from 0: how many line feeds stand before the offset, and how many bytes
-- stand between the last of them, or the start of the text, and the offset. (own)
use Rattle.std.specs.Prelude.{ℕ, List, Bool, not, ◌==◌, take, length, reverse, count_by, take_while}
use Rattle.basic_toml_tokens.specs.Ascii as ascii

abbrev pub is_line_feed : ℕ → Bool
is_line_feed b = b == ascii.line_feed

abbrev pub line_at : List ℕ → ℕ → ℕ
line_at text offset = count_by is_line_feed (take offset text)

abbrev pub column_at : List ℕ → ℕ → ℕ
column_at text offset = length (take_while (λ b. not (is_line_feed b)) (reverse (take offset text)))
