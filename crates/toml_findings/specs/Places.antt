-- A place in a text, as it is shown. (own)
use Rattle.std.specs.Prelude.{ℕ, ◌+◌, List, string_bytes}
use Rattle.basic_toml.specs.LineColumn.{line_at, column_at}
use Rattle.toml_findings.specs.Excerpt.{line_of, chars_before, source, caret}
use Rattle.toml_findings.specs.declared.place.Place as code

pub record Place : Type 0 where
  pub line : ℕ
  pub column : ℕ
  pub source : List ℕ
  pub caret : List ℕ

-- the code's value, its texts as bytes
abbrev pub place_of : code.Place → Place
place_of p = record {
  line = p.line;
  column = p.column;
  source = string_bytes p.source;
  caret = string_bytes p.caret;
}

-- how many characters of its line begin before an offset
abbrev pub chars_before_offset : List ℕ → ℕ → ℕ
chars_before_offset text offset = chars_before (line_of text (line_at text offset)) (column_at text offset)

-- the place at an offset of a text; line and column count from 1, the column in bytes
abbrev pub place_at : List ℕ → ℕ → Place
place_at text offset = record {
  line = line_at text offset + 1;
  column = column_at text offset + 1;
  source = source (line_of text (line_at text offset)) (chars_before_offset text offset);
  caret = caret (line_of text (line_at text offset)) (chars_before_offset text offset);
}
