-- The value of a word, and its offset.
use Rattle.std.specs.Prelude.{ℕ, ◌+◌, ◌==◌, position, List, Option, Some, None}
use Rattle.basic_toml_read.specs.declared.word.Word.{Word}
use Rattle.basic_toml_read.specs.declared.word.Word.TheVariants as word
use Rattle.basic_toml_grammar.specs.Sections.{Raw}

abbrev pub raw_of : Word → Raw
raw_of (word.Boolean b) = Raw.boolean b
raw_of (word.Integer z) = Raw.integer z
raw_of (word.Float text) = Raw.float text

-- the offset of a value that begins at `start`, with its word at `at`
abbrev pub offset_by : ℕ → ℕ → Option ℕ → ℕ
offset_by start at None = start
offset_by start at (Some i) = at + i + 1

abbrev pub value_offset : ℕ → ℕ → List ℕ → Raw → ℕ
value_offset start at word (Raw.float _) = offset_by start at (position (λ c. c == 46) word)
value_offset start at word _ = start
