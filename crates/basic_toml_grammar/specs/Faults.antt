-- What a reading refuses: the kind of the fault, its offset, and the keys that lead there. An offset is a byte offset,
-- own.
use Rattle.std.specs.Prelude.{ℕ, List, Option}
use Rattle.basic_toml_grammar.specs.Sections.{KeyTexts}

-- characters are their numbers, texts their bytes
pub data FaultKind : Type 0 where
  invalid_char_in_string : ℕ → FaultKind
  invalid_escape : ℕ → FaultKind
  invalid_hex_escape : ℕ → FaultKind
  invalid_escape_value : ℕ → FaultKind
  newline_in_string : FaultKind
  unexpected : ℕ → FaultKind
  unterminated_string : FaultKind
  newline_in_table_key : FaultKind
  multiline_string_key : FaultKind
  wanted : (expected found : List ℕ) → FaultKind
  unexpected_eof : FaultKind
  number_invalid : FaultKind
  unquoted_string : FaultKind
  dotted_key_invalid_type : FaultKind
  duplicate_key : List ℕ → FaultKind
  duplicate_table : List ℕ → FaultKind
  redefine_as_array : FaultKind
  nested_too_deeply : FaultKind
  custom : List ℕ → FaultKind
  out_of_memory : FaultKind

pub record Fault : Type 0 where
  pub kind : FaultKind
  pub offset : Option ℕ
  pub key_path : KeyTexts
