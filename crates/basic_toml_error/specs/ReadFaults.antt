-- The fault that an error of reading is.
use Rattle.std.specs.Prelude.{ℕ, List, None, option_map}
use Rattle.std.specs.Option.{option_or}
use Rattle.basic_toml_grammar.specs.Faults as read
use Rattle.basic_toml_error.specs.Fault as fault
use Rattle.basic_toml_error.specs.LineColumn.{line_at, column_at}

-- its kind, its key path, and the line and the column of its offset in the text
abbrev pub fault_in : List ℕ → read.Fault → fault.Fault
fault_in text error = record {
  kind = fault.reading error.kind;
  key_path = error.key_path;
  offset = error.offset;
  line_column = option_map (λ offset. (line_at text offset, column_at text offset)) error.offset;
  anchor = None;
}

-- a fault with the line and the column of its offset in the text; one that has its line keeps it
abbrev pub lined : List ℕ → fault.Fault → fault.Fault
lined text f = record {
  kind = f.kind;
  key_path = f.key_path;
  offset = f.offset;
  line_column =
      option_or f.line_column (option_map (λ offset. (line_at text offset, column_at text offset)) f.offset);
  anchor = f.anchor;
}
