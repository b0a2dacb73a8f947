-- The data of rows with plain values, and of the values that they become.
use Rattle.std.specs.Prelude.{ℕ, List, [], ◌∷◌, ◌++◌, map}
use Rattle.basic_toml_value.specs.Data.{Data, items_of, members_of}
use Rattle.basic_toml_value.specs.Text.{text_bytes}
use Rattle.basic_toml_value.specs.View.{view}
use Rattle.basic_toml_value.specs.declared.pairs.Pair.{Pair}
use Rattle.basic_toml_value.specs.declared.value.Value.{Value}
use Rattle.basic_toml_read.specs.declared.section.Row.{Row, out-Row}
use Rattle.basic_toml_plain.specs.Plain.{plain_data, key_of}
use Rattle.basic_toml_plain.specs.PlainTables.{SectionTables}

-- the key of a row with the data of its plain value
abbrev pub row_pair : Row → List ℕ × Data
row_pair r = (key_of r, plain_data (out-Row r).value)

-- the table of a header, by its rows
abbrev pub section_data : List Row → Data
section_data rows = Data.table (members_of (map row_pair rows))

abbrev pub sections_data : SectionTables → Data
sections_data ts = Data.array (items_of (map (λ t. section_data t.1) ts.0 ++ section_data ts.1.1 ∷ []))

-- a key with the data at it
abbrev pub value_pair : Pair Value → List ℕ × Data
value_pair pair = (text_bytes pair.key, view pair.value)
