-- Which values of a table of data are sections of its text, and no rows.
use Rattle.std.specs.Prelude.{Bool, true, false}
use Rattle.basic_toml_value.specs.Data.{Data, array, table, Items, item}

-- an array whose first element is a table is one section for each element
abbrev pub begins_with_table : Items → Bool
begins_with_table (item (table ms) xs) = true
begins_with_table _ = false

-- whether an entry is no row
abbrev pub is_section : Data → Bool
is_section (table ms) = true
is_section (array xs) = begins_with_table xs
is_section _ = false
