-- The data that an item stands for.
use Rattle.std.specs.Prelude.{◌≡◌, ℕ, true, false, List, [], ◌∷◌, ◌++◌, string_bytes}
use Rattle.basic_toml_value.specs.Data.{Data, no_members, items_of, members_of}
use Rattle.basic_toml_value.specs.Text.{text_bytes}
use Rattle.basic_toml_value.specs.declared.pairs.Pair.{Pair}
use Rattle.basic_toml_grammar.specs.Mentions.{finished}
use Rattle.basic_toml_plain.specs.Plain.{plain_array, rows_data}
use Rattle.basic_toml_plain.specs.Values.{section_data, sections_data}
use Rattle.basic_toml_grow.specs.declared.item.Item.{fold-Item}
use Rattle.basic_toml_grow.specs.declared.item.Item as items
use Rattle.basic_toml_grow.specs.declared.item.Item.TheOpen.{Item-F, Child-F, Table-F}
use Rattle.basic_toml_grow.specs.declared.item.Child as children
use Rattle.basic_toml_grow.specs.declared.item.Child.{fold-Child}
use Rattle.basic_toml_grow.specs.declared.item.Table as tables
use Rattle.basic_toml_grow.specs.declared.item.Table.{fold-Table}

-- one level, the parts seen already
abbrev pub item_step : Item-F Data Data Data → Data
item_step (Item-F.Integer z) = Data.integer z
item_step (Item-F.Float text) = Data.float text
item_step Item-F.True = Data.boolean true
item_step Item-F.False = Data.boolean false
item_step (Item-F.String text) = Data.string text.now
item_step (Item-F.Escaped text) = Data.string (string_bytes text)
item_step (Item-F.Plain elements) = finished (plain_array elements)
item_step (Item-F.Rows rows) = rows_data rows
item_step (Item-F.Array children) = Data.array (items_of children.items)
item_step (Item-F.Inline table) = table.value
item_step (Item-F.Table table) = table.value
item_step (Item-F.Section rows) = section_data rows
item_step (Item-F.Sections tables) = sections_data tables.value
item_step (Item-F.Tables tables) =
    Data.array (items_of (tables.value.0.items ++ tables.value.1 ∷ []))

abbrev pub child_step : Child-F Data Data Data → Data
child_step c = c.item

abbrev pub table_step : Table-F Data Data Data → Data
table_step t = Data.table (members_of t.entries)

abbrev pub data_of : items.Item → Data
data_of = fold-Item Data Data Data item_step child_step table_step

abbrev pub child_data : children.Child → Data
child_data = fold-Child Data Data Data item_step child_step table_step

abbrev pub table_data : tables.Table → Data
table_data = fold-Table Data Data Data item_step child_step table_step

-- anything but a table without keys
abbrev pub HoldsAny : Data → Type 0
HoldsAny d = d ≡ Data.table no_members → ⊥

-- a key with the data at it
abbrev pub child_pair : Pair children.Child → List ℕ × Data
child_pair pair = (text_bytes pair.key, child_data pair.value)
