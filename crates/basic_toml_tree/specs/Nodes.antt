-- The data of a node.
use Rattle.std.specs.Prelude.{ℕ, Bool, true, false, List, [], ◌∷◌, Option, Some, None, cond, drop}
use Rattle.std.specs.Borrow.{Bor}
use Rattle.std.specs.Str.{bytes_eq}
use Rattle.basic_toml_value.specs.Data.{Data, Items, no_items, item, Members, no_members, member}
use Rattle.basic_toml_plain.specs.Plain.{plain_data, rows_data}
use Rattle.basic_toml_tree.specs.Data.{data_of, table_data}
use Rattle.basic_toml_tree.specs.HeaderTables.{table_of}
use Rattle.basic_toml_tree.specs.declared.node.Node.{Node}
use Rattle.basic_toml_tree.specs.declared.entries.Elements.{Elements}
use Rattle.basic_toml_tree.specs.declared.entries.Entries.{Entries}
use Rattle.basic_toml_tree.specs.declared.spot.Spot.{Spot}
use Rattle.basic_toml_tree.specs.declared.spot.Spot.TheVariants as spots
use Rattle.basic_toml_tree.specs.declared.spot.Fields.{Fields}
use Rattle.basic_toml_tree.specs.declared.spot.Fields.TheVariants as fields

abbrev pub spot_data : Spot → Data
spot_data (spots.Table table) = table_data (table_of table)
spot_data (spots.Item found) = data_of found.now
spot_data (spots.Plain plain) = plain_data plain.value.now

abbrev pub node_data : Node → Data
node_data node = spot_data node.spot

-- whether it is a table, and the data at a key of it
abbrev pub is_table : Data → Bool
is_table (Data.table _) = true
is_table _ = false

-- the data of a table by what stands in it
abbrev pub fields_data : Fields → Data
fields_data (fields.Table table) = table_data table.now
fields_data (fields.Rows rows) = rows_data rows.now
fields_data (fields.Section rows s) = rows_data rows.now

abbrev pub is_array : Data → Bool
is_array (Data.array _) = true
is_array _ = false

abbrev pub data_among : Members → List ℕ → Option Data
data_among no_members key = None
data_among (member k d members) key = cond (bytes_eq key k) (Some d) (data_among members key)

abbrev pub data_at : Data → List ℕ → Option Data
data_at (Data.table members) key = data_among members key
data_at _ key = None

-- the elements of an array, and the keys of a table with their values
abbrev pub listed : Items → List Data
listed no_items = []
listed (item d items) = d ∷ listed items

abbrev pub elements_in : Data → List Data
elements_in (Data.array items) = listed items
elements_in _ = []

abbrev pub paired : Members → List (List ℕ × Data)
paired no_members = []
paired (member k d members) = (k, d) ∷ paired members

abbrev pub entries_in : Data → List (List ℕ × Data)
entries_in (Data.table members) = paired members
entries_in _ = []

-- what is still to come
abbrev pub elements_left : Elements → List Data
elements_left e = drop e.at (elements_in (node_data e.array))

abbrev pub entries_left : Entries → List (List ℕ × Data)
entries_left e = drop e.at (entries_in (node_data e.table))

-- a key with the data at it
abbrev pub key_and_data : Bor (List ℕ) × Node → List ℕ × Data
key_and_data p = (p.0.now, node_data p.1)
