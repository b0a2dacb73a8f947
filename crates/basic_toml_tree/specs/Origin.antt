-- Where a node comes from, as the tree keeps it: what made it, where it begins, and which keys lead to it.
use Rattle.std.specs.Prelude.{ℕ, Bool, true, false, ◌||◌, ◌==◌, if◌then◌else◌, List, [], ◌∷◌, ◌++◌, codes, take}
use Rattle.std.specs.Prelude.{Option, Some, None}
use Rattle.std.specs.Option.{option_or}
use Rattle.basic_toml_grammar.specs.Sections.{Key, KeyTexts, texts}
use Rattle.basic_toml_grammar.specs.Nodes as grammar
use Rattle.basic_toml_read.specs.declared.section.Raw.{Raw, out-Raw}
use Rattle.basic_toml_read.specs.declared.section.Raw.TheOpen.{Raw-F}
use Rattle.basic_toml_read.specs.declared.section.Element.{Element}
use Rattle.basic_toml_read.specs.declared.section.Row.{Row}
use Rattle.basic_toml_read.specs.declared.section.Rows.{Rows}
use Rattle.basic_toml_read.specs.SectionView.{raw_of}
use Rattle.basic_toml_grow.specs.declared.item.Item.{Item, out-Item}
use Rattle.basic_toml_grow.specs.declared.item.Item.TheOpen.{Item-F}
use Rattle.basic_toml_grow.specs.declared.item.Child.{Child}
use Rattle.basic_toml_grow.specs.declared.item.Table.{Table, out-Table}
use Rattle.basic_toml_tree.specs.Headers.{keys_at, last_of}
use Rattle.basic_toml_tree.specs.HeaderTables.{table_of}
use Rattle.basic_toml_origin.specs.declared.anchor.Anchor.{Anchor}
use Rattle.basic_toml_origin.specs.declared.anchor.Anchor.TheVariants as anchors
use Rattle.basic_toml_tree.specs.declared.tree.Tree.{Tree}
use Rattle.basic_toml_tree.specs.declared.node.Node.{Node}
use Rattle.basic_toml_tree.specs.declared.spot.Spot.{Spot}
use Rattle.basic_toml_tree.specs.declared.spot.Spot.TheVariants as spots
use Rattle.basic_toml_tree.specs.declared.trail.Trail.{Trail}
use Rattle.basic_toml_tree.specs.declared.trail.Trail.TheVariants as trails

abbrev pub table_is_made : Table → Bool
table_is_made table = (out-Table table).passed || (out-Table table).named

abbrev pub holds_tables : Item-F Item Child Table → Bool
holds_tables (Item-F.Tables _) = true
holds_tables (Item-F.Sections _) = true
holds_tables _ = false

-- whether headers made what stands here; the root, to which no key leads, always
abbrev pub spot_is_made : ℕ → Spot → Bool
spot_is_made count (spots.Table table) = (count == 0) || table_is_made (table_of table)
spot_is_made count (spots.Item found) = holds_tables (out-Item found.now)
spot_is_made count (spots.Plain plain) = false

abbrev pub is_made : Node → Bool
is_made node = spot_is_made node.count node.spot

-- the section whose header is the latest that leads to what headers made here
abbrev pub item_section : Item-F Item Child Table → Option ℕ
item_section (Item-F.Tables tables) = Some (out-Table tables.value.1).section
item_section (Item-F.Sections tables) = Some tables.value.1.0
item_section _ = None

abbrev pub spot_section : Spot → Option ℕ
spot_section (spots.Table table) =
    if table_is_made (table_of table) then Some (out-Table (table_of table)).section else None
spot_section (spots.Item found) = item_section (out-Item found.now)
spot_section (spots.Plain plain) = None

-- what a node is found by again in the section list of its text
abbrev pub item_anchor : Item-F Item Child Table → ℕ → ℕ → Anchor
item_anchor (Item-F.Tables tables) start keys = anchors.Array (out-Table tables.value.1).section keys
item_anchor (Item-F.Sections tables) start keys = anchors.Array tables.value.1.0 keys
item_anchor _ start keys = anchors.Value start keys

abbrev pub spot_anchor : Spot → ℕ → ℕ → Anchor
spot_anchor (spots.Table table) start keys =
    if table_is_made (table_of table)
    then anchors.Table (out-Table (table_of table)).section keys else anchors.Value start keys
spot_anchor (spots.Item found) start keys = item_anchor (out-Item found.now) start keys
spot_anchor (spots.Plain plain) start keys = anchors.Value start keys

unfoldable pub anchor_of : Node → Anchor
anchor_of node = if node.count == 0 then anchors.Root else spot_anchor node.spot node.start node.count

-- the offset of the last section
abbrev pub last_at : Tree → Option ℕ
last_at tree = last_of tree.headers

abbrev pub item_name : Item-F Item Child Table → List ℕ
item_name (Item-F.Integer _) = codes "integer"
item_name (Item-F.Float _) = codes "float"
item_name Item-F.True = codes "boolean"
item_name Item-F.False = codes "boolean"
item_name (Item-F.String _) = codes "string"
item_name (Item-F.Escaped _) = codes "string"
item_name (Item-F.Plain _) = codes "array"
item_name (Item-F.Rows _) = codes "inline table"
item_name (Item-F.Array _) = codes "array"
item_name (Item-F.Inline _) = codes "inline table"
item_name (Item-F.Table _) = codes "dotted table"
item_name (Item-F.Section _) = codes "dotted table"
item_name (Item-F.Sections _) = codes "array"
item_name (Item-F.Tables _) = codes "array"

abbrev pub spot_name : ℕ → Spot → List ℕ
spot_name count (spots.Table table) = if spot_is_made count (spots.Table table) then codes "table" else codes "dotted table"
spot_name count (spots.Item found) = item_name (out-Item found.now)
spot_name count (spots.Plain plain) = grammar.raw_name (raw_of plain.value.now)

-- what a node is called
unfoldable pub name_of : Node → List ℕ
name_of node = spot_name node.count node.spot

-- whether it is a string, and a slice of the document
abbrev pub holds_string : Item-F Item Child Table → Bool
holds_string (Item-F.String _) = true
holds_string _ = false

abbrev pub is_string : Raw-F Raw Element Row Rows → Bool
is_string (Raw-F.String _) = true
is_string _ = false

abbrev pub spot_is_borrowed : Spot → Bool
spot_is_borrowed (spots.Table _) = false
spot_is_borrowed (spots.Item found) = holds_string (out-Item found.now)
spot_is_borrowed (spots.Plain plain) = is_string (out-Raw plain.value.now)

abbrev pub is_borrowed : Node → Bool
is_borrowed node = spot_is_borrowed node.spot

-- where it begins
unfoldable pub start_of : Node → Option ℕ
start_of node = if is_made node then last_at node.tree.now else Some node.start

-- where the nearest inline or dotted table around it begins, else the last section
unfoldable pub outer_of : Node → Option ℕ
outer_of node = if is_made node then last_at node.tree.now else option_or node.outer (last_at node.tree.now)

abbrev pub item_is_literal : Item-F Item Child Table → Bool
item_is_literal (Item-F.Plain _) = true
item_is_literal (Item-F.Array _) = true
item_is_literal _ = false

abbrev pub raw_is_array : Raw-F Raw Element Row Rows → Bool
raw_is_array (Raw-F.Array _) = true
raw_is_array _ = false

abbrev pub is_array_literal : Spot → Bool
is_array_literal (spots.Table _) = false
is_array_literal (spots.Item found) = item_is_literal (out-Item found.now)
is_array_literal (spots.Plain plain) = raw_is_array (out-Raw plain.value.now)

-- the offset that names it in errors
unfoldable pub offset_of : Node → Option ℕ
offset_of node = if is_array_literal node.spot then outer_of node else start_of node

-- the texts of the keys of a header, of which there are none past the last one
abbrev pub header_of : Option (List Key) → KeyTexts
header_of None = []
header_of (Some keys) = texts keys

abbrev pub trail_keys : List (ℕ × List Key) → ℕ → Trail → KeyTexts
trail_keys headers count (trails.Header section) = take count (header_of (keys_at headers section))
trail_keys headers count (trails.Row section first) = header_of (keys_at headers section) ++ first.now ∷ []

-- the keys that lead to it
unfoldable pub keys_of : Node → KeyTexts
keys_of node = trail_keys node.tree.now.headers node.count node.trail
