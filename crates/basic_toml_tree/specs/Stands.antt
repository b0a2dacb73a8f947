-- Where a node stands in its tree, by its path, and what is foretold of it by the section list.
use Rattle.std.specs.Prelude.{◌≡◌, ◌⊎◌, ◌==◌, ◌+◌, ℕ, Bool, true, false, List, [], ◌∷◌, ◌++◌, Option, Some, map}
use Rattle.std.specs.Prelude.{slice_get}
use Rattle.std.specs.Borrow.{Bor}
use Rattle.std.specs.Iterator.{YieldsFirstBy}
use Rattle.std.specs.Option.{IfSome, IsSomeAnd}
use Rattle.basic_toml_grammar.specs.Sections.{Section}
use Rattle.basic_toml_grammar.specs.Steps.{Step, key, number, Path}
use Rattle.basic_toml_grammar.specs.Entering.{all_keyed}
use Rattle.basic_toml_grammar.specs.Nodes as grammar
use Rattle.basic_toml_grammar.specs.Trie.{Trie, nothing, standing, below}
use Rattle.basic_toml_read.specs.declared.section.Raw.{Raw, out-Raw}
use Rattle.basic_toml_read.specs.declared.section.Raw.TheOpen.{Raw-F}
use Rattle.basic_toml_read.specs.declared.section.Element.{Element}
use Rattle.basic_toml_read.specs.declared.section.Row.{Row, out-Row}
use Rattle.basic_toml_read.specs.declared.section.Rows.{Rows}
use Rattle.basic_toml_read.specs.SectionView.{raw_of, placed_of}
use Rattle.basic_toml_plain.specs.Plain.{plain_data, are_few_simple, key_of}
use Rattle.basic_toml_plain.specs.Tries.{leaf}
use Rattle.basic_toml_grow.specs.declared.item.Item.{Item, out-Item}
use Rattle.basic_toml_grow.specs.declared.item.Item.TheOpen.{Item-F}
use Rattle.basic_toml_grow.specs.declared.item.Child.{Child, out-Child}
use Rattle.basic_toml_grow.specs.declared.item.Table.{Table}
use Rattle.basic_toml_tree.specs.declared.tree.Tree.{Tree}
use Rattle.basic_toml_tree.specs.declared.node.Node.{Node}
use Rattle.basic_toml_tree.specs.declared.entries.Elements.{Elements}
use Rattle.basic_toml_tree.specs.declared.entries.Entries.{Entries}
use Rattle.basic_toml_tree.specs.declared.spot.Spot.{Spot}
use Rattle.basic_toml_tree.specs.declared.spot.Spot.TheVariants as spots
use Rattle.basic_toml_tree.specs.declared.spot.HeaderTable.TheVariants as header_tables
use Rattle.basic_toml_tree.specs.declared.spot.Fields.{Fields}
use Rattle.basic_toml_tree.specs.declared.spot.Fields.TheVariants as fields
use Rattle.basic_toml_tree.specs.declared.plain_value.PlainValue.{PlainValue}
use Rattle.basic_toml_grow.specs.Item.{child_trie, item_trie, table_trie}
use Rattle.basic_toml_tree.specs.Origin.{spot_is_made, spot_name, spot_section, spot_is_borrowed, is_borrowed}
use Rattle.basic_toml_grow.specs.Origins.{Origin, Origins, child_origins, item_origins, table_within, value_origins}
use Rattle.basic_toml_grow.specs.Simple.{section_table}
use Rattle.basic_toml_tree.specs.HeaderTables.{table_of}
use Rattle.basic_toml_tree.specs.Data.{child_data, table_data}
use Rattle.basic_toml_tree.specs.Nodes.{node_data, elements_left, key_and_data, entries_left}
use Rattle.basic_toml_tree.specs.Paths.{data_along}
use Rattle.basic_toml_tree.specs.Outer.{around, kept_below, KeepsStart}
use Rattle.basic_toml_tree.specs.Resolve.{IsResolved}
use Rattle.basic_toml_tree.specs.Keys.{BeginsRow, CountsKeys, CountsOn, GoesOn, HandsOn, KeysLead, RowsLead}

-- what is at a path of a trie
abbrev pub trie_at : Path → Trie → Trie
trie_at [] t = t
trie_at (s ∷ p) t = trie_at p (below s t)

abbrev pub tree_trie : Tree → Trie
tree_trie tree = table_trie tree.root

abbrev pub spot_trie : Spot → Trie
spot_trie (spots.Table table) = table_trie (table_of table)
spot_trie (spots.Item found) = item_trie found.now
spot_trie (spots.Plain plain) = leaf (plain_data plain.value.now)

-- an item that holds a table of headers or of dotted keys, which stands for itself
abbrev pub is_wrapper : Item-F Item Child Table → Bool
is_wrapper (Item-F.Table table) = true
is_wrapper (Item-F.Section rows) = true
is_wrapper _ = false

abbrev pub wraps_table : Spot → Bool
wraps_table (spots.Table table) = false
wraps_table (spots.Item found) = is_wrapper (out-Item found.now)
wraps_table (spots.Plain plain) = false

-- the table of a spot, which it is, or which its item holds
abbrev pub ItemHolds : Item-F Item Child Table → Table → Type 0
ItemHolds (Item-F.Table table) found = found ≡ table.value
ItemHolds (Item-F.Inline table) found = found ≡ table.value
ItemHolds _ found = ⊥

abbrev pub HoldsTable : Spot → Table → Type 0
HoldsTable (spots.Table table) found = found ≡ table_of table
HoldsTable (spots.Item item) found = ItemHolds (out-Item item.now) found
HoldsTable (spots.Plain plain) found = ⊥

-- the rows of an inline table with plain values, or of a section
abbrev pub ItemRows : Item-F Item Child Table → List Row → Type 0
ItemRows (Item-F.Rows rows) found = found ≡ rows
ItemRows (Item-F.Section rows) found = found ≡ rows
ItemRows _ found = ⊥

abbrev pub RawRows : Raw-F Raw Element Row Rows → List Row → Type 0
RawRows (Raw-F.Inline rows) found = found ≡ rows.items
RawRows _ found = ⊥

abbrev pub HoldsRows : Spot → List Row → Type 0
HoldsRows (spots.Table table) found = ⊥
HoldsRows (spots.Item item) found = ItemRows (out-Item item.now) found
HoldsRows (spots.Plain plain) found = RawRows (out-Raw plain.value.now) found

abbrev pub HoldsFields : Spot → Fields → Type 0
HoldsFields spot (fields.Table table) = HoldsTable spot table.now
HoldsFields spot (fields.Rows rows) = HoldsRows spot rows.now × (are_few_simple 0 rows.now ≡ true)
HoldsFields spot (fields.Section rows s) =
    HoldsTable spot (section_table s rows.now) × (are_few_simple 0 rows.now ≡ true)

-- a node in the tree of another one, below it, with this trie
pub record IsBelow (from : Node) (t : Trie) (node : Node) : Type 0 where
  pub tree : node.tree ≡ from.tree
  pub count : (node.count == 0) ≡ false
  pub trie : spot_trie node.spot ≡ t
  pub own : wraps_table node.spot ≡ false

-- a node in the tree of another one, with the keys that lead to it, and the same table around it
pub record IsBeside (from : Node) (here : Spot) (node : Node) : Type 0 where
  pub tree : node.tree ≡ from.tree
  pub count : node.count ≡ from.count
  pub spot : node.spot ≡ here
  pub outer : node.outer ≡ from.outer
  pub trail : node.trail ≡ from.trail

-- a node of plain elements, beside this one
pub record IsPlainElement (from : Node) (elements : List Element) (n : ℕ) (node : Node) : Type 0 where
  pub plain : PlainValue
  pub spot : node.spot ≡ spots.Plain plain
  pub placed : slice_get (map placed_of elements) n
      ≡ Some (record { offset = node.start; value = raw_of plain.value.now })
  pub beside : IsBeside from node.spot node

-- the node of a row of an inline table
pub record IsPlainRow (from : Node) (r : Row) (node : Node) : Type 0 where
  pub plain : PlainValue
  pub spot : node.spot ≡ spots.Plain plain
  pub value : plain.value.now ≡ (out-Row r).value
  pub start : node.start ≡ (out-Row r).start
  pub tree : node.tree ≡ from.tree
  pub outer : node.outer ≡ Some from.start
  pub count : CountsOn from node.count
  pub nested : (node.count == 0) ≡ false
  pub trail : node.trail ≡ from.trail

-- one of the rows has this key
abbrev pub IsRowAt : List Row → List ℕ → Row → Type 0
IsRowAt rows k r = (n : ℕ) × (slice_get rows n ≡ Some r) × (key_of r ≡ k)

abbrev pub is_root : Path → Bool
is_root [] = true
is_root (s ∷ p) = false

-- the origins below a spot, and that of a node, by the section that first mentioned it
abbrev pub spot_origins : Spot → ℕ → ℕ → Origins
spot_origins (spots.Table table) at s = (table_within (table_of table)).below
spot_origins (spots.Item found) at s = item_origins found.now at s
spot_origins (spots.Plain plain) at s = value_origins s at (raw_of plain.value.now)

abbrev pub node_origins : ℕ → Node → Origins
node_origins s node = spot_origins node.spot node.start s

abbrev pub spot_origin : ℕ → Spot → ℕ → ℕ → Origin
spot_origin count spot at s = record {
  made = spot_is_made count spot;
  name = spot_name count spot;
  start = at;
  section = s;
  is_slice = spot_is_borrowed spot;
}

-- A node is what these origins tell, and those below them; but of what headers made only those below, and its section.
pub record SpotComes (here : Origins) (count : ℕ) (spot : Spot) (at : ℕ) : Type 0 where
  pub section : ℕ
  pub own : IfSome (here []) (λ o. o.made ≡ false → o ≡ spot_origin count spot at section)
  pub marked : IfSome (here []) (λ o. IfSome (spot_section spot) (λ n. o.section ≡ n))
  pub parts : (s : Step) (q : Path) → here (s ∷ q) ≡ spot_origins spot at section (s ∷ q)

abbrev pub ComesFrom : Origins → Node → Type 0
ComesFrom here node = SpotComes here node.count node.spot node.start

-- the node of what stands at a key of a table, as a child of it
pub record IsEntry (from : Node) (k : List ℕ) (c : Child) (node : Node) : Type 0 where
  pub holds : node_data node ≡ child_data c
  pub below : IsBelow from (child_trie c) node
  pub comes : ComesFrom (child_origins c) node
  pub outer : node.outer ≡ kept_below from
  pub keys : GoesOn from node.spot node.trail
  pub row : BeginsRow from k (out-Child c).section node.spot node.trail
  pub handed : HandsOn from node.trail
  pub count : CountsOn from node.count

abbrev pub tree_origins : Tree → Origins
tree_origins tree = (table_within tree.root).below

-- where the table at a path begins, as the nodes below it keep it
abbrev pub StartIsKept : Tree → Path → Option ℕ → Type 0
StartIsKept tree p kept = KeepsStart p (standing (trie_at p (tree_trie tree))) (tree_origins tree p) kept

-- A node of a tree stands at a path, and so does its data. Below a value that a row gives nothing more is in the trie.
pub record StandsAt (tree : Tree) (p : Path) (node : Node) : Type 0 where
  pub within : node.tree.now ≡ tree
  pub holds : data_along p (table_data tree.root) ≡ Some (node_data node)
  pub root : (node.count == 0) ≡ is_root p
  pub there : (trie_at p (tree_trie tree) ≡ nothing)
      ⊎ ((spot_trie node.spot ≡ trie_at p (tree_trie tree)) × (wraps_table node.spot ≡ false))
  pub comes : ComesFrom (λ q. tree_origins tree (p ++ q)) node
  pub outer : StartIsKept tree (around p) node.outer
  pub count : CountsKeys tree p node
  pub keys : KeysLead tree p node
  pub rows : RowsLead tree p node

-- where the one stands at a path, the other stands there and one step further
abbrev pub StandsOn : Node → Step → Node → Type 0
StandsOn from s node = (tree : Tree) (p : Path) → StandsAt tree p from → StandsAt tree (p ++ s ∷ []) node

abbrev pub AtKey : Node → List ℕ → Node → Type 0
AtKey from k node = StandsOn from (key k) node

abbrev pub AtNumber : Node → ℕ → Node → Type 0
AtNumber from n node = StandsOn from (number n) node

-- the elements of an array from its first on
abbrev pub BeginsIn : Node → Elements → Type 0
BeginsIn array elements = (elements.array ≡ array) × (elements.at ≡ 0)

-- An element comes first of those that are left, and stands at its number in the array; the next stands at the next.
abbrev pub GivesElement : Elements → Option Node → Elements → Type 0
GivesElement before result after =
    YieldsFirstBy node_data elements_left before result after
    × IfSome result (λ node. AtNumber before.array before.at node × (after.at ≡ before.at + 1))
    × (after.array ≡ before.array)

-- An entry comes first of those that are left, and its node stands at its key in the table.
abbrev pub GivesEntry : Entries → Option (Bor (List ℕ) × Node) → Entries → Type 0
GivesEntry before result after =
    YieldsFirstBy key_and_data entries_left before result after
    × IfSome result (λ entry. AtKey before.table entry.0.now entry.1)
    × (after.table ≡ before.table)

-- a node of a table, beside this one
abbrev pub IsTableBeside : Node → Bor Table → Node → Type 0
IsTableBeside from table node = IsBeside from (spots.Table (header_tables.Entries table)) node

-- the node stands at this path of the tree of a section list, whose rows and array headers have keys
pub record IsNodeAt (sections : List Section) (p : Path) (node : Node) : Type 0 where
  pub resolved : IsResolved sections node.tree.now
  pub keyed : all_keyed sections ≡ true
  pub stands : StandsAt node.tree.now p node

-- The section list alone foretells the node, and says this of it.
abbrev pub Foretold : List Section → Path → Node → (grammar.Node → Type 0) → Type 0
Foretold sections p node says = IsNodeAt sections p node → IsSomeAnd (grammar.node_at sections p) says

-- and this of whether it is a string that asks for no copy, wherever it stands
abbrev pub ForetoldSlice : Node → (Bool → Type 0) → Type 0
ForetoldSlice node says = (sections : List Section) (p : Path) → Foretold sections p node (λ found. says found.is_slice)

-- it is a slice of the text exactly there
abbrev pub SlicesAreForetold : Type 0
SlicesAreForetold = (node : Node) → ForetoldSlice node (λ slice. is_borrowed node ≡ slice)
