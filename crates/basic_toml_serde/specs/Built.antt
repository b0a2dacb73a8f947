-- What a list of items spells, as far as it is data. (own)
use Rattle.std.specs.Prelude.{◌≡◌, ◌⊎◌, false, List, ◌∷◌, Option, Some, None, String, string_bytes}
use Rattle.std.specs.Vec.Iter.{into_iter_items}
use Rattle.std.specs.declared.vec.IntoIter.{IntoIter}
use Rattle.std.specs.declared.alloc.Global.{Global}
use Rattle.basic_toml_value.specs.Data.{Data, Items, Members, table}
use Rattle.basic_toml_value.specs.View.{view}
use Rattle.basic_toml_value.specs.declared.value.Value.{Value}
use Rattle.basic_toml_layout.specs.Trees.{tree_of, element_trees, entry_trees}
use Rattle.basic_toml_layout.specs.Written.{text, Written, Elements, Entries, is_absent}
use Rattle.basic_toml_emit.specs.Items.{Item, a_scalar, an_absent, close, key, field}
use Rattle.basic_toml_write.specs.Spelling.{IsValue, AreElements, AreEntries, Spells}
use Rattle.basic_toml_serde.specs.declared.items.Item as code
use Rattle.basic_toml_serde.specs.Listed.{listed}

-- the items that are left
abbrev pub left : IntoIter code.Item Global → List Item
left rest = listed (into_iter_items rest)

-- In each, the first list is the items of what is spelled, with the last list after them.
-- a value that is there
pub record IsBuilt (items : List Item) (d : Data) (rest : List Item) : Type 0 where
  pub value : Written
  pub spelled : IsValue items value rest
  pub present : is_absent value ≡ false
  pub same : tree_of value ≡ d

-- elements, and the end of their array
pub record AreBuilt (items : List Item) (xs : Items) (rest : List Item) : Type 0 where
  pub elements : Elements
  pub spelled : AreElements items elements rest
  pub same : element_trees elements ≡ xs

-- entries, and the end of their table
pub record EntriesBuilt (items : List Item) (ms : Members) (rest : List Item) : Type 0 where
  pub entries : Entries
  pub spelled : AreEntries items entries rest
  pub same : entry_trees entries ≡ ms

-- the next element, or the end of the array
abbrev pub IsNextElement : List Item → Option Value → List Item → Type 0
IsNextElement items None rest = items ≡ close ∷ rest
IsNextElement items (Some value) rest = IsBuilt items (view value) rest

-- the next key, or the end of the table
abbrev pub IsNextKey : List Item → Option (String Global) → List Item → Type 0
IsNextKey items None rest = items ≡ close ∷ rest
IsNextKey items (Some k) rest =
    (items ≡ field (string_bytes k) ∷ rest) ⊎ (items ≡ key ∷ (a_scalar (text (string_bytes k)) ∷ rest))

-- the value behind a key, or an absent option
abbrev pub IsNextValue : List Item → Option Value → List Item → Type 0
IsNextValue items None rest = items ≡ an_absent ∷ rest
IsNextValue items (Some value) rest = IsBuilt items (view value) rest

-- a table, without its absent options, that all of the items spell
abbrev pub IsTableOf : List Item → Members → Type 0
IsTableOf items members = (w : Written) × (Spells items w) × (tree_of w ≡ table members)
