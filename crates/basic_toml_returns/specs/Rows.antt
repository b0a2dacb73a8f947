-- What a table has of the rows of a record, and what a field leaves for its record. (own)
use Rattle.std.specs.Prelude.{◌≡◌, ℕ, ◌==◌, Bool, true, not, ◌&&◌, List, [], ◌∷◌, ⊤}
use Rattle.std.specs.Prelude.{Option, is_some}
use Rattle.basic_toml_value.specs.Data.{Data}
use Rattle.basic_toml_tree.specs.Nodes.{is_table}
use Rattle.basic_toml_typed.specs.FieldKeys.{text_number, position_among, child_at}
use Rattle.basic_toml_returns.specs.Means.{Rows, no_rows, row}

-- ---- names

-- none of these numbers
abbrev pub is_new : List ℕ → ℕ → Bool
is_new [] key = true
is_new (k ∷ ks) key = not (key == k) && is_new ks key

-- no row's name is one of these, or that of a row before it
abbrev pub are_new : List ℕ → Rows → Bool
are_new seen no_rows = true
are_new seen (row name found rows) = is_new seen (text_number name) && are_new (text_number name ∷ seen) rows

-- each row has one of these names
abbrev pub are_rows_among : List ℕ → Rows → Bool
are_rows_among names no_rows = true
are_rows_among names (row name found rows) = is_some (position_among names name) && are_rows_among names rows

-- ---- what a table has

abbrev pub IsTable : Data → Type 0
IsTable d = is_table d ≡ true

-- a table has this at a key
abbrev pub HasAt : Data → ℕ → Option Data → Type 0
HasAt d key found = child_at key d ≡ found

-- the table has each of these rows at its name, by the numbers of the names
abbrev pub HasRows : Data → Rows → Type 0
HasRows d no_rows = ⊤
HasRows d (row name found rows) = HasAt d (text_number name) found × HasRows d rows

-- What a field leaves for its record, by how it is read at a key and what it means there: where a table has that, the value
-- is read from it, and whatever else is read there means the same.
pub record ReturnsAt {A : Type 0} (key : ℕ) (reads : Data → A → Type 0) (meant : A → Option Data) (x : A) : Type 0 where
  pub read : (d : Data) → IsTable d → HasAt d key (meant x) → reads d x
  pub once : (d : Data) (y : A) → reads d y → HasAt d key (meant x) → meant y ≡ meant x
