-- What a value means: the data that a text holds for its calls, absent options left out. (own)
use Rattle.std.specs.Prelude.{◌≡◌, ℕ, List, [], Option, Some, None}
use Rattle.basic_toml_value.specs.Data.{Data, Members, no_members, member}
use Rattle.basic_toml_layout.specs.Written.{Written, absent, Entries}
use Rattle.basic_toml_layout.specs.Trees.{tree_of, entry_trees}
use Rattle.basic_toml_emit.specs.Items.{Item}
use Rattle.basic_toml_write.specs.Kept.{kept, kept_entries}
use Rattle.basic_toml_write.specs.Spelling.{Spells, AreEntries}

-- the data of an entry: none where it is absent
abbrev pub entry_data : Written → Option Data
entry_data absent = None
entry_data value = Some (tree_of (kept value))

-- The calls spell a value, and these data are kept of it as an entry.
pub record Means (calls : List Item) (data_kept : Option Data) : Type 0 where
  pub value : Written
  pub spelled : Spells calls value
  pub whole : entry_data value ≡ data_kept

-- Of a record: each name, and the data under it, if there are any.
pub data Rows : Type 0 where
  no_rows : Rows
  row : List ℕ → Option Data → Rows → Rows

abbrev pub with_member : List ℕ → Option Data → Members → Members
with_member name None members = members
with_member name (Some d) members = member name d members

abbrev pub members_in : Rows → Members
members_in no_rows = no_members
members_in (row name found rows) = with_member name found (members_in rows)

-- the table of a record
abbrev pub table_of : Rows → Data
table_of rows = Data.table (members_in rows)

-- the entries of a table and its end, which the calls are, and of which these rows are kept
pub record RowsMeaning (calls : List Item) (rows : Rows) : Type 0 where
  pub held : Entries
  pub spelled : AreEntries calls held []
  pub whole : entry_trees (kept_entries held) ≡ members_in rows
