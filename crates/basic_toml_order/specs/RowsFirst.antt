-- Data with its rows first (own): in each table, at every depth, the entries that are rows come before those that are
-- sections. Rows keep their order, and so do sections.
use Rattle.std.specs.Prelude.{Bool, true, ◌&&◌, cond}
use Rattle.basic_toml_value.specs.Data.{Data, array, table, Items, no_items, item, Members, no_members, member}
use Rattle.basic_toml_layout.specs.Sections.{is_section}
pub use Rattle.basic_toml_layout.specs.TextOrder.{followed_by}

abbrev mutual
  pub rows_first : Data → Data
  rows_first (array xs) = array (items_rows_first xs)
  rows_first (table ms) = table (followed_by (rows_of ms) (sections_of ms))
  rows_first d = d

  pub items_rows_first : Items → Items
  items_rows_first no_items = no_items
  items_rows_first (item d xs) = item (rows_first d) (items_rows_first xs)

  -- the entries that are rows, and those that are sections
  pub rows_of : Members → Members
  rows_of no_members = no_members
  rows_of (member k d ms) = cond (is_section d) (rows_of ms) (member k (rows_first d) (rows_of ms))

  pub sections_of : Members → Members
  sections_of no_members = no_members
  sections_of (member k d ms) = cond (is_section d) (member k (rows_first d) (sections_of ms)) (sections_of ms)

abbrev pub members_rows_first : Members → Members
members_rows_first ms = followed_by (rows_of ms) (sections_of ms)

-- whether all members are sections
abbrev pub are_sections : Members → Bool
are_sections no_members = true
are_sections (member k d ms) = is_section d && are_sections ms

-- whether no row stands after a section
abbrev pub are_in_order : Members → Bool
are_in_order no_members = true
are_in_order (member k d ms) = cond (is_section d) (are_sections ms) (are_in_order ms)

-- whether that is so in each table, at every depth
abbrev mutual
  pub is_in_order : Data → Bool
  is_in_order (array xs) = hold_in_order xs
  is_in_order (table ms) = are_in_order ms && lead_in_order ms
  is_in_order _ = true

  pub hold_in_order : Items → Bool
  hold_in_order no_items = true
  hold_in_order (item d xs) = is_in_order d && hold_in_order xs

  pub lead_in_order : Members → Bool
  lead_in_order no_members = true
  lead_in_order (member k d ms) = is_in_order d && lead_in_order ms
