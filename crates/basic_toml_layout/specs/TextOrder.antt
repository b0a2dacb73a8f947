-- Data in the order of its text, own: in each table that is a section, and in the whole, the rows come before the
-- sections. Rows keep their order, and so do sections; what stands within a row stays as it is.
use Rattle.std.specs.Prelude.{cond}
use Rattle.basic_toml_value.specs.Data.{Data, array, table, Items, no_items, item, Members, no_members, member}
use Rattle.basic_toml_layout.specs.Document.{is_row}

-- members, and others after them
abbrev pub followed_by : Members → Members → Members
followed_by no_members ns = ns
followed_by (member k d ms) ns = member k d (followed_by ms ns)

abbrev pub rows_of : Members → Members
rows_of no_members = no_members
rows_of (member k x ms) = cond (is_row x) (member k x (rows_of ms)) (rows_of ms)

abbrev mutual
  pub sections_of : Members → Members
  sections_of no_members = no_members
  sections_of (member k x ms) = cond (is_row x) (sections_of ms) (member k (in_order x) (sections_of ms))

  -- a section
  pub in_order : Data → Data
  in_order (table ms) = table (followed_by (rows_of ms) (sections_of ms))
  in_order (array xs) = array (all_in_order xs)
  in_order x = x

  pub all_in_order : Items → Items
  all_in_order no_items = no_items
  all_in_order (item x xs) = item (in_order x) (all_in_order xs)

abbrev pub text_order : Members → Members
text_order ms = followed_by (rows_of ms) (sections_of ms)
