-- Which data no order of its entries makes writable (own): somewhere in it an array holds a table beside another value,
-- or an array that holds a table; or it is deeper than the nesting limit.
use Rattle.std.specs.Prelude.{Bool, false, ◌||◌, nat_lt}
use Rattle.basic_toml_value.specs.Data.{Data, array, table, Items, no_items, item, Members, no_members, member}
use Rattle.basic_toml_value.specs.Nesting.{nesting_limit}
use Rattle.basic_toml_layout.specs.Trees.{written_of, elements_of}
use Rattle.basic_toml_emit.specs.Depth.{depth}
use Rattle.basic_toml_write.specs.Shapes.{is_bad_array}

-- such an array stands somewhere
abbrev mutual
  pub has_bad_array : Data → Bool
  has_bad_array (array xs) = is_bad_array (elements_of xs) || hold_bad_array xs
  has_bad_array (table ms) = lead_to_bad_array ms
  has_bad_array _ = false

  pub hold_bad_array : Items → Bool
  hold_bad_array no_items = false
  hold_bad_array (item d xs) = has_bad_array d || hold_bad_array xs

  pub lead_to_bad_array : Members → Bool
  lead_to_bad_array no_members = false
  lead_to_bad_array (member k d ms) = has_bad_array d || lead_to_bad_array ms

abbrev pub is_unwritable : Data → Bool
is_unwritable d = has_bad_array d || nat_lt nesting_limit (depth (written_of d))
