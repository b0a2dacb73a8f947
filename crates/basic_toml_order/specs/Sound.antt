-- Data that a table can hold, as far as writing asks (own): in each table a key stands once, and no integer is above
-- 9223372036854775807.
use Rattle.std.specs.Prelude.{Bool, true, not, ◌&&◌}
use Rattle.basic_toml_value.specs.Data.{Data, integer, array, table, Items, no_items, item, Members, no_members, member}
use Rattle.basic_toml_index.specs.Keys.{are_distinct}
use Rattle.basic_toml_layout.specs.Written as w
use Rattle.basic_toml_layout.specs.Written.{is_refused}
use Rattle.basic_toml_write.specs.DataFits.{member_keys}

abbrev mutual
  pub is_sound : Data → Bool
  is_sound (integer z) = not (is_refused (w.integer z))
  is_sound (array xs) = are_sound xs
  is_sound (table ms) = are_distinct (member_keys ms) && hold_sound ms
  is_sound _ = true

  pub are_sound : Items → Bool
  are_sound no_items = true
  are_sound (item d xs) = is_sound d && are_sound xs

  pub hold_sound : Members → Bool
  hold_sound no_members = true
  hold_sound (member k d ms) = is_sound d && hold_sound ms
