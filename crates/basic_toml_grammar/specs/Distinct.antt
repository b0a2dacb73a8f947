-- Each table of a tree has distinct keys: 'Keys' of TOML v0.5.0.
use Rattle.std.specs.Prelude.{ℕ, Bool, true, false, not, ◌&&◌, ◌||◌, List}
use Rattle.std.specs.Str.{bytes_eq}
use Rattle.basic_toml_value.specs.Data.{Data, Items, no_items, item, Members, no_members, member}

abbrev pub holds_key : List ℕ → Members → Bool
holds_key k no_members = false
holds_key k (member l d members) = bytes_eq l k || holds_key k members

abbrev mutual
  pub is_distinct : Data → Bool
  is_distinct (Data.array items) = are_items_distinct items
  is_distinct (Data.table members) = are_members_distinct members
  is_distinct _ = true

  pub are_items_distinct : Items → Bool
  are_items_distinct no_items = true
  are_items_distinct (item d items) = is_distinct d && are_items_distinct items

  pub are_members_distinct : Members → Bool
  are_members_distinct no_members = true
  are_members_distinct (member k d members) =
      (not (holds_key k members) && is_distinct d) && are_members_distinct members
