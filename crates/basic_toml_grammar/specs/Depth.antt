-- Nesting, own: a scalar has depth 0; an array or a table counts one more than its deepest member, and 1 where it is
-- empty. A document has a depth of at most the nesting limit.
use Rattle.std.specs.Prelude.{ℕ, suc, max}
use Rattle.basic_toml_value.specs.Data.{Data, Items, no_items, item, Members, no_members, member}

abbrev mutual
  pub depth : Data → ℕ
  depth (Data.array items) = suc (depth_of_items items)
  depth (Data.table members) = suc (depth_of_members members)
  depth _ = 0

  pub depth_of_items : Items → ℕ
  depth_of_items no_items = 0
  depth_of_items (item d items) = max (depth d) (depth_of_items items)

  pub depth_of_members : Members → ℕ
  depth_of_members no_members = 0
  depth_of_members (member k d members) = max (depth d) (depth_of_members members)
