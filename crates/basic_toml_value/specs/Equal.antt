-- Equality of data, as a test: the same kind with the same content. The order of a table's keys counts.
use Rattle.std.specs.Prelude.{Bool, true, false, not, ◌&&◌, if◌then◌else◌}
use Rattle.std.specs.Ordering.{int_eq}
use Rattle.std.specs.Str.{bytes_eq}
use Rattle.basic_toml_value.specs.Data.{Data, integer, float, boolean, string, array, table, Items, no_items, item}
use Rattle.basic_toml_value.specs.Data.{Members, no_members, member}

abbrev mutual
  pub data_eq : Data → Data → Bool
  data_eq (integer m) (integer n) = int_eq m n
  data_eq (float m) (float n) = bytes_eq m n
  data_eq (boolean m) (boolean n) = (if m then n else not n)
  data_eq (string m) (string n) = bytes_eq m n
  data_eq (array m) (array n) = items_eq m n
  data_eq (table m) (table n) = members_eq m n
  data_eq _ _ = false

  pub items_eq : Items → Items → Bool
  items_eq no_items no_items = true
  items_eq (item m ms) (item n ns) = data_eq m n && items_eq ms ns
  items_eq _ _ = false

  pub members_eq : Members → Members → Bool
  members_eq no_members no_members = true
  members_eq (member k m ms) (member l n ns) = bytes_eq k l && (data_eq m n && members_eq ms ns)
  members_eq _ _ = false
