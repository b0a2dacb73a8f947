-- With its rows first data has the same maps.
use Rattle.std.proofs.Common.{ℕ, Bool, true, false, cond, List}
use Rattle.basic_toml_value.specs.Data.{Data, integer, float, boolean, string, array, table, Items, no_items, item}
use Rattle.basic_toml_value.specs.Data.{Members, no_members, member}
use Rattle.basic_toml_value.specs.SameMaps.{Takes, here, later, SameMaps, same_integer, same_float, same_boolean}
use Rattle.basic_toml_value.specs.SameMaps.{same_string, same_array, same_table, SameItems, no_more, one_more}
use Rattle.basic_toml_value.specs.SameMaps.{SameMembers, none_left, taken}
use Rattle.basic_toml_layout.specs.Sections.{is_section}
use Rattle.basic_toml_order.specs.RowsFirst.{followed_by, rows_first, items_rows_first, rows_of, sections_of}
use Rattle.basic_toml_order.specs.RowsFirst.{members_rows_first}

takes_after : (ms ns : Members) (k : List ℕ) (d : Data) → Takes (followed_by ms (member k d ns)) k d (followed_by ms ns)
takes_after no_members ns k d = here k d ns
takes_after (member l e ms) ns k d =
    later l e (followed_by ms (member k d ns)) k d (followed_by ms ns) (takes_after ms ns k d)

takes_own : (k : List ℕ) (d : Data) (ms : Members) (b : Bool)
    → Takes (followed_by (cond b (rows_of ms) (member k (rows_first d) (rows_of ms)))
    (cond b (member k (rows_first d) (sections_of ms)) (sections_of ms))) k (rows_first d) (members_rows_first ms)
takes_own k d ms true = takes_after (rows_of ms) (sections_of ms) k (rows_first d)
takes_own k d ms false = here k (rows_first d) (members_rows_first ms)

mutual
  pub same : (d : Data) → SameMaps d (rows_first d)
  same (integer z) = same_integer z
  same (float t) = same_float t
  same (boolean b) = same_boolean b
  same (string t) = same_string t
  same (array xs) = same_array xs (items_rows_first xs) (items_same xs)
  same (table ms) = same_table ms (members_rows_first ms) (members_same ms)

  items_same : (xs : Items) → SameItems xs (items_rows_first xs)
  items_same no_items = no_more
  items_same (item d xs) = one_more d (rows_first d) xs (items_rows_first xs) (same d) (items_same xs)

  members_same : (ms : Members) → SameMembers ms (members_rows_first ms)
  members_same no_members = none_left
  members_same (member k d ms) =
      taken k d (rows_first d) ms (members_rows_first (member k d ms)) (members_rows_first ms)
      (takes_own k d ms (is_section d)) (same d) (members_same ms)
