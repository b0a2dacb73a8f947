-- Which tables of data are laid out at once (own): those that no rule of writing refuses, each key once in its table,
-- as a walk over the table finds it. In each, so many arrays and tables are open where the value stands.
use Rattle.std.specs.Prelude.{ℕ, ◌+◌, Bool, true, false, not, ◌&&◌, ◌||◌, nat_lt, List, [], ◌∷◌, cond}
use Rattle.basic_toml_value.specs.Data.{Data, integer, array, table, Items, no_items, item, Members, no_members, member}
use Rattle.basic_toml_index.specs.Keys.{are_distinct}
use Rattle.basic_toml_value.specs.Nesting.{nesting_limit}
use Rattle.basic_toml_layout.specs.Sections.{begins_with_table, is_section}
use Rattle.basic_toml_layout.specs.Written as w
use Rattle.basic_toml_layout.specs.Written.{is_refused}

abbrev pub member_keys : Members → List (List ℕ)
member_keys no_members = []
member_keys (member k x ms) = k ∷ member_keys ms

abbrev pub may_open : ℕ → Bool
may_open around = nat_lt around nesting_limit

abbrev mutual
  -- a value within a row
  pub fits_in_row : ℕ → Data → Bool
  fits_in_row around (array xs) = may_open around && items_fit_in_row (around + 1) xs
  fits_in_row around (table ms) = false
  fits_in_row around (integer z) = not (is_refused (w.integer z))
  fits_in_row around _ = true

  pub items_fit_in_row : ℕ → Items → Bool
  items_fit_in_row around no_items = true
  items_fit_in_row around (item x xs) = fits_in_row around x && items_fit_in_row around xs

-- In a table, a section having stood before or not.
abbrev mutual
  pub members_fit : ℕ → Bool → Members → Bool
  members_fit around is_late no_members = true
  members_fit around is_late (member k x ms) =
      entry_fits around is_late x && members_fit around (is_late || is_section x) ms

  pub entry_fits : ℕ → Bool → Data → Bool
  entry_fits around is_late (table ms) =
      may_open around && (are_distinct (member_keys ms) && members_fit (around + 1) false ms)
  entry_fits around is_late (array xs) = may_open around && cond (begins_with_table xs) (tables_fit (around + 1) xs)
      (not is_late && items_fit_in_row (around + 1) xs)
  entry_fits around is_late x = not is_late && fits_in_row around x

  -- the elements of an array of tables
  pub tables_fit : ℕ → Items → Bool
  tables_fit around no_items = true
  tables_fit around (item x xs) = is_fitting_table around x && tables_fit around xs

  pub is_fitting_table : ℕ → Data → Bool
  is_fitting_table around (table ms) =
      may_open around && (are_distinct (member_keys ms) && members_fit (around + 1) false ms)
  is_fitting_table around _ = false

abbrev pub table_fits : ℕ → Members → Bool
table_fits around ms = may_open around && (are_distinct (member_keys ms) && members_fit (around + 1) false ms)

abbrev pub array_fits : ℕ → Bool → Items → Bool
array_fits around is_late xs = may_open around && cond (begins_with_table xs) (tables_fit (around + 1) xs)
    (not is_late && items_fit_in_row (around + 1) xs)
