-- The tree of mentions, computed: one mention after another is put into a tree whose branches stand in order of first
-- mention. It is the tree that the grouping rule gives (`Tree.IsTree`, law `tree_is_grouped`).
use Rattle.std.specs.Prelude.{if◌then◌else◌, List, [], ◌∷◌, Option, Some, None}
use Rattle.std.specs.Option.{option_or}
use Rattle.basic_toml_value.specs.Data.{Data, Items, no_items, item, Members, no_members, member}
use Rattle.basic_toml_grammar.specs.Steps.{Step, key, number, Path, step_eq}
use Rattle.basic_toml_grammar.specs.Tree.{Mention}

mutual
  -- the value that is mentioned here, if one is, and what stands at each step
  pub data Growth : Type 0 where
    grown : Option Data → Branches → Growth

  pub data Branches : Type 0 where
    no_branches : Branches
    branch : Step → Growth → Branches → Branches

abbrev pub nothing_grown : Growth
nothing_grown = grown None no_branches

-- one path alone, with what is mentioned at its end
abbrev pub shoot : Path → Option Data → Growth
shoot [] value = grown value no_branches
shoot (s ∷ path) value = grown None (branch s (shoot path value) no_branches)

-- one more mention; a step that is new goes last
abbrev mutual
  pub grow : Growth → Path → Option Data → Growth
  grow (grown here branches) [] value = grown (option_or here value) branches
  grow (grown here branches) (s ∷ path) value = grown here (grow_at branches s path value)

  pub grow_at : Branches → Step → Path → Option Data → Branches
  grow_at no_branches s path value = branch s (shoot path value) no_branches
  grow_at (branch t g branches) s path value =
      if step_eq t s then branch t (grow g path value) branches else branch t g (grow_at branches s path value)

abbrev pub grow_all : Growth → List Mention → Growth
grow_all g [] = g
grow_all g (m ∷ ms) = grow_all (grow g m.path m.value) ms

-- key steps make a table, number steps an array, no steps the empty table
abbrev mutual
  pub closed : Growth → Data
  closed (grown (Some v) _) = v
  closed (grown None bs) = closed_branches bs

  pub closed_branches : Branches → Data
  closed_branches no_branches = Data.table no_members
  closed_branches (branch (key k) g branches) = Data.table (member k (closed g) (members_of branches))
  closed_branches (branch (number n) g branches) = Data.array (item (closed g) (items_of branches))

  pub members_of : Branches → Members
  members_of no_branches = no_members
  members_of (branch (key k) g branches) = member k (closed g) (members_of branches)
  members_of (branch (number n) g branches) = members_of branches

  pub items_of : Branches → Items
  items_of no_branches = no_items
  items_of (branch (key k) g branches) = items_of branches
  items_of (branch (number n) g branches) = item (closed g) (items_of branches)

abbrev pub tree_of : List Mention → Data
tree_of ms = closed (grow_all nothing_grown ms)
