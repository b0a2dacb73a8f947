-- Tree of mentions, own words for 'Table' of TOML v0.5.0: a mention is a path with 'table here' or with a finished
-- value. Among mentions, an empty path with a value gives that value. Otherwise the mentions are grouped by their
-- first step, in the order in which these steps are first mentioned, and each group without that step gives its tree
-- by the same rule. Key steps make a table, number steps an array; no steps make the empty table.
-- `IsTree` is this rule, and `Growth.tree_of` computes it (law `tree_is_grouped`).
use Rattle.std.specs.Prelude.{◌≡◌, Bool, false, if◌then◌else◌, List, [], ◌∷◌, Option, Some, None}
use Rattle.std.specs.Option.{option_or}
use Rattle.basic_toml_value.specs.Data.{Data, Items, no_items, item, Members, no_members, member}
use Rattle.basic_toml_grammar.specs.Steps.{Step, key, number, Path, step_eq}

-- a path with a finished value, or with 'table here'
pub record Mention : Type 0 where
  pub path : Path
  pub value : Option Data

-- what is mentioned here, at the end of an empty path; and the first value of that kind
abbrev pub value_at_end : Path → Option Data → Option Data
value_at_end [] value = value
value_at_end (s ∷ path) value = None

abbrev pub value_here : List Mention → Option Data
value_here [] = None
value_here (m ∷ ms) = option_or (value_at_end m.path m.value) (value_here ms)

-- the first step that is mentioned
abbrev pub step_of : Path → Option Step
step_of [] = None
step_of (s ∷ path) = Some s

abbrev pub first_step : List Mention → Option Step
first_step [] = None
first_step (m ∷ ms) = option_or (step_of m.path) (first_step ms)

-- whether a path begins with this step
abbrev pub goes_by : Step → Path → Bool
goes_by s [] = false
goes_by s (t ∷ path) = step_eq s t

abbrev pub after_step : Path → Path
after_step [] = []
after_step (s ∷ path) = path

-- the mentions that begin with this step, each without it; and the others
abbrev pub group : Step → List Mention → List Mention
group s [] = []
group s (m ∷ ms) = if goes_by s m.path then record { path = after_step m.path; value = m.value }
    ∷ group s ms else group s ms

abbrev pub others : Step → List Mention → List Mention
others s [] = []
others s (m ∷ ms) = if goes_by s m.path then others s ms else m ∷ others s ms

-- what stands at each step, in order
mutual
  pub data Groups : Type 0 where
    no_groups : Groups
    group_of : Step → Data → Groups → Groups

-- key steps make a table, number steps an array
abbrev pub members_among : Groups → Members
members_among no_groups = no_members
members_among (group_of (key k) d groups) = member k d (members_among groups)
members_among (group_of (number n) d groups) = members_among groups

abbrev pub items_among : Groups → Items
items_among no_groups = no_items
items_among (group_of (key k) d groups) = items_among groups
items_among (group_of (number n) d groups) = item d (items_among groups)

abbrev pub made_of : Groups → Data
made_of no_groups = Data.table no_members
made_of (group_of (key k) d groups) = Data.table (member k d (members_among groups))
made_of (group_of (number n) d groups) = Data.array (item d (items_among groups))

mutual
  pub data IsTree : List Mention → Data → Type 0 where
    here : {ms : List Mention} {d : Data} → value_here ms ≡ Some d → IsTree ms d
    grouped : {ms : List Mention} {groups : Groups} → value_here ms ≡ None → AreGroups ms groups
        → IsTree ms (made_of groups)

  pub data AreGroups : List Mention → Groups → Type 0 where
    no_steps : {ms : List Mention} → first_step ms ≡ None → AreGroups ms no_groups
    step : {ms : List Mention} {s : Step} {d : Data} {groups : Groups} → first_step ms ≡ Some s
        → IsTree (group s ms) d → AreGroups (others s ms) groups
        → AreGroups ms (group_of s d groups)
