-- How a section is put into the tree, and what keeps it out.
use Rattle.std.specs.Prelude.{◌≡◌, ◌⊎◌, ⊤, ◌≤◌, ◌<◌, ◌+◌, ℕ, suc, max, Bool, true, false, [], ◌∷◌, ◌++◌, Option, Some}
use Rattle.std.specs.Prelude.{None, Result, Ok}
use Rattle.std.specs.Prelude.{Err, length, Vec, Box}
use Rattle.std.specs.declared.alloc.Global.{Global}
use Rattle.basic_toml_value.specs.Nesting.{nesting_limit}
use Rattle.basic_toml_grammar.specs.Sections.{KeyTexts, Rows}
use Rattle.basic_toml_grammar.specs.RowClash.{rows_clash}
use Rattle.basic_toml_grammar.specs.Levels.{rows_level}
use Rattle.basic_toml_grammar.specs.Trie.{Trie, walk, steps_to, steps_on, go_on, count, put_element}
use Rattle.basic_toml_grow.specs.declared.clash.Clash.{Clash}
use Rattle.basic_toml_grow.specs.declared.clash.Clash.TheVariants.{Memory, Deep, Header, Named, Redefined}
use Rattle.basic_toml_grow.specs.Clash.{Obstacle}
use Rattle.basic_toml_grow.specs.declared.item.Item.{Item}
use Rattle.basic_toml_grow.specs.declared.item.Item as items
use Rattle.basic_toml_grow.specs.declared.item.Table.{Table}
use Rattle.basic_toml_grow.specs.Item.{table_trie, empty_table}
use Rattle.basic_toml_grow.specs.Obstacles.{element_obstacle, obstacle_on, keys_obstacle}

-- the highest level of a section whose table is on a level
abbrev pub highest : ℕ → Rows → ℕ
highest level rows = max level (rows_level level rows)

-- a section with these rows and a table on a level is entered, which gives a trie
pub record IsIn (entered : Option Trie) (rows : Rows) (level : ℕ) (after : Trie) : Type 0 where
  pub gives : entered ≡ Some after
  pub apart : rows_clash rows ≡ false
  pub fits : highest level rows ≤ nesting_limit

-- Why it is not: some key, bracket or number is above the limit, or something stands in its way.
abbrev pub IsKeptOut : Option Trie → Rows → ℕ → Clash → Type 0
IsKeptOut entered rows level Memory = ⊤
IsKeptOut entered rows level Deep = nesting_limit < highest level rows
IsKeptOut entered rows level _ = (rows_clash rows ≡ true) ⊎ (entered ≡ None)

-- what a section is entered into becomes this, or it is kept out
abbrev pub EntersItem : Option Trie → Rows → ℕ → Trie → Result (Unit {0}) Clash → Type 0
EntersItem entered rows level after (Ok _) = IsIn entered rows level after
EntersItem entered rows level after (Err clash) = IsKeptOut entered rows level clash

-- on from a table of a level by the keys of a header that are left
abbrev pub EntersHeader : Bool → Rows → KeyTexts → ℕ → Trie → Trie → Result (Unit {0}) Clash → Type 0
EntersHeader is_array rows keys level t after result =
    EntersItem (walk is_array rows keys t) rows (level + steps_to is_array keys t) after result

-- what is entered by the keys that are left, and how many steps further
abbrev pub entered_by : Bool → Rows → KeyTexts → Trie → Option Trie
entered_by is_array rows keys t = go_on (λ t. walk is_array rows keys t) (count t) t

abbrev pub steps_by : Bool → KeyTexts → Trie → ℕ
steps_by is_array keys t = suc (steps_on (λ t. steps_to is_array keys t) (count t) t)

-- the same, where the last key of an array's header adds an element
abbrev pub entered_at : Bool → Rows → KeyTexts → Trie → Option Trie
entered_at true rows [] t = put_element rows t
entered_at is_array rows keys t = entered_by is_array rows keys t

abbrev pub steps_at : Bool → KeyTexts → Trie → ℕ
steps_at true [] t = 2
steps_at is_array keys t = steps_by is_array keys t

-- what is met first on these steps, where what stands there is on a level
abbrev pub obstacle_by : Bool → Rows → KeyTexts → ℕ → Trie → Option Obstacle
obstacle_by is_array rows keys l t =
    obstacle_on (λ l t. keys_obstacle is_array rows keys l t) (length keys) l (count t) t

abbrev pub obstacle_at : Bool → Rows → KeyTexts → ℕ → Trie → Option Obstacle
obstacle_at true rows [] l t = element_obstacle l rows t
obstacle_at is_array rows keys l t = obstacle_by is_array rows keys l t

-- whether a key is the last of an array's header, by the keys after it
abbrev pub is_last : Bool → KeyTexts → Bool
is_last true [] = true
is_last is_array keys = false

-- what a header makes at a key where nothing stands: a table without entries, or an array of one such table
pub record IsNewTable (i : Item) : Type 0 where
  pub table : Box Table Global
  pub is : i ≡ items.Table table
  pub empty : table_trie table.value ≡ empty_table

pub record IsNewArray (i : Item) : Type 0 where
  pub array : Box (Vec Table Global × Table) Global
  pub is : i ≡ items.Tables array
  pub none : array.value.0.items ≡ []
  pub empty : table_trie array.value.1 ≡ empty_table

abbrev pub IsNew : (is_array : Bool) → Item → Type 0
IsNew true i = IsNewArray i
IsNew false i = IsNewTable i

-- an array of tables, and the same with a table without entries after its latest
pub record HasOneMore (old new : Item) : Type 0 where
  pub before : Box (Vec Table Global × Table) Global
  pub after : Box (Vec Table Global × Table) Global
  pub was : old ≡ items.Tables before
  pub is : new ≡ items.Tables after
  pub tables : after.value.0.items ≡ before.value.0.items ++ before.value.1 ∷ []
  pub empty : table_trie after.value.1 ≡ empty_table

-- the clash of an array of tables with a table that stands at its key, by whether that is named and dots extend it
abbrev pub table_clash : (named dotted : Bool) → Clash
table_clash true true = Header 1
table_clash false true = Header 1
table_clash true false = Named
table_clash false false = Redefined
