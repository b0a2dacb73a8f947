-- How rows are put into a table, and what keeps them out.
use Rattle.std.specs.Prelude.{◌≡◌, ◌⊎◌, ⊤, ◌≤◌, ◌<◌, ℕ, List, true, false, Option, Some, None, Result, Ok, Err}
use Rattle.std.specs.Prelude.{Vec, map, [], ◌∷◌, ◌++◌}
use Rattle.std.specs.declared.alloc.Global.{Global}
use Rattle.basic_toml_value.specs.Nesting.{nesting_limit}
use Rattle.basic_toml_value.specs.Data.{Data, items_of}
use Rattle.basic_toml_grammar.specs.Sections.{KeyTexts, Rows, no_rows, row, Raw, Elements}
use Rattle.basic_toml_grammar.specs.Mentions.{finished, finished_elements}
use Rattle.basic_toml_grammar.specs.RowClash.{rows_clash, value_clashes, elements_clash}
use Rattle.basic_toml_grammar.specs.Levels.{rows_level, value_level, elements_level}
use Rattle.basic_toml_grammar.specs.Trie.{Trie, put_rows, put_row, mark_here}
use Rattle.basic_toml_grammar.specs.Marks.{dotted}
use Rattle.basic_toml_grammar.specs.Entering.{and_then}
use Rattle.basic_toml_read.specs.declared.section.Key as keys
use Rattle.basic_toml_read.specs.declared.section.Row.{Row}
use Rattle.basic_toml_read.specs.SectionView.{key_of, lined_of}
use Rattle.basic_toml_plain.specs.Tries.{leaf, tree_data}
use Rattle.basic_toml_grow.specs.declared.clash.Clash.{Clash}
use Rattle.basic_toml_grow.specs.declared.clash.Clash.TheVariants.{Memory, Deep}
use Rattle.basic_toml_grow.specs.declared.item.Child.{Child}
use Rattle.basic_toml_grow.specs.declared.met.Met.{Met}
use Rattle.basic_toml_grow.specs.declared.met.Met.TheVariants as mets
use Rattle.basic_toml_grow.specs.Item.{child_trie}

-- the rows stand in the table, beside what stood there
pub record AreIn (rows : Rows) (level : ℕ) (before after : Trie) : Type 0 where
  pub put : put_rows rows before ≡ Some after
  pub apart : rows_clash rows ≡ false
  pub fits : rows_level level rows ≤ nesting_limit

-- Why rows are not put into a table of a level: some key or bracket is above the limit, or a key is in the way of one
-- that stands there, or of another row's.
abbrev pub AreKeptOut : Rows → ℕ → Trie → Clash → Type 0
AreKeptOut rows level before Memory = ⊤
AreKeptOut rows level before Deep = nesting_limit < rows_level level rows
AreKeptOut rows level before _ = (rows_clash rows ≡ true) ⊎ (put_rows rows before ≡ None)

abbrev pub EntersRows : Rows → ℕ → Trie → Trie → Result (Unit {0}) Clash → Type 0
EntersRows rows level before after (Ok _) = AreIn rows level before after
EntersRows rows level before after (Err clash) = AreKeptOut rows level before clash

-- why something is not put into the tree
pub data Reason : Type 0 where
  memory deep crossed : Reason

abbrev pub reason : Clash → Reason
reason Memory = memory
reason Deep = deep
reason _ = crossed

abbrev pub met_reason : Met → Reason
met_reason mets.Memory = memory
met_reason _ = crossed

-- a row with these parents, alone
abbrev pub one_row : List keys.Key → Row → Rows
one_row parents r =
    row (map key_of parents ++ (lined_of r).key ∷ []) (lined_of r).start (lined_of r).value no_rows

-- what a change that may meet something gives
abbrev pub Enters : Option Trie → Trie → Result (Unit {0}) Met → Type 0
Enters changed after (Ok _) = changed ≡ Some after
Enters changed after (Err mets.Memory) = ⊤
Enters changed after (Err _) = changed ≡ None

-- one row with these keys, put into a table; and what its first key leads to, with the others put there
abbrev pub EntersRow : KeyTexts → Data → Trie → Trie → Result (Unit {0}) Met → Type 0
EntersRow keys d before after result = Enters (put_row keys d before) after result

abbrev pub Extends : KeyTexts → Data → Trie → Trie → Result (Unit {0}) Met → Type 0
Extends keys d before after result =
    Enters (and_then (mark_here dotted before) (λ t. put_row keys d t)) after result

-- a value of a level, finished, and its elements
pub record IsFinished (v : Raw) (level : ℕ) (t : Trie) : Type 0 where
  pub value : t ≡ leaf (finished v)
  pub apart : value_clashes v ≡ false
  pub fits : value_level level v ≤ nesting_limit

abbrev pub IsUnfinished : Raw → ℕ → Clash → Type 0
IsUnfinished v level Memory = ⊤
IsUnfinished v level Deep = nesting_limit < value_level level v
IsUnfinished v level _ = value_clashes v ≡ true

abbrev pub Finishes : Raw → ℕ → Result Child Clash → Type 0
Finishes v level (Ok child) = IsFinished v level (child_trie child)
Finishes v level (Err clash) = IsUnfinished v level clash

pub record AreFinished (es : Elements) (level : ℕ) (ts : List Trie) : Type 0 where
  pub values : items_of (map tree_data ts) ≡ finished_elements es
  pub apart : elements_clash es ≡ false
  pub fits : elements_level level es ≤ nesting_limit

abbrev pub AreUnfinished : Elements → ℕ → Clash → Type 0
AreUnfinished es level Memory = ⊤
AreUnfinished es level Deep = nesting_limit < elements_level level es
AreUnfinished es level _ = elements_clash es ≡ true

abbrev pub FinishesAll : Elements → ℕ → Result (Vec Child Global) Clash → Type 0
FinishesAll es level (Ok children) = AreFinished es level (map child_trie children.items)
FinishesAll es level (Err clash) = AreUnfinished es level clash
