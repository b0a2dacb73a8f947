-- Why a section list has no tree, own. Where a row goes on from the value of an earlier row of its table, that comes
-- first over the whole list. Else it is the first section that the tree of those before it does not take, and what it
-- meets first there: a level above the limit, or what stands in its way.
use Rattle.std.specs.Prelude.{◌≡◌, ◌⊎◌, ℕ, true, false, List, [], ◌∷◌, ◌++◌, Some, None}
use Rattle.basic_toml_value.specs.Nesting.{nesting_limit}
use Rattle.basic_toml_grammar.specs.Sections.{Section}
use Rattle.basic_toml_grammar.specs.IndexedPath.{located}
use Rattle.basic_toml_grammar.specs.Entering.{all_keyed}
use Rattle.basic_toml_grammar.specs.Standing as standing
use Rattle.basic_toml_grammar.specs.Trie.{Trie, trie, nothing, no_tries, put_sections}
use Rattle.basic_toml_grammar.specs.Faults.{Fault}
use Rattle.basic_toml_grammar.specs.NamedClash.{dotted_fault}
use Rattle.basic_toml_grammar.specs.NestingFaults.{deep_sections}
use Rattle.basic_toml_grow.specs.Clash.{Obstacle, obstacle_fault}
use Rattle.basic_toml_grow.specs.Crossed.{first_crossed}
use Rattle.basic_toml_grow.specs.Obstacles.{first_obstacle}

-- a trie in which nothing stands but the root
abbrev pub only_root : Trie
only_root = trie (Some (standing.table false false false)) None no_tries

-- the trie that sections are put into, which begins with a root
abbrev pub Stands : List Section → Trie → Type 0
Stands sections t = (put_sections sections nothing ≡ Some t) ⊎ ((sections ≡ []) × (t ≡ only_root))

-- sections that are put into a trie, none of them above the limit
pub record Entered (sections : List Section) (t : Trie) : Type 0 where
  pub stands : Stands sections t
  pub shallow : deep_sections nesting_limit (located sections) ≡ []

-- a section that does not go into a trie, and its fault
abbrev pub StopsSection : Trie → Section → Fault → Type 0
StopsSection t s fault =
    (met : Obstacle) × ((first_obstacle s t ≡ Some met) × (fault ≡ obstacle_fault s met))

-- the first of a list
pub record FirstStop (sections : List Section) (fault : Fault) : Type 0 where
  pub before : List Section
  pub here : Section
  pub later : List Section
  pub parts : sections ≡ before ++ here ∷ later
  pub so_far : Trie
  pub entered : Entered before so_far
  pub stopped : StopsSection so_far here fault

-- the fault of a list that has no tree
pub data SectionsFault (sections : List Section) : Fault → Type 0 where
  value : {at : ℕ} → first_crossed sections ≡ Some at → SectionsFault sections (dotted_fault at)
  section : {fault : Fault} → first_crossed sections ≡ None → FirstStop sections fault → SectionsFault sections fault

-- a list has one such fault
abbrev pub SectionsFaultIsOne : Type 0
SectionsFaultIsOne = (sections : List Section) (fault other : Fault) → all_keyed sections ≡ true
    → SectionsFault sections fault → SectionsFault sections other → fault ≡ other
