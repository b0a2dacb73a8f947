-- What `tree_of` answers: the tree of the sections of a text, or why there is none.
use Rattle.std.specs.Prelude.{◌⊎◌, ◌≤◌, ℕ, List, Result, Ok, Err}
use Rattle.basic_toml_value.specs.Nesting.{nesting_limit}
use Rattle.basic_toml_tokens.specs.Text.{folded}
use Rattle.basic_toml_grammar.specs.Faults.{Fault}
use Rattle.basic_toml_grammar.specs.Grammar.{IsSectionList}
use Rattle.basic_toml_grammar.specs.Levels.{highest_level}
use Rattle.basic_toml_grammar.specs.Sections.{Section}
use Rattle.basic_toml_read.specs.SectionsAnswer.{IsRefused}
use Rattle.basic_toml_tree.specs.declared.tree.Tree.{Tree}
use Rattle.basic_toml_tree.specs.Resolve.{IsResolved, IsUnresolved}

-- these sections are the list of the text, within the limit
pub record IsListOf (bytes : List ℕ) (sections : List Section) : Type 0 where
  pub grammar : IsSectionList (folded bytes) sections
  pub limit : highest_level sections ≤ nesting_limit

-- the tree of these sections, or why they do not go into one
pub record IsTreeOf (bytes : List ℕ) (tree : Tree) : Type 0 where
  pub sections : List Section
  pub list : IsListOf bytes sections
  pub resolved : IsResolved sections tree

pub record HasNoTree (bytes : List ℕ) (fault : Fault) : Type 0 where
  pub sections : List Section
  pub list : IsListOf bytes sections
  pub unresolved : IsUnresolved sections fault

-- An error of the text comes before one of its sections.
abbrev pub AnswersText : List ℕ → Result Tree Fault → Type 0
AnswersText bytes (Ok tree) = IsTreeOf bytes tree
AnswersText bytes (Err fault) = IsRefused bytes fault ⊎ HasNoTree bytes fault

-- the same, where the tree grows in place
abbrev pub Takes : List ℕ → Tree → Result (Unit {0}) Fault → Type 0
Takes bytes tree (Ok _) = AnswersText bytes (Ok tree)
Takes bytes tree (Err fault) = AnswersText bytes (Err fault)
