-- What looking through the rest of a text answers, where a section does not go into the tree.
use Rattle.std.specs.Prelude.{◌≡◌, ◌⊎◌, ℕ, List, ◌++◌, Option, MatchOption, Result, Ok, Err}
use Rattle.basic_toml_explain.specs.declared.stop.Stop.{Stop}
use Rattle.basic_toml_grammar.specs.Faults.{Fault}
use Rattle.basic_toml_grammar.specs.NamedClash.{dotted_fault}
use Rattle.basic_toml_grammar.specs.Sections.{Section}
use Rattle.basic_toml_read.specs.declared.section.Section as code
use Rattle.basic_toml_read.specs.SectionsAnswer.{IsRefused}
use Rattle.basic_toml_read.specs.SectionsRead.{IsBehind, IsPlaceIn, IsList, IsStop}
use Rattle.basic_toml_read.specs.declared.reader.Place.{Place}
use Rattle.basic_toml_grow.specs.Clash.{NamesClash}
use Rattle.basic_toml_grow.specs.Crossed.{first_crossed}
use Rattle.basic_toml_grow.specs.declared.clash.Clash.{Clash}

-- a place in a text that a reader of it comes to
pub record IsReached (bytes : List ℕ) (place : Place) : Type 0 where
  pub within : IsPlaceIn bytes place
  pub list : List Section
  pub behind : IsBehind bytes place list

-- the sections after these, to the end of the text, and the first value there that a row goes on from
pub record IsRestRead (bytes : List ℕ) (list : List Section) (found : Option ℕ) : Type 0 where
  pub later : List Section
  pub is : IsList bytes (list ++ later)
  pub first : found ≡ first_crossed later

abbrev pub ReadsRest : List ℕ → List Section → Result (Option ℕ) Stop → Type 0
ReadsRest bytes list (Ok found) = IsRestRead bytes list found
ReadsRest bytes list (Err stop) = IsStop bytes stop

-- The sections after these, to the end of the text, and their error where the first of them clashes: it names the first
-- value there that a row goes on from, and the clash where there is none.
pub record IsClashOf (bytes : List ℕ) (list : List Section) (s : code.Section) (clash : Clash) (fault : Fault) : Type 0 where
  pub later : List Section
  pub is : IsList bytes (list ++ later)
  pub told : MatchOption (first_crossed later) (NamesClash s clash fault) (λ at. fault ≡ dotted_fault at)

-- An error of the text comes first.
abbrev pub TellsClash : List ℕ → List Section → code.Section → Clash → Fault → Type 0
TellsClash bytes list s clash fault = IsRefused bytes fault ⊎ IsClashOf bytes list s clash fault
