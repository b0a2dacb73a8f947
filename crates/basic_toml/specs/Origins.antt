-- Where what a path leads to is written in a text. (own)
use Rattle.std.specs.Prelude.{◌≡◌, ◌⊎◌, ℕ, List, Option, Result, Ok, Err}
use Rattle.basic_toml_tokens.specs.Text.{folded}
use Rattle.basic_toml_grammar.specs.Faults as read
use Rattle.basic_toml_grammar.specs.Grammar.{IsSectionList}
use Rattle.basic_toml_grammar.specs.Sections.{Section}
use Rattle.basic_toml_grammar.specs.Steps.{Path}
use Rattle.basic_toml_read.specs.SectionsAnswer.{IsRefused}
use Rattle.basic_toml_tree.specs.OfText.{IsListOf}
use Rattle.basic_toml_tree.specs.Stands.{IsNodeAt}
use Rattle.basic_toml_tree.specs.declared.node.Node.{Node}
use Rattle.basic_toml_error.specs.Fault.{Fault, want_of_memory}
use Rattle.basic_toml_error.specs.ReadFaults.{fault_in}
use Rattle.basic_toml_origin.specs.declared.origin.Origin.{Origin}
use Rattle.basic_toml_origin.specs.declared.step.Step.{Step}
use Rattle.basic_toml_origin.specs.Origin.{origin_at}
use Rattle.basic_toml_origin.specs.Path.{path_of}

-- the origin that the section list of the text gives
pub record IsOriginIn (text : List ℕ) (path : List Step) (origin : Option Origin) : Type 0 where
  pub sections : List Section
  pub list : IsListOf text sections
  pub is : origin ≡ origin_at sections (path_of path)

-- want of memory, or the error of a text without a section list within the limit, with its line and its column
abbrev pub IsListFault : List ℕ → Fault → Type 0
IsListFault text fault = (fault ≡ want_of_memory)
    ⊎ ((error : read.Fault) × IsRefused text error × (fault ≡ fault_in text error))

abbrev pub AnswersOrigin : List ℕ → List Step → Result (Option Origin) Fault → Type 0
AnswersOrigin text path (Ok origin) = IsOriginIn text path origin
AnswersOrigin text path (Err fault) = IsListFault text fault

-- of a node in the tree of the text, wherever it stands there
abbrev pub AnswersNodeOrigin : List ℕ → Node → Result (Option Origin) Fault → Type 0
AnswersNodeOrigin text node (Ok origin) = (sections : List Section) (p : Path) → IsSectionList (folded text) sections
    → IsNodeAt sections p node → origin ≡ origin_at sections p
AnswersNodeOrigin text node (Err fault) = IsListFault text fault
