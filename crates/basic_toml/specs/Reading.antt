-- How reading a text as a type ends, by what the type answers to data (`TypeAnswers`). (own)
use Rattle.std.specs.Prelude.{◌≡◌, ◌⊎◌, ◌≤◌, ◌<◌, ℕ, List, [], length, Result, Ok, Err}
use Rattle.basic_toml_tokens.specs.Text.{folded}
use Rattle.basic_toml_value.specs.Data.{Data, table, Members, no_members}
use Rattle.basic_toml_value.specs.Nesting.{nesting_limit}
use Rattle.basic_toml_grammar.specs.Sections.{Section}
use Rattle.basic_toml_grammar.specs.Grammar.{IsSectionList}
use Rattle.basic_toml_grammar.specs.Levels.{highest_level}
use Rattle.basic_toml_grammar.specs.NestingFaults.{IsTooDeepAt}
use Rattle.basic_toml_grammar.specs.DeepStops.{DeepStop, IsWithin}
use Rattle.basic_toml_grammar.specs.Viable.{IsDue}
use Rattle.basic_toml_grammar.specs.Document.{IsDocument}
use Rattle.basic_toml_grammar.specs.Faults as read
use Rattle.basic_toml_grammar.specs.GrammarFaults.{fault_at}
use Rattle.basic_toml_explain.specs.Error as explain
use Rattle.basic_toml_read.specs.Lists.{IsGap}
use Rattle.basic_toml_tree.specs.declared.node.Node.{Node}
use Rattle.basic_toml_tree.specs.declared.tree.Tree.{Tree}
use Rattle.basic_toml_tree.specs.Data.{table_data}
use Rattle.basic_toml_tree.specs.FirstStop.{SectionsFault}
use Rattle.basic_toml_tree.specs.Nodes.{node_data}
use Rattle.basic_toml_tree.specs.Resolve.{IsResolved}
use Rattle.basic_toml_tree.specs.Stands.{IsNodeAt}
use Rattle.basic_toml_error.specs.Fault.{Fault, want_of_memory}
use Rattle.basic_toml_error.specs.ReadFaults.{fault_in, lined}
pub use Rattle.basic_toml_typed.specs.TypeAnswers.{OnlyMemory, OrMemory, ReadsData}

-- each section list of the text passes the limit, and the first key or bracket above it is met at the offset
pub record IsNestedTooDeeply (text : List ℕ) (offset : ℕ) : Type 0 where
  pub passes : (sections : List Section) → IsSectionList (folded text) sections
      → nesting_limit < highest_level sections
  pub first : IsTooDeepAt nesting_limit (folded text) offset
  pub met : DeepStop nesting_limit (folded text) offset

-- Why a text has no document: a key or a bracket is met above the limit; or none is, it has no section list, and this is
-- the error that is due; or the sections of its list, which is within the limit, do not go into a tree.
pub data IsTextFault (text : List ℕ) : read.Fault → Type 0 where
  outside : {error : read.Fault} → IsDue (folded text) (length text) error → IsWithin nesting_limit (folded text)
      → IsTextFault text error
  deep : {offset : ℕ} → IsNestedTooDeeply text offset → IsTextFault text (fault_at read.nested_too_deeply offset)
  no_tree : {sections : List Section} {error : read.Fault} → IsSectionList (folded text) sections
      → highest_level sections ≤ nesting_limit → SectionsFault sections error → IsTextFault text error

-- the tree of a text: its data are the document, and what its nodes tell is foretold by the section list
pub record IsTreeOf (text : List ℕ) (tree : Tree) : Type 0 where
  pub sections : List Section
  pub grammar : IsSectionList (folded text) sections
  pub resolved : IsResolved sections tree
  pub document : IsDocument (folded text) (table_data tree.root)

-- the node of a text's document
pub record IsNodeOf (text : List ℕ) (root : Node) : Type 0 where
  pub sections : List Section
  pub grammar : IsSectionList (folded text) sections
  pub stands : IsNodeAt sections [] root
  pub document : IsDocument (folded text) (node_data root)

-- at the document of a text
abbrev pub AtDocument : (Node → Type 0) → List ℕ → Type 0
AtDocument Holds text = (root : Node) × IsNodeOf text root × Holds root

-- a fault of a type that reads nothing, as the type names it, with the line and the column of its offset in the text
abbrev pub IsLined : {T : Type 0} → Type 0 → (T → Type 0) → (Fault → Type 0) → List ℕ → Fault → Type 0
IsLined Takes IsRead IsNamed text fault =
    (own : Fault) × OnlyMemory Takes IsRead own × IsNamed own × (fault ≡ lined text own)

-- A value that the type reads from the document; or want of memory; or the error of a text without a document, with
-- the line and the column of its offset; or a fault of the type, which reads nothing from the document, as the type
-- names it at the node of the document, with the line and the column of its offset.
pub data ReadsText {T : Type 0} (takes : Data → Type 0) (reads : Data → T → Type 0) (faults : Node → Fault → Type 0)
    (text : List ℕ) : Result T Fault → Type 0 where
  value_read : {members : Members} {value : T} → IsDocument (folded text) (table members)
      → reads (table members) value → ReadsText takes reads faults text (Ok value)
  no_memory : ReadsText takes reads faults text (Err want_of_memory)
  no_document : {error : read.Fault} → ((tree : Data) → IsDocument (folded text) tree → ⊥)
      → IsTextFault text error → ReadsText takes reads faults text (Err (fault_in text error))
  not_taken : {members : Members} {fault : Fault} → IsDocument (folded text) (table members)
      → IsLined (takes (table members)) (reads (table members))
      (λ own. AtDocument (λ root. OrMemory (faults root) own) text) text fault
      → ReadsText takes reads faults text (Err fault)

-- Want of memory comes of a text of blanks, comments and line feeds only where the type may ask for memory for a table
-- without keys.
abbrev pub WantsMemory : (Data → Type 0) → List ℕ → Fault → Type 0
WantsMemory grows text fault = fault ≡ want_of_memory → IsGap (folded text) → grows (table no_members)

-- on the way: the tree of the text, or why there is none
abbrev pub GivesTree : List ℕ → Result Tree read.Fault → Type 0
GivesTree text (Ok tree) = IsTreeOf text tree
GivesTree text (Err error) = (error ≡ explain.want_of_memory) ⊎ IsTextFault text error

-- the same, the error with its line and its column
abbrev pub AnswersTree : List ℕ → Result Tree Fault → Type 0
AnswersTree text (Ok tree) = IsTreeOf text tree
AnswersTree text (Err fault) = (fault ≡ want_of_memory)
    ⊎ ((error : read.Fault) × IsTextFault text error × (fault ≡ fault_in text error))

-- The tree of the text; or want of memory; or the error of a text without a document, with the line and the column of
-- its offset.
pub data ReadsTree (text : List ℕ) : Result Tree Fault → Type 0 where
  tree_read : {tree : Tree} → IsTreeOf text tree → ReadsTree text (Ok tree)
  no_memory_for_tree : ReadsTree text (Err want_of_memory)
  no_document_for_tree : {error : read.Fault} → ((tree : Data) → IsDocument (folded text) tree → ⊥) → IsTextFault text error
      → ReadsTree text (Err (fault_in text error))
