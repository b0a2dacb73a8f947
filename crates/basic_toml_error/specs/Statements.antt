-- Laws about the texts, the origins and the paths of faults. Each is proved as the contract of a function in `laws`.
use Rattle.std.specs.Prelude.{◌≡◌, ℕ, List, ◌++◌, Option, Some, option_map}
use Rattle.basic_toml_tokens.specs.Text.{folded}
use Rattle.basic_toml_grammar.specs.Faults as read
use Rattle.basic_toml_grammar.specs.Grammar.{IsSectionList}
use Rattle.basic_toml_grammar.specs.Sections.{Section}
use Rattle.basic_toml_grammar.specs.Steps.{Path}
use Rattle.basic_toml_explain.specs.ReadErrorText.{read_text}
use Rattle.basic_toml_tree.specs.declared.node.Node.{Node}
use Rattle.basic_toml_tree.specs.Stands.{IsNodeAt}
use Rattle.basic_toml_error.specs.Fault.{FaultKind}
use Rattle.basic_toml_error.specs.FaultText.{fault_text, offset_text}
use Rattle.basic_toml_error.specs.NodeFaults.{fault_within}
use Rattle.basic_toml_error.specs.Origins.{about_node, alone, origins_in, path_in, steps_on}
use Rattle.basic_toml_error.specs.ReadFaults.{fault_in}

-- the text of an error of reading goes on with its line and its column
abbrev pub GoesOnWithLine : Type 0
GoesOnWithLine = (text : List ℕ) (error : read.Fault)
    → fault_text (fault_in text error) ≡ read_text error ++ offset_text (fault_in text error).line_column

-- in the text of its tree, a type's own fault at a node has the origin of what stands at the node's path
abbrev pub OriginsAreOfTheNode : Type 0
OriginsAreOfTheNode =
    (text : List ℕ) (sections : List Section) → IsSectionList (folded text) sections → (p : Path) (node : Node)
    → IsNodeAt sections p node → (offset : Option ℕ) (kind : FaultKind)
    → origins_in sections (fault_within node offset kind) ≡ option_map alone (about_node sections p kind)

-- and the node's path, which goes on to an unknown field
abbrev pub PathsAreOfTheNode : Type 0
PathsAreOfTheNode =
    (text : List ℕ) (sections : List Section) → IsSectionList (folded text) sections → (p : Path) (node : Node)
    → IsNodeAt sections p node → (offset : Option ℕ) (kind : FaultKind)
    → path_in sections (fault_within node offset kind) ≡ Some (p ++ steps_on kind)
