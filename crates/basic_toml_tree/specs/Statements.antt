-- What the laws say.
use Rattle.std.specs.Prelude.{◌≡◌, true, List, Some, is_some}
use Rattle.basic_toml_tokens.specs.Text.{Text}
use Rattle.basic_toml_value.specs.Data.{Data}
use Rattle.basic_toml_grammar.specs.Sections.{Section}
use Rattle.basic_toml_grammar.specs.Steps.{Path}
use Rattle.basic_toml_grammar.specs.Entering.{all_keyed, all_keyed_within}
use Rattle.basic_toml_grammar.specs.Grammar.{IsSectionList}
use Rattle.basic_toml_grammar.specs.Document.{document_of}
use Rattle.basic_toml_grammar.specs.Nodes.{node_at}
use Rattle.basic_toml_tree.specs.Paths.{HasData}

-- wherever the document of a text has data, a node is foretold
abbrev pub EveryNodeIsForetold : Type 0
EveryNodeIsForetold = (text : Text) (sections : List Section) (tree : Data) (p : Path) → IsSectionList text sections
    → document_of sections ≡ Some tree → HasData tree p → is_some (node_at sections p) ≡ true

-- and so it is of every section list whose rows and array headers have keys
abbrev pub EveryNodeOfAListIsForetold : Type 0
EveryNodeOfAListIsForetold = (sections : List Section) (tree : Data) (p : Path) → all_keyed sections ≡ true
    → all_keyed_within sections ≡ true → document_of sections ≡ Some tree → HasData tree p
    → is_some (node_at sections p) ≡ true
