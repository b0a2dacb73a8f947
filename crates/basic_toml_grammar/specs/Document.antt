-- Document, TOML v0.5.0: the tree that a text means. A text has one where the grammar gives it a section list, no rows
-- and no sections of it clash, and the tree of its mentions has a depth of at most the nesting limit.
use Rattle.std.specs.Prelude.{◌≡◌, ℕ, Bool, ◌||◌, not, nat_le, if◌then◌else◌, List, Option, Some, None}
use Rattle.basic_toml_tokens.specs.Text.{Text}
use Rattle.basic_toml_value.specs.Data.{Data}
use Rattle.basic_toml_grammar.specs.Sections.{Section}
use Rattle.basic_toml_grammar.specs.RowClash.{has_row_clash}
use Rattle.basic_toml_grammar.specs.IndexedPath.{located}
use Rattle.basic_toml_grammar.specs.SectionClash.{sections_clash}
use Rattle.basic_toml_grammar.specs.Growth.{tree_of}
use Rattle.basic_toml_grammar.specs.Mentions.{mentions}
use Rattle.basic_toml_value.specs.Nesting.{nesting_limit}
use Rattle.basic_toml_grammar.specs.Depth.{depth}
use Rattle.basic_toml_grammar.specs.Grammar.{IsSectionList}

abbrev pub has_clash : List Section → Bool
has_clash sections = has_row_clash sections || sections_clash sections

abbrev pub tree_of_sections : List Section → Data
tree_of_sections sections = tree_of (mentions (located sections))

abbrev pub document_within : ℕ → List Section → Option Data
document_within limit sections =
    let tree = tree_of_sections sections in
    if has_clash sections || not (nat_le (depth tree) limit) then None else Some tree

abbrev pub document_of : List Section → Option Data
document_of sections = document_within nesting_limit sections

-- the tree is the document of a text
pub record IsDocument (text : Text) (tree : Data) : Type 0 where
  pub sections : List Section
  pub grammar : IsSectionList text sections
  pub means : document_of sections ≡ Some tree
