-- Section lists that differ in the order of the rows of each section alone, and the law that they mean the same maps.
use Rattle.std.specs.Prelude.{◌≡◌, true, false, List, [], ◌∷◌}
use Rattle.basic_toml_value.specs.Data.{Data}
use Rattle.basic_toml_value.specs.SameMaps.{SameMaps}
use Rattle.basic_toml_grammar.specs.Sections.{KeyTexts, texts, Rows, no_rows, row, Section}
use Rattle.basic_toml_grammar.specs.Mentions.{finished}
use Rattle.basic_toml_grammar.specs.Entering.{all_keyed}
use Rattle.basic_toml_grammar.specs.Document.{has_clash, tree_of_sections}
use Rattle.basic_toml_grammar.specs.Statements.{Reordered}

-- the rows in order, each with its keys and the data of its value; where it stands is left out
abbrev pub pairs_of : Rows → List (KeyTexts × Data)
pairs_of no_rows = []
pairs_of (row keys at value rows) = (texts keys, finished value) ∷ pairs_of rows

-- the sections in order, the rows of each in any order
pub data RowsReordered : List Section → List Section → Type 0 where
  none : RowsReordered [] []
  section : {s t : Section} {sections others : List Section} → texts s.header ≡ texts t.header
      → s.is_array ≡ t.is_array → Reordered (KeyTexts × Data) (pairs_of s.rows) (pairs_of t.rows)
      → RowsReordered sections others → RowsReordered (s ∷ sections) (t ∷ others)

-- where neither list clashes, their trees differ in the order of keys alone
abbrev pub RowOrderMeansNothing : Type 0
RowOrderMeansNothing = (sections others : List Section) → all_keyed sections ≡ true → all_keyed others ≡ true
    → RowsReordered sections others → has_clash sections ≡ false → has_clash others ≡ false
    → SameMaps (tree_of_sections sections) (tree_of_sections others)
