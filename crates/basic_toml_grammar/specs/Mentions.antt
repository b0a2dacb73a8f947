-- The mentions of a section list, own: a section mentions its indexed path as 'table here', then, after it, the key
-- path of each row with its finished value. An inline table is finished as the tree of its rows' mentions.
use Rattle.std.specs.Prelude.{List, [], ◌∷◌, ◌++◌, Some, None}
use Rattle.basic_toml_value.specs.Data.{Data, Items, no_items, item}
use Rattle.basic_toml_grammar.specs.Sections.{texts, Raw, Elements, no_elements, element, Rows, no_rows, row}
use Rattle.basic_toml_grammar.specs.Steps.{Path, steps_of}
use Rattle.basic_toml_grammar.specs.IndexedPath.{Located}
use Rattle.basic_toml_grammar.specs.Tree.{Mention}
use Rattle.basic_toml_grammar.specs.Growth.{tree_of}

abbrev mutual
  pub finished : Raw → Data
  finished (Raw.integer z) = Data.integer z
  finished (Raw.float t) = Data.float t
  finished (Raw.boolean b) = Data.boolean b
  finished (Raw.string t c) = Data.string t
  finished (Raw.array elements) = Data.array (finished_elements elements)
  finished (Raw.inline rows) = tree_of (row_mentions [] rows)

  pub finished_elements : Elements → Items
  finished_elements no_elements = no_items
  finished_elements (element at value elements) = item (finished value) (finished_elements elements)

  -- the mentions of rows after a path
  pub row_mentions : Path → Rows → List Mention
  row_mentions path no_rows = []
  row_mentions path (row keys at value rows) =
      record { path = path ++ steps_of (texts keys); value = Some (finished value) } ∷ row_mentions path rows

abbrev pub section_mentions : Path → Rows → List Mention
section_mentions path rows = record { path = path; value = None } ∷ row_mentions path rows

abbrev pub mentions : List Located → List Mention
mentions [] = []
mentions (l ∷ ls) = section_mentions l.path l.section.rows ++ mentions ls
