-- The clash of sections and the comment as they were before, own: of a row its first key alone clashed, and a comment
-- held U+007F. They stand beside the rules for one law: what had a document by these has the same document
-- (`old_documents_stand`).
use Rattle.std.specs.Prelude.{◌≡◌, ℕ, nat_le, ◌==◌, ◌||◌, not, Bool, true, false, if◌then◌else◌, List, [], ◌∷◌, ◌++◌}
use Rattle.std.specs.Prelude.{◌&&◌, Option, Some, None}
use Rattle.basic_toml_tokens.specs.Ascii as ascii
use Rattle.basic_toml_tokens.specs.Text.{Text}
use Rattle.basic_toml_value.specs.Data.{Data}
use Rattle.basic_toml_grammar.specs.Sections.{Rows, no_rows, row, Section}
use Rattle.basic_toml_grammar.specs.Steps.{key, Path, begins}
use Rattle.basic_toml_grammar.specs.IndexedPath.{Located, located}
use Rattle.basic_toml_grammar.specs.RowClash.{has_row_clash}
use Rattle.basic_toml_grammar.specs.SectionClash.{same_path, array_on_cut, any_pair}
use Rattle.basic_toml_value.specs.Nesting.{nesting_limit}
use Rattle.basic_toml_grammar.specs.Depth.{depth}
use Rattle.basic_toml_grammar.specs.Grammar.{IsSectionListBy}
use Rattle.basic_toml_grammar.specs.Document.{tree_of_sections}

-- the indexed path of i followed by the first key of one of its rows equals or begins the indexed path of j
abbrev pub first_key_on_path : Path → Rows → Located → Bool
first_key_on_path path no_rows j = false
first_key_on_path path (row [] at value rows) j = first_key_on_path path rows j
first_key_on_path path (row (k ∷ keys) at value rows) j =
    begins (path ++ key k.text ∷ []) j.path || first_key_on_path path rows j

abbrev pub clashed_one_way : Located → Located → Bool
clashed_one_way i j = same_path i j || (array_on_cut i j || first_key_on_path i.path i.section.rows j)

abbrev pub clashed : Located → Located → Bool
clashed i j = clashed_one_way i j || clashed_one_way j i

abbrev pub sections_clashed : List Section → Bool
sections_clashed sections = any_pair clashed (located sections)

abbrev pub was_comment : ℕ → Bool
was_comment c = c == ascii.tab || nat_le ascii.space c

abbrev pub old_document_of : List Section → Option Data
old_document_of sections =
    let tree = tree_of_sections sections in
    if (has_row_clash sections || sections_clashed sections) || not (nat_le (depth tree) nesting_limit) then None else
    Some tree

-- the tree was the document of a text
pub record WasDocument (text : Text) (tree : Data) : Type 0 where
  pub sections : List Section
  pub grammar : IsSectionListBy was_comment text sections
  pub means : old_document_of sections ≡ Some tree

-- No character is U+007F. A text that had a document held it in comments alone, since no string and no other token
-- holds it.
abbrev pub has_no_delete : Text → Bool
has_no_delete [] = true
has_no_delete (x ∷ text) = not (x.1 == ascii.delete) && has_no_delete text
