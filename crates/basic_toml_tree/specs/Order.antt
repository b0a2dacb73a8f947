-- Sections in another order (TOML v0.5.0, "Table" and "Array of Tables"): what `resolve` answers to a list holds of each
-- reordering of it that leaves the indexed paths as they are, and without array sections of every reordering.
use Rattle.std.specs.Prelude.{◌≡◌, ◌⊎◌, List, map, true, false, None, Result, Ok, Err, IsSomeAnd}
use Rattle.std.specs.List.{list_any}
use Rattle.basic_toml_value.specs.SameMaps.{SameMaps}
use Rattle.basic_toml_grammar.specs.Sections.{Section}
use Rattle.basic_toml_grammar.specs.Steps.{Path}
use Rattle.basic_toml_grammar.specs.Document.{has_clash, document_of}
use Rattle.basic_toml_grammar.specs.Entering.{all_keyed}
use Rattle.basic_toml_grammar.specs.Faults.{Fault}
use Rattle.basic_toml_grammar.specs.NamedClash.{NamesClash}
use Rattle.basic_toml_grammar.specs.Statements.{Reordered, with_paths}
use Rattle.basic_toml_explain.specs.Error.{want_of_memory}
use Rattle.basic_toml_read.specs.declared.section.Section as code
use Rattle.basic_toml_read.specs.SectionView.{section_of}
use Rattle.basic_toml_tree.specs.declared.tree.Tree.{Tree}
use Rattle.basic_toml_tree.specs.Data.{table_data}

-- the same sections in another order, in which each keeps its indexed path, or of which none is an array section
abbrev pub IsReordering : List Section → List Section → Type 0
IsReordering sections others =
    Reordered (Section × Path) (with_paths sections) (with_paths others)
    ⊎ ((list_any (λ s. s.is_array) sections ≡ false) × Reordered Section sections others)

-- the others have no tree either, and clash where the error of the list names a clash
pub record IsRefusedToo (sections : List Section) (fault : Fault) (others : List Section) : Type 0 where
  pub none : document_of others ≡ None
  pub clash : NamesClash sections fault → has_clash others ≡ true

-- a list is answered as its reordering is: with a tree of the same maps, or, memory aside, with none
abbrev pub IsAnswerToo : List Section → Result Tree Fault → List Section → Type 0
IsAnswerToo sections (Ok tree) others = IsSomeAnd (document_of others) (SameMaps (table_data tree.root))
IsAnswerToo sections (Err fault) others = (fault ≡ want_of_memory) ⊎ IsRefusedToo sections fault others

-- of a list whose rows and array headers have keys
abbrev pub ResolvesInAnyOrder : List code.Section → Result Tree Fault → Type 0
ResolvesInAnyOrder sections result =
    all_keyed (map section_of sections) ≡ true → (others : List Section)
    → IsReordering (map section_of sections) others → IsAnswerToo (map section_of sections) result others
