-- What `resolve` answers.
use Rattle.std.specs.Prelude.{◌≡◌, ◌≤◌, ℕ, List, [], ◌∷◌, map, true, false, IsSomeAnd, Result, Ok, Err}
use Rattle.basic_toml_value.specs.Nesting.{nesting_limit}
use Rattle.basic_toml_grammar.specs.Sections.{Key, Section}
use Rattle.basic_toml_grammar.specs.Steps.{Step, Path}
use Rattle.basic_toml_grammar.specs.Nodes.{is_made}
use Rattle.basic_toml_grammar.specs.IndexedPath.{Located, located}
use Rattle.basic_toml_grammar.specs.Depth.{depth}
use Rattle.basic_toml_grammar.specs.Document.{has_clash, tree_of_sections}
use Rattle.basic_toml_grammar.specs.Entering.{all_keyed, all_keyed_within}
use Rattle.basic_toml_grammar.specs.Faults.{Fault}
use Rattle.basic_toml_explain.specs.Error.{want_of_memory}
use Rattle.basic_toml_read.specs.declared.section.Section as code
use Rattle.basic_toml_read.specs.SectionView.{section_of}
use Rattle.basic_toml_origin.specs.Anchor.{LeadsTo}
use Rattle.basic_toml_tree.specs.declared.tree.Tree.{Tree}
use Rattle.basic_toml_tree.specs.Data.{table_data}
use Rattle.basic_toml_tree.specs.FirstStop.{Stands, SectionsFault}
use Rattle.basic_toml_grow.specs.Item.{table_trie}
use Rattle.basic_toml_grow.specs.Origins.{Origins, table_within}
use Rattle.basic_toml_grow.specs.Ways.{sections_origins}

-- where a section begins, and the keys of its header
abbrev pub head : Section → ℕ × List Key
head s = (s.at, s.header)

-- what headers made comes from a section whose header leads there
abbrev pub ComesFromHeaders : List Located → Origins → Type 0
ComesFromHeaders ls origins = (s : Step) (p : Path) → is_made ls (s ∷ p) ≡ true
    → IsSomeAnd (origins (s ∷ p)) (λ o. (o.made ≡ true) × LeadsTo ls o.section (s ∷ p))

-- Nothing clashes, the tree fits the limit, and this is it. It keeps the headers, what is said of each path, and where
-- what rows and headers made comes from.
pub record IsResolved (sections : List Section) (tree : Tree) : Type 0 where
  pub clash : has_clash sections ≡ false
  pub fits : depth (tree_of_sections sections) ≤ nesting_limit
  pub grown : table_data tree.root ≡ tree_of_sections sections
  pub stands : Stands sections (table_trie tree.root)
  pub heads : tree.headers ≡ map head sections
  pub within : all_keyed_within sections ≡ true
  pub origins : (p : Path) → is_made (located sections) p ≡ false
      → (table_within tree.root).below p ≡ sections_origins 0 (located sections) p
  pub marks : ComesFromHeaders (located sections) (table_within tree.root).below

-- why a list has no tree: memory was refused, where there are sections, or they do not go into one
pub data IsUnresolved (sections : List Section) : Fault → Type 0 where
  memory : (sections ≡ [] → ⊥) → IsUnresolved sections want_of_memory
  refused : {fault : Fault} → SectionsFault sections fault → IsUnresolved sections fault

-- of a list whose rows and array headers have keys
abbrev pub Resolves : List code.Section → Result Tree Fault → Type 0
Resolves sections (Ok tree) = all_keyed (map section_of sections) ≡ true → IsResolved (map section_of sections) tree
Resolves sections (Err fault) = all_keyed (map section_of sections) ≡ true → IsUnresolved (map section_of sections) fault
