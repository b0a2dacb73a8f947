-- Anchors, own: by what a node is found again, without its path. What headers made stands on the indexed path of a
-- section: an array of tables at a key, and a table at a key or at the number behind it. What a row made is found by
-- where it begins. The path that an anchor leads to is told by the section list alone.
use Rattle.std.specs.Prelude.{◌≡◌, ℕ, zero, suc, true, false, List, [], ◌∷◌, length, slice_get}
use Rattle.std.specs.Prelude.{Option, Some, IsSomeAnd, option_map}
use Rattle.basic_toml_grammar.specs.Sections.{Section}
use Rattle.basic_toml_grammar.specs.Steps.{key, number, Path, begins, keys_of}
use Rattle.basic_toml_grammar.specs.IndexedPath.{Located, located}
use Rattle.basic_toml_grammar.specs.Nodes.{is_array, is_made, node_at}
use Rattle.basic_toml_places.specs.Places.{as_far_as, path_at}
use Rattle.basic_toml_origin.specs.declared.anchor.Anchor.{Anchor}
use Rattle.basic_toml_origin.specs.declared.anchor.Anchor.TheVariants.{Root, Table, Array, Value}
use Rattle.basic_toml_origin.specs.KeyPath.{up_to_key}

-- a path up to its key of a number, counted from 1, and the number behind that key, if one follows
abbrev pub up_to_table : ℕ → Path → Path
up_to_table zero [] = []
up_to_table zero (key k ∷ p) = []
up_to_table zero (number m ∷ p) = number m ∷ []
up_to_table (suc n) [] = []
up_to_table (suc n) (key k ∷ p) = key k ∷ up_to_table n p
up_to_table (suc n) (number m ∷ p) = number m ∷ up_to_table (suc n) p

-- what is made of the indexed path of the section of a number, counted from 0
abbrev pub of_section : (Path → Path) → List Section → ℕ → Option Path
of_section f sections n = option_map (λ l. f l.path) (slice_get (located sections) n)

-- the path that an anchor leads to
abbrev pub path_of_anchor : List Section → Anchor → Option Path
path_of_anchor sections Root = Some []
path_of_anchor sections (Table n keys) = of_section (up_to_table keys) sections n
path_of_anchor sections (Array n keys) = of_section (up_to_key keys) sections n
path_of_anchor sections (Value at keys) = option_map (as_far_as keys) (path_at sections at)

-- the section of a number leads to a path
abbrev pub LeadsTo : List Located → ℕ → Path → Type 0
LeadsTo ls n p = IsSomeAnd (slice_get ls n) (λ l. begins p l.path ≡ true)

-- An anchor of what is at a path: of the document; of a table or an array that headers made; or of what a row made.
abbrev pub IsAnchorOf : List Section → Path → Anchor → Type 0
IsAnchorOf sections p Root = p ≡ []
IsAnchorOf sections p (Table n keys) =
    let ls = located sections in
    LeadsTo ls n p × (is_array ls p ≡ false) × (keys ≡ length (keys_of p))
IsAnchorOf sections p (Array n keys) =
    let ls = located sections in
    LeadsTo ls n p × (is_array ls p ≡ true) × (keys ≡ length (keys_of p))
IsAnchorOf sections p (Value at keys) =
    (is_made (located sections) p ≡ false) × IsSomeAnd (node_at sections p) (λ node. node.start ≡ Some at)
    × (keys ≡ length (keys_of p))
