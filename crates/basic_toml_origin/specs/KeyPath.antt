-- The path that a key leads to, by the offset where the key begins, by the section list alone, own. It ends with the key:
-- one of a header leads so far along the path of its section, and one of a row along the row's keys.
use Rattle.std.specs.Prelude.{ℕ, zero, suc, List, [], ◌∷◌, Option, option_map}
use Rattle.std.specs.Option.{option_or}
use Rattle.basic_toml_grammar.specs.Sections.{Section}
use Rattle.basic_toml_grammar.specs.Steps.{key, number, Path}
use Rattle.basic_toml_grammar.specs.IndexedPath.{Located, located}
use Rattle.basic_toml_places.specs.Places.{first_path, key_number, keys_to_key, path_in}

-- a path up to its key of a number, counted from 1
abbrev pub up_to_key : ℕ → Path → Path
up_to_key zero p = []
up_to_key (suc n) [] = []
up_to_key (suc n) (key k ∷ p) = key k ∷ up_to_key n p
up_to_key (suc n) (number m ∷ p) = number m ∷ up_to_key (suc n) p

-- by the header of a section
abbrev pub header_path : ℕ → Located → Option Path
header_path o l = option_map (λ n. up_to_key n l.path) (key_number o l.section.header)

-- else by its rows
abbrev pub key_path_in : ℕ → Located → Option Path
key_path_in o l = option_or (header_path o l) (path_in (keys_to_key o) l)

-- by the first section that has such a key
abbrev pub key_path_at : List Section → ℕ → Option Path
key_path_at sections o = first_path (key_path_in o) (located sections)
