-- The names that a type takes, as they are kept for an error. (own)
use Rattle.std.specs.Prelude.{if◌then◌else◌, ℕ, List, [], ◌∷◌, map, slice_get, position, Option, Some, None, string_bytes}
use Rattle.std.specs.List.{flat_map}
use Rattle.std.specs.Str.{bytes_eq}
use Rattle.serde.specs.Spelling.{spelled}
use Rattle.serde.specs.declared.name.Name.{Name}
use Rattle.basic_toml_serde.specs.declared.names.Names.{Names}
use Rattle.basic_toml_serde.specs.declared.names.Spelling.{Spelling}

-- names as their type has them, each with the key that the text has to have
abbrev pub Pairs : Type 0
Pairs = List (List ℕ × List ℕ)

-- a name and its key, and its aliases, which have no name
abbrev pub pairs_of_name : Name → Pairs
pairs_of_name n = (n.name.now, spelled n.case n.kind n.name.now) ∷ map (λ a. ([], a.now)) n.aliases.now

-- no key is read as a name that is skipped
abbrev pub pairs_of : List Name → Pairs
pairs_of = flat_map (λ n. if n.skipped then [] else pairs_of_name n)

-- those that are kept
abbrev pub kept_in : Names → Pairs
kept_in names = map (λ s. (string_bytes s.name, string_bytes s.key)) names.spellings.items

abbrev pub keys_in : Names → List (List ℕ)
keys_in names = map (λ s. string_bytes s.key) names.spellings.items

-- the first of a name
abbrev pub spelling_at : List Spelling → Option ℕ → Option Spelling
spelling_at spellings None = None
spelling_at spellings (Some at) = slice_get spellings at

abbrev pub key_of_spelling : List ℕ → Option Spelling → List ℕ
key_of_spelling name None = name
key_of_spelling name (Some s) = string_bytes s.key

-- the key of the first of a name, or the name where there is none
abbrev pub key_among : List ℕ → Names → List ℕ
key_among name names =
    key_of_spelling name (spelling_at names.spellings.items
    (position (λ s. bytes_eq (string_bytes s.name) name) names.spellings.items))
