-- The laws of offsets. Each is proved as the contract of a function in `laws`.
use Rattle.std.specs.Prelude.{◌≡◌, ℕ, false, List, length, Some, IsSomeAnd}
use Rattle.std.specs.List.Sorted.{IsStrictlyIncreasing}
use Rattle.basic_toml_tokens.specs.Text.{folded}
use Rattle.basic_toml_grammar.specs.Sections.{Section}
use Rattle.basic_toml_grammar.specs.Steps.{Path, keys_of}
use Rattle.basic_toml_grammar.specs.IndexedPath.{located}
use Rattle.basic_toml_grammar.specs.Nodes.{Node, is_made, node_at}
use Rattle.basic_toml_grammar.specs.Grammar.{IsSectionList}
use Rattle.basic_toml_places.specs.Places.{value_offsets, path_at, as_far_as}

-- The offsets of the values of a text rise, each before those within it; so no two values have one offset.
abbrev pub ValuesBeginApart : Type 0
ValuesBeginApart =
    (text : List ℕ) (sections : List Section) → IsSectionList (folded text) sections
    → IsStrictlyIncreasing (value_offsets sections)

-- What headers did not make is found by where it begins and by how many keys lead to it: its path is that of the value
-- which begins there, as far as so many keys.
abbrev pub NodesAreFoundByStart : Type 0
NodesAreFoundByStart =
    (text : List ℕ) (sections : List Section) → IsSectionList (folded text) sections → (p : Path) (n : Node)
    → node_at sections p ≡ Some n → is_made (located sections) p ≡ false
    → IsSomeAnd n.start (λ at. IsSomeAnd (path_at sections at) (λ q. as_far_as (length (keys_of p)) q ≡ p))
