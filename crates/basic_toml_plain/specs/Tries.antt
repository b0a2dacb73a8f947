-- The tries of plain values and of rows.
use Rattle.std.specs.Prelude.{ℕ, true, false, List, [], ◌∷◌, Some, None, map}
use Rattle.basic_toml_value.specs.Data.{Data}
use Rattle.basic_toml_grammar.specs.Growth.{closed}
use Rattle.basic_toml_grammar.specs.Standing as standing
use Rattle.basic_toml_grammar.specs.Steps.{key}
use Rattle.basic_toml_grammar.specs.Trie.{Trie, trie, Tries, no_tries, by, bare}
use Rattle.basic_toml_read.specs.declared.section.Row.{Row, out-Row}
use Rattle.basic_toml_plain.specs.Plain.{key_of, plain_data}

-- a finished value
abbrev pub leaf : Data → Trie
leaf d = trie (Some standing.value) (Some d) no_tries

abbrev pub by_keys : List (List ℕ × Trie) → Tries
by_keys [] = no_tries
by_keys (p ∷ ps) = by (key p.0) p.1 (by_keys ps)

abbrev pub tree_data : Trie → Data
tree_data t = closed (bare t)

-- a row with a plain value
abbrev pub row_trie : Row → List ℕ × Trie
row_trie r = (key_of r, leaf (plain_data (out-Row r).value))

-- the table of a header, by its rows
abbrev pub rows_trie : List Row → Trie
rows_trie rows = trie (Some (standing.table false true false)) None (by_keys (map row_trie rows))
