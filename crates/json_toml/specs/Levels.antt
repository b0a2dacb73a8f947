-- How deep the tokens of JSON nest. (own)
use Rattle.std.specs.Prelude.{ℕ, zero, suc, ◌+◌, min, Bool, true, false, List, [], ◌∷◌}
use Rattle.json.specs.Token.{Token}
use Rattle.json.specs.Json.{max_depth}
use Rattle.json.specs.Lex.{tokens}

-- Whether tokens open a bracket where no level is left, by how many are left before them.
abbrev pub exceed : List Token → ℕ → Bool
exceed [] left = false
exceed (Token.begin_object ∷ ts) zero = true
exceed (Token.begin_object ∷ ts) (suc left) = exceed ts left
exceed (Token.end_object ∷ ts) left = exceed ts (min (left + 1) max_depth)
exceed (Token.begin_array ∷ ts) zero = true
exceed (Token.begin_array ∷ ts) (suc left) = exceed ts left
exceed (Token.end_array ∷ ts) left = exceed ts (min (left + 1) max_depth)
exceed (Token.key s ∷ ts) left = exceed ts left
exceed (Token.string s ∷ ts) left = exceed ts left
exceed (Token.number s ∷ ts) left = exceed ts left
exceed (Token.boolean b ∷ ts) left = exceed ts left
exceed (Token.null ∷ ts) left = exceed ts left
exceed (Token.bad ∷ ts) left = exceed ts left

-- the tokens of a text, which end where one is bad, nest deeper than arrays and objects may
abbrev pub nests_deeper : List ℕ → Bool
nests_deeper text = exceed (tokens text) max_depth
