-- Which stop the clash of a row is, and what the last key or another one meets.
use Rattle.std.specs.Prelude.{◌≡◌, ⊤, ℕ, suc, List, [], ◌∷◌, ◌++◌, Option, None, option_map, length, take}
use Rattle.basic_toml_value.specs.Data.{Data}
use Rattle.basic_toml_grammar.specs.Sections.{Key, KeyTexts, texts}
use Rattle.basic_toml_grammar.specs.Marks.{dotted, valued}
use Rattle.basic_toml_grammar.specs.Trie.{Trie}
use Rattle.basic_toml_grammar.specs.Stops.{at_row, last_stop, Outcome, stops, and_on}
use Rattle.basic_toml_grammar.specs.TrieStops.{try_here, try_put_row}
use Rattle.basic_toml_grow.specs.declared.clash.Clash.{Clash}
use Rattle.basic_toml_grow.specs.declared.met.Met.{Met}
use Rattle.basic_toml_grow.specs.declared.met.Met.TheVariants as mets
use Rattle.basic_toml_grow.specs.Clash.{Obstacle, NamesObstacle}
use Rattle.basic_toml_grow.specs.Obstacles.{and_behind, held_obstacle}

abbrev pub key_at : ℕ → List ℕ → Key
key_at offset text = record { offset = offset; text = text }

-- some key stops the row, with so many keys left from it on
pub record StopsAtKey (before : KeyTexts) (keys : List Key) (left : ℕ) (o : Outcome Trie) : Type 0 where
  pub front : List Key
  pub there : Key
  pub rest : List Key
  pub parts : keys ≡ front ++ there ∷ rest
  pub count : left ≡ suc (length rest)
  pub stop : o ≡ stops (at_row (before ++ texts front) there)

-- what is met tells what stops a row with these keys before its last one, after those before them
abbrev pub TellsStop : KeyTexts → List Key → Key → Outcome Trie → Met → Type 0
TellsStop before keys k o mets.Memory = ⊤
TellsStop before keys k o mets.Row = o ≡ stops (at_row (take 1 (before ++ texts keys)) k)
TellsStop before keys k o (mets.Header left) = StopsAtKey before (keys ++ k ∷ []) left o

-- of the last key, where something stands
abbrev pub TellsLast : Trie → Met → Type 0
TellsLast t met = (before : KeyTexts) (k : Key) (d : Data)
    → TellsStop before [] k (try_here (valued d) (last_stop before k) t) met

-- of a row, and of what its first key leads to
abbrev pub TellsRow : List Key → List ℕ → Data → Trie → Met → Type 0
TellsRow keys last d t met = (before : KeyTexts) (offset : ℕ)
    → TellsStop before keys (key_at offset last) (try_put_row before (keys ++ key_at offset last ∷ []) d t) met

abbrev pub TellsExtended : List Key → List ℕ → Data → Trie → Met → Type 0
TellsExtended keys last d t met = (before : KeyTexts) (first : Key) (offset : ℕ)
    → TellsStop before (first ∷ keys) (key_at offset last)
    (and_on (try_here dotted (λ m. at_row before first) t)
    (λ t. try_put_row (before ++ first.text ∷ []) (keys ++ key_at offset last ∷ []) d t)) met

-- the clash says what was met
abbrev pub SaysMet : List Key → Key → Met → Clash → Type 0
SaysMet keys k met clash =
    (o : Outcome Trie) → TellsStop [] keys k o met → NamesObstacle (and_behind o (λ _. None)) clash

-- the clash of a value, as one of the row that holds it
abbrev pub SaysHeld : List Key → Clash → Clash → Type 0
SaysHeld keys clash outer =
    (o : Option Obstacle) → NamesObstacle o clash → NamesObstacle (option_map (held_obstacle keys) o) outer
