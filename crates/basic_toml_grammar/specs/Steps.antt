-- Paths in a tree, own: a key leads into a table, a number into an array.
use Rattle.std.specs.Prelude.{ℕ, ◌==◌, ◌&&◌, ◌||◌, not, Bool, true, false, List, [], ◌∷◌}
use Rattle.std.specs.Str.{bytes_eq}
use Rattle.basic_toml_grammar.specs.Sections.{KeyTexts}

pub data Step : Type 0 where
  key : List ℕ → Step
  number : ℕ → Step

abbrev pub Path : Type 0
Path = List Step

abbrev pub step_eq : Step → Step → Bool
step_eq (key k) (key l) = bytes_eq k l
step_eq (number n) (number m) = n == m
step_eq _ _ = false

-- the path equals the other or begins it
abbrev pub begins : Path → Path → Bool
begins [] q = true
begins (s ∷ p) [] = false
begins (s ∷ p) (t ∷ q) = step_eq s t && begins p q

abbrev pub path_eq : Path → Path → Bool
path_eq p q = begins p q && begins q p

-- one of the two equals or begins the other
abbrev pub overlap : Path → Path → Bool
overlap p q = begins p q || begins q p

-- the path begins the other, and is not all of it
abbrev pub properly_begins : Path → Path → Bool
properly_begins p q = begins p q && not (begins q p)

-- keys as steps, and the keys of a path, without its numbers
abbrev pub steps_of : KeyTexts → Path
steps_of [] = []
steps_of (k ∷ ks) = key k ∷ steps_of ks

abbrev pub keys_of : Path → KeyTexts
keys_of [] = []
keys_of (key k ∷ p) = k ∷ keys_of p
keys_of (number n ∷ p) = keys_of p
