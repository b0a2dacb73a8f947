-- A path as messages have it, and how far it leads. (own)
use Rattle.std.specs.Prelude.{◌≡◌, ℕ, zero, suc, ◌<◌, ◌≤◌, Bool, true, false, List, [], ◌∷◌, ◌++◌, length, map, take}
use Rattle.std.specs.Prelude.{codes, decimal, Some, None}
use Rattle.basic_toml.specs.Data.{Data}
use Rattle.basic_toml_layout.specs.Texts.{quoted, written_key}
use Rattle.toml_path.specs.Find.{data_at}
use Rattle.toml_path.specs.Path.{Step, key, element, step_of}
use Rattle.toml_path.specs.declared.path.Step as code

-- the code's steps
abbrev pub steps_seen : List code.Step → List Step
steps_seen steps = map step_of steps

abbrev pub period : Bool → List ℕ
period true = codes "."
period false = []

-- a step, where another stands before it or none does
abbrev pub step_text : Bool → Step → List ℕ
step_text later (key name) = period later ++ written_key name
step_text later (element n) = codes "[" ++ (decimal n ++ codes "]")

abbrev pub steps_text : Bool → List Step → List ℕ
steps_text later [] = []
steps_text later (step ∷ steps) = step_text later step ++ steps_text true steps

-- keys as TOML writes them, with periods between them, and numbers between brackets
abbrev pub path_text : List Step → List ℕ
path_text steps = steps_text false steps

abbrev pub malformed_text : List ℕ → List ℕ
malformed_text path =
    codes "toml_get: malformed path " ++ (quoted path ++ codes "; toml_get --help says how a path is written\n")

abbrev pub no_table_text : List Step → List ℕ
no_table_text steps = codes "toml_get: no table at " ++ (path_text steps ++ codes ", and only a table is a document\n")

-- the first n steps lead somewhere, and no more of them do
pub record IsLongestFront (d : Data) (steps : List Step) (n : ℕ) : Type 0 where
  pub is_front : n ≤ length steps
  pub stands : (x : Data) × (data_at d (take n steps) ≡ Some x)
  pub no_longer : (m : ℕ) → n < m → m ≤ length steps → data_at d (take m steps) ≡ None

-- what is there, where the first n steps lead somewhere and the next does not
abbrev pub there_text : List Step → ℕ → List ℕ
there_text steps zero = codes "the document has no key " ++ path_text (take 1 steps)
there_text steps (suc n) = path_text (take (suc n) steps) ++ codes " is there"

abbrev pub nothing_text : List Step → ℕ → List ℕ
nothing_text steps n =
    codes "toml_get: nothing at " ++ (path_text steps ++ (codes ": " ++ (there_text steps n ++ codes "\n")))

-- nothing stands at the end of the steps, by the longest of their fronts at whose end something does
abbrev pub TellsNothing : Data → List Step → List ℕ → Type 0
TellsNothing d steps text = (n : ℕ) × IsLongestFront d steps n × (text ≡ nothing_text steps n)
