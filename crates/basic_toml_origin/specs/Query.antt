-- What is looked for, and what is done to the steps of a path where the way to it is looked for behind them.
use Rattle.std.specs.Prelude.{◌≡◌, ℕ, Bool, true, false, List, [], ◌∷◌, ◌++◌, Option, None, IsSomeAnd}
use Rattle.basic_toml_grammar.specs.Sections as grammar
use Rattle.basic_toml_grammar.specs.Steps.{Path}
use Rattle.basic_toml_grammar.specs.IndexedPath.{Located}
use Rattle.basic_toml_places.specs.Places.{Test, key_number, keys_to_key, keys_to_value, here_or, path_in, path_within}
use Rattle.basic_toml_read.specs.SectionView.{Lined}
use Rattle.basic_toml_origin.specs.declared.query.Query.{Query}
use Rattle.basic_toml_origin.specs.declared.query.Query.TheVariants.{Key, Value}
use Rattle.basic_toml_origin.specs.declared.step.Step.{Step}
use Rattle.basic_toml_origin.specs.KeyPath.{key_path_in}
use Rattle.basic_toml_origin.specs.Path.{path_of}

-- the test of rows
abbrev pub test_of : Query → Test
test_of (Value o) = keys_to_value o
test_of (Key o) = keys_to_key o

-- how many keys of a header lead to it
abbrev pub keys_in_header : Query → List grammar.Key → Option ℕ
keys_in_header (Value o) header = None
keys_in_header (Key o) header = key_number o header

-- the path to it at a row, which has these keys before its last one, or within the row's value
abbrev pub path_at_row : Test → List grammar.Key → Lined → Option Path
path_at_row test parents r = here_or test (parents ++ r.key ∷ []) r.start (path_within test r.value)

-- the path to it by a section
abbrev pub path_by_section : Query → Located → Option Path
path_by_section (Value o) l = path_in (keys_to_value o) l
path_by_section (Key o) l = key_path_in o l

-- the path that is looked for stands behind the steps where it is found, else there is none and they are as before
abbrev pub PushesIfFound : Bool → Option Path → List Step → List Step → Type 0
PushesIfFound true path before after = IsSomeAnd path (λ p. path_of after ≡ path_of before ++ p)
PushesIfFound false path before after = (path ≡ None) × (after ≡ before)
