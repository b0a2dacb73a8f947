-- What stands at a path of data, own: a key leads to the value at it, a number to the element of that number, from 0 on.
use Rattle.std.specs.Prelude.{◌≡◌, true, [], ◌∷◌, Option, Some, slice_get, is_some}
use Rattle.std.specs.Option.{option_and_then}
use Rattle.basic_toml_value.specs.Data.{Data}
use Rattle.basic_toml_grammar.specs.Steps.{Step, key, number, Path}
use Rattle.basic_toml_tree.specs.Nodes.{data_at, elements_in}

abbrev pub data_by : Step → Data → Option Data
data_by (key k) d = data_at d k
data_by (number n) d = slice_get (elements_in d) n

abbrev pub data_along : Path → Data → Option Data
data_along [] d = Some d
data_along (s ∷ p) d = option_and_then (data_along p) (data_by s d)

abbrev pub HasData : Data → Path → Type 0
HasData tree p = is_some (data_along p tree) ≡ true
