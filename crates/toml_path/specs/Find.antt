-- What stands at the end of a path. (own)
use Rattle.std.specs.Prelude.{ℕ, zero, suc, List, [], ◌∷◌, Option, Some, None, cond}
use Rattle.std.specs.Option.{option_and_then}
use Rattle.std.specs.Str.{bytes_eq}
use Rattle.basic_toml_value.specs.Data.{Data, array_in, table_in, Items, no_items, item, Members, no_members, member}
use Rattle.toml_path.specs.Path.{Step, key, element}

-- the value at a key
abbrev pub at_key : List ℕ → Members → Option Data
at_key name no_members = None
at_key name (member other d members) = cond (bytes_eq name other) (Some d) (at_key name members)

-- the element of a number, from 0
abbrev pub at_number : ℕ → Items → Option Data
at_number n no_items = None
at_number zero (item d items) = Some d
at_number (suc n) (item d items) = at_number n items

-- a step ahead
abbrev pub after : Data → Step → Option Data
after d (key name) = option_and_then (at_key name) (table_in d)
after d (element n) = option_and_then (at_number n) (array_in d)

-- at the end of the steps
abbrev pub data_at : Data → List Step → Option Data
data_at d [] = Some d
data_at d (step ∷ steps) = option_and_then (λ next. data_at next steps) (after d step)
