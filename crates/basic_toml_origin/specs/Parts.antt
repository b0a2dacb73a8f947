-- What the code goes by within values: what is left of a path behind a key.
use Rattle.std.specs.Prelude.{ℕ, List, [], ◌∷◌, Option, Some, None, option_map, if◌then◌else◌}
use Rattle.std.specs.Borrow.{Bor}
use Rattle.std.specs.Str.{bytes_eq}
use Rattle.basic_toml_grammar.specs.Steps.{key, number, Path}
use Rattle.basic_toml_origin.specs.declared.step.Step.{Step}
use Rattle.basic_toml_origin.specs.Path.{path_of}

-- what is left of a path behind a key
abbrev pub behind_name : List ℕ → Path → Option Path
behind_name name [] = None
behind_name name (key k ∷ p) = if bytes_eq name k then Some p else None
behind_name name (number n ∷ p) = None

-- what is left of a path, if it is gone along
abbrev pub left_of : Option (Bor (List Step)) → Option Path
left_of left = option_map (λ rest. path_of rest.now) left
