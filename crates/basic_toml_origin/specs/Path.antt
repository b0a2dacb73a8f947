-- What contracts see of a path.
use Rattle.std.specs.Prelude.{List, map}
use Rattle.basic_toml_grammar.specs.Steps as grammar
use Rattle.basic_toml_grammar.specs.Steps.{key, number, Path}
use Rattle.basic_toml_origin.specs.declared.step.Step.{Step}
use Rattle.basic_toml_origin.specs.declared.step.Step.TheVariants.{Key, Element}

abbrev pub step_of : Step → grammar.Step
step_of (Key name) = key name.now
step_of (Element n) = number n

abbrev pub path_of : List Step → Path
path_of steps = map step_of steps
