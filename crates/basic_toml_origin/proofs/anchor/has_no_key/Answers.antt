use Rattle.std.proofs.Common.{◌==◌, length, refl, rules}
use Rattle.std.proofs.lemmas.List.Recursion.{and_is}
use Rattle.basic_toml_grammar.specs.Steps.{keys_of}
use Rattle.basic_toml_origin.specs.declared.step.Step.TheVariants.{Element}
use Rattle.basic_toml_origin.specs.Path.{path_of}
use Rattle.basic_toml_origin.proofs.StepsKept.{is_element, keyless_on}
use Rattle.basic_toml_origin.proofs.anchor.has_no_key.Goals as goal

pub returns : goal.returns
returns c =
    and_is (λ steps. length (keys_of (path_of steps)) == 0) is_element refl keyless_on c.args.path.now (Element 0) _
    (search rules) (search rules)
