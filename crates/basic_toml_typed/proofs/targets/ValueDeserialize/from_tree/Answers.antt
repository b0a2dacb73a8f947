use Rattle.std.proofs.Common.{rules, refl}
use Rattle.basic_toml_typed.specs.TypeAnswers.{no_fault}
use Rattle.basic_toml_typed.proofs.RootsStand.{root_of, root_stands, only_memory}
use Rattle.basic_toml_typed.proofs.targets.ValueDeserialize.from_tree.Goals as goal

pub returns-in_err-into_table-clause-named : goal.returns-in_err-into_table-clause-named
returns-in_err-into_table-clause-named c =
    only_memory no_fault c.args.tree c.from_residual.result (search rules)

pub returns-clause-named : goal.returns-clause-named
returns-clause-named c = (root_of c.args.tree, refl, root_stands c.args.tree, tt)
