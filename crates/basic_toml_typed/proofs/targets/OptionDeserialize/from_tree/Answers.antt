use Rattle.basic_toml_typed.proofs.RootsStand.{passed_on}
use Rattle.basic_toml_typed.proofs.targets.OptionDeserialize.from_tree.Goals as goal

pub returns-in_err-from_tree-clause-named : goal.returns-in_err-from_tree-clause-named
returns-in_err-from_tree-clause-named g c =
    passed_on g.T.Deserialize.faults c.args.tree c.in_err-from_tree.field-0.0 c.from_residual.result
    c.in_err-from_tree.ensures.named c.from_residual.ensures.1
