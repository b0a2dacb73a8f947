use Rattle.std.proofs.Common.{rules}
use Rattle.basic_toml_tree.specs.Nodes.{node_data}
use Rattle.basic_toml_typed.proofs.FieldsFail.{taken_there, taken_absent}
use Rattle.basic_toml_typed.proofs.fields.read_optional.Goals as goal

pub returns-in_ok-deserialize-in-Some-clause-taken : goal.returns-in_ok-deserialize-in-Some-clause-taken
returns-in_ok-deserialize-in-Some-clause-taken g c =
    taken_there g.T.Deserialize.reads c.args.node c.args.key.now (node_data c.in-Some.child)
    c.in_ok-deserialize-in-Some.field-0 c.in_ok-child.ensures.0 (search rules) c.in_ok-deserialize-in-Some.ensures.ok

pub returns-in-None-clause-taken : goal.returns-in-None-clause-taken
returns-in-None-clause-taken g c =
    taken_absent g.T.Deserialize.reads c.args.node c.args.key.now c.in_ok-child.ensures.0 (search rules)
