use Rattle.std.proofs.Common.{rules}
use Rattle.basic_toml_tree.specs.Nodes.{node_data}
use Rattle.basic_toml_typed.proofs.FieldsFail.{taken}
use Rattle.basic_toml_typed.proofs.fields.read_field.Goals as goal

pub returns-in-Some-clause-taken : goal.returns-in-Some-clause-taken
returns-in-Some-clause-taken g c =
    taken g.T.Deserialize.reads c.args.node c.args.key.now (node_data c.in-Some.child) c.deserialize.result (search rules)
    c.deserialize.ensures.ok
