use Rattle.std.proofs.Common.{ap, ◌∙◌, rules}
use Rattle.basic_toml_tree.specs.Nodes.{fields_data}
use Rattle.basic_toml_tree.proofs.ItemData.{refused_rows}
use Rattle.basic_toml_tree.proofs.node.Node.to_table.Goals as goal

pub returns-in_err-plain_table-in-Some-Rows-clause-memory : goal.returns-in_err-plain_table-in-Some-Rows-clause-memory
returns-in_err-plain_table-in-Some-Rows-clause-memory c =
    refused_rows c.in-Some-Rows.rows.now _ _ (c.in-Some-Rows.ensures.data ∙ ap fields_data c.in-Some-Rows.field-0-is)
    (search rules) c.in_err-plain_table-in-Some-Rows.ensures.memory

pub returns-in_err-plain_table-in-Some-Section-clause-memory : goal.returns-in_err-plain_table-in-Some-Section-clause-memory
returns-in_err-plain_table-in-Some-Section-clause-memory c =
    refused_rows c.in-Some-Section.rows.now _ _
    (c.in-Some-Section.ensures.data ∙ ap fields_data c.in-Some-Section.field-0-is) (search rules)
    c.in_err-plain_table-in-Some-Section.ensures.memory
