use Rattle.std.proofs.Common.{◌≡◌, ap, sym, ◌∙◌, rules}
use Rattle.basic_toml_plain.proofs.DataParts.{table_seen}
use Rattle.basic_toml_tree.specs.Nodes.{spot_data}
use Rattle.basic_toml_tree.specs.declared.spot.HeaderTable.TheVariants as tables
use Rattle.basic_toml_tree.specs.declared.spot.Spot.TheVariants as spots
use Rattle.basic_toml_tree.proofs.TrieData.{section_table_data}
use Rattle.basic_toml_tree.proofs.node.Node.to_value.Goals as goal

pub returns-in_ok-plain_table-in-Table-Section-clause-ok : goal.returns-in_ok-plain_table-in-Table-Section-clause-ok
returns-in_ok-plain_table-in-Table-Section-clause-ok c =
    let t = c.in-Table-Section.table in
    let here : c.args.self.spot ≡ spots.Table (tables.Section c.in-Table-Section.table) = search rules in
    table_seen c.in_ok-plain_table-in-Table-Section.field-0 ∙ c.in_ok-plain_table-in-Table-Section.ensures.table
    ∙ sym (ap spot_data here ∙ section_table_data t.section t.rows.now t.simple)
