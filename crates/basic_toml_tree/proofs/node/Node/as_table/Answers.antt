use Rattle.std.proofs.Common.{◌≡◌, ap, ◌∙◌, rules}
use Rattle.basic_toml_read.specs.declared.section.Raw as raws
use Rattle.basic_toml_plain.specs.Plain.{are_few_simple}
use Rattle.basic_toml_plain.proofs.PlainValues.{table_within}
use Rattle.basic_toml_tree.specs.declared.spot.HeaderTable.TheVariants as tables
use Rattle.basic_toml_tree.specs.declared.spot.Spot.TheVariants as spots
use Rattle.basic_toml_tree.proofs.TrieData.{section_rows, section_table_data}
use Rattle.basic_toml_tree.specs.Stands.{HoldsRows}
use Rattle.basic_toml_tree.proofs.node.Node.as_table.Goals as goal

pub returns-in-Inline-value-clause-fields : goal.returns-in-Inline-value-clause-fields
returns-in-Inline-value-clause-fields c =
    let rows = c.in-Inline-value.rows in
    let holds : HoldsRows c.args.self.spot c.as_slice.result.now =
    rw (c.in-Plain.is, c.in-Inline-value.is, c.as_slice.ensures.value) (search (rules, raws.the_lemmas)) in
    let plain = rw c.in-Inline-value.is at c.in-Plain.plain.plain in
    (holds, ap (are_few_simple 0) c.as_slice.ensures.value ∙ table_within rows 0 plain)

pub returns-in-Section-clause-data : goal.returns-in-Section-clause-data
returns-in-Section-clause-data c =
    rw (c.in-Item.is, c.in-Section.is, c.rows-in-Section.ensures.rows)
    (section_rows c.in-Section.table c.rows-in-Section.ensures.plain)

pub returns-in-Table-Section-clause-data : goal.returns-in-Table-Section-clause-data
returns-in-Table-Section-clause-data c =
    let t = c.in-Table-Section.table in
    let here : c.args.self.spot ≡ spots.Table (tables.Section c.in-Table-Section.table) = search rules in
    rw here (section_table_data t.section t.rows.now t.simple)
