use Rattle.std.proofs.Common.{arith, sym, ◌∙◌}
use Rattle.std.proofs.lemmas.Option.{get_or_from_slice_get}
use Rattle.basic_toml_value.specs.View.{view}
use Rattle.basic_toml_plain.specs.PlainTables.{SectionTable, tables_in}
use Rattle.basic_toml_plain.specs.Values.{section_data}
use Rattle.basic_toml_plain.proofs.DataParts.{mapped_more, table_seen}
use Rattle.basic_toml_plain.proofs.RowsData.{few_data}
use Rattle.basic_toml_plain.proofs.values.plain_tables.Goals as goal

pub loop-at-preserved : goal.loop-at-preserved
loop-at-preserved c =
    let tables = tables_in c.args.tables.now in
    let table : SectionTable = (c.in-Some.field-0-0, c.in-Some.rows.now) in
    let pushed = c.push_reserved.ensures in (
      mapped_more view (λ (t : SectionTable). section_data t.1) _ _ tables c.loop-at.at _ table
          (omega (arith, c.len-count.ensures))
          (sym (get_or_from_slice_get tables c.loop-at.at table table c.in-Some.ensures.table)) pushed.items
          c.loop-at.invariant.0
          (table_seen _ ∙ c.in_ok-plain_table.ensures.table ∙ few_data c.in-Some.rows.now c.in-Some.ensures.plain),
      omega arith,
    )
