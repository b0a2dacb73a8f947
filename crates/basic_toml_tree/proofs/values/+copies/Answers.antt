use Rattle.std.proofs.Common.{ap, arith, sym, ◌∙◌, map}
use Rattle.basic_toml_value.specs.View.{view}
use Rattle.basic_toml_value.specs.Entries.{texts_of}
use Rattle.basic_toml_value.proofs.Sizes.{data_size}
use Rattle.basic_toml_plain.proofs.DataParts.{items_size-at, items_size-front, items_size-last, members_size-at}
use Rattle.basic_toml_plain.proofs.DataParts.{mapped_more, sections_seen, table_seen, entries_seen}
use Rattle.basic_toml_tree.specs.Data.{data_of, child_data, table_data, child_pair}
use Rattle.basic_toml_tree.proofs.ItemData.{child_item, plain_seen, sections_item, tables_data}
use Rattle.basic_toml_tree.proofs.ItemData.{table_of_pairs, keys_copied, refused_held, tables_seen}
use Rattle.basic_toml_tree.proofs.TrieData.{section_rows}
use Rattle.basic_toml_tree.proofs.values.+copies.Goals as goal

pub elements_of-value_of-requires : goal.elements_of-value_of-requires
elements_of-value_of-requires t c =
    let smaller = items_size-at child_data _ _ _ c.loop-child-test.true c.child-item.is in
    (omega (arith, smaller, ap data_size (child_item c.child-item.result)), tt)

pub entries_of-value_of-requires : goal.entries_of-value_of-requires
entries_of-value_of-requires t c =
    let smaller = members_size-at child_pair _ _ _ c.loop-pair-test.true c.pair-item.is in
    (omega (arith, smaller, ap data_size (child_item c.pair-item.result.value)), tt)

pub table_of-entries_of-requires : goal.table_of-entries_of-requires
table_of-entries_of-requires t c =
    (omega (arith, ap data_size (table_of_pairs c.args.table.now c.entries.result.now c.entries.ensures.pairs)), tt)

pub table_of-from_parts-requires : goal.table_of-from_parts-requires
table_of-from_parts-requires t c =
    let copies = c.in_ok-copies in
    let same = keys_copied copies.copies.items c.entries.result.now _ copies.ensures c.entries.ensures.pairs in
    c.in_ok-index.ensures (texts_of copies.copies.items) (rw same at c.index.ensures)

pub table_of-returns-in_err-copies-clause-memory : goal.table_of-returns-in_err-copies-clause-memory
table_of-returns-in_err-copies-clause-memory t c =
    refused_held c.args.table.now _ (sym c.is_empty.ensures ∙ c.if-is_empty.false)

pub table_of-returns-in_err-index-clause-memory : goal.table_of-returns-in_err-index-clause-memory
table_of-returns-in_err-index-clause-memory t c =
    refused_held c.args.table.now _ (sym c.is_empty.ensures ∙ c.if-is_empty.false)

pub table_of-returns-clause-table : goal.table_of-returns-clause-table
table_of-returns-clause-table t c =
    rw (c.from_parts.ensures, entries_seen c.in_ok-copies.copies.items, c.in_ok-copies.ensures)
    (sym (table_of_pairs c.args.table.now c.entries.result.now c.entries.ensures.pairs))

pub tables_of-table_of-requires : goal.tables_of-table_of-requires
tables_of-table_of-requires t c =
    (omega (arith, items_size-at table_data _ _ _ c.loop-table-test.true c.table-item.is), tt)

pub tables_of-loop-table-preserved : goal.tables_of-loop-table-preserved
tables_of-loop-table-preserved t c =
    mapped_more view table_data _ _ _ _ _ _ c.loop-table-test.true c.table-item.is c.in_ok-push.ensures.items
    c.loop-table.invariant (table_seen _ ∙ c.in_ok-table_of.ensures.table)

pub value_of-tables_of-requires : goal.value_of-tables_of-requires
value_of-tables_of-requires t c =
    let tables = c.in-Tables.tables in
    let front = items_size-front (map table_data tables.value.0.items) (table_data tables.value.1) in
    let same = ap data_of c.in-Tables.is ∙ tables_data tables in
    (rw (c.as_slice-in-Tables.ensures.value, c.deref-in-Tables.ensures) (omega (arith, ap data_size same)), tt)

pub value_of-table_of-requires-in-Tables : goal.value_of-table_of-requires-in-Tables
value_of-table_of-requires-in-Tables t c =
    let tables = c.in-Tables.tables in
    let last = items_size-last (map table_data tables.value.0.items) (table_data tables.value.1) in
    let same = ap data_of c.in-Tables.is ∙ tables_data tables in
    (omega (arith, ap data_size same, ap (λ ts. data_size (table_data ts.1)) c.deref-in-Tables-2.ensures), tt)

pub value_of-returns-in_ok-push-in-Tables : goal.value_of-returns-in_ok-push-in-Tables
value_of-returns-in_ok-push-in-Tables t c =
    rw c.in-Tables.is
    (tables_seen c.in_ok-elements-in-Tables.elements _ _ c.in-Tables.tables c.in_ok-push-in-Tables.ensures.items
    (rw (← c.deref-in-Tables.ensures, ← c.as_slice-in-Tables.ensures.value) c.in_ok-elements-in-Tables.ensures)
    (table_seen _ ∙ rw c.deref-in-Tables-2.ensures at c.in_ok-table_of-in-Tables.ensures.table))

pub value_of-returns-in_ok-plain_values-in-Plain : goal.value_of-returns-in_ok-plain_values-in-Plain
value_of-returns-in_ok-plain_values-in-Plain t c =
    rw c.in-Plain.is (plain_seen _ _ (rw c.elements.ensures.elements at c.in_ok-plain_values-in-Plain.ensures))

pub value_of-returns-in_ok-plain_table-in-Section : goal.value_of-returns-in_ok-plain_table-in-Section
value_of-returns-in_ok-plain_table-in-Section t c =
    let rows = c.rows-in-Section.ensures in
    rw (c.in-Section.is, section_rows c.in-Section.table rows.plain, ← rows.rows, table_seen)
    c.in_ok-plain_table-in-Section.ensures.table

pub value_of-returns-in_ok-plain_tables-in-Sections : goal.value_of-returns-in_ok-plain_tables-in-Sections
value_of-returns-in_ok-plain_tables-in-Sections t c =
    rw (c.in-Sections.is, sections_item c.in-Sections.tables)
    (sections_seen _ _ (rw c.deref-in-Sections.ensures at c.in_ok-plain_tables-in-Sections.ensures))
