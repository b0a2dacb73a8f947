use Rattle.std.proofs.Common.{map, ap, arith, sym, ◌∙◌, refl}
use Rattle.basic_toml_value.proofs.Sizes.{data_size}
use Rattle.basic_toml_plain.proofs.DataParts.{items_size-rest, items_size-front, items_size-last, members_size-rest}
use Rattle.basic_toml_plain.proofs.DataParts.{table_seen, entries_seen}
use Rattle.basic_toml_tree.specs.Data.{child_data, table_data, child_pair}
use Rattle.basic_toml_tree.proofs.ItemData.{child_item}
use Rattle.basic_toml_tree.proofs.ItemData.{table_of_pairs, tables_data, keys_copied, refused_held, tables_seen}
use Rattle.basic_toml_value.proofs.KeysSeen.{keys_of-seen}
use Rattle.basic_toml_tree.proofs.TrieData.{section_rows}
use Rattle.basic_toml_tree.proofs.values.+moves.Goals as goal

pub into_elements-into_value-requires : goal.into_elements-into_value-requires
into_elements-into_value-requires t c =
    let left = rw c.in-Some.ensures.steps at c.loop-child.invariant in
    let smaller = items_size-rest _ child_data c.in-Some.child _ _ left in
    (omega (arith, smaller, ap data_size (child_item c.in-Some.child)), tt)

pub into_many_entries-into_value-requires : goal.into_many_entries-into_value-requires
into_many_entries-into_value-requires t c =
    let left = rw c.in-Some.ensures.steps at c.loop-pair.invariant.made in
    let smaller = members_size-rest _ child_pair c.in-Some.pair _ _ left in
    (omega (arith, smaller, ap data_size (child_item c.in-Some.pair.value)), tt)

pub into_entries-into_value-requires : goal.into_entries-into_value-requires
into_entries-into_value-requires t c =
    let left = rw c.in-Some.ensures.steps.0 at c.loop-pair.invariant.made in
    let smaller = members_size-rest _ child_pair c.in-Some.pair _ _ left in
    (omega (arith, smaller, ap data_size (child_item c.in-Some.pair.value)), tt)

pub into_table-into_entries-requires : goal.into_table-into_entries-requires
into_table-into_entries-requires t c =
    let same = table_of_pairs c.args.table c.into_parts-pairs.result.0.items c.into_parts-pairs.ensures.pairs in
    (omega (arith, ap data_size same), tt)

pub into_table-from_parts-requires : goal.into_table-from_parts-requires
into_table-from_parts-requires t c =
    let same = keys_copied c.in_ok-moved.moved.items c.into_parts-pairs.result.0.items _ c.in_ok-moved.ensures refl in
    rw (← keys_of-seen c.into_parts-pairs.result.0.items, same) at c.into_parts-pairs.ensures.index

pub into_table-returns-in_err-moved-clause-memory : goal.into_table-returns-in_err-moved-clause-memory
into_table-returns-in_err-moved-clause-memory t c =
    refused_held c.args.table _ (sym c.is_empty.ensures ∙ c.if-is_empty.false)

pub into_table-returns-clause-table : goal.into_table-returns-clause-table
into_table-returns-clause-table t c =
    rw (c.from_parts.ensures, entries_seen c.in_ok-moved.moved.items, c.in_ok-moved.ensures)
    (sym (table_of_pairs c.args.table c.into_parts-pairs.result.0.items c.into_parts-pairs.ensures.pairs))

pub into_tables-into_table-requires : goal.into_tables-into_table-requires
into_tables-into_table-requires t c =
    let left = rw c.in-Some.ensures.steps at c.loop-table.invariant.made in
    (omega (arith, items_size-rest _ table_data c.in-Some.table _ _ left), tt)

pub into_array_of_tables-into_tables-requires : goal.into_array_of_tables-into_tables-requires
into_array_of_tables-into_tables-requires t c =
    let both = c.args.tables.value in
    let front = items_size-front (map table_data both.0.items) (table_data both.1) in
    (rw c.into_inner-earlier.ensures (omega (arith, ap data_size (tables_data c.args.tables))), tt)

pub into_array_of_tables-into_table-requires : goal.into_array_of_tables-into_table-requires
into_array_of_tables-into_table-requires t c =
    let both = c.args.tables.value in
    let last = items_size-last (map table_data both.0.items) (table_data both.1) in
    (rw c.into_inner-earlier.ensures (omega (arith, ap data_size (tables_data c.args.tables))), tt)

pub into_array_of_tables-returns : goal.into_array_of_tables-returns
into_array_of_tables-returns t c =
    tables_seen c.in_ok-elements.elements _ _ c.args.tables c.in_ok-push.ensures.items
    (rw c.into_inner-earlier.ensures at c.in_ok-elements.ensures)
    (table_seen _ ∙ rw c.into_inner-earlier.ensures at c.in_ok-into_table.ensures.table)

pub into_value-returns-in-Section : goal.into_value-returns-in-Section
into_value-returns-in-Section t c =
    let rows = c.into_rows-in-Section in
    rw (c.in-Section.is, ← rows.ensures.rows, section_rows rows.result.items rows.ensures.plain)
    c.into_plain_table-in-Section.ensures
