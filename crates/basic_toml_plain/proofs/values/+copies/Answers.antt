use Rattle.std.proofs.Common.{ap, arith, sym, ◌∙◌, take_all, refl}
use Rattle.basic_toml_value.specs.View.{view}
use Rattle.basic_toml_value.proofs.Sizes.{data_size}
use Rattle.basic_toml_plain.specs.Plain.{plain_data, element_data}
use Rattle.basic_toml_plain.proofs.PlainSeen.{array_data}
use Rattle.basic_toml_plain.proofs.PlainValues.{array_within, table_within}
use Rattle.basic_toml_plain.specs.Values.{value_pair, row_pair}
use Rattle.basic_toml_plain.proofs.DataParts.{array_seen, items_size-at, members_size-at, mapped_more, table_seen}
use Rattle.basic_toml_plain.proofs.PlainLeft.{element_at, element_value, row_at}
use Rattle.basic_toml_plain.proofs.RowsData.{inline_rows, few_data, few_indexed, values_seen}
use Rattle.basic_toml_plain.proofs.SimpleKeys.{few_are_simple}
use Rattle.basic_toml_plain.proofs.values.+copies.Goals as goal

pub plain_value-plain_values-requires : goal.plain_value-plain_values-requires
plain_value-plain_values-requires t c =
    let same = ap plain_data c.in-Array.is ∙ array_data c.in-Array.elements in
    rw c.as_slice.ensures.value
    (omega (arith, ap data_size same), array_within c.in-Array.elements 0 (rw c.in-Array.is at c.requires))

pub plain_value-plain_table-requires : goal.plain_value-plain_table-requires
plain_value-plain_table-requires t c =
    let same = ap plain_data c.in-Inline.is ∙ inline_rows c.in-Inline.rows in
    rw c.as_slice-in-Inline.ensures.value
    (omega (arith, ap data_size same), table_within c.in-Inline.rows 0 (rw c.in-Inline.is at c.requires))

pub plain_value-returns-in_ok-plain_values-in-Array : goal.plain_value-returns-in_ok-plain_values-in-Array
plain_value-returns-in_ok-plain_values-in-Array t c =
    rw (c.in-Array.is, array_data, ← c.as_slice.ensures.value, array_seen, c.in_ok-plain_values-in-Array.ensures) refl

pub plain_value-returns-in_ok-plain_table-in-Inline : goal.plain_value-returns-in_ok-plain_table-in-Inline
plain_value-returns-in_ok-plain_table-in-Inline t c =
    rw (c.in-Inline.is, inline_rows, ← c.as_slice-in-Inline.ensures.value, table_seen)
    c.in_ok-plain_table-in-Inline.ensures.table

pub plain_values-plain_value-requires : goal.plain_values-plain_value-requires
plain_values-plain_value-requires t c =
    let smaller = items_size-at element_data _ _ c.element-item.result c.loop-element-test.true c.element-item.is in (
      omega (arith, ap data_size (element_value c.element-item.result)),
      element_at _ _ c.element-item.result c.loop-element-test.true c.element-item.is c.requires,
    )

pub plain_values-loop-element-preserved : goal.plain_values-loop-element-preserved
plain_values-loop-element-preserved t c =
    mapped_more view element_data _ _ _ _ _ _ c.loop-element-test.true c.element-item.is c.in_ok-push.ensures.items
    c.loop-element.invariant (c.in_ok-plain_value.ensures ∙ sym (element_value c.element-item.result))

pub plain_table-plain_value-requires : goal.plain_table-plain_value-requires
plain_table-plain_value-requires t c =
    let rows = c.args.rows.now in
    let smaller = members_size-at row_pair _ _ c.row-item.result c.loop-row-test.true c.row-item.is in (
      omega (arith, ap data_size (few_data rows c.requires)),
      row_at _ _ c.row-item.result c.loop-row-test.true c.row-item.is (few_are_simple 0 rows c.requires),
    )

pub plain_table-loop-row-preserved : goal.plain_table-loop-row-preserved
plain_table-loop-row-preserved t c =
    mapped_more value_pair row_pair _ _ _ _ _ _ c.loop-row-test.true c.row-item.is c.in_ok-push.ensures.items
    c.loop-row.invariant
    (rw (c.in_ok-key.ensures.ok, c.as_str.ensures.value, c.in_ok-value.ensures) refl)

pub plain_table-from_parts-requires : goal.plain_table-from_parts-requires
plain_table-from_parts-requires t c =
    few_indexed c.loop-row.copies.items _ c.none.result c.none.ensures c.requires
    (rw (take_all _ _ c.loop-row-test.false) at c.loop-row.invariant)

pub plain_table-returns-clause-table : goal.plain_table-returns-clause-table
plain_table-returns-clause-table t c =
    sym (table_seen _)
    ∙ values_seen _ c.loop-row.copies.items _ c.from_parts.ensures
    (rw (take_all _ _ c.loop-row-test.false) at c.loop-row.invariant)
    ∙ sym (few_data c.args.rows.now c.requires)
