use Rattle.std.proofs.Common.{ap, arith, refl, sym, ◌∙◌, map}
use Rattle.basic_toml_value.proofs.Sizes.{data_size}
use Rattle.basic_toml_plain.specs.Plain.{plain_data}
use Rattle.basic_toml_plain.proofs.PlainSeen.{array_data}
use Rattle.basic_toml_plain.proofs.PlainValues.{array_within, table_within}
use Rattle.basic_toml_plain.proofs.WhatIsLeft.{all_moved, none_moved, one_moved}
use Rattle.basic_toml_plain.specs.Values.{value_pair, row_pair}
use Rattle.basic_toml_plain.proofs.DataParts.{array_seen, members_size-rest}
use Rattle.basic_toml_plain.proofs.PlainLeft.{element_left, element_value}
use Rattle.basic_toml_plain.proofs.SimpleKeys.{few_are_plain, first_plain}
use Rattle.basic_toml_plain.proofs.RowsData.{inline_rows, few_data, few_indexed, values_seen}
use Rattle.basic_toml_plain.proofs.values.+moves.Goals as goal

pub into_plain_value-into_plain_values-requires : goal.into_plain_value-into_plain_values-requires
into_plain_value-into_plain_values-requires t c =
    let same = ap plain_data c.in-Array.is ∙ array_data c.in-Array.elements in
    (omega (arith, ap data_size same), array_within c.in-Array.elements 0 (rw c.in-Array.is at c.requires))

pub into_plain_value-into_plain_table-requires : goal.into_plain_value-into_plain_table-requires
into_plain_value-into_plain_table-requires t c =
    let same = ap plain_data c.in-Inline.is ∙ inline_rows c.in-Inline.rows in
    (omega (arith, ap data_size same), table_within c.in-Inline.rows 0 (rw c.in-Inline.is at c.requires))

pub into_plain_value-returns-in_ok-into_plain_values-in-Array :
    goal.into_plain_value-returns-in_ok-into_plain_values-in-Array
into_plain_value-returns-in_ok-into_plain_values-in-Array t c =
    rw (c.in-Array.is, array_data, array_seen, c.in_ok-into_plain_values-in-Array.ensures) refl

pub into_plain_value-returns-in-Inline : goal.into_plain_value-returns-in-Inline
into_plain_value-returns-in-Inline t c = rw (c.in-Inline.is, inline_rows) c.into_plain_table.ensures

pub into_many-loop-element-init : goal.into_many-loop-element-init
into_many-loop-element-init t c =
    let made = c.in_ok-moved.ensures in
    none_moved made.items (c.into_iter-element-iterator.ensures.into_iter_gives ∙ c.drain-element-items.ensures)
    c.requires (omega arith)

pub into_many-into_plain_value-requires : goal.into_many-into_plain_value-requires
into_many-into_plain_value-requires t c =
    let first = element_left c.in-Some.ensures.steps c.loop-element.invariant in (omega arith, first.0)

pub into_many-loop-element-preserved : goal.into_many-loop-element-preserved
into_many-loop-element-preserved t c =
    let pushed = c.push_reserved.ensures in
    one_moved _ c.in-Some.ensures.steps pushed.items pushed.len pushed.capacity
    (c.in_ok-into_plain_value.ensures ∙ sym (element_value c.in-Some.element)) c.loop-element.invariant

pub into_plain_values-loop-element-init : goal.into_plain_values-loop-element-init
into_plain_values-loop-element-init t c =
    let made = c.in_ok-moved.ensures in
    none_moved made.items c.into_iter-element-iterator.ensures.into_iter_gives.0 c.requires (omega arith)

pub into_plain_values-into_plain_value-requires : goal.into_plain_values-into_plain_value-requires
into_plain_values-into_plain_value-requires t c =
    let first = element_left c.in-Some.ensures.steps.0 c.loop-element.invariant in (omega arith, first.0)

pub into_plain_values-loop-element-preserved : goal.into_plain_values-loop-element-preserved
into_plain_values-loop-element-preserved t c =
    let pushed = c.push_reserved.ensures in
    one_moved _ c.in-Some.ensures.steps.0 pushed.items pushed.len pushed.capacity
    (c.in_ok-into_plain_value.ensures ∙ sym (element_value c.in-Some.element)) c.loop-element.invariant

pub into_plain_values-returns : goal.into_plain_values-returns
into_plain_values-returns t c = all_moved c.loop-element.invariant (omega (arith, c.in-None.ensures.steps.0))

pub into_plain_entries-loop-row-init : goal.into_plain_entries-loop-row-init
into_plain_entries-loop-row-init t c =
    let made = c.in_ok-moved.ensures in
    none_moved made.items c.into_iter-row-iterator.ensures.into_iter_gives.0
    (few_are_plain 0 c.args.rows.items c.requires) (omega arith)

pub into_plain_entries-into_plain_value-requires : goal.into_plain_entries-into_plain_value-requires
into_plain_entries-into_plain_value-requires t c =
    let so_far = rw c.in-Some.ensures.steps.0 at c.loop-row.invariant in
    let smaller = members_size-rest (map value_pair c.loop-row.moved.items) row_pair c.in-Some.row
    c.next.new.self.rest.items c.args.rows.items so_far.made in (
      omega (arith, ap data_size (few_data c.args.rows.items c.requires)),
      first_plain 0 c.in-Some.row c.next.new.self.rest.items so_far.fit,
    )

pub into_plain_entries-loop-row-preserved : goal.into_plain_entries-loop-row-preserved
into_plain_entries-loop-row-preserved t c =
    let pushed = c.push_reserved.ensures in
    one_moved _ c.in-Some.ensures.steps.0 pushed.items pushed.len pushed.capacity
    (rw (c.in_ok-key.ensures.ok, c.as_str.ensures.value, c.in_ok-value.ensures) refl) c.loop-row.invariant

-- where no row is left all are moved
pub into_plain_entries-returns : goal.into_plain_entries-returns
into_plain_entries-returns t c = all_moved c.loop-row.invariant (omega (arith, c.in-None.ensures.steps.0))

pub into_plain_table-from_parts-requires : goal.into_plain_table-from_parts-requires
into_plain_table-from_parts-requires t c =
    few_indexed c.in_ok-moved.moved.items c.args.rows.items c.none.result c.none.ensures c.requires
    c.in_ok-moved.ensures

pub into_plain_table-returns : goal.into_plain_table-returns
into_plain_table-returns t c =
    values_seen _ c.in_ok-moved.moved.items c.args.rows.items c.from_parts.ensures c.in_ok-moved.ensures
    ∙ sym (few_data c.args.rows.items c.requires)
