use Rattle.std.proofs.Common.{◌+◌, [], append_assoc, arith, refl}
use Rattle.std.proofs.lemmas.List.{map-append}
use Rattle.basic_toml_value.specs.View.{view}
use Rattle.basic_toml_plain.proofs.PartsOfRows.{all_tables, first_part, parts_are_plain}
use Rattle.basic_toml_plain.proofs.WhatIsLeft.{nothing_left}
use Rattle.basic_toml_plain.proofs.RowsData.{few_indexed, values_seen}
use Rattle.basic_toml_plain.proofs.values.push_tables.Goals.{In-Some}
use Rattle.basic_toml_plain.proofs.values.push_tables.Goals as goal

pub first_plain_entries-requires-clause-plain : goal.first_plain_entries-requires-clause-plain
first_plain_entries-requires-clause-plain c =
    parts_are_plain c.loop-own.invariant.left.0 c.loop-own.rows _ c.loop-own.invariant.left.1

pub from_parts-requires : goal.from_parts-requires
from_parts-requires c =
    few_indexed c.in_ok-entries.entries.items _ c.none.result c.none.ensures
    (first_part _ _ c.in-Some.own _ (rw c.in-Some.ensures.steps.0 at c.loop-own.invariant.left.1)).few
    c.in_ok-entries.ensures.entries

pub loop-own-preserved : goal.loop-own-preserved
loop-own-preserved c =
    let was = rw c.in-Some.ensures.steps.0 at c.loop-own.invariant in
    let entries = c.in_ok-entries.ensures in
    let pushed = c.in_ok-push.ensures in
    record {
      made = rw (
        pushed.items,
        map-append view,
        append_assoc,
        values_seen _ c.in_ok-entries.entries.items _ c.from_parts.ensures entries.entries,
        entries.left,
      ) was.made;
      left = (was.left.0 + c.in-Some.own.count, rw entries.left (first_part _ _ c.in-Some.own _ was.left.1).others);
    }

pub first_plain_entries-requires-2-clause-plain : goal.first_plain_entries-requires-2-clause-plain
first_plain_entries-requires-2-clause-plain c =
    parts_are_plain c.loop-own.invariant.left.0 c.loop-own.rows _ c.loop-own.invariant.left.1

pub from_parts-requires-2 : goal.from_parts-requires-2
from_parts-requires-2 c =
    let left = c.loop-own.own-iterator.rest in
    let none = nothing_left left.items (omega (arith, c.in-None.ensures.steps.0)) in
    few_indexed c.in_ok-entries-2.entries.items _ c.none-2.result c.none-2.ensures
    (first_part _ _ c.into_parts-rows.result.2 [] (rw none at c.loop-own.invariant.left.1)).few
    c.in_ok-entries-2.ensures.entries

-- at last the latest table
pub returns : goal.returns
returns c =
    let left = c.loop-own.own-iterator.rest in
    let none = nothing_left left.items (omega (arith, c.in-None.ensures.steps.0)) in
    let whole = c.into_parts-rows in
    let tables = all_tables whole.result.0 whole.result.1.items whole.result.2 c.args.block whole.ensures.plain
    (rw (whole.ensures.earlier, whole.ensures.latest) refl) in
    let start = rw (c.into_iter-own-iterator.ensures.into_iter_gives.0, tables) at c.loop-own.invariant.made in
    rw (
      c.in_ok-push-2.ensures.items,
      map-append view,
      values_seen _ c.in_ok-entries-2.entries.items _ c.from_parts-2.ensures c.in_ok-entries-2.ensures.entries,
    )
    (rw none at start)
