use Rattle.std.proofs.Common.{rules, arith}
use Rattle.basic_toml_read.specs.declared.section.Raw as raws
use Rattle.basic_toml_plain.proofs.SimpleKeys.{keys_differ, few_are_plain, few_are_simple}
use Rattle.basic_toml_plain.proofs.WhatIsLeft.{nothing_left}
use Rattle.basic_toml_grow.specs.declared.item.Table.{out-Table}
use Rattle.basic_toml_grow.proofs.RowsKept.{CanStay, can_stay}
use Rattle.basic_toml_grow.proofs.SimpleRows.{all_lower, rows_in}
use Rattle.basic_toml_grow.proofs.rows.take_rows.Goals as goal
use Rattle.basic_toml_grow.proofs.rows.take_rows.Goals.{Then-are_few_simple}

-- simple rows, taken all at once
stay_seen : (c : Then-are_few_simple) → CanStay c.args.rows.now c.args.level
stay_seen c = can_stay c.args.rows.now c.args.level c.is_empty-2.ensures c.if-is_empty-3.true c.as_slice.ensures.value
    c.are_few_simple.ensures c.if-are_few_simple.true

pub with_rows-requires-clause-plain : goal.with_rows-requires-clause-plain
with_rows-requires-clause-plain c =
    let stay = stay_seen (goal.at.with_rows-requires-clause-plain c).Then-are_few_simple in
    all_lower c.args.level _ (few_are_plain c.args.level _ stay.few)

pub with_rows-requires-clause-distinct : goal.with_rows-requires-clause-distinct
with_rows-requires-clause-distinct c =
    let stay = stay_seen (goal.at.with_rows-requires-clause-distinct c).Then-are_few_simple in
    keys_differ c.args.level _ (few_are_simple c.args.level _ stay.few)

-- into a table without entries
pub returns-then-are_few_simple : goal.returns-then-are_few_simple
returns-then-are_few_simple c =
    let table = c.args.table.now in
    let level = c.args.level in
    let stay = stay_seen (goal.at.returns-then-are_few_simple c).Then-are_few_simple in
    let empty = c.is_empty-then-is_empty-3.ensures in
    let none = nothing_left (out-Table table).entries (grind (arith, empty, c.if-is_empty-4.true)) in
    record {
      takes = rw (stay.seen, c.in_ok-with_rows.ensures.after)
          (rows_in c.args.section level (omega arith) table none _ (few_are_simple level _ stay.few));
      taken = search (rules, stay.none, c.in_ok-with_rows.ensures.taken, raws.the_lemmas);
    }
