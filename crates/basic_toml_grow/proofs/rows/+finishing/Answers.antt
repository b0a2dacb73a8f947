use Rattle.std.proofs.Common.{◌≡◌, [], ap, ◌∙◌, arith, rules, true, ◌+◌, ◌∷◌}
use Rattle.std.specs.Box as boxes
use Rattle.std.specs.Prelude.{nat_lt}
use Rattle.std.proofs.lemmas.Bool.{and_from}
use Rattle.std.proofs.lemmas.Result.{err_from_is_err_and}
use Rattle.basic_toml_value.specs.Nesting.{nesting_limit}
use Rattle.basic_toml_read.specs.SectionView.{lined_of, rows_seen}
use Rattle.basic_toml_read.specs.declared.section.Raw as raws
use Rattle.basic_toml_read.specs.declared.section.Rows as tables
use Rattle.basic_toml_read.specs.declared.section.Row.{out-Row}
use Rattle.basic_toml_read.proofs.RowsHaveKeys.{are_keyed, every_element, every_row, rows_are_keyed}
use Rattle.basic_toml_read.proofs.ViewsSeen.{placed_is}
use Rattle.basic_toml_read.proofs.NextRow.{first_row, lined_is, parents_left}
use Rattle.basic_toml_plain.specs.Plain.{are_plain, are_few_simple, are_all_plain}
use Rattle.basic_toml_plain.proofs.PlainSeen.{array_is, inline_is}
use Rattle.basic_toml_plain.proofs.PlainValues.{elements_lower, few_lower}
use Rattle.basic_toml_plain.proofs.WhatIsLeft.{nothing_left}
use Rattle.basic_toml_grow.specs.Item.{table_trie}
use Rattle.basic_toml_grow.proofs.ValuesMade.{element_made, elements_done, inline_made, inline_refused}
use Rattle.basic_toml_grow.proofs.RowValues.{none_taken, row_met, row_put, row_refused, row_taken, value_refused}
use Rattle.basic_toml_grow.proofs.SimpleRows.{all_lower, first_in, plain_made}
use Rattle.basic_toml_grow.proofs.rows.+finishing.Goals as goal

pub enter_rows-returns-in_err-enter_value : goal.enter_rows-returns-in_err-enter_value
enter_rows-returns-in_err-enter_value t c =
    let p = err_from_is_err_and c.from_residual.result c.from_residual.ensures.1 in
    rw (p.1, p.2) (c.loop-row.invariant.left _ _ (rw (c.in-Some.ensures.steps, first_row)
    (row_refused (rw c.own_parents-own.ensures at c.in_err-enter_value.ensures))))

pub enter_rows-returns : goal.enter_rows-returns
enter_rows-returns t c = c.loop-row.invariant.left _ _ (rw c.in-None.ensures.steps.0 none_taken)

pub enter_rows-loop-row-preserved : goal.enter_rows-loop-row-preserved
enter_rows-loop-row-preserved t c =
    let row = c.in-Some.row in
    let left = c.loop-row.left.now in
    let rest = c.next.new.self in
    let own = parents_left (out-Row row).parents left c.own_parents-own.result.now c.own_parents-own.ensures in
    record {
      within = omega (arith, own.0, c.loop-row.invariant.within);
      left = λ after r takes. c.loop-row.invariant.left after r (rw (c.in-Some.ensures.steps, first_row)
          (row_taken (rw c.own_parents-own.ensures at c.in_ok-enter_value.ensures)
          (rw first_row at (rows_are_keyed left (row ∷ rest))) (every_row row) (rw own.1 takes)));
    }

pub enter_value-returns-in-Err : goal.enter_value-returns-in-Err
enter_value-returns-in-Err t c =
    let held = c.in_ok-value_clash-in-Err.ensures in
    value_refused c.args.keys.now (lined_of c.args.row).key (omega arith) (rw lined_is c.in-Err.ensures) held.same
    (rw (lined_is, ← c.as_str.ensures.value) (held.named (out-Row c.args.row).offset))

pub enter_value-returns-in-Ok-enter_row : goal.enter_value-returns-in-Ok-enter_row
enter_value-returns-in-Ok-enter_row t c =
    row_put c.args.keys.now (lined_of c.args.row).key (omega arith) c.in-Ok.child (rw lined_is c.in-Ok.ensures)
    (rw (lined_is, ← c.as_str-in-Ok.ensures.value) c.in-Ok-enter_row.ensures)

pub enter_value-returns : goal.enter_value-returns
enter_value-returns t c =
    let clash = c.in_ok-row_clash-in-Err-enter_row.ensures in
    row_met c.args.keys.now (lined_of c.args.row).key (omega arith) c.in-Ok.child (every_row c.args.row)
    (rw lined_is c.in-Ok.ensures) (rw (lined_is, ← c.as_str-in-Ok.ensures.value) c.in-Err-enter_row.ensures) clash.same
    (rw (lined_is, ← c.as_str-in-Err-enter_row.ensures.value) clash.named)

pub children_of-loop-element-preserved : goal.children_of-loop-element-preserved
children_of-loop-element-preserved t c =
    let push = c.push_reserved.ensures in
    record {
      left = rw push.items (element_made (rw placed_is at (every_element c.in-Some.element)) c.in_ok-child.ensures
          (rw (c.in-Some.ensures.steps, placed_is) at c.loop-element.invariant.left));
      room = grind (arith, c.in-Some.ensures.steps, c.loop-element.invariant.room, push.len, push.capacity);
    }

pub children_of-returns-clause-finished : goal.children_of-returns-clause-finished
children_of-returns-clause-finished t c =
    elements_done (rw c.in-None.ensures.steps.0 at c.loop-element.invariant.left)

-- an inline table of other rows
pub inline_child-returns-in_err-take_any_rows : goal.inline_child-returns-in_err-take_any_rows
inline_child-returns-in_err-take_any_rows t c =
    let exit = c.from_residual-in_err-take_any_rows in
    let p = err_from_is_err_and exit.result exit.ensures.1 in
    rw (p.1, p.2) (inline_refused (are_keyed c.args.rows)
    (ap table_trie c.deref_mut.ensures.value ∙ c.in_ok-table.ensures) (omega arith) c.in_err-take_any_rows.ensures)

pub inline_child-returns : goal.inline_child-returns
inline_child-returns t c =
    inline_made (are_keyed c.args.rows) (ap table_trie c.deref_mut.ensures.value ∙ c.in_ok-table.ensures) (omega arith)
    (boxes.with_value c.in_ok-table.table c.take_any_rows.new.table) c.at.result c.in_ok-take_any_rows.ensures
    c.at.ensures.trie c.at.ensures.origins (search rules)

-- an array of plain values, kept as it was read
pub row_value-new-array-requires : goal.row_value-new-array-requires
row_value-new-array-requires t c = elements_lower c.in-Array.elements.items (c.args.level + 1) (cc)

pub row_value-returns-then-are_plain : goal.row_value-returns-then-are_plain
row_value-returns-then-are_plain t c =
    let es = c.in-Array.elements in
    let l = c.args.level in
    let plain : are_plain (l + 1) es.items ≡ true = cc in
    rw c.in-Array.is (plain_made (raws.Array es) (array_is es l
    ∙ and_from (nat_lt l nesting_limit) _ (grind arith) plain) (search (rules, raws.the_lemmas))
    (search (rules, raws.the_lemmas)) (search rules))

-- and an inline table
pub row_value-new-table-requires : goal.row_value-new-table-requires
row_value-new-table-requires t c = few_lower c.in-Inline.rows.items (c.args.level + 1) (cc)

pub row_value-returns-then-are_few_simple : goal.row_value-returns-then-are_few_simple
row_value-returns-then-are_few_simple t c =
    let rs = c.in-Inline.rows in
    let l = c.args.level in
    let simple : are_few_simple (l + 1) rs.items ≡ true = cc in
    rw c.in-Inline.is (plain_made (raws.Inline rs) (inline_is rs l
    ∙ and_from (nat_lt l nesting_limit) _ (grind arith) simple) (search (rules, raws.the_lemmas))
    (search (rules, raws.the_lemmas)) (search rules))

pub take_many_rows-with_first_rows-requires-clause-plain : goal.take_many_rows-with_first_rows-requires-clause-plain
take_many_rows-with_first_rows-requires-clause-plain t c =
    ap (are_all_plain 0) c.drain-rows.ensures ∙ all_lower c.args.level c.args.rows.items c.requires.plain

pub take_any_rows-returns-then-are_all_plain : goal.take_any_rows-returns-then-are_all_plain
take_any_rows-returns-then-are_all_plain t c =
    let own = tables.out-Rows c.args.rows in
    let none : own.parents.items ≡ [] =
    nothing_left own.parents.items (grind (arith, c.is_empty.ensures, c.if-is_empty.true, own.parents.ok.0)) in
    rw (ap (λ ks. rows_seen ks own.rows.items) none) c.take_many_rows.ensures

-- many plain rows, the first of them taken at once
pub take_many_rows-returns : goal.take_many_rows-returns
take_many_rows-returns t c =
    let first_rows = rw c.drain-rows.ensures at c.in_ok-with_first_rows.ensures in
    first_in (omega arith) _ c.args.rows.items c.in_ok-index.count c.requires.none c.requires.plain
    (rw c.as_slice.ensures.value at c.in_ok-index.ensures.index.distinct) first_rows.left
    (rw first_rows.after at c.enter_rows.ensures)
