use Rattle.std.proofs.Common.{◌+◌, List, Some, None, sym, ap, ◌∙◌, arith, drop, map}
use Rattle.std.proofs.lemmas.List.{take_rest}
use Rattle.basic_toml_read.specs.declared.section.Key as code
use Rattle.basic_toml_read.specs.declared.section.Row.{out-Row}
use Rattle.basic_toml_read.specs.SectionView.{key_of, lined_of, rows_from}
use Rattle.basic_toml_read.proofs.NextRow.{parents_left}
use Rattle.basic_toml_origin.specs.Crossing.{crossing_by}
use Rattle.basic_toml_origin.proofs.RowsGoOn.{value_met, value_passed}
use Rattle.basic_toml_origin.proofs.crossing.+crossing.Goals as goal

pub crossing_by-returns-then-row-offset : goal.crossing_by-returns-then-row-offset
crossing_by-returns-then-row-offset t c =
    let left = c.loop-number.left.now in
    let own = c.own_parents-own.result.now in
    let r = c.index-rows-number.result in
    let behind = parents_left (out-Row r).parents left own c.own_parents-own.ensures in
    c.first_going_on.ensures
    ∙ sym (c.loop-number.invariant.left
    ∙ value_met c.args.offset left own c.args.rows.now c.loop-number.number r c.loop-number-test.true
    c.index-rows-number.is c.own_parents-own.ensures c.as_str.result.now _ _ c.as_str.ensures.value behind.1
    (take_rest c.args.rows.now (c.loop-number.number + 1)) c.if-row-offset.true)

pub crossing_by-returns-in-Some : goal.crossing_by-returns-in-Some
crossing_by-returns-in-Some t c =
    sym (c.loop-number.invariant.left
    ∙ value_passed c.args.offset c.loop-number.left.now c.own_parents-own.result.now c.args.rows.now c.loop-number.number
    c.index-rows-number.result c.loop-number-test.true c.index-rows-number.is c.own_parents-own.ensures
    (Some c.in-Some.key) c.if-row-offset.false c.in-Some.ensures)

pub crossing_by-loop-number-preserved : goal.crossing_by-loop-number-preserved
crossing_by-loop-number-preserved t c =
    let left = c.loop-number.left.now in
    let r = c.index-rows-number.result in
    let own = parents_left (out-Row r).parents left c.own_parents-own.result.now c.own_parents-own.ensures in
    record {
      within = omega (arith, own.0, c.loop-number.invariant.within);
      left =
          c.loop-number.invariant.left
          ∙ value_passed c.args.offset left c.own_parents-own.result.now c.args.rows.now c.loop-number.number r
          c.loop-number-test.true c.index-rows-number.is c.own_parents-own.ensures None c.if-row-offset.false
          c.in_default.ensures
          ∙ ap (λ (ks : List code.Key). crossing_by c.args.offset (rows_from (map key_of ks)
          (map lined_of (drop (c.loop-number.number + 1) c.args.rows.now)))) own.1;
    }
