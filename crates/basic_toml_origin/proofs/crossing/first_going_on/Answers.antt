use Rattle.std.proofs.Common.{◌+◌, ◌++◌, ◌∷◌, [], List, Some, None, sym, ap, ◌∙◌, arith, drop, map}
use Rattle.basic_toml_read.specs.declared.section.Key as code
use Rattle.basic_toml_read.specs.declared.section.Row.{out-Row}
use Rattle.basic_toml_read.specs.SectionView.{header_texts, key_of, lined_of, rows_from}
use Rattle.basic_toml_read.proofs.NextRow.{parents_left}
use Rattle.basic_toml_origin.specs.Crossing.{first_going_on}
use Rattle.basic_toml_origin.proofs.RowsGoOn.{goes_first}
use Rattle.basic_toml_origin.proofs.crossing.first_going_on.Goals as goal

pub returns-in-Some : goal.returns-in-Some
returns-in-Some c =
    sym (c.loop-row.invariant.left
    ∙ goes_first (header_texts c.args.keys.now ++ c.args.last.now ∷ []) c.loop-row.left.now c.own_parents-own.result.now
    c.args.rows.now c.loop-row.row-index c.row-item.result (Some c.in-Some.key) c.loop-row-test.true c.row-item.is
    c.own_parents-own.ensures c.in-Some.ensures)

pub loop-row-preserved : goal.loop-row-preserved
loop-row-preserved c =
    let keys = header_texts c.args.keys.now ++ c.args.last.now ∷ [] in
    let left = c.loop-row.left.now in
    let r = c.row-item.result in
    let own = parents_left (out-Row r).parents left c.own_parents-own.result.now c.own_parents-own.ensures in
    record {
      within = omega (arith, own.0, c.loop-row.invariant.within);
      left =
          c.loop-row.invariant.left
          ∙ goes_first keys left c.own_parents-own.result.now c.args.rows.now c.loop-row.row-index r None
          c.loop-row-test.true c.row-item.is c.own_parents-own.ensures c.in_default.ensures
          ∙ ap (λ (ks : List code.Key). first_going_on keys (rows_from (map key_of ks)
          (map lined_of (drop (c.loop-row.row-index + 1) c.args.rows.now)))) own.1;
    }
