use Rattle.std.proofs.Common.{◌+◌, Some, None, sym, ap, ◌∙◌, arith, drop, map}
use Rattle.basic_toml_read.specs.declared.section.Row.{out-Row}
use Rattle.basic_toml_read.specs.SectionView.{key_of, lined_of, rows_from}
use Rattle.basic_toml_read.proofs.NextRow.{parents_left}
use Rattle.basic_toml_origin.specs.Path.{path_of}
use Rattle.basic_toml_origin.specs.Origin.{in_rows}
use Rattle.basic_toml_origin.proofs.RowsLeft.{by_first}
use Rattle.basic_toml_origin.proofs.values.+values.Goals as goal

pub in_rows-returns-in-Some : goal.in_rows-returns-in-Some
in_rows-returns-in-Some t c =
    sym (c.loop-row.invariant.1
    ∙ by_first c.loop-row.left.now c.own_parents-own.result.now c.args.rows.now c.loop-row.row-index c.row-item.result
    (path_of c.args.path.now) (Some c.in-Some.origin) c.loop-row-test.true c.row-item.is c.own_parents-own.ensures
    c.in-Some.ensures)

pub in_rows-loop-row-preserved : goal.in_rows-loop-row-preserved
in_rows-loop-row-preserved t c =
    let left = c.loop-row.left.now in
    let r = c.row-item.result in
    let path = path_of c.args.path.now in
    let own = parents_left (out-Row r).parents left c.own_parents-own.result.now c.own_parents-own.ensures in (
      omega (arith, own.0, c.loop-row.invariant.0),
      c.loop-row.invariant.1
          ∙ by_first left c.own_parents-own.result.now c.args.rows.now c.loop-row.row-index r path None
          c.loop-row-test.true c.row-item.is c.own_parents-own.ensures c.in_default.ensures
          ∙ ap (λ ks. in_rows (rows_from (map key_of ks)
          (map lined_of (drop (c.loop-row.row-index + 1) c.args.rows.now)))
          path) own.1,
    )
