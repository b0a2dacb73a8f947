use Rattle.std.proofs.Common.{arith}
use Rattle.std.proofs.lemmas.Result.{err_from_is_err_and}
use Rattle.basic_toml_read.specs.declared.section.Row.{out-Row}
use Rattle.basic_toml_read.proofs.NextRow.{parents_left}
use Rattle.basic_toml_grow.proofs.ValuesOnTheWay.{gone_on, stopped}
use Rattle.basic_toml_grow.proofs.crossed.look_between.Goals as goal

pub returns-in_err-follow : goal.returns-in_err-follow
returns-in_err-follow c =
    let p = err_from_is_err_and c.from_residual.result c.from_residual.ensures.1 in
    rw (p.1, p.2) (stopped _ _ c.args.rows.now _ c.row-item.result _ c.loop-row.tree c.follow.new.tree
    c.loop-row-test.true c.row-item.is c.own_parents-own.ensures c.as_str.ensures.value c.loop-row.invariant.passed
    c.in_err-follow.field-0.0 c.in_err-follow.ensures)

pub loop-row-preserved : goal.loop-row-preserved
loop-row-preserved c =
    let row = c.row-item in
    let left = c.loop-row.left.now in
    let own = parents_left (out-Row row.result).parents left c.own_parents-own.result.now c.own_parents-own.ensures in
    record {
      within = omega (arith, own.0, c.loop-row.invariant.within);
      passed = rw (← own.1) (gone_on _ _ c.args.rows.now _ row.result _ c.loop-row.tree c.follow.new.tree
          c.loop-row-test.true row.is c.own_parents-own.ensures c.as_str.ensures.value c.loop-row.invariant.passed
          c.in_ok-follow.ensures);
    }
