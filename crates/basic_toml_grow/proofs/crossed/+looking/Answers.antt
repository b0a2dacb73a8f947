use Rattle.std.proofs.Common.{refl, drop, map}
use Rattle.std.proofs.lemmas.List.{drop_more}
use Rattle.basic_toml_read.specs.declared.section.Row.{out-Row}
use Rattle.basic_toml_read.specs.SectionView.{key_of}
use Rattle.basic_toml_read.proofs.NextRow.{lined_is}
use Rattle.basic_toml_grow.proofs.crossed.+looking.Goals as goal

pub look_through-loop-row-init : goal.look_through-loop-row-init
look_through-loop-row-init t c = (map key_of c.args.parents.now, refl)

pub look_through-loop-row-preserved : goal.look_through-loop-row-preserved
look_through-loop-row-preserved t c =
    let r = c.row-item in
    let next = drop_more c.args.rows.now c.loop-row.row-index r.result c.loop-row-test.true in
    let left = rw (next, ← r.is, lined_is r.result, c.in_ok-look_into.ensures) at c.loop-row.invariant.1 in
    (drop (out-Row r.result).parents c.loop-row.invariant.0, left)
