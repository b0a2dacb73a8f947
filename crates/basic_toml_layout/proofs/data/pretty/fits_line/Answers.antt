use Rattle.std.proofs.Common.{arith, sym, ◌∙◌}
use Rattle.std.proofs.lemmas.Bool.Decides.{nat_tests}
use Rattle.basic_toml_layout.specs.Pretty.{columns}
use Rattle.basic_toml_layout.proofs.PrettyInTurn.{column_next, no_column, no_room, in_room}
use Rattle.basic_toml_layout.proofs.data.pretty.fits_line.Goals as goal
use Rattle.basic_toml_layout.proofs.data.pretty.fits_line.Goals.{then-is_first_byte+else-columns-eq80, else-is_first_byte}

pub returns-then-columns-eq80 : goal.returns-then-columns-eq80
returns-then-columns-eq80 c =
    no_room c.args.line.now c.loop-i.i c.loop-i.columns c.loop-i-test.true
    (sym c.is_first_byte.ensures ∙ c.if-is_first_byte.true) c.if-columns-eq80.true c.loop-i.invariant.all

pub loop-i-preserved : goal.loop-i-preserved
loop-i-preserved c = elim c.if-is_first_byte.branch [
  | then-is_first_byte+else-columns-eq80 w ↦ record {
    within = omega (arith, w.if-columns-eq80.false, w.columns-is, c.loop-i.invariant.within);
    all = column_next c.args.line.now c.loop-i.i c.loop-i.columns _ c.loop-i-test.true
        (sym c.is_first_byte.ensures ∙ w.if-is_first_byte.true) w.columns-is c.loop-i.invariant.all;
  }
  | else-is_first_byte w ↦ record {
    within = omega (arith, w.columns-is, c.loop-i.invariant.within);
    all = no_column c.args.line.now c.loop-i.i c.loop-i.columns _ c.loop-i-test.true
        (sym c.is_first_byte.ensures ∙ w.if-is_first_byte.false) w.columns-is c.loop-i.invariant.all;
  }
]

pub returns : goal.returns
returns c = in_room c.args.line.now c.loop-i.i c.loop-i.columns c.loop-i-test.false c.loop-i.invariant.within
    c.loop-i.invariant.all
