use Rattle.std.proofs.Common.{arith, rules, sym, ◌∙◌, ap}
use Rattle.std.proofs.lemmas.Grind.{common_steps}
use Rattle.basic_toml_value.specs.Data.{array}
use Rattle.basic_toml_value.specs.View.{view, items_view}
use Rattle.basic_toml_value.proofs.Sizes.{data_size-at}
use Rattle.basic_toml_layout.proofs.ViewsOfValues.{view-Array}
use Rattle.basic_toml_write.proofs.DataIsRecordable.{recordable_string, recordable_integer, recordable_array}
use Rattle.basic_toml_write.proofs.DataIsRecordable.{recordable_item}
use Rattle.basic_toml_write.proofs.fits.+rows.Goals as goal

pub fit_in_row-fits_in_row-requires : goal.fit_in_row-fits_in_row-requires
fit_in_row-fits_in_row-requires t c =
    let smaller = data_size-at c.args.values.now c.loop-i.i c.index-values-i.result c.loop-i-test.true c.index-values-i.is in
    (omega arith, tt)

pub fit_in_row-loop-i-preserved : goal.fit_in_row-loop-i-preserved
fit_in_row-loop-i-preserved t c = record {
  fits = grind (arith, common_steps);
  recordable = λ more. c.loop-i.invariant.recordable (recordable_item c.args.values.now c.loop-i.i
      c.index-values-i.result c.loop-i-test.true c.index-values-i.is (c.fits_in_row.ensures.recordable (grind (arith, common_steps)))
      more);
}

pub fits_in_row-returns-then-around-lt-NESTING_LIMIT-clause-recordable :
    goal.fits_in_row-returns-then-around-lt-NESTING_LIMIT-clause-recordable
fits_in_row-returns-then-around-lt-NESTING_LIMIT-clause-recordable t c = λ yes.
    recordable_array (view c.args.value.now) (items_view c.as_slice.result.now)
    (ap view c.in-Array.is ∙ (view-Array c.in-Array.values ∙
    ap (λ z. array (items_view z)) (sym c.as_slice.ensures.value)))
    (c.fit_in_row.ensures.recordable yes)

pub fits_in_row-returns-in-Integer-clause-recordable : goal.fits_in_row-returns-in-Integer-clause-recordable
fits_in_row-returns-in-Integer-clause-recordable t c = λ yes.
    recordable_integer c.args.value.now c.in-Integer.number c.in-Integer.is (search rules)

pub fits_in_row-returns-in-String-clause-recordable : goal.fits_in_row-returns-in-String-clause-recordable
fits_in_row-returns-in-String-clause-recordable t c = λ yes.
    recordable_string c.args.value.now c.in-String._text c.in-String.is
