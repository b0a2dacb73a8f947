use Rattle.std.proofs.Common.{◌≡◌, drop}
use Rattle.basic_toml_value.specs.View.{view, items_view}
use Rattle.basic_toml_value.proofs.Sizes.{data_size, items_size}
use Rattle.basic_toml_write.specs.Impls.{items_calls}
use Rattle.basic_toml_write.specs.Recordable.{AreRecordable}
use Rattle.basic_toml_write.specs.DataFits.{items_fit_in_row}
use Rattle.basic_toml_write.proofs.fits.+rows.Given as goal

abbrev pub decreases-fits_in_row : goal.decreases-fits_in_row
decreases-fits_in_row l = data_size (view l.value.now)

abbrev pub decreases-fit_in_row : goal.decreases-fit_in_row
decreases-fit_in_row l = items_size (items_view l.values.now)

-- what is left gives what the whole does
abbrev pub invariant-fit_in_row-loop-i : goal.invariant-fit_in_row-loop-i
invariant-fit_in_row-loop-i l = record {
  fits : items_fit_in_row l.around (items_view (drop l.i l.values)) ≡ items_fit_in_row l.around (items_view l.values);
  recordable : AreRecordable (items_calls (items_view (drop l.i l.values)))
      → AreRecordable (items_calls (items_view l.values));
}
