use Rattle.std.proofs.Common.{◌≡◌, suc, drop, false}
use Rattle.basic_toml_value.specs.Entries.{seen}
use Rattle.basic_toml_value.specs.View.{view, entries, items_view}
use Rattle.basic_toml_value.proofs.Sizes.{data_size, items_size, members_size}
use Rattle.basic_toml_write.specs.Impls.{items_calls, members_calls}
use Rattle.basic_toml_write.specs.Recordable.{AreRecordable}
use Rattle.basic_toml_write.specs.DataFits.{members_fit, tables_fit}
use Rattle.basic_toml_write.proofs.fits.+tables.Given as goal

abbrev pub decreases-table_fits : goal.decreases-table_fits
decreases-table_fits l = suc (members_size (entries l.table.now))

abbrev pub decreases-entries_fit : goal.decreases-entries_fit
decreases-entries_fit l = members_size (entries (seen l.pairs.now))

abbrev pub decreases-entry_fits : goal.decreases-entry_fits
decreases-entry_fits l = suc (data_size (view l.value.now))

abbrev pub decreases-array_fits : goal.decreases-array_fits
decreases-array_fits l = suc (items_size (items_view l.values.now))

abbrev pub decreases-tables_fit : goal.decreases-tables_fit
decreases-tables_fit l = items_size (items_view l.values.now)

abbrev pub decreases-is_fitting_table : goal.decreases-is_fitting_table
decreases-is_fitting_table l = data_size (view l.value.now)

-- what is left gives what the whole does
abbrev pub invariant-entries_fit-loop-i : goal.invariant-entries_fit-loop-i
invariant-entries_fit-loop-i l = record {
  fits : members_fit l.around l.is_late (entries (seen (drop l.i l.pairs)))
      ≡ members_fit l.around false (entries (seen l.pairs));
  recordable : AreRecordable (members_calls (entries (seen (drop l.i l.pairs))))
      → AreRecordable (members_calls (entries (seen l.pairs)));
}

abbrev pub invariant-tables_fit-loop-i : goal.invariant-tables_fit-loop-i
invariant-tables_fit-loop-i l = record {
  fits : tables_fit l.around (items_view (drop l.i l.values)) ≡ tables_fit l.around (items_view l.values);
  recordable : AreRecordable (items_calls (items_view (drop l.i l.values)))
      → AreRecordable (items_calls (items_view l.values));
}
