use Rattle.std.proofs.Common.{arith, rules, tests, sym, ◌∙◌, ap}
use Rattle.std.proofs.lemmas.Grind.{common_steps}
use Rattle.basic_toml_value.specs.Data.{array}
use Rattle.basic_toml_value.specs.View.{view, entries, items_view}
use Rattle.basic_toml_layout.proofs.ViewsOfValues.{view-Array, view-Table}
use Rattle.basic_toml_write.proofs.DataIsRecordable.{recordable_array, recordable_table, recordable_item}
use Rattle.basic_toml_write.proofs.DataIsRecordable.{recordable_member}
use Rattle.basic_toml_value.specs.Entries.{seen}
use Rattle.basic_toml_value.proofs.Sizes.{data_size-at, data_size-pair}
use Rattle.basic_toml_write.proofs.TablesFit.{fits_by_entries}
use Rattle.basic_toml_write.proofs.fits.+tables.Goals as goal

pub table_fits-returns-then-around-lt-NESTING_LIMIT-clause-fits : goal.table_fits-returns-then-around-lt-NESTING_LIMIT-clause-fits
table_fits-returns-then-around-lt-NESTING_LIMIT-clause-fits t c =
    fits_by_entries c.args.around c.args.table.now (seen c.entries.result.now) c.entries_fit.result
    (search (rules, tests)) c.entries.ensures.pairs c.entries.ensures.distinct c.entries_fit.ensures.fits

pub entries_fit-entry_fits-requires : goal.entries_fit-entry_fits-requires
entries_fit-entry_fits-requires t c =
    let smaller = data_size-pair c.args.pairs.now c.loop-i.i c.index-pairs-i.result c.loop-i-test.true c.index-pairs-i.is
    in
    (omega arith, tt)

pub tables_fit-is_fitting_table-requires : goal.tables_fit-is_fitting_table-requires
tables_fit-is_fitting_table-requires t c =
    let smaller = data_size-at c.args.values.now c.loop-i.i c.index-values-i.result c.loop-i-test.true c.index-values-i.is in
    (omega arith, tt)

pub entries_fit-loop-i-preserved : goal.entries_fit-loop-i-preserved
entries_fit-loop-i-preserved t c = record {
  fits = grind (arith, common_steps);
  recordable = λ more. c.loop-i.invariant.recordable (recordable_member c.args.pairs.now c.loop-i.i
      c.index-pairs-i.result c.loop-i-test.true c.index-pairs-i.is
      (c.entry_fits.ensures.recordable (grind (arith, common_steps))) more);
}

pub tables_fit-loop-i-preserved : goal.tables_fit-loop-i-preserved
tables_fit-loop-i-preserved t c = record {
  fits = grind (arith, common_steps);
  recordable = λ more. c.loop-i.invariant.recordable (recordable_item c.args.values.now c.loop-i.i
      c.index-values-i.result c.loop-i-test.true c.index-values-i.is
      (c.is_fitting_table.ensures.recordable (grind (arith, common_steps))) more);
}

pub entry_fits-returns-in-Table-clause-recordable : goal.entry_fits-returns-in-Table-clause-recordable
entry_fits-returns-in-Table-clause-recordable t c = λ yes.
    recordable_table (view c.args.value.now) (entries c.in-Table.table) (ap view c.in-Table.is ∙ view-Table c.in-Table.table)
    (c.table_fits.ensures.recordable yes)

pub is_fitting_table-returns-in-Table-clause-recordable : goal.is_fitting_table-returns-in-Table-clause-recordable
is_fitting_table-returns-in-Table-clause-recordable t c = λ yes.
    recordable_table (view c.args.value.now) (entries c.in-Table.table) (ap view c.in-Table.is ∙ view-Table c.in-Table.table)
    (c.table_fits.ensures.recordable yes)

pub entry_fits-returns-in-Array-clause-recordable : goal.entry_fits-returns-in-Array-clause-recordable
entry_fits-returns-in-Array-clause-recordable t c = λ yes.
    recordable_array (view c.args.value.now) (items_view c.as_slice.result.now)
    (ap view c.in-Array.is ∙ (view-Array c.in-Array.values ∙
    ap (λ z. array (items_view z)) (sym c.as_slice.ensures.value))) (c.array_fits.ensures.recordable yes)
