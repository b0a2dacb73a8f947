use Rattle.std.proofs.Common.{◌≡◌, suc, ◌++◌}
use Rattle.basic_toml_value.specs.Entries.{seen}
use Rattle.basic_toml_value.specs.View.{view, entries, items_view}
use Rattle.basic_toml_value.proofs.Sizes.{data_size, items_size, members_size}
use Rattle.basic_toml_write.specs.Impls.{items_calls, members_calls}
use Rattle.basic_toml_serde.specs.Listed.{listed}
use Rattle.basic_toml_serde.proofs.TableIsListed.{elements_from, entries_from}
use Rattle.basic_toml_serde.proofs.table_items.+lists.Given as goal

abbrev pub decreases-add_value : goal.decreases-add_value
decreases-add_value l = data_size (view l.value.now)

abbrev pub decreases-add_array : goal.decreases-add_array
decreases-add_array l = items_size (items_view l.values.now)

abbrev pub decreases-add_table : goal.decreases-add_table
decreases-add_table l = suc (members_size (entries l.table.now))

abbrev pub decreases-add_pairs : goal.decreases-add_pairs
decreases-add_pairs l = members_size (entries (seen l.pairs.now))

-- what was added, and what is left
abbrev pub invariant-add_array-loop-i : goal.invariant-add_array-loop-i
invariant-add_array-loop-i l =
    listed l.items.items ++ elements_from l.i l.values
    ≡ listed l.initial.items.items ++ items_calls (items_view l.values)

abbrev pub invariant-add_pairs-loop-i : goal.invariant-add_pairs-loop-i
invariant-add_pairs-loop-i l =
    listed l.items.items ++ entries_from l.i l.pairs
    ≡ listed l.initial.items.items ++ members_calls (entries (seen l.pairs))
