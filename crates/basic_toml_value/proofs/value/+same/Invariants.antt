use Rattle.std.proofs.Common.{◌≡◌, suc, drop}
use Rattle.basic_toml_value.specs.Entries.{seen}
use Rattle.basic_toml_value.specs.Equal.{items_eq, members_eq}
use Rattle.basic_toml_value.specs.View.{view, entries, items_view}
use Rattle.basic_toml_value.proofs.Sizes.{data_size, items_size, members_size}
use Rattle.basic_toml_value.proofs.value.+same.Given as goal

abbrev pub decreases-same_values : goal.decreases-same_values
decreases-same_values l = data_size (view l.left.now)

abbrev pub decreases-same_elements : goal.decreases-same_elements
decreases-same_elements l = items_size (items_view l.left.now)

abbrev pub decreases-same_tables : goal.decreases-same_tables
decreases-same_tables l = suc (members_size (entries l.left.now))

abbrev pub decreases-same_entries : goal.decreases-same_entries
decreases-same_entries l = members_size (entries (seen l.left.now))

abbrev pub decreases-same_pairs : goal.decreases-same_pairs
decreases-same_pairs l = suc (data_size (view l.left.now.value))

-- what is left to compare gives what the whole does
abbrev pub invariant-same_elements-loop-i : goal.invariant-same_elements-loop-i
invariant-same_elements-loop-i l =
    items_eq (items_view (drop l.i l.left)) (items_view (drop l.i l.right))
    ≡ items_eq (items_view l.left) (items_view l.right)

abbrev pub invariant-same_entries-loop-i : goal.invariant-same_entries-loop-i
invariant-same_entries-loop-i l =
    members_eq (entries (seen (drop l.i l.left))) (entries (seen (drop l.i l.right)))
    ≡ members_eq (entries (seen l.left)) (entries (seen l.right))
