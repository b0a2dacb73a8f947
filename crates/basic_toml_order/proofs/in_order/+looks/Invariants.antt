use Rattle.std.proofs.Common.{suc, drop, false, IsTrue}
use Rattle.basic_toml_value.specs.Entries.{seen}
use Rattle.basic_toml_value.specs.View.{view, entries, items_view}
use Rattle.basic_toml_value.proofs.Sizes.{data_size, items_size, members_size}
use Rattle.basic_toml_order.specs.RowsFirst.{hold_in_order}
use Rattle.basic_toml_order.specs.Sound.{are_sound, hold_sound}
use Rattle.basic_toml_order.proofs.OrderIsSeen.{rest_in_order}
use Rattle.basic_toml_order.proofs.in_order.+looks.Given as goal

abbrev pub decreases-is_in_order : goal.decreases-is_in_order
decreases-is_in_order l = data_size (view l.value.now)

abbrev pub decreases-are_elements_in_order : goal.decreases-are_elements_in_order
decreases-are_elements_in_order l = items_size (items_view l.values.now)

abbrev pub decreases-is_table_in_order : goal.decreases-is_table_in_order
decreases-is_table_in_order l = suc (members_size (entries l.table.now))

abbrev pub decreases-are_pairs_in_order : goal.decreases-are_pairs_in_order
decreases-are_pairs_in_order l = members_size (entries (seen l.pairs.now))

-- what is left gives what the whole does
abbrev pub invariant-are_elements_in_order-loop-i : goal.invariant-are_elements_in_order-loop-i
invariant-are_elements_in_order-loop-i l = record {
  order : IsTrue (hold_in_order (items_view (drop l.i l.values))) → IsTrue (hold_in_order (items_view l.values));
  sound : IsTrue (are_sound (items_view (drop l.i l.values))) → IsTrue (are_sound (items_view l.values));
}

abbrev pub invariant-are_pairs_in_order-loop-i : goal.invariant-are_pairs_in_order-loop-i
invariant-are_pairs_in_order-loop-i l = record {
  order : IsTrue (rest_in_order l.is_late (entries (seen (drop l.i l.pairs))))
      → IsTrue (rest_in_order false (entries (seen l.pairs)));
  sound : IsTrue (hold_sound (entries (seen (drop l.i l.pairs)))) → IsTrue (hold_sound (entries (seen l.pairs)));
}
