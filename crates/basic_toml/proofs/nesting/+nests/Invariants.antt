use Rattle.std.proofs.Common.{◌≡◌, suc, drop}
use Rattle.std.specs.Prelude.{nat_le}
use Rattle.basic_toml_value.specs.Entries.{seen}
use Rattle.basic_toml_value.specs.View.{view, entries, items_view}
use Rattle.basic_toml_value.proofs.Sizes.{data_size, items_size, members_size}
use Rattle.basic_toml_grammar.specs.Depth.{depth_of_items, depth_of_members}
use Rattle.basic_toml_layout.specs.Valid.{AreValid, HoldsValid}
use Rattle.basic_toml.proofs.nesting.+nests.Given as goal

abbrev pub decreases-value_nests_within : goal.decreases-value_nests_within
decreases-value_nests_within l = data_size (view l.value.now)

abbrev pub decreases-elements_nest_within : goal.decreases-elements_nest_within
decreases-elements_nest_within l = items_size (items_view l.values.now)

abbrev pub decreases-table_nests_within : goal.decreases-table_nests_within
decreases-table_nests_within l = suc (members_size (entries l.table.now))

abbrev pub decreases-entries_nest_within : goal.decreases-entries_nest_within
decreases-entries_nest_within l = members_size (entries (seen l.pairs.now))

-- what is left tells it of all
abbrev pub invariant-elements_nest_within-loop-i : goal.invariant-elements_nest_within-loop-i
invariant-elements_nest_within-loop-i l = record {
  within : nat_le (depth_of_items (items_view (drop l.i l.values))) l.room
      ≡ nat_le (depth_of_items (items_view l.values)) l.room;
  valid : AreValid (items_view (drop l.i l.values)) → AreValid (items_view l.values);
}

abbrev pub invariant-entries_nest_within-loop-i : goal.invariant-entries_nest_within-loop-i
invariant-entries_nest_within-loop-i l = record {
  within : nat_le (depth_of_members (entries (seen (drop l.i l.pairs)))) l.room
      ≡ nat_le (depth_of_members (entries (seen l.pairs))) l.room;
  valid : HoldsValid (entries (seen (drop l.i l.pairs))) → HoldsValid (entries (seen l.pairs));
}
