use Rattle.std.proofs.Common.{◌≡◌, suc, take, map}
use Rattle.basic_toml_value.specs.Entries.{seen, texts_of}
use Rattle.basic_toml_value.specs.View.{view, entries, items_view}
use Rattle.basic_toml_value.proofs.Sizes.{data_size, items_size, members_size}
use Rattle.basic_toml_value.proofs.value.+copies.Given as goal

abbrev pub decreases-Value::clone : goal.decreases-Value::clone
decreases-Value::clone l = data_size (view l.self.now)

abbrev pub decreases-clone_elements : goal.decreases-clone_elements
decreases-clone_elements l = items_size (items_view l.values.now)

abbrev pub decreases-clone_entries : goal.decreases-clone_entries
decreases-clone_entries l = members_size (entries (seen l.pairs.now))

abbrev pub decreases-Table::clone : goal.decreases-Table::clone
decreases-Table::clone l = suc (members_size (entries l.self.now))

-- the values passed are copied, in order
abbrev pub invariant-clone_elements-loop-value : goal.invariant-clone_elements-loop-value
invariant-clone_elements-loop-value l = map view l.copies.items ≡ map view (take l.value-index l.values)

-- the pairs passed are copied, in order
abbrev pub invariant-clone_entries-loop-pair : goal.invariant-clone_entries-loop-pair
invariant-clone_entries-loop-pair l = record {
  same : entries (seen l.copies.items) ≡ entries (seen (take l.pair-index l.pairs));
  texts : texts_of l.copies.items ≡ texts_of (take l.pair-index l.pairs);
}
