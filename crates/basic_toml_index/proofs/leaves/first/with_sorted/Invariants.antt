-- The run is of the first texts.
use Rattle.std.proofs.Common.{◌<◌, ◌-◌, length}
use Rattle.basic_toml_index.specs.SlotOrder.{IsRunOfFirst}
use Rattle.basic_toml_index.proofs.leaves.first.with_sorted.Given as goal

abbrev pub invariant-loop-run : goal.invariant-loop-run
invariant-loop-run g l = record {
  some : 0 < l.run.count;
  first : IsRunOfFirst (g.T.Texts.texts l.texts) l.run.count l.run.slots.items;
}

abbrev pub decreases-loop-run : goal.decreases-loop-run
decreases-loop-run g l = length (g.T.Texts.texts l.texts) - l.run.count
