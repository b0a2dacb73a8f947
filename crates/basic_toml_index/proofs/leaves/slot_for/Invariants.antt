-- What is before `low` is below the key, and what is at `high` is not.
use Rattle.std.proofs.Common.{◌≡◌, ◌≤◌, ◌<◌, ◌-◌, length, true, false}
use Rattle.basic_toml_index.specs.Index.{is_below, key_of, slot_at}
use Rattle.basic_toml_index.proofs.leaves.slot_for.Given as goal

abbrev pub invariant-loop-low : goal.invariant-loop-low
invariant-loop-low g l = record {
  in_order : l.low ≤ l.high;
  within : l.high ≤ length l.leaf;
  before : 0 < l.low → is_below (key_of (g.T.Texts.texts l.texts) (slot_at l.leaf (l.low - 1))) l.key ≡ true;
  after : l.high < length l.leaf → is_below (key_of (g.T.Texts.texts l.texts) (slot_at l.leaf l.high)) l.key ≡ false;
}

abbrev pub decreases-loop-low : goal.decreases-loop-low
decreases-loop-low g l = l.high - l.low
