-- The first key of the leaf at `low` is not above the key, and that of the leaf at `high` is.
use Rattle.std.proofs.Common.{◌≡◌, ◌≤◌, ◌<◌, ◌-◌, length, true, false}
use Rattle.basic_toml_index.specs.Index.{is_below, first_key, leaves_of}
use Rattle.basic_toml_index.proofs.leaves.leaf_for.Given as goal

abbrev pub invariant-loop-high : goal.invariant-loop-high
invariant-loop-high g l = record {
  in_order : l.low < l.high;
  within : l.high ≤ length l.leaves;
  not_above : 0 < l.low → is_below l.key (first_key (g.T.Texts.texts l.texts) (leaves_of l.leaves) l.low) ≡ false;
  above : l.high < length l.leaves
      → is_below l.key (first_key (g.T.Texts.texts l.texts) (leaves_of l.leaves) l.high) ≡ true;
}

abbrev pub decreases-loop-high : goal.decreases-loop-high
decreases-loop-high g l = l.high - l.low
