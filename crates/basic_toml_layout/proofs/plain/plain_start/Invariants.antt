use Rattle.std.proofs.Common.{◌≡◌, ℕ, ◌-◌, ◌<◌, ◌≤◌, false, length, slice_index}
use Rattle.basic_toml_layout.specs.Texts.{needs_escape}
use Rattle.basic_toml_layout.proofs.plain.plain_start.Given as goal

abbrev pub invariant-loop-start : goal.invariant-loop-start
invariant-loop-start l = record {
  within : l.start ≤ length l.bytes;
  plain : (k : ℕ) → k < l.start → needs_escape (slice_index l.bytes k) ≡ false;
}

abbrev pub decreases-loop-start : goal.decreases-loop-start
decreases-loop-start l = length l.bytes - l.start
