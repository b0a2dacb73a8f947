use Rattle.std.proofs.Common.{◌≤◌, take}
use Rattle.basic_toml_open_keys.specs.Keys.{with_keys, key_before, IsGreatest}
use Rattle.basic_toml_open_keys.specs.Kept.{kept_of}
use Rattle.basic_toml_open_keys.proofs.keys.greatest_of.Given as goal

abbrev pub invariant-loop-position : goal.invariant-loop-position
invariant-loop-position l = (l.greatest ≤ l.position)
    × IsGreatest (key_before l.greatest (kept_of l.names)) (with_keys (take l.position (kept_of l.names)))
