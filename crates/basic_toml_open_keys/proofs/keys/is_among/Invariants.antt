use Rattle.std.proofs.Common.{◌≡◌, false, take}
use Rattle.basic_toml_open_keys.specs.Keys.{with_keys}
use Rattle.basic_toml_open_keys.specs.Kept.{kept_of, pending_of}
use Rattle.basic_toml_open_keys.proofs.keys.is_among.Given as goal

abbrev pub invariant-loop-position : goal.invariant-loop-position
invariant-loop-position l = with_keys (take l.position (kept_of l.names)) (pending_of l.names) ≡ false
