use Rattle.std.proofs.Common.{◌≡◌, map, take, string_bytes}
use Rattle.basic_toml_error.proofs.key_path.copy_keys.Given as goal

-- the keys passed are copied, in order
abbrev pub invariant-loop-key : goal.invariant-loop-key
invariant-loop-key l = map string_bytes l.copy.items ≡ map string_bytes (take l.key-index l.keys)
