-- What is kept so far, and the canonical form of what is left; no more is kept than was looked at.
use Rattle.std.proofs.Common.{◌≡◌, ◌≤◌, ◌++◌, length, drop, take}
use Rattle.basic_toml_numbers.specs.Numbers.{canonical}
use Rattle.basic_toml_numbers.proofs.float.text.Short.canonical.Given as goal

abbrev pub invariant-loop-byte : goal.invariant-loop-byte
invariant-loop-byte l = record {
  room : length l.bytes ≡ 22;
  fits : l.len ≤ l.byte-index;
  same : canonical l.text ≡ take l.len l.bytes ++ canonical (drop l.byte-index l.byte-items);
}
