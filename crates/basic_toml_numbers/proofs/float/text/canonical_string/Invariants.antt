-- What is kept so far, and the canonical form of what is left.
use Rattle.std.proofs.Common.{◌≡◌, ◌++◌, drop, string_bytes}
use Rattle.basic_toml_numbers.specs.Numbers.{canonical}
use Rattle.basic_toml_numbers.proofs.float.text.canonical_string.Given as goal

abbrev pub invariant-loop-byte : goal.invariant-loop-byte
invariant-loop-byte l = canonical l.text ≡ string_bytes l.kept ++ canonical (drop l.byte-index l.byte-items)
