-- What is left to read gives what the whole text does.
use Rattle.std.proofs.Common.{◌≡◌, true, drop}
use Rattle.basic_toml_numbers.proofs.Digits.{read_from}
use Rattle.basic_toml_numbers.proofs.numbers.value_of.Given as goal

abbrev pub invariant-loop-byte : goal.invariant-loop-byte
invariant-loop-byte l = read_from l.radix l.must_follow l.value (drop l.byte-index l.digits)
    ≡ read_from l.radix true 0 l.digits
