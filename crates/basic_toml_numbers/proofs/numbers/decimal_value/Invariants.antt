-- All bytes so far are digits, whose number is small.
use Rattle.std.proofs.Common.{◌≡◌, ◌<◌, ◌^◌, ◌==◌, true, drop}
use Rattle.basic_toml_numbers.proofs.Digits.{read_from}
use Rattle.basic_toml_numbers.proofs.numbers.decimal_value.Given as goal

abbrev pub invariant-loop-byte : goal.invariant-loop-byte
invariant-loop-byte l = (read_from 10 (l.byte-index == 0) l.value (drop l.byte-index l.digits)
    ≡ read_from 10 true 0 l.digits) × (l.value < 10 ^ l.byte-index)
