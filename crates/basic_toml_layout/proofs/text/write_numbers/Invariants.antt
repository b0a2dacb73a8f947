use Rattle.std.proofs.Common.{◌≡◌, ◌++◌, string_bytes, take}
use Rattle.basic_toml_layout.specs.Texts.{written_numbers}
use Rattle.basic_toml_layout.proofs.text.write_numbers.Given as goal

abbrev pub invariant-loop-i : goal.invariant-loop-i
invariant-loop-i l = string_bytes l.text ≡ string_bytes l.initial.text ++ written_numbers (take l.i l.numbers)
