-- All bytes so far are digits and underscores.
use Rattle.std.proofs.Common.{◌≡◌, ◌++◌, take, drop}
use Rattle.basic_toml_numbers.specs.Numbers.{part_of, after_part}
use Rattle.basic_toml_numbers.proofs.numbers.split_part.Given as goal

abbrev pub invariant-loop-end : goal.invariant-loop-end
invariant-loop-end l = (part_of l.text ≡ take l.end l.text ++ part_of (drop l.end l.text))
    × (after_part l.text ≡ after_part (drop l.end l.text))
