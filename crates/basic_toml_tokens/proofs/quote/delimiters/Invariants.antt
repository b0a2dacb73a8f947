use Rattle.std.proofs.Common.{◌-◌, ◌≤◌}
use Rattle.basic_toml_tokens.proofs.DelimitersAreCounted.{Taken}
use Rattle.basic_toml_tokens.proofs.quote.delimiters.Given as goal

abbrev pub invariant-loop-n : goal.invariant-loop-n
invariant-loop-n l = (l.n ≤ 5) × Taken l.delimiter l.text l.at l.n

abbrev pub decreases-loop-n : goal.decreases-loop-n
decreases-loop-n l = 5 - l.n
