use Rattle.std.proofs.Common.{◌≡◌, ◌≤◌, ◌-◌, length}
use Rattle.basic_toml_tokens.specs.Class.{run_end}
use Rattle.basic_toml_tokens.proofs.class.end_by_bytes.Given as goal

-- all bytes so far are of the class
abbrev pub invariant-loop-end : goal.invariant-loop-end
invariant-loop-end l = (l.end ≤ length l.bytes) × (run_end l.class l.bytes l.end ≡ run_end l.class l.bytes l.at)

abbrev pub decreases-loop-end : goal.decreases-loop-end
decreases-loop-end l = length l.bytes - l.end
