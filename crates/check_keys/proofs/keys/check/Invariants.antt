use Rattle.std.proofs.Common.{◌≡◌, ◌-◌, List, length}
use Rattle.check_keys.specs.Rows.{stand_of}
use Rattle.check_keys.specs.Findings.{Parts, Remembers}
use Rattle.check_keys.proofs.FindingsSoFar.{SoFar}
use Rattle.check_keys.proofs.keys.check.Given as goal

abbrev pub invariant-loop-findings : goal.invariant-loop-findings
invariant-loop-findings l = (seen : List Parts) × Remembers l.seen seen
    × SoFar l.text (stand_of l.place) seen l.findings.items l.tokens.offset × (l.tokens.text ≡ l.text)

abbrev pub decreases-loop-findings : goal.decreases-loop-findings
decreases-loop-findings l = length l.text - l.tokens.offset
