use Rattle.std.proofs.Common.{◌≡◌, ◌-◌, length, map}
use Rattle.toml_path.specs.Path.{step_of}
use Rattle.toml_path.proofs.StepsAreFound.{SoFar}
use Rattle.toml_path.proofs.path.steps_of.Given as goal

abbrev pub invariant-loop-tokens : goal.invariant-loop-tokens
invariant-loop-tokens l =
    SoFar l.path (map step_of l.steps.items) l.tokens.offset × (l.tokens.text ≡ l.path)

abbrev pub decreases-loop-tokens : goal.decreases-loop-tokens
decreases-loop-tokens l = length l.path - l.tokens.offset
