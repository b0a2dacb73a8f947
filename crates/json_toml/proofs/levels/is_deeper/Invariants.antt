use Rattle.std.proofs.Common.{◌≡◌, ◌≤◌, length}
use Rattle.json.specs.Json.{max_depth}
use Rattle.json_toml.specs.Levels.{exceed, nests_deeper}
use Rattle.json_toml.proofs.levels.is_deeper.Given as goal

-- what is left of the tokens decides
abbrev pub invariant-loop-token : goal.invariant-loop-token
invariant-loop-token l =
    record {
      bounded : l.left ≤ max_depth;
      same : exceed l.reader l.left ≡ nests_deeper l.fn.text;
    }

abbrev pub decreases-loop-token : goal.decreases-loop-token
decreases-loop-token l = length l.reader
