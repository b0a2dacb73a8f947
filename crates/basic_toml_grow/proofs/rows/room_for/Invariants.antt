use Rattle.std.proofs.Common.{◌≤◌}
use Rattle.basic_toml_grow.proofs.rows.room_for.Given as goal

abbrev pub invariant-loop-row : goal.invariant-loop-row
invariant-loop-row l = l.room ≤ l.row-index
