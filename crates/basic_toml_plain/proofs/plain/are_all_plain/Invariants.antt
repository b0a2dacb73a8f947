-- The rows passed are plain.
use Rattle.std.proofs.Common.{◌≡◌, true, take}
use Rattle.basic_toml_plain.specs.Plain.{are_all_plain}
use Rattle.basic_toml_plain.proofs.plain.are_all_plain.Given as goal

abbrev pub invariant-loop-row : goal.invariant-loop-row
invariant-loop-row l = are_all_plain l.level (take l.row-index l.rows) ≡ true
