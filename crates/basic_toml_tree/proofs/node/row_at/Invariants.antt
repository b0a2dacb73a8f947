use Rattle.std.proofs.Common.{◌≡◌, false, map, take}
use Rattle.basic_toml_index.specs.Keys.{is_among}
use Rattle.basic_toml_plain.specs.Plain.{key_of}
use Rattle.basic_toml_tree.proofs.node.row_at.Given as goal

-- no row passed has the key
abbrev pub invariant-loop-row : goal.invariant-loop-row
invariant-loop-row l = is_among (map key_of (take l.row-index l.rows)) l.key ≡ false
