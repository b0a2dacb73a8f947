use Rattle.std.proofs.Common.{◌≡◌}
use Rattle.basic_toml_origin.specs.Path.{path_of}
use Rattle.basic_toml_origin.proofs.KeysFollow.{cut_at}
use Rattle.basic_toml_origin.proofs.indexed_path.section_path.Given as goal

-- the path is the cut at the keys passed
abbrev pub invariant-loop-key : goal.invariant-loop-key
invariant-loop-key l = path_of l.path.items ≡ cut_at l.upto l.key-items l.key-index
