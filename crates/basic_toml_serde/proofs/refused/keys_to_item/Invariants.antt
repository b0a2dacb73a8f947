use Rattle.std.proofs.Common.{◌≡◌, [], take, fold}
use Rattle.basic_toml_serde.specs.KeysTo.{stages_after}
use Rattle.basic_toml_serde.specs.Listed.{listed}
use Rattle.basic_toml_serde.proofs.refused.keys_to_item.Given as goal

-- the trail stands behind the items so far
abbrev pub invariant-loop-item : goal.invariant-loop-item
invariant-loop-item l = l.trail ≡ fold stages_after [] (listed (take l.item-index l.before))
