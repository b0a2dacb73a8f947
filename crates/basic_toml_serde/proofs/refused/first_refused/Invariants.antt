use Rattle.std.proofs.Common.{◌≡◌, [], take, fold}
use Rattle.basic_toml_write.specs.Serializer.{HasRecorded}
use Rattle.basic_toml_serde.specs.KeysTo.{stages_after}
use Rattle.basic_toml_serde.specs.Listed.{listed}
use Rattle.basic_toml_serde.proofs.refused.first_refused.Given as goal

-- the items so far are taken, and the trail stands behind them
abbrev pub invariant-loop-item : goal.invariant-loop-item
invariant-loop-item l = record {
  taken : HasRecorded l.ser (listed (take l.item-index l.items));
  behind : l.trail ≡ fold stages_after [] (listed (take l.item-index l.items));
}
