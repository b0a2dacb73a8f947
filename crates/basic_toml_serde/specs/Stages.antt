-- The stages that a trail keeps, the innermost first. (own)
use Rattle.std.specs.Prelude.{List, map, reverse, string_bytes}
use Rattle.basic_toml_emit.specs.Open as o
use Rattle.basic_toml_serde.specs.declared.trail.Stage.{Stage}
use Rattle.basic_toml_serde.specs.declared.trail.Stage.TheVariants.{NoKey, KeyPlace, KeySet}

abbrev pub stage_of : Stage → o.Stage
stage_of NoKey = o.no_key
stage_of KeyPlace = o.key_place
stage_of (KeySet key) = o.key_set (string_bytes key)

abbrev pub stages_of : List Stage → List o.Stage
stages_of stages = reverse (map stage_of stages)
