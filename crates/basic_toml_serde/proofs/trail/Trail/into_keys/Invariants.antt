use Rattle.std.proofs.Common.{◌≡◌, ◌++◌, map, string_bytes}
use Rattle.std.specs.List.{flat_map}
use Rattle.basic_toml_serde.proofs.TrailsLead.{set_key_of}
use Rattle.basic_toml_serde.proofs.trail.Trail.into_keys.Given as goal

-- the keys so far, and those of the stages that are left
abbrev pub invariant-loop-stage : goal.invariant-loop-stage
invariant-loop-stage l =
    map string_bytes l.keys.items ++ flat_map set_key_of l.stage-iterator.rest.items
    ≡ flat_map set_key_of l.initial.stage-iterator.rest.items
