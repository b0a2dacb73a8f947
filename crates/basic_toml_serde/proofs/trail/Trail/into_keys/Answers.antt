use Rattle.std.proofs.Common.{map, string_bytes, arith, ap, ◌∙◌}
use Rattle.std.specs.List.{flat_map}
use Rattle.basic_toml_serde.specs.KeysTo.{set_keys}
use Rattle.basic_toml_serde.proofs.TrailsLead.{set_key_of, one_taken, all_taken}
use Rattle.basic_toml_serde.proofs.trail.Trail.into_keys.Goals as goal

pub loop-stage-preserved : goal.loop-stage-preserved
loop-stage-preserved c =
    one_taken (map string_bytes c.loop-stage.keys.items) (map string_bytes c.add_key.new.keys.items) _
    c.loop-stage.stage-iterator.rest.items c.next.new.self.rest.items c.in-Some.stage c.in-Some.ensures.steps.0
    c.in_ok-add_key.ensures c.loop-stage.invariant

pub returns : goal.returns
returns c =
    let start = ap (flat_map set_key_of) c.into_iter-stage-iterator.ensures.into_iter_gives.0 in
    all_taken (map string_bytes c.loop-stage.keys.items) c.loop-stage.stage-iterator.rest.items
    c.self.inside.stages.items
    (omega (arith, c.in-None.ensures.steps.0, c.loop-stage.stage-iterator.rest.ok.0))
    (c.loop-stage.invariant ∙ start)
    ∙ ap set_keys c.self.view_is
