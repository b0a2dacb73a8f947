use Rattle.basic_toml_write.proofs.PartsMayGiveUp.{next_call, call_failed, next_part, part_failed}
use Rattle.toml_vectors.proofs.writing.TwiceSerialize.serialize.Goals as goal

pub returns-in_err-serialize_map-clause-sends : goal.returns-in_err-serialize_map-clause-sends
returns-in_err-serialize_map-clause-sends g c =
    call_failed _ _ _ _ _ _ _ c.in_err-serialize_map.ensures.takes c.from_residual.ensures.1

pub returns-in_err-serialize_field-clause-sends : goal.returns-in_err-serialize_field-clause-sends
returns-in_err-serialize_field-clause-sends g c =
    next_call _ _ _ _ _ _ _ c.in_ok-serialize_map.ensures.takes
    (part_failed _ _ _ _ _ _ _ _ _ c.in_err-serialize_field.ensures.passes
    c.from_residual-in_err-serialize_field.ensures.1)

pub returns-in_err-serialize_field-2-clause-sends : goal.returns-in_err-serialize_field-2-clause-sends
returns-in_err-serialize_field-2-clause-sends g c =
    next_call _ _ _ _ _ _ _ c.in_ok-serialize_map.ensures.takes
    (next_part _ _ _ _ _ _ _ _ _ c.in_ok-serialize_field.ensures.passes
    (part_failed _ _ _ _ _ _ _ _ _ c.in_err-serialize_field-2.ensures.passes
    c.from_residual-in_err-serialize_field-2.ensures.1))

pub returns-clause-sends : goal.returns-clause-sends
returns-clause-sends g c =
    next_call _ _ _ _ _ _ _ c.in_ok-serialize_map.ensures.takes
    (next_part _ _ _ _ _ _ _ _ _ c.in_ok-serialize_field.ensures.passes
    (next_part _ _ _ _ _ _ _ _ _ c.in_ok-serialize_field-2.ensures.passes c.end.ensures.closes))
