use Rattle.std.proofs.Common.{◌≡◌, pos, codes, refl, ap, ◌∙◌}
use Rattle.basic_toml.specs.Data.{integer}
use Rattle.basic_toml.specs.FieldFaults.{field_then, at_field}
use Rattle.basic_toml.specs.Nodes.{node_data}
use Rattle.basic_toml.specs.TypeFaults.{string_faults, unsigned_faults, wrong_value}
use Rattle.basic_toml.specs.TypeReads.{string_reads, unsigned_reads}
use Rattle.basic_toml_typed.proofs.FieldsFail.{made_so}
use Rattle.basic_toml_typed.proofs.RecordsFail.{behind_two, refused_again}
use Rattle.toml_callers.proofs.types.ListenerDeserialize.deserialize.Goals as goal

pub returns-then-port-eq0-clause-named : goal.returns-then-port-eq0-clause-named
returns-then-port-eq0-clause-named c =
    made_so (field_then string_faults string_reads (codes "host")
    (field_then (unsigned_faults 16 (codes "u16")) (unsigned_reads 16) (codes "port")
    (at_field (codes "port")
    (λ field fault. (node_data field ≡ integer (pos 0)) × (fault ≡ wrong_value (codes "a port above 0") field))))
    c.args.node)
    c.invalid_value.result (wrong_value (codes "a port above 0") c.unwrap_or-field.result) c.invalid_value.ensures
    (behind_two _ _ _ _ _ c.in_ok-host.ensures.taken c.in_ok-port.ensures.taken
    (refused_again (unsigned_reads 16) (codes "port")
    (λ field fault. (node_data field ≡ integer (pos 0)) × (fault ≡ wrong_value (codes "a port above 0") field))
    c.args.node c.unwrap_or-field.result _ c.get.result c.in_ok-port.port c.in_ok-port.ensures.ok c.get.ensures.data
    c.get.ensures.stands c.unwrap_or-field.ensures
    (λ read. (read.0 ∙ ap (λ n. integer (pos n)) c.if-port-eq0.true, refl))))
