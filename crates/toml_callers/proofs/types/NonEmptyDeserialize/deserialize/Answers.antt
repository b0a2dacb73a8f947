use Rattle.std.proofs.Common.{◌≡◌, ◌⊎◌, inr, [], codes, refl, ap, ◌∙◌, arith, string_bytes}
use Rattle.std.proofs.lemmas.List.{nil_from_length}
use Rattle.basic_toml.specs.Data.{string}
use Rattle.basic_toml.specs.Fault.{custom}
use Rattle.basic_toml.specs.NodeFaults.{fault_at, length_message}
use Rattle.basic_toml.specs.Nodes.{node_data}
use Rattle.basic_toml.specs.TypeFaults.{string_faults}
use Rattle.basic_toml_typed.proofs.FieldsFail.{made_so}
use Rattle.toml_callers.proofs.types.NonEmptyDeserialize.deserialize.Goals as goal

pub returns-then-is_empty-clause-named : goal.returns-then-is_empty-clause-named
returns-then-is_empty-clause-named c =
    let none : string_bytes c.in_ok-text.text ≡ [] = grind (arith, nil_from_length) in
    let refusal = fault_at c.args.node (custom (length_message 0 (codes "a non-empty string"))) in
    made_so (λ fault. string_faults c.args.node fault ⊎ ((node_data c.args.node ≡ string []) × (fault ≡ refusal)))
    c.invalid_length.result refusal c.invalid_length.ensures (inr (c.in_ok-text.ensures.ok ∙ ap string none, refl))
