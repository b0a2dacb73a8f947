use Rattle.std.proofs.Common.{◌≡◌, map}
use Rattle.basic_toml_tree.specs.Nodes.{entries_left}
use Rattle.basic_toml_typed.specs.FieldFaults.{first_other}
use Rattle.basic_toml_typed.proofs.fields.other_key.Given as goal

-- every key passed is among them
abbrev pub invariant-loop-key : goal.invariant-loop-key
invariant-loop-key l = first_other (map (λ field. field.now) l.fields) (entries_left l.key-iterator)
    ≡ first_other (map (λ field. field.now) l.fields) (entries_left l.fn.entries)
