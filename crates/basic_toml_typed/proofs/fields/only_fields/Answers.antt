use Rattle.std.proofs.Common.{sym, ap, ◌∙◌}
use Rattle.basic_toml_typed.specs.FieldFaults.{first_other}
use Rattle.basic_toml_typed.proofs.NamesListed.{texts_of}
use Rattle.basic_toml_typed.proofs.VariantsNamed.{only_unknown}
use Rattle.basic_toml_typed.proofs.fields.only_fields.Goals as goal

pub returns-in-Some-other_key-clause-named : goal.returns-in-Some-other_key-clause-named
returns-in-Some-other_key-clause-named c =
    only_unknown c.args.fields.now c.args.node c.unknown_field.result c.in-Some-other_key.key.now
    (sym (c.in-Some-other_key.ensures ∙ ap (first_other (texts_of c.args.fields.now)) c.in-Some.ensures.entries.1))
    c.unknown_field.ensures
