use Rattle.std.proofs.Common.{◌≡◌, Some}
use Rattle.basic_toml_value.specs.Data.{string_in}
use Rattle.basic_toml_tree.specs.Nodes.{node_data}
use Rattle.basic_toml_typed.proofs.NamesListed.{numbers_of}
use Rattle.basic_toml_typed.proofs.VariantsNamed.{variant_found, variant_unnamed, variant_is_had, variant_unknown}
use Rattle.basic_toml_typed.proofs.fields.variant.Goals as goal

pub returns-in-Some-position_of-clause-ok : goal.returns-in-Some-position_of-clause-ok
returns-in-Some-position_of-clause-ok c =
    let text : string_in (node_data c.args.node) ≡ Some c.in-Some.text.now =
    c.in-Some.ensures in
    variant_found c.args.variants.now (node_data c.args.node) c.in-Some.text.now c.in-Some-position_of.position
    text c.in-Some-position_of.ensures

pub returns-in-None-clause-refused : goal.returns-in-None-clause-refused
returns-in-None-clause-refused c =
    let text : string_in (node_data c.args.node) ≡ Some c.in-Some.text.now =
    c.in-Some.ensures in
    variant_unnamed c.args.variants.now (node_data c.args.node) c.in-Some.text.now text c.in-None.ensures

pub returns-in-None-clause-err : goal.returns-in-None-clause-err
returns-in-None-clause-err c = record {
  taken = λ has. absurd (returns-in-None-clause-refused c has);
  held = λ p is. absurd (returns-in-None-clause-refused c
      (variant_is_had (numbers_of c.args.variants.now) (node_data c.args.node) p is));
}

pub returns-in-None-clause-named : goal.returns-in-None-clause-named
returns-in-None-clause-named c =
    let text : string_in (node_data c.args.node) ≡ Some c.in-Some.text.now =
    c.in-Some.ensures in
    variant_unknown c.args.variants.now c.args.node c.unknown_variant.result c.in-Some.text.now text
    c.in-None.ensures c.unknown_variant.ensures
