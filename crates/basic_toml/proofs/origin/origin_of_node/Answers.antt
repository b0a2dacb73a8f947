use Rattle.std.proofs.Common.{map, option_map, ap, sym, ◌∙◌, Vec, Global}
use Rattle.basic_toml_read.specs.SectionView.{section_of}
use Rattle.basic_toml_origin.specs.Anchor.{path_of_anchor}
use Rattle.basic_toml_origin.specs.Origin.{origin_at}
use Rattle.basic_toml_origin.specs.Path.{path_of}
use Rattle.basic_toml_origin.specs.declared.step.Step.{Step}
use Rattle.basic_toml.proofs.NodesOrigins.{origin_found, always_found}
use Rattle.basic_toml.proofs.origin.origin_of_node.Goals as goal

pub returns-in-Some : goal.returns-in-Some
returns-in-Some c = λ sections p there is.
    let list = map section_of c.in-Ok.sections.items in
    origin_found c.args.text.now list sections p c.anchor.result c.in-Ok.ensures.0 there
    (c.anchor.ensures.leads sections p is) (path_of c.in-Some.path.items) c.in_ok-origin_at-in-Some.field-0
    (sym (ap (option_map (λ (path : Vec Step Global). path_of path.items)) c.in-Some.is)
    ∙ c.in_ok-path-in-Ok.ensures
    ∙ ap (λ ss. path_of_anchor (map section_of ss) c.anchor.result) c.as_slice.ensures.value)
    (c.in_ok-origin_at-in-Some.ensures
    ∙ ap (λ ss. origin_at (map section_of ss) (path_of c.as_slice-in-Some-2.result.now)) c.as_slice-in-Some.ensures.value
    ∙ ap (λ steps. origin_at list (path_of steps)) c.as_slice-in-Some-2.ensures.value)

pub returns-in-Ok : goal.returns-in-Ok
returns-in-Ok c = λ sections p there is.
    absurd (always_found c.args.text.now (map section_of c.in-Ok.sections.items) sections p c.anchor.result
    c.in-Ok.ensures.0 there (c.anchor.ensures.leads sections p is)
    (sym (ap (option_map (λ (path : Vec Step Global). path_of path.items)) c.in-None.is)
    ∙ c.in_ok-path-in-Ok.ensures
    ∙ ap (λ ss. path_of_anchor (map section_of ss) c.anchor.result) c.as_slice.ensures.value))
