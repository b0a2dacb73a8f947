use Rattle.std.proofs.Common.{Some, List, ap, sym, take, ◌∙◌}
use Rattle.std.specs.Prelude.{option_map}
use Rattle.std.proofs.lemmas.List.{take-map}
use Rattle.basic_toml_places.specs.Places.{as_far_as}
use Rattle.basic_toml_origin.specs.declared.step.Step.{Step}
use Rattle.basic_toml_origin.specs.Path.{path_of, step_of}
use Rattle.basic_toml_origin.proofs.anchor.path_as_far_as.Goals as goal

pub returns : goal.returns
returns c =
    let path = c.in-Some.path.items in
    let len = c.len_as_far_as-len.result in
    ap (λ (ss : List Step). Some (path_of ss)) c.truncate.ensures.items
    ∙ ap (λ p. Some p) (sym (take-map step_of len path)
    ∙ ap (λ (ss : List Step). take len (path_of ss)) (sym c.as_slice.ensures.value)
    ∙ c.len_as_far_as-len.ensures
    ∙ ap (λ (ss : List Step). as_far_as c.args.keys (path_of ss)) c.as_slice.ensures.value)
    ∙ ap (option_map (as_far_as c.args.keys))
    (ap (option_map (λ v. path_of v.items)) (sym c.in-Some.is) ∙ c.in_ok-path.ensures)
