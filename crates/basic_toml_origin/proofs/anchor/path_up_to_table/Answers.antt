use Rattle.std.proofs.Common.{Some, List, ap, sym, take, ◌∙◌}
use Rattle.std.specs.Prelude.{map, option_map, slice_get}
use Rattle.std.proofs.lemmas.List.{take-map}
use Rattle.basic_toml_grammar.specs.IndexedPath.{located}
use Rattle.basic_toml_read.specs.SectionView.{section_of}
use Rattle.basic_toml_origin.specs.declared.step.Step.{Step}
use Rattle.basic_toml_origin.specs.Anchor.{up_to_table}
use Rattle.basic_toml_origin.specs.Path.{path_of, step_of}
use Rattle.basic_toml_origin.proofs.SectionsSearched.{of_path}
use Rattle.basic_toml_origin.proofs.anchor.path_up_to_table.Goals as goal

pub returns : goal.returns
returns c =
    let path = c.in-Some.path.items in
    let len = c.len_up_to_table-len.result in
    ap (λ (ss : List Step). Some (path_of ss)) c.truncate.ensures.items
    ∙ ap (λ p. Some p) (sym (take-map step_of len path)
    ∙ ap (λ (ss : List Step). take len (path_of ss)) (sym c.as_slice.ensures.value)
    ∙ c.len_up_to_table-len.ensures
    ∙ ap (λ (ss : List Step). up_to_table c.args.keys (path_of ss)) c.as_slice.ensures.value)
    ∙ of_path (up_to_table c.args.keys) (Some (path_of path))
    (slice_get (located (map section_of c.args.sections.now)) c.args.section)
    (ap (option_map (λ v. path_of v.items)) (sym c.in-Some.is) ∙ c.in_ok-path.ensures)
