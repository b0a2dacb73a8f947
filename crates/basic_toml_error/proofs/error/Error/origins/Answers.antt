use Rattle.std.proofs.Common.{map, ap, ◌∙◌}
use Rattle.basic_toml_read.specs.SectionView.{section_of}
use Rattle.basic_toml_error.specs.Origins.{origins_in}
use Rattle.basic_toml_error.proofs.OriginsFound.{found_in_list, found_without_list, only_memory}
use Rattle.basic_toml_error.proofs.error.Error.origins.Goals as goal

pub returns-in-Ok-clause-origins : goal.returns-in-Ok-clause-origins
returns-in-Ok-clause-origins c =
    found_in_list c.args.text.now c.args.self.now (map section_of c.in-Ok.sections.items)
    c.in_ok-origins_in-in-Ok.field-0 c.in-Ok.ensures
    (c.in_ok-origins_in-in-Ok.ensures
    ∙ ap (λ list. origins_in (map section_of list) c.args.self.now) c.as_slice.ensures.value)

pub returns-clause-origins : goal.returns-clause-origins
returns-clause-origins c =
    found_without_list c.args.text.now c.args.self.now c.in-Err.error c.own_place-in_default.result c.in-Err.ensures
    (λ memory. c.in_default.not-OutOfMemory (only_memory c.kind-in-Err.result.now (c.kind-in-Err.ensures ∙ memory)))
    c.own_place-in_default.ensures
