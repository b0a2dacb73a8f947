use Rattle.std.proofs.Common.{List, ap, map, sym, take, ◌∙◌}
use Rattle.basic_toml_read.specs.declared.section.Row.{Row}
use Rattle.basic_toml_read.specs.declared.section.Rows.{out-Rows}
use Rattle.basic_toml_read.specs.SectionView.{key_of, rows_seen, rows_view}
use Rattle.basic_toml_origin.specs.Before.{rows_before, rows_up_to}
use Rattle.basic_toml_origin.proofs.StandsBefore.{rows_taken}
use Rattle.basic_toml_origin.proofs.before.rows_up_to.Goals as goal

pub returns-in-Some : goal.returns-in-Some
returns-in-Some c =
    let parents = (out-Rows c.args.rows.now).parents.items in
    let rows = c.as_slice-rows.result.now in
    ap (λ n. rows_seen parents (take n rows)) c.count_before.ensures
    ∙ rows_taken c.in-Some.offset (map key_of parents) rows
    ∙ ap (λ (rs : List Row). rows_before c.in-Some.offset (rows_seen parents rs)) c.as_slice-rows.ensures.value
    ∙ ap (λ end. rows_up_to end (rows_view c.args.rows.now)) (sym c.in-Some.is)
