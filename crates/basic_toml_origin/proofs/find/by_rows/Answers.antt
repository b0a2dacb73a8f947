use Rattle.std.proofs.Common.{◌-◌, List, ap, drop, length, sym, take, ◌∙◌}
use Rattle.std.proofs.lemmas.List.{take_rest}
use Rattle.std.specs.Option.{option_and_then}
use Rattle.basic_toml_read.specs.declared.section.Key.{Key}
use Rattle.basic_toml_read.specs.SectionView.{rows_seen, rows_view}
use Rattle.basic_toml_origin.specs.Before.{rows_up_to}
use Rattle.basic_toml_origin.specs.Origin.{in_rows}
use Rattle.basic_toml_origin.specs.Path.{path_of}
use Rattle.basic_toml_origin.specs.Ways.{left_in}
use Rattle.basic_toml_origin.proofs.StepsLeft.{steps_left}
use Rattle.basic_toml_origin.proofs.find.by_rows.Goals as goal

pub returns : goal.returns
returns c =
    let steps = c.args.path.now in
    let first = length steps - c.in-Reaches.left in
    let rows = rows_up_to c.args.end (rows_view c.args.section.now.rows) in
    let left = path_of (take (length steps - first) (drop first steps)) in
    c.in_rows.ensures
    ∙ ap (λ (ks : List Key). in_rows (rows_seen ks c.rows_up_to.result.now) left) c.as_slice.ensures.value
    ∙ ap (λ rs. in_rows rs left) c.rows_up_to.ensures
    ∙ ap (λ q. in_rows rows (path_of q)) (take_rest steps first)
    ∙ ap (in_rows rows) (sym (steps_left steps c.in-Reaches.left))
    ∙ ap (λ m. option_and_then (in_rows rows) (left_in (path_of steps) m)) (sym c.in-Reaches.is)
