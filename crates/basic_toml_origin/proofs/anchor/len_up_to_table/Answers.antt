use Rattle.std.proofs.Common.{true, false, add-one, ap, take, ◌∙◌}
use Rattle.basic_toml_origin.specs.Path.{path_of}
use Rattle.basic_toml_origin.proofs.StepsKept.{table_kept}
use Rattle.basic_toml_origin.proofs.anchor.len_up_to_table.Goals as goal

pub returns-then-is_number : goal.returns-then-is_number
returns-then-is_number c =
    ap (λ n. take n (path_of c.args.path.now)) (add-one c.len_up_to_key-len.result)
    ∙ table_kept c.args.path.now c.args.keys c.len_up_to_key-len.result true c.len_up_to_key-len.ensures.steps
    c.len_up_to_key-len.ensures.within c.if-is_number.ensures

pub returns-else-is_number : goal.returns-else-is_number
returns-else-is_number c =
    table_kept c.args.path.now c.args.keys c.len_up_to_key-len.result false c.len_up_to_key-len.ensures.steps
    c.len_up_to_key-len.ensures.within c.if-is_number.ensures
