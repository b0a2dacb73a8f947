use Rattle.std.proofs.Common.{◌==◌, ap, not, sym, ◌∙◌}
use Rattle.basic_toml_layout.proofs.DataIsLaidOut.{array_row}
use Rattle.basic_toml_layout.proofs.data.sections.is_row.Goals as goal

pub returns-else-is_empty : goal.returns-else-is_empty
returns-else-is_empty c =
    ap not c.are_tables.ensures
    ∙ array_row c.args.value.now c.in-Array.values c.as_slice.result.now c.in-Array.is c.as_slice.ensures.value
    (ap (λ n. n == 0) c.as_slice.ensures.len ∙ (sym c.is_empty.ensures ∙ c.if-is_empty.false))
