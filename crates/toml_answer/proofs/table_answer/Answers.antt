use Rattle.std.proofs.Common.{IfOk, string_bytes, sym, subst}
use Rattle.basic_toml.specs.View.{entries}
use Rattle.toml_answer.specs.Due.{IsWritten}
use Rattle.toml_answer.proofs.table_answer.Goals as goal

pub returns-in-AsRead : goal.returns-in-AsRead
returns-in-AsRead c =
    subst (λ form. IfOk c.text_answer.result
    (λ a. IsWritten form (entries c.args.table.now) a.status (string_bytes a.text) a.line_col)) (sym c.in-AsRead.is)
    c.text_answer.ensures
