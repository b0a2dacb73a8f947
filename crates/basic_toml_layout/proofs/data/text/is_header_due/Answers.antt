use Rattle.std.proofs.Common.{sym, ◌∙◌}
use Rattle.basic_toml_layout.proofs.DataIsLaidOut.{some_due}
use Rattle.basic_toml_layout.proofs.data.text.is_header_due.Goals as goal

pub returns-else-is_empty : goal.returns-else-is_empty
returns-else-is_empty c = c.has_row.ensures ∙ some_due c.args.pairs.now (sym c.is_empty.ensures ∙ c.if-is_empty.false)
