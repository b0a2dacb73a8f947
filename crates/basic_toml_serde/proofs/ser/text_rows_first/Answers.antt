use Rattle.std.proofs.Common.{string_bytes}
use Rattle.basic_toml_value.specs.View.{entries}
use Rattle.basic_toml_serde.proofs.TextRowsFirst.{rows_first_laid_out}
use Rattle.basic_toml_serde.proofs.ser.text_rows_first.Goals as goal

pub returns-in-Ok-clause-written : goal.returns-in-Ok-clause-written
returns-in-Ok-clause-written c =
    rows_first_laid_out (entries c.args.table) c.in_ok-table.table (string_bytes c.in-Ok.text)
    c.in_ok-table.ensures.order c.in-Ok.ensures.of_data c.in-Ok.ensures.means
