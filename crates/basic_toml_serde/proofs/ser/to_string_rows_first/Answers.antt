use Rattle.basic_toml_value.specs.View.{entries}
use Rattle.basic_toml_serde.proofs.RefusalsHaveKeys.{rows_first_written}
use Rattle.basic_toml_serde.proofs.ser.to_string_rows_first.Goals as goal

pub returns-clause-written : goal.returns-clause-written
returns-clause-written g c =
    rows_first_written (g.T.Described.writes c.args.value.now) (entries c.in_ok-table.table) c.text_rows_first.result
    c.in_ok-table.ensures.sent c.text_rows_first.ensures.written
