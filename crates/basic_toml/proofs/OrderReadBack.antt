-- A table with its rows first is written, and read back as itself.
use Rattle.std.proofs.Common.{◌∙◌}
use Rattle.basic_toml_value.specs.Data.{table}
use Rattle.basic_toml_order.specs.RowsFirst.{rows_first}
use Rattle.basic_toml_order.proofs.LawsHold.{stays_recordable, only_unwritable_is_refused}
use Rattle.basic_toml_round_trip.proofs.LawsHold.{tree_read_back}
use Rattle.basic_toml.specs.OrderReadBack.{RowsFirstIsReadBack}

pub rows_first_read_back : RowsFirstIsReadBack
rows_first_read_back ms can sound writable =
    tree_read_back (rows_first (table ms)) (stays_recordable (table ms) can)
    (only_unwritable_is_refused ms sound ∙ writable)
