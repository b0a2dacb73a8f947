-- The text of a table with its rows first is read back as that table.
use Rattle.std.specs.Prelude.{◌≡◌, false, IsTrue}
use Rattle.basic_toml_tokens.specs.Text.{folded}
use Rattle.basic_toml_value.specs.Data.{Members, table}
use Rattle.basic_toml_grammar.specs.Document.{IsDocument}
use Rattle.basic_toml_layout.specs.Layout.{layout}
use Rattle.basic_toml_layout.specs.Trees.{written_of}
use Rattle.basic_toml_order.specs.RowsFirst.{rows_first}
use Rattle.basic_toml_order.specs.Sound.{is_sound}
use Rattle.basic_toml_order.specs.Writable.{is_unwritable}
use Rattle.basic_toml_write.specs.Impls.{data_calls}
use Rattle.basic_toml_write.specs.Recordable.{AreRecordable}

-- where the calls of the table can be recorded, and some order of its entries can be written
abbrev pub RowsFirstIsReadBack : Type 0
RowsFirstIsReadBack = (ms : Members) → AreRecordable (data_calls (table ms)) → IsTrue (is_sound (table ms))
    → is_unwritable (table ms) ≡ false
    → IsDocument (folded (layout (written_of (rows_first (table ms))))) (rows_first (table ms))
