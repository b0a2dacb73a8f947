-- Laws about data with its rows first. Each is proved as the contract of a function in `laws`.
use Rattle.std.specs.Prelude.{◌≡◌, false, IsTrue}
use Rattle.basic_toml_value.specs.Data.{Data, Members, table}
use Rattle.basic_toml_value.specs.Nesting.{nesting_limit}
use Rattle.basic_toml_value.specs.SameMaps.{SameMaps}
use Rattle.basic_toml_layout.specs.Document.{plain, document_text}
use Rattle.basic_toml_layout.specs.Layout.{layout}
use Rattle.basic_toml_layout.specs.Trees.{written_of}
use Rattle.basic_toml_write.specs.Impls.{data_calls}
use Rattle.basic_toml_write.specs.Recordable.{AreRecordable}
use Rattle.basic_toml_write.specs.Shapes.{is_unsupported}
use Rattle.basic_toml_order.specs.RowsFirst.{rows_first, is_in_order}
use Rattle.basic_toml_order.specs.Sound.{is_sound}
use Rattle.basic_toml_order.specs.Writable.{has_bad_array, is_unwritable}

-- no row stands after a section, at any depth
abbrev pub RowsComeFirst : Type 0
RowsComeFirst = (d : Data) → IsTrue (is_in_order (rows_first d))

-- the maps are the same as before
abbrev pub HasSameMaps : Type 0
HasSameMaps = (d : Data) → SameMaps d (rows_first d)

-- what is in that order already stays as it is
abbrev pub OrderedStays : Type 0
OrderedStays = (d : Data) → IsTrue (is_in_order d) → rows_first d ≡ d

-- so a second time changes nothing
abbrev pub OnceIsEnough : Type 0
OnceIsEnough = (d : Data) → rows_first (rows_first d) ≡ rows_first d

-- an unsupported shape occurs in it only where no order mends it: no value stands after a table
abbrev pub OnlyUnwritableIsRefused : Type 0
OnlyUnwritableIsRefused = (ms : Members) → IsTrue (is_sound (table ms))
    → is_unsupported nesting_limit (written_of (rows_first (table ms))) ≡ is_unwritable (table ms)

-- where the calls of the data can be recorded, so can those of the data with its rows first
abbrev pub StaysRecordable : Type 0
StaysRecordable = (d : Data) → AreRecordable (data_calls d) → AreRecordable (data_calls (rows_first d))

-- where each array in it can be written, its text is the layout of the data with its rows first
abbrev pub WritableHasTheLayout : Type 0
WritableHasTheLayout = (ms : Members) → has_bad_array (table ms) ≡ false
    → document_text plain ms ≡ layout (written_of (rows_first (table ms)))
