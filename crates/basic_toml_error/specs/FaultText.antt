-- The text of a fault: its message; then its key path, where it has one, with periods between the keys; then its line
-- and column, counted from 1, where it has an offset. The message of an error of reading and that of an error of the
-- writer are the texts of those errors. (own)
use Rattle.std.specs.Prelude.{ℕ, ◌+◌, List, [], ◌++◌, codes, decimal, Option, Some, None}
use Rattle.basic_toml_explain.specs.ReadErrorText as read
use Rattle.basic_toml_explain.specs.ReadErrorText.{key_text}
use Rattle.basic_toml_write.specs.declared.error.WriteError.TheVariants as write
use Rattle.basic_toml_write.specs.ErrorText.{error_text}
use Rattle.basic_toml_error.specs.Fault as fault

abbrev pub message : fault.FaultKind → List ℕ
message (fault.reading kind) = read.message kind
message fault.not_utf8 = codes "input is not valid UTF-8"
message (fault.unknown_field key text) = text
message fault.unsupported_type = error_text write.UnsupportedType
message fault.key_not_string = error_text write.KeyNotString
message fault.value_after_table = error_text write.ValueAfterTable
message fault.unsupported_none = error_text write.UnsupportedNone
message fault.call_order = error_text write.CallOrder

abbrev pub offset_text : Option (ℕ × ℕ) → List ℕ
offset_text None = []
offset_text (Some p) = codes " at line " ++ (decimal (p.0 + 1) ++ (codes " column " ++ decimal (p.1 + 1)))

abbrev pub fault_text : fault.Fault → List ℕ
fault_text f = message f.kind ++ (key_text f.key_path ++ offset_text f.line_column)
