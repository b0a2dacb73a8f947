-- The text of an error of the writer. (own)
use Rattle.std.specs.Prelude.{ℕ, List, ◌++◌, codes, string_bytes}
use Rattle.basic_toml_write.specs.declared.error.WriteError.{WriteError}
use Rattle.basic_toml_write.specs.declared.error.WriteError.TheVariants as write

abbrev pub repeated_text : List ℕ → List ℕ
repeated_text key = codes "duplicate key: `" ++ (key ++ codes "`")

abbrev pub error_text : WriteError → List ℕ
error_text write.UnsupportedType = codes "unsupported Rust type"
error_text write.KeyNotString = codes "map key was not a string"
error_text write.ValueAfterTable = codes "values must be emitted before tables"
error_text write.UnsupportedNone = codes "unsupported None value"
error_text (write.Custom message) = string_bytes message
error_text (write.DuplicateKey key) = repeated_text (string_bytes key)
error_text write.CallOrder = codes "serializer calls out of order"
error_text write.NestedTooDeeply = codes "nested too deeply"
error_text write.OutOfMemory = codes "out of memory"
