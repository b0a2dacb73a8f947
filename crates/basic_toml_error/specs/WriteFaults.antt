-- The fault that an error of the writer is, or a type's own fault.
use Rattle.std.specs.Prelude.{string_bytes}
use Rattle.basic_toml_error.specs.Fault as fault
use Rattle.basic_toml_write.specs.declared.error.WriteError.{WriteError}
use Rattle.basic_toml_write.specs.declared.error.WriteError.TheVariants as write

abbrev pub write_kind : WriteError → fault.FaultKind
write_kind write.UnsupportedType = fault.unsupported_type
write_kind write.KeyNotString = fault.key_not_string
write_kind write.ValueAfterTable = fault.value_after_table
write_kind write.UnsupportedNone = fault.unsupported_none
write_kind (write.Custom message) = fault.custom (string_bytes message)
write_kind (write.DuplicateKey key) = fault.duplicate_key (string_bytes key)
write_kind write.CallOrder = fault.call_order
write_kind write.NestedTooDeeply = fault.nested_too_deeply
write_kind write.OutOfMemory = fault.out_of_memory
