-- What contracts see of a fault's kind.
use Rattle.std.specs.Prelude.{string_bytes}
use Rattle.basic_toml_explain.specs.Error.{owned_kind_of}
use Rattle.basic_toml_error.specs.Fault as fault
use Rattle.basic_toml_error.specs.WriteFaults.{write_kind}
use Rattle.basic_toml_error.specs.declared.kind.ErrorKind.{ErrorKind}
use Rattle.basic_toml_error.specs.declared.kind.ErrorKind.TheVariants as kinds

abbrev pub kind_of : ErrorKind → fault.FaultKind
kind_of (kinds.Reading kind) = fault.reading (owned_kind_of kind)
kind_of (kinds.Writing error) = write_kind error
kind_of kinds.NotUtf8 = fault.not_utf8
kind_of (kinds.UnknownField key message) = fault.unknown_field (string_bytes key) (string_bytes message)
