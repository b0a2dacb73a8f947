-- The message of an error of the writer is the text of that error; what texts and values have alike reads the same.
use Rattle.std.proofs.Common.{◌≡◌, refl}
use Rattle.basic_toml_write.specs.declared.error.WriteError.{WriteError}
use Rattle.basic_toml_write.specs.declared.error.WriteError.TheVariants as write
use Rattle.basic_toml_write.specs.ErrorText.{error_text}
use Rattle.basic_toml_error.specs.FaultText.{message}
use Rattle.basic_toml_error.specs.WriteFaults.{write_kind}

pub written_message : (error : WriteError) → message (write_kind error) ≡ error_text error
written_message write.UnsupportedType = refl
written_message write.KeyNotString = refl
written_message write.ValueAfterTable = refl
written_message write.UnsupportedNone = refl
written_message (write.Custom _) = refl
written_message (write.DuplicateKey _) = refl
written_message write.CallOrder = refl
written_message write.NestedTooDeeply = refl
written_message write.OutOfMemory = refl
