-- The text of an error of reading goes on with its line and its column.
use Rattle.std.proofs.Common.{sym}
use Rattle.std.proofs.lemmas.List.{append_assoc}
use Rattle.basic_toml_explain.specs.ReadErrorText.{message, key_text}
use Rattle.basic_toml_error.specs.FaultText.{offset_text}
use Rattle.basic_toml_error.specs.ReadFaults.{fault_in}
use Rattle.basic_toml_error.specs.Statements.{GoesOnWithLine}

pub goes_on_with_line : GoesOnWithLine
goes_on_with_line text error =
    sym (append_assoc (message error.kind) (key_text error.key_path)
    (offset_text (fault_in text error).line_column))
