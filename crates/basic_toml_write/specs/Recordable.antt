-- The items that a call can record (own), by what the types of its arguments hold: texts and keys are UTF-8, a float is
-- its own reading, an integer lies in i64 or in u64, and bytes are below 256.
use Rattle.std.specs.Prelude.{◌≡◌, ◌<◌, List, All, Some, ◌⊎◌, ⊤, IsUtf8, FitsSigned}
use Rattle.std.specs.Int.{FitsUnsigned, w64}
use Rattle.basic_toml_numbers.specs.Numbers.{float_of}
use Rattle.basic_toml_layout.specs.Written.{Scalar, integer, float, text, other_text, bytes}
use Rattle.basic_toml_emit.specs.Items.{Item, a_scalar, field}

abbrev pub IsRecordableScalar : Scalar → Type 0
IsRecordableScalar (integer z) = FitsSigned w64 z ⊎ FitsUnsigned w64 z
IsRecordableScalar (float t) = float_of t ≡ Some t
IsRecordableScalar (text t) = IsUtf8 t
IsRecordableScalar (other_text t) = IsUtf8 t
IsRecordableScalar (bytes ns) = All (λ n. n < 256) ns
IsRecordableScalar _ = ⊤

abbrev pub IsRecordable : Item → Type 0
IsRecordable (a_scalar l) = IsRecordableScalar l
IsRecordable (field k) = IsUtf8 k
IsRecordable _ = ⊤

abbrev pub AreRecordable : List Item → Type 0
AreRecordable is = All IsRecordable is
