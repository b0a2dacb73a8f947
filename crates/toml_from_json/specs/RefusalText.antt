-- The text of a refusal: what of JSON has no TOML, and the keys that lead to it, where there are any. (own)
use Rattle.std.specs.Prelude.{ℕ, List, [], ◌∷◌, ◌++◌, codes}
use Rattle.toml_from_json.specs.declared.refusal.Fault.{Fault}
use Rattle.toml_from_json.specs.declared.refusal.Fault.TheVariants.{Null, IntegerOutOfRange, RepeatedKey, NoObject}
use Rattle.toml_from_json.specs.declared.refusal.Fault.TheVariants.{NoType, UnknownType, WrongValue, OffsetDateTime}
use Rattle.toml_from_json.specs.declared.refusal.Fault.TheVariants.{LocalDateTime, LocalDate, LocalTime}

abbrev pub fault_text : Fault → List ℕ
fault_text Null = codes "null"
fault_text IntegerOutOfRange = codes "integer outside i64"
fault_text RepeatedKey = codes "second value"
fault_text NoObject = codes "the top level is no object"
fault_text NoType = codes "value without a type"
fault_text UnknownType = codes "unknown type"
fault_text WrongValue = codes "value that is none of its type"
fault_text OffsetDateTime = codes "datetime is not supported"
fault_text LocalDateTime = codes "datetime-local is not supported"
fault_text LocalDate = codes "date-local is not supported"
fault_text LocalTime = codes "time-local is not supported"

abbrev pub path_text : List ℕ → List ℕ
path_text [] = []
path_text (c ∷ cs) = codes " for key `" ++ ((c ∷ cs) ++ codes "`")

abbrev pub refusal_text : Fault → List ℕ → List ℕ
refusal_text fault path = fault_text fault ++ path_text path
