-- Where an error stands that a step reports. (own)
use Rattle.std.specs.Prelude.{◌≡◌, ◌⊎◌, ℕ, List, Option, Some, None, ⊤}
use Rattle.basic_toml_error.specs.Fault.{Fault as Failure, FaultKind, custom, unknown_field, want_of_memory}
use Rattle.basic_toml_serde.specs.declared.fault.Fault.{Fault}
use Rattle.basic_toml_serde.specs.declared.fault.Fault.TheVariants.{OutOfMemory, Misfit, Report}
use Rattle.basic_toml_serde.specs.declared.notes.Step.{Step}

-- This holds of the error that is reported. Without memory, and in a reading without messages, none is.
abbrev pub Reports : (Failure → Type 0) → Fault → Type 0
Reports has OutOfMemory = ⊤
Reports has Misfit = ⊤
Reports has (Report report) = has report.value.error

-- an error with some message at an item, or want of memory
abbrev pub StandsAt : {N : Type 0} → (N → FaultKind → Failure → Type 0) → N → Failure → Type 0
StandsAt fails item failure =
    (failure ≡ want_of_memory) ⊎ ((message : List ℕ) × fails item (custom message) failure)

abbrev pub StandsIn : {N : Type 0} → (N → FaultKind → Failure → Type 0) → Option N → Failure → Type 0
StandsIn fails None failure = ⊥
StandsIn fails (Some item) failure = StandsAt fails item failure

-- an error is reported only where there is such an item, and stands there
abbrev pub ReportsAt : {N : Type 0} → (N → FaultKind → Failure → Type 0) → Option N → Fault → Type 0
ReportsAt fails item fault = Reports (StandsIn fails item) fault

-- the same, of a field that is unknown
abbrev pub HasUnknown : {N : Type 0} → (N → FaultKind → Failure → Type 0) → Option N → Failure → Type 0
HasUnknown fails None failure = ⊥
HasUnknown fails (Some item) failure =
    (failure ≡ want_of_memory) ⊎ ((key message : List ℕ) × fails item (unknown_field key message) failure)

abbrev pub ReportsUnknown : {N : Type 0} → (N → FaultKind → Failure → Type 0) → Option N → Fault → Type 0
ReportsUnknown fails item fault = Reports (HasUnknown fails item) fault

-- the one where this step was the last, and the other after any other
abbrev pub AfterStep : Step → Step → Type 0 → Type 0 → Type 0
AfterStep step last this other = (last ≡ step → this) × ((last ≡ step → ⊥) → other)
