-- What it means that a call has one answer: of two results that meet its contract, the values are the same, a value and
-- an error do not come of the same arguments, and the errors are the same. Left aside are want of memory and errors of
-- a type's own. (own)
use Rattle.std.specs.Prelude.{◌≡◌, ◌⊎◌, ℕ, List, Result, Ok, Err, String, string_bytes}
use Rattle.std.specs.declared.alloc.Global.{Global}
use Rattle.basic_toml_value.specs.Data.{Data}
use Rattle.basic_toml_value.specs.View.{entries}
use Rattle.basic_toml_value.specs.declared.value.Value.{Value}
use Rattle.basic_toml_emit.specs.Items.{Item}
use Rattle.basic_toml_write.specs.declared.error.WriteError.{WriteError}
use Rattle.basic_toml_error.specs.Fault.{Fault, want_of_memory}
use Rattle.basic_toml_typed.specs.TypeFaults.{table_faults}
use Rattle.basic_toml_typed.specs.TypeReads.{table_reads, table_takes}
use Rattle.basic_toml.specs.Reading.{ReadsText}
use Rattle.basic_toml.specs.ReadBack.{RoundTrips}
use Rattle.basic_toml.specs.Ser.{IsOwnFault, Writes}

-- two results agree, where `Same` says when values are the same, and `Aside` which errors are left aside
abbrev pub Agree : {A : Type 0} → (A → A → Type 0) → (Fault → Type 0) → Result A Fault → Result A Fault → Type 0
Agree Same Aside (Ok a) (Ok b) = Same a b
Agree Same Aside (Ok a) (Err f) = Aside f
Agree Same Aside (Err f) (Ok b) = Aside f
Agree Same Aside (Err f) (Err g) = Aside f ⊎ (Aside g ⊎ (f ≡ g))

-- want of memory, or an error of the type's own
abbrev pub IsOpen : (List Item → WriteError → Type 0) → Fault → Type 0
IsOpen gives_up f = (f ≡ want_of_memory) ⊎ IsOwnFault gives_up f

-- texts of the same bytes
abbrev pub SameBytes : String Global → String Global → Type 0
SameBytes s t = string_bytes s ≡ string_bytes t

-- tables of the same data, order of keys included
abbrev pub SameData : List (List ℕ × Value) → List (List ℕ × Value) → Type 0
SameData t u = Data.table (entries t) ≡ Data.table (entries u)

-- `to_string` has one answer for these calls
abbrev pub WritesOneAnswer : List Item → (List Item → WriteError → Type 0) → Type 0
WritesOneAnswer calls gives_up = (a b : Result (String Global) Fault) → Writes calls gives_up a → Writes calls gives_up b
    → Agree SameBytes (IsOpen gives_up) a b

-- `round_trip` has one answer for these calls
abbrev pub RoundTripsToOneAnswer : List Item → (List Item → WriteError → Type 0) → Type 0
RoundTripsToOneAnswer calls gives_up = (a b : Result (List (List ℕ × Value)) Fault) → RoundTrips calls gives_up a
    → RoundTrips calls gives_up b → Agree SameData (IsOpen gives_up) a b

-- `from_str` into a `Table` gives one table, and no error but want of memory where it gives one
abbrev pub ReadingHasOneTable : Type 0
ReadingHasOneTable = (text : List ℕ) (table : List (List ℕ × Value)) (b : Result (List (List ℕ × Value)) Fault)
    → ReadsText table_takes table_reads table_faults text (Ok table) → ReadsText table_takes table_reads table_faults text b
    → Agree SameData (λ f. f ≡ want_of_memory) (Ok table) b

-- and where it gives none one error, want of memory aside
abbrev pub ReadingHasOneError : Type 0
ReadingHasOneError = (text : List ℕ) (f g : Fault) → ReadsText table_takes table_reads table_faults text (Err f)
    → ReadsText table_takes table_reads table_faults text (Err g)
    → (f ≡ want_of_memory) ⊎ ((g ≡ want_of_memory) ⊎ (f ≡ g))
