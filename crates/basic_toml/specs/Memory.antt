-- A want of memory names no place and no keys, whoever answers it; and what comes without memory. (own)
use Rattle.std.specs.Prelude.{◌≡◌, ℕ, List, [], Result, Ok, Err, IfErr}
use Rattle.basic_toml_tokens.specs.Text.{folded}
use Rattle.basic_toml_value.specs.Data.{Data}
use Rattle.basic_toml_value.specs.declared.value.Value.{Value}
use Rattle.basic_toml_emit.specs.Items.{Item}
use Rattle.basic_toml_read.specs.Lists.{IsGap}
use Rattle.basic_toml_tree.specs.Data.{HoldsAny}
use Rattle.basic_toml_tree.specs.declared.node.Node.{Node}
use Rattle.basic_toml_write.specs.declared.error.WriteError.{WriteError}
use Rattle.basic_toml_error.specs.Fault.{Fault, out_of_memory, want_of_memory}
use Rattle.basic_toml_typed.specs.TypeFaults.{table_faults}
use Rattle.basic_toml_typed.specs.TypeReads.{table_reads, table_takes}
use Rattle.basic_toml.specs.ReadBack.{RoundTrips}
use Rattle.basic_toml.specs.Reading.{ReadsText, ReadsTree, WantsMemory}
use Rattle.basic_toml.specs.Ser.{Writes}

-- of its kind there is one fault, which has no offset, no line and column, and no keys
abbrev pub HasNoPlace : Fault → Type 0
HasNoPlace fault = fault.kind ≡ out_of_memory → fault ≡ want_of_memory

-- so it is of each fault that a type names
abbrev pub NamesNoPlace : (Node → Fault → Type 0) → Type 0
NamesNoPlace faults = (node : Node) (fault : Fault) → faults node fault → HasNoPlace fault

-- `from_str` and `from_slice`, where it is so of the type's own faults
abbrev pub ReadsWithoutPlace : {T : Type 0} → (Data → Type 0) → (Data → T → Type 0) → (Node → Fault → Type 0) → Type 0
ReadsWithoutPlace takes reads faults = NamesNoPlace faults → (text : List ℕ) (fault : Fault)
    → ReadsText takes reads faults text (Err fault) → HasNoPlace fault

-- `read_tree`
abbrev pub TreesWithoutPlace : Type 0
TreesWithoutPlace = (text : List ℕ) (fault : Fault) → ReadsTree text (Err fault) → HasNoPlace fault

-- `from_str` into a `Table` reads a text of blanks, comments and line feeds as a table without keys, whatever memory
-- there is
abbrev pub BlanksAreRead : Type 0
BlanksAreRead = (text : List ℕ) (result : Result (List (List ℕ × Value)) Fault) → IsGap (folded text)
    → ReadsText table_takes table_reads table_faults text result → IfErr result (WantsMemory HoldsAny text)
    → result ≡ Ok []

-- `to_string` and `round_trip`
abbrev pub WritesWithoutPlace : List Item → (List Item → WriteError → Type 0) → Type 0
WritesWithoutPlace calls gives_up = (fault : Fault) → Writes calls gives_up (Err fault) → HasNoPlace fault

abbrev pub RoundTripsWithoutPlace : List Item → (List Item → WriteError → Type 0) → Type 0
RoundTripsWithoutPlace calls gives_up = (fault : Fault) → RoundTrips calls gives_up (Err fault) → HasNoPlace fault
