-- What a node of a tree and the key that leads to it stand for. (own)
use Rattle.std.specs.Prelude.{ℕ, List, Option}
use Rattle.std.specs.Option.{option_copied}
use Rattle.basic_toml_value.specs.Data.{Data}
use Rattle.basic_toml_tree.specs.Nodes.{node_data}
use Rattle.basic_toml_error.specs.Fault.{Fault, FaultKind}
use Rattle.basic_toml_error.specs.NodeFaults.{IsFault, fault_at, fault_around}
use Rattle.basic_toml_serde.specs.declared.part.Part.{Part}
use Rattle.basic_toml_serde.specs.Added.{Adds}

abbrev pub key_of : Part → Option (List ℕ)
key_of part = option_copied part.key

abbrev pub data_of : Part → Data
data_of part = node_data part.node

-- parts behind those that are there, which stand for these keys and data
abbrev pub AddsAll : List (Option (List ℕ) × Data) → List Part → List Part → Type 0
AddsAll = Adds key_of data_of

-- an error of this kind at a part, or around it
abbrev pub FailsAt : Part → FaultKind → Fault → Type 0
FailsAt part kind fault = IsFault fault (fault_at part.node kind)

abbrev pub FailsAround : Part → FaultKind → Fault → Type 0
FailsAround part kind fault = IsFault fault (fault_around part.node kind)
