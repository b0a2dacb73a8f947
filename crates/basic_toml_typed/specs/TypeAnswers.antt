-- What a type answers to data, and to a node. A type's `reads` says which of its values are read from which data, its
-- `takes` from which data it reads a value, memory aside, its `faults` which errors it has at which node, and its `grows`
-- from which data it may ask for memory. (own)
use Rattle.std.specs.Prelude.{◌≡◌, ◌⊎◌, ℤ, Result, IfOk, IfErr, [], ⊤}
use Rattle.std.specs.Int.{Width, cast_signed, cast_unsigned}
use Rattle.basic_toml_value.specs.Data.{Data}
use Rattle.basic_toml_tree.specs.declared.node.Node.{Node}
use Rattle.basic_toml_tree.specs.declared.tree.Tree.{Tree}
use Rattle.basic_toml_tree.specs.Data.{table_data}
use Rattle.basic_toml_tree.specs.Nodes.{node_data}
use Rattle.basic_toml_tree.specs.Stands.{StandsAt}
use Rattle.basic_toml_error.specs.Fault.{Fault, want_of_memory}

-- the fault of a type that reads nothing: want of memory wherever the type takes the data, and wherever there is a
-- value to read
pub record OnlyMemory {T : Type 0} (Takes : Type 0) (IsRead : T → Type 0) (fault : Fault) : Type 0 where
  pub taken : Takes → fault ≡ want_of_memory
  pub held : (value : T) → IsRead value → fault ≡ want_of_memory

-- a value that the type reads from the data; or an error, want of memory wherever it takes the data
abbrev pub ReadsData : {T : Type 0} → (Data → Type 0) → (Data → T → Type 0) → Data → Result T Fault → Type 0
ReadsData takes reads d result = IfOk result (reads d) × IfErr result (OnlyMemory (takes d) (reads d))

-- want of memory, only where the type may ask for memory
abbrev pub IfGrows : Type 0 → Fault → Type 0
IfGrows Grows fault = fault ≡ want_of_memory → Grows

-- the data of a type that does not say from which it asks for memory
abbrev pub any_data : Data → Type 0
any_data d = ⊤

-- want of memory, or one of these faults
abbrev pub OrMemory : (Fault → Type 0) → Fault → Type 0
OrMemory IsOne fault = (fault ≡ want_of_memory) ⊎ IsOne fault

-- the faults of a type that does not say which it has
abbrev pub any_fault : Node → Fault → Type 0
any_fault node fault = ⊤

-- none at all
abbrev pub no_fault : Node → Fault → Type 0
no_fault node fault = ⊥

-- at the root of a tree
abbrev pub AtRoot : (Node → Type 0) → Tree → Type 0
AtRoot Holds tree =
    (root : Node) × (node_data root ≡ table_data tree.root) × StandsAt tree [] root × Holds root

-- a signed integer as it stands in a struct that it was moved into: the integer of its bits, which is itself
abbrev pub by_bits : Width → ℤ → ℤ
by_bits w z = cast_signed w (cast_unsigned w z)
