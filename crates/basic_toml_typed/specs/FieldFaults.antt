-- Which fault a field, an optional field, a list of fields or a variant has at which node, memory aside; and a record, by
-- its reads in their order: the first that fails gives the error. (own)
use Rattle.std.specs.Prelude.{◌≡◌, ◌⊎◌, ℕ, List, [], ◌∷◌, Option, Some, None, true, false, codes, map}
use Rattle.std.specs.Prelude.{if◌then◌else◌, IsTrue, MatchOption, Result, Ok, Err}
use Rattle.basic_toml_index.specs.Keys.{is_among}
use Rattle.basic_toml_value.specs.Data.{Data, string_in}
use Rattle.basic_toml_tree.specs.declared.node.Node.{Node}
use Rattle.basic_toml_tree.specs.Nodes.{node_data, is_table, data_at, entries_in}
use Rattle.basic_toml_tree.specs.Origin.{is_made, name_of}
use Rattle.basic_toml_tree.specs.Stands.{AtKey}
use Rattle.basic_toml_typed.specs.FieldKeys.{text_number, child_at}
use Rattle.basic_toml_typed.specs.TypeFaults.{table_faults, wrong_type}
use Rattle.basic_toml_typed.specs.TypeReads.{field_reads, optional_reads, HasOnly}
use Rattle.basic_toml_error.specs.Fault.{Fault, custom, wanted, unknown_field}
use Rattle.basic_toml_error.specs.NodeFaults.{IsFault, fault_at, fault_around, fault_at_start, missing_message}
use Rattle.basic_toml_error.specs.NodeFaults.{unknown_field_message, unknown_variant_message}

-- what stands at a key of a table
pub record IsField (table : Node) (key : List ℕ) (field : Node) : Type 0 where
  pub holds : data_at (node_data table) key ≡ Some (node_data field)
  pub stands : AtKey table key field

-- no table; a table without the key; or what stands at the key has the fault
unfoldable pub field_fails : (Node → Fault → Type 0) → List ℕ → Node → Fault → Type 0
field_fails faults key node fault =
    table_faults node fault
    ⊎ (((is_table (node_data node) ≡ true) × (data_at (node_data node) key ≡ None)
    × (fault ≡ fault_at node (custom (missing_message key))))
    ⊎ ((field : Node) × IsField node key field × faults field fault))

-- no table, or what stands at the key has the fault
unfoldable pub optional_fails : (Node → Fault → Type 0) → List ℕ → Node → Fault → Type 0
optional_fails faults key node fault =
    table_faults node fault ⊎ ((field : Node) × IsField node key field × faults field fault)

-- the first key that is not among these
abbrev pub first_other : List (List ℕ) → List (List ℕ × Data) → Option (List ℕ)
first_other names [] = None
first_other names (p ∷ ps) = if is_among names p.0 then first_other names ps else Some p.0

-- no table, or a key that is not among these
unfoldable pub only_fails : List (List ℕ) → Node → Fault → Type 0
only_fails names node fault =
    table_faults node fault
    ⊎ ((key : List ℕ) × (first_other names (entries_in (node_data node)) ≡ Some key)
    × (fault ≡ fault_at node (unknown_field key (unknown_field_message key names))))

-- no string, by a literal or by headers; or a string that is none of the names
unfoldable pub variant_fails : List (List ℕ) → Node → Fault → Type 0
variant_fails names node fault =
    ((string_in (node_data node) ≡ None) × (is_made node ≡ false)
    × (fault ≡ fault_at_start node (wanted (codes "string") (name_of node))))
    ⊎ (((string_in (node_data node) ≡ None) × (is_made node ≡ true) × (fault ≡ wrong_type (codes "a string") node))
    ⊎ ((text : List ℕ) × (string_in (node_data node) ≡ Some text) × (is_among names text ≡ false)
    × (fault ≡ fault_around node (custom (unknown_variant_message text names)))))

-- some value is read at the key
unfoldable pub field_taken : {A : Type 0} → (Data → A → Type 0) → List ℕ → Node → Type 0
field_taken {A} reads key node = (x : A) × field_reads reads (text_number key) (node_data node) x

unfoldable pub optional_taken : {A : Type 0} → (Data → A → Type 0) → List ℕ → Node → Type 0
optional_taken {A} reads key node = (x : Option A) × optional_reads reads (text_number key) (node_data node) x

-- A record's faults, a line for each of its reads, as `in_field T.faults T.reads (codes "host") (.. no_fault)`: this read
-- fails, or it does not and one of those behind it does.
abbrev pub in_field : {A : Type 0} → (Node → Fault → Type 0) → (Data → A → Type 0) → List ℕ → (Node → Fault → Type 0)
    → Node → Fault → Type 0
in_field faults reads key rest node fault = field_fails faults key node fault ⊎ (field_taken reads key node × rest node fault)

abbrev pub in_optional : {A : Type 0} → (Node → Fault → Type 0) → (Data → A → Type 0) → List ℕ → (Node → Fault → Type 0)
    → Node → Fault → Type 0
in_optional faults reads key rest node fault =
    optional_fails faults key node fault ⊎ (optional_taken reads key node × rest node fault)

abbrev pub only_these : List (List ℕ) → (Node → Fault → Type 0) → Node → Fault → Type 0
only_these names rest node fault =
    only_fails names node fault ⊎ (HasOnly (map text_number names) (node_data node) × rest node fault)

-- The same, closed, for a record of many fields or of large types: a proof goes by what is said of the word
-- (`RecordsFail.in_turn`), and never through the types of the fields.
unfoldable pub FailsOr : Type 0 → Type 0 → Type 0 → Type 0
FailsOr Fails Taken Behind = Fails ⊎ (Taken × Behind)

abbrev pub field_then : {A : Type 0} → (Node → Fault → Type 0) → (Data → A → Type 0) → List ℕ → (Node → Fault → Type 0)
    → Node → Fault → Type 0
field_then faults reads key rest node fault =
    FailsOr (field_fails faults key node fault) (field_taken reads key node) (rest node fault)

abbrev pub optional_then : {A : Type 0} → (Node → Fault → Type 0) → (Data → A → Type 0) → List ℕ
    → (Node → Fault → Type 0) → Node → Fault → Type 0
optional_then faults reads key rest node fault =
    FailsOr (optional_fails faults key node fault) (optional_taken reads key node) (rest node fault)

abbrev pub only_then : List (List ℕ) → (Node → Fault → Type 0) → Node → Fault → Type 0
only_then names rest node fault =
    FailsOr (only_fails names node fault) (HasOnly (map text_number names) (node_data node)) (rest node fault)

-- what stands at the key has the fault, as a record tells it that tests a field itself
unfoldable pub at_field : List ℕ → (Node → Fault → Type 0) → Node → Fault → Type 0
at_field key faults node fault = (field : Node) × IsField node key field × faults field fault

-- what stands at a key, by its text and by its number
abbrev pub FoundAt : Node → List ℕ → Option Data → Type 0
FoundAt node key found =
    (data_at (node_data node) key ≡ found) × (child_at (text_number key) (node_data node) ≡ found)

-- what stands at the key of a table
abbrev pub FieldIn : Node → List ℕ → Result (Option Node) Fault → Type 0
FieldIn node key (Ok found) = IsTrue (is_table (node_data node)) × MatchOption found (FoundAt node key None)
    (λ field. FoundAt node key (Some (node_data field)) × AtKey node key field)
FieldIn node key (Err fault) =
    (is_table (node_data node) ≡ false) × (child_at (text_number key) (node_data node) ≡ None)
    × IsFault fault (wrong_type (codes "a map") node)
