-- Which fault each type has at which node, memory aside. (own)
use Rattle.std.specs.Prelude.{◌≡◌, ◌⊎◌, ◌≤◌, ◌^◌, ℕ, ℤ, pos, false, List, Some, None, codes, map, take, slice_get}
use Rattle.basic_toml_value.specs.Data.{Data, integer_in, boolean_in, string_in, float_in}
use Rattle.basic_toml_tree.specs.declared.node.Node.{Node}
use Rattle.basic_toml_tree.specs.Nodes.{node_data, is_table, is_array, elements_in, entries_in}
use Rattle.basic_toml_tree.specs.Stands.{AtKey, AtNumber}
use Rattle.basic_toml_error.specs.Fault.{Fault, custom}
use Rattle.basic_toml_error.specs.NodeFaults.{fault_at, type_message, value_message}
use Rattle.basic_toml_write.specs.Impls.{is_within}
use Rattle.basic_toml_typed.specs.TypeReads.{are_read}

-- `invalid type: .., expected ..` and `invalid value: .., expected ..`, at a node
abbrev pub wrong_type : List ℕ → Node → Fault
wrong_type expected node = fault_at node (custom (type_message (node_data node) expected))

abbrev pub wrong_value : List ℕ → Node → Fault
wrong_value expected node = fault_at node (custom (value_message (node_data node) expected))

-- bool, String and CowStr, Float, Table: data of another kind
abbrev pub bool_faults : Node → Fault → Type 0
bool_faults node fault = (boolean_in (node_data node) ≡ None) × (fault ≡ wrong_type (codes "a boolean") node)

abbrev pub string_faults : Node → Fault → Type 0
string_faults node fault = (string_in (node_data node) ≡ None) × (fault ≡ wrong_type (codes "a string") node)

abbrev pub float_faults : Node → Fault → Type 0
float_faults node fault = (float_in (node_data node) ≡ None) × (fault ≡ wrong_type (codes "a float") node)

abbrev pub table_faults : Node → Fault → Type 0
table_faults node fault = (is_table (node_data node) ≡ false) × (fault ≡ wrong_type (codes "a map") node)

-- a type of integers, by its name: no integer, or one that is out of its range
abbrev pub integer_faults : (ℤ → Type 0) → List ℕ → Node → Fault → Type 0
integer_faults IsOut name node fault =
    ((integer_in (node_data node) ≡ None) × (fault ≡ wrong_type name node))
    ⊎ ((z : ℤ) × (integer_in (node_data node) ≡ Some z) × IsOut z × (fault ≡ wrong_value name node))

abbrev pub signed_faults : ℕ → List ℕ → Node → Fault → Type 0
signed_faults half name = integer_faults (λ z. is_within half z ≡ false) name

abbrev pub unsigned_faults : ℕ → List ℕ → Node → Fault → Type 0
unsigned_faults bits name = integer_faults (λ z. (n : ℕ) → z ≡ pos n → 2 ^ bits ≤ n) name

-- from each of these data a value is read
abbrev pub are_readable : {A : Type 0} → (Data → A → Type 0) → List Data → Type 0
are_readable {A} reads ds = (xs : List A) × are_read reads ds xs

-- Vec: no array, or an element that has the fault, where those before it are read
pub record IsElement (array : Node) (n : ℕ) (element : Node) : Type 0 where
  pub holds : slice_get (elements_in (node_data array)) n ≡ Some (node_data element)
  pub stands : AtNumber array n element

unfoldable pub array_faults : {A : Type 0} → (Node → Fault → Type 0) → (Data → A → Type 0) → Node → Fault → Type 0
array_faults faults reads node fault =
    ((is_array (node_data node) ≡ false) × (fault ≡ wrong_type (codes "a sequence") node))
    ⊎ ((n : ℕ) × (element : Node) × IsElement node n element
    × are_readable reads (take n (elements_in (node_data node))) × faults element fault)

-- BTreeMap: no table, or an entry whose value has the fault, where those of the entries before it are read
pub record IsEntry (table : Node) (n : ℕ) (key : List ℕ) (value : Node) : Type 0 where
  pub holds : slice_get (entries_in (node_data table)) n ≡ Some (key, node_data value)
  pub stands : AtKey table key value

unfoldable pub map_faults : {A : Type 0} → (Node → Fault → Type 0) → (Data → A → Type 0) → Node → Fault → Type 0
map_faults faults reads node fault =
    table_faults node fault
    ⊎ ((n : ℕ) × (key : List ℕ) × (value : Node) × IsEntry node n key value
    × are_readable reads (map (λ p. p.1) (take n (entries_in (node_data node)))) × faults value fault)
