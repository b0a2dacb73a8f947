-- Why a field is not read, and that one is.
use Rattle.std.proofs.Common.{◌≡◌, inl, inr, ℕ, false, List, Some, None, IsTrue, Option, codes, sym, subst, refl}
use Rattle.std.proofs.Common.{Result, Ok, Err, IfOk}
use Rattle.basic_toml_value.specs.Data.{Data}
use Rattle.basic_toml_tree.specs.declared.node.Node.{Node}
use Rattle.basic_toml_tree.specs.Nodes.{node_data, is_table, data_at}
use Rattle.basic_toml_tree.specs.Stands.{AtKey}
use Rattle.basic_toml_error.specs.Fault.{Fault, custom}
use Rattle.basic_toml_error.specs.NodeFaults.{IsFault, fault_at, missing_message}
use Rattle.basic_toml_typed.specs.FieldKeys.{text_number, child_at}
use Rattle.basic_toml_typed.specs.FieldFaults.{field_fails, optional_fails, field_taken, optional_taken}
use Rattle.basic_toml_typed.specs.TypeAnswers.{OrMemory}
use Rattle.basic_toml_typed.specs.TypeFaults.{wrong_type}
use Rattle.basic_toml_typed.specs.TypeReads.{field_reads, optional_reads, some_reads, maybe_reads}

-- an error that is made is the fault that it is made as, memory aside
pub made_so : (IsOne : Fault → Type 0) (fault made : Fault) → IsFault fault made → IsOne made → OrMemory IsOne fault
made_so IsOne fault made (inl memory) one = inl memory
made_so IsOne fault made (inr same) one = inr (subst IsOne (sym same) one)

module _ (faults : Node → Fault → Type 0) (node : Node) (key : List ℕ) (fault : Fault) where
  pub field_no_table : is_table (node_data node) ≡ false → IsFault fault (wrong_type (codes "a map") node)
      → OrMemory (field_fails faults key node) fault
  unfolding field_fails
  field_no_table none made = made_so (field_fails faults key node) fault _ made (inl (none, refl))

  pub field_missing : IsTrue (is_table (node_data node)) → data_at (node_data node) key ≡ None
      → IsFault fault (fault_at node (custom (missing_message key))) → OrMemory (field_fails faults key node) fault
  unfolding field_fails
  field_missing is none made = made_so (field_fails faults key node) fault _ made (inr (inl (is, none, refl)))

  pub field_own : (field : Node) → data_at (node_data node) key ≡ Some (node_data field) → AtKey node key field
      → OrMemory (faults field) fault → OrMemory (field_fails faults key node) fault
  unfolding field_fails
  field_own field holds stands (inl memory) = inl memory
  field_own field holds stands (inr own) =
      inr (inr (inr (field, record { holds = holds; stands = stands }, own)))

  pub optional_no_table : is_table (node_data node) ≡ false → IsFault fault (wrong_type (codes "a map") node)
      → OrMemory (optional_fails faults key node) fault
  unfolding optional_fails
  optional_no_table none made = made_so (optional_fails faults key node) fault _ made (inl (none, refl))

  pub optional_own : (field : Node) → data_at (node_data node) key ≡ Some (node_data field) → AtKey node key field
      → OrMemory (faults field) fault → OrMemory (optional_fails faults key node) fault
  unfolding optional_fails
  optional_own field holds stands (inl memory) = inl memory
  optional_own field holds stands (inr own) = inr (inr (field, record { holds = holds; stands = stands }, own))

module _ {A : Type 0} (reads : Data → A → Type 0) (node : Node) (key : List ℕ) where
  pub taken : (d : Data) (r : Result A Fault) → child_at (text_number key) (node_data node) ≡ Some d → IfOk r (reads d)
      → IfOk r (λ _. field_taken reads key node)
  unfolding field_taken field_reads
  taken d (Ok x) holds read = (x, subst (λ (o : Option Data). some_reads reads o x) (sym holds) read)
  taken d (Err e) holds read = tt

  pub taken_there : (d : Data) (x : A) → IsTrue (is_table (node_data node))
      → child_at (text_number key) (node_data node) ≡ Some d → reads d x → optional_taken reads key node
  unfolding optional_taken optional_reads
  taken_there d x is holds read =
      (Some x, (is, subst (λ (o : Option Data). maybe_reads reads o (Some x)) (sym holds) read))

  pub taken_absent : IsTrue (is_table (node_data node)) → child_at (text_number key) (node_data node) ≡ None
      → optional_taken reads key node
  unfolding optional_taken optional_reads
  taken_absent is none = (None, (is, subst (λ (o : Option Data). maybe_reads reads o None) (sym none) tt))
