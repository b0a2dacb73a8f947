-- Which fault a record has: that of the first of its reads that fails.
use Rattle.std.proofs.Common.{◌≡◌, inl, inr, ℕ, List, Option, Some, None, MatchOption, IfSome, sym, subst, ◌∙◌}
use Rattle.std.proofs.Common.{Result, Ok, Err, IfErr}
use Rattle.std.specs.Result.{IsErrAnd}
use Rattle.std.specs.Option.{unwrap_or}
use Rattle.basic_toml_value.specs.Data.{Data}
use Rattle.basic_toml_tree.specs.declared.node.Node.{Node}
use Rattle.basic_toml_tree.specs.Nodes.{node_data, data_at}
use Rattle.basic_toml_tree.specs.Stands.{AtKey}
use Rattle.basic_toml_error.specs.Fault.{Fault}
use Rattle.basic_toml_typed.specs.FieldFaults.{FailsOr, at_field}
use Rattle.basic_toml_typed.specs.FieldKeys.{text_number}
use Rattle.basic_toml_typed.specs.TypeAnswers.{OrMemory}
use Rattle.basic_toml_typed.specs.TypeReads.{field_reads, some_reads}
use Rattle.basic_toml_typed.proofs.FieldsFound.{child_at_number}

-- this read, or one behind it
pub this_read : (Fails Taken Behind : Type 0) → Fails → FailsOr Fails Taken Behind
unfolding FailsOr
this_read Fails Taken Behind fails = inl fails

pub behind_one : (F T Behind : Type 0) → T → Behind → FailsOr F T Behind
unfolding FailsOr
behind_one F T Behind taken fails = inr (taken, fails)

-- one behind two, four or eight of them, so that of many fields few steps are left
pub behind_two : (F G T U Behind : Type 0) → T → U → Behind → FailsOr F T (FailsOr G U Behind)
behind_two F G T U Behind t u fails = behind_one F T _ t (behind_one G U _ u fails)

pub behind_four : (F₁ F₂ F₃ F₄ T₁ T₂ T₃ T₄ Behind : Type 0) → T₁ → T₂ → T₃ → T₄ → Behind
    → FailsOr F₁ T₁ (FailsOr F₂ T₂ (FailsOr F₃ T₃ (FailsOr F₄ T₄ Behind)))
behind_four F₁ F₂ F₃ F₄ T₁ T₂ T₃ T₄ Behind a b c d fails =
    behind_two F₁ F₂ T₁ T₂ _ a b (behind_two F₃ F₄ T₃ T₄ _ c d fails)

pub behind_eight : (F₁ F₂ F₃ F₄ F₅ F₆ F₇ F₈ T₁ T₂ T₃ T₄ T₅ T₆ T₇ T₈ Behind : Type 0)
    → T₁ → T₂ → T₃ → T₄ → T₅ → T₆ → T₇ → T₈ → Behind
    → FailsOr F₁ T₁ (FailsOr F₂ T₂ (FailsOr F₃ T₃ (FailsOr F₄ T₄
    (FailsOr F₅ T₅ (FailsOr F₆ T₆ (FailsOr F₇ T₇ (FailsOr F₈ T₈ Behind)))))))
behind_eight F₁ F₂ F₃ F₄ F₅ F₆ F₇ F₈ T₁ T₂ T₃ T₄ T₅ T₆ T₇ T₈ Behind a b c d e f g h fails =
    behind_four F₁ F₂ F₃ F₄ T₁ T₂ T₃ T₄ _ a b c d (behind_four F₅ F₆ F₇ F₈ T₅ T₆ T₇ T₈ _ e f g h fails)

pub ruleset in_turn = (this_read, behind_one, behind_two, behind_four, behind_eight)

-- an error that is passed on is one of the record's, where it is one of the field's
pub passed_on : {T : Type 0} (Field Record : Fault → Type 0) (result : Result T Fault) (fault : Fault)
    → IsErrAnd result (λ e. e ≡ fault) → OrMemory Field fault → ((own : Fault) → Field own → Record own)
    → IfErr result (OrMemory Record)
passed_on Field Record (Ok x) fault is named on = tt
passed_on Field Record (Err e) fault is (inl memory) on = subst (OrMemory Record) (sym is) (inl memory)
passed_on Field Record (Err e) fault is (inr own) on = subst (OrMemory Record) (sym is) (inr (on fault own))

-- a field that the record itself refuses
pub refused_field : (key : List ℕ) (faults : Node → Fault → Type 0) (node field : Node) (fault : Fault)
    → data_at (node_data node) key ≡ Some (node_data field) → AtKey node key field → faults field fault
    → at_field key faults node fault
unfolding at_field
refused_field key faults node field fault holds stands fails =
    (field, record { holds = holds; stands = stands }, fails)

-- the same, where the field was read and then looked for
pub refused_again : {A : Type 0} (reads : Data → A → Type 0) (key : List ℕ) (faults : Node → Fault → Type 0)
    (node field : Node) (fault : Fault) (found : Option Node) (x : A)
    → field_reads reads (text_number key) (node_data node) x
    → MatchOption found (data_at (node_data node) key ≡ None) (λ n. data_at (node_data node) key ≡ Some (node_data n))
    → IfSome found (λ n. AtKey node key n) → field ≡ unwrap_or found node
    → (reads (node_data field) x → faults field fault) → at_field key faults node fault
unfolding field_reads
refused_again reads key faults node field fault None x read none stands is refuses =
    absurd (subst (λ (o : Option Data). some_reads reads o x) (child_at_number (node_data node) key ∙ none) read)
refused_again reads key faults node field fault (Some n) x read holds stands is refuses =
    refused_field key faults node field fault (subst (λ m. data_at (node_data node) key ≡ Some (node_data m)) (sym is) holds)
    (subst (λ m. AtKey node key m) (sym is) stands)
    (refuses (subst (λ m. reads (node_data m) x) (sym is)
    (subst (λ (o : Option Data). some_reads reads o x) (child_at_number (node_data node) key ∙ holds) read)))
