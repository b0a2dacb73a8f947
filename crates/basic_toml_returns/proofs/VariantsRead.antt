-- A choice is read by its names.
use Rattle.std.proofs.Common.{◌≡◌, ◌∙◌, ℕ, List, map, ap, sym, subst, Bor}
use mathlib.Core.List.{map-map}
use Rattle.basic_toml_value.specs.Data.{Data}
use Rattle.basic_toml_tree.specs.declared.node.Node.{Node}
use Rattle.basic_toml_error.specs.Fault.{Fault}
use Rattle.basic_toml_typed.specs.FieldFaults.{variant_fails}
use Rattle.basic_toml_typed.specs.FieldKeys.{text_number}
use Rattle.basic_toml_typed.specs.TypeAnswers.{OnlyMemory, OrMemory}
use Rattle.basic_toml_typed.specs.TypeReads.{HasVariant, IsVariant}
use Rattle.basic_toml_returns.specs.Variants.{Variants, variant_faults, variant_reads}

module _ {A : Type 0} (variants : Variants A) (names : List (Bor (List ℕ)))
    (same : map (λ name. name.now) names ≡ variants.names) where
  abbrev numbers : List ℕ
  numbers = map (λ name. text_number name.now) names

  same_numbers : numbers ≡ map text_number variants.names
  same_numbers = sym (map-map text_number (λ name. name.now) names) ∙ ap (map text_number) same

  pub is_variant : (d : Data) (position : ℕ) → IsVariant numbers d position
      → IsVariant (map text_number variants.names) d position
  is_variant d position is = subst (λ ns. IsVariant ns d position) same_numbers is

  pub reads_none : (d : Data) (fault : Fault) → OnlyMemory (HasVariant numbers d) (IsVariant numbers d) fault
      → OnlyMemory ⊥ (variant_reads variants d) fault
  reads_none d fault only = record {
    taken = λ none. absurd none;
    held = λ x read. only.held (variants.position x)
        (subst (λ ns. IsVariant ns d (variants.position x)) (sym same_numbers) read);
  }

  pub is_fault : (node : Node) (fault : Fault) → OrMemory (variant_fails (map (λ name. name.now) names) node) fault
      → OrMemory (variant_faults variants node) fault
  is_fault node fault is = subst (λ ns. OrMemory (variant_fails ns node) fault) same is

pub ruleset by_names = (is_variant, reads_none, is_fault)
