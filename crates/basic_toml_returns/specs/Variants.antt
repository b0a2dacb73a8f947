-- A choice of one name among some, by where each variant stands among them. (own)
use Rattle.std.proofs.Common.{◌≡◌, ◌∙◌, ℕ, List, [], Option, Some, sym, ap, map, get_or, unwrap_or}
use Rattle.std.specs.Prelude.{⊤}
use Rattle.basic_toml_value.specs.Data.{Data, string}
use Rattle.basic_toml_tree.specs.declared.node.Node.{Node}
use Rattle.basic_toml_error.specs.Fault.{Fault}
use Rattle.basic_toml_layout.specs.Written as w
use Rattle.basic_toml_emit.specs.Items.{Item}
use Rattle.basic_toml_write.specs.Impls.{scalar_calls}
use Rattle.basic_toml_typed.specs.FieldFaults.{variant_fails}
use Rattle.basic_toml_typed.specs.FieldKeys.{text_number, position_among}
use Rattle.basic_toml_typed.specs.TypeReads.{IsVariant}
use Rattle.basic_toml_returns.specs.Returned.{ReadBack, Returned}
use Rattle.basic_toml_returns.specs.ScalarsReturn.{other_text_means}

abbrev pub name_at : List (List ℕ) → ℕ → List ℕ
name_at names position = get_or names position []

-- each variant has the name at its position, which no name before it is
pub record Variants (A : Type 0) : Type 0 where
  pub names : List (List ℕ)
  pub position : A → ℕ
  pub apart : (x : A) → position_among (map text_number names) (name_at names (position x)) ≡ Some (position x)

abbrev pub variant_reads : {A : Type 0} → Variants A → Data → A → Type 0
variant_reads variants d x = IsVariant (map text_number variants.names) d (variants.position x)

abbrev pub variant_faults : {A : Type 0} → Variants A → Node → Fault → Type 0
variant_faults variants = variant_fails variants.names

abbrev pub variant_name : {A : Type 0} → Variants A → A → List ℕ
variant_name variants x = name_at variants.names (variants.position x)

abbrev pub variant_calls : {A : Type 0} → Variants A → A → List Item
variant_calls variants x = scalar_calls (w.other_text (variant_name variants x))

same_position : (m n : ℕ) → ◌≡◌ {A = Option ℕ} (Some m) (Some n) → m ≡ n
same_position m n same = ap (λ o. unwrap_or o m) same

pub variant_returned : {A : Type 0} (variants : Variants A) (x : A)
    → Returned (variant_calls variants) (variant_reads variants) (λ x. string (variant_name variants x)) x
unfolding IsVariant
variant_returned variants x = record {
  means = other_text_means (variant_name variants x);
  read = variants.apart x;
  once = λ y read.
      ap (λ position. string (name_at variants.names position))
      (same_position (variants.position y) (variants.position x) (sym read ∙ variants.apart x));
}

abbrev pub variant_back : {A : Type 0} → Variants A → ReadBack A
variant_back variants = record {
  calls = variant_calls variants;
  holds = λ x. ⊤;
  reads = variant_reads variants;
  meant = λ x. string (variant_name variants x);
  returns = λ x held. variant_returned variants x;
}
