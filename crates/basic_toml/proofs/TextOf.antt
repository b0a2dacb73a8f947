-- What the text of calls is, and what it means.
use Rattle.std.proofs.Common.{◌≡◌, ℕ, List, false, sym, ◌∙◌, ap, subst, Result, Ok, Err, IfOk, string_bytes, String}
use Rattle.std.proofs.Common.{Global}
use Rattle.basic_toml_tokens.specs.Text.{folded}
use Rattle.basic_toml_grammar.specs.Document.{IsDocument}
use Rattle.basic_toml_emit.specs.Items.{Item}
use Rattle.basic_toml_value.specs.Nesting.{nesting_limit}
use Rattle.basic_toml_layout.specs.Layout.{layout}
use Rattle.basic_toml_layout.specs.Written.{Written}
use Rattle.basic_toml_write.specs.Shapes.{is_unsupported}
use Rattle.basic_toml_write.specs.Spelling.{Spells}
use Rattle.basic_toml_write.specs.Kept.{kept}
use Rattle.basic_toml_layout.specs.Trees.{tree_of, written_of}
use Rattle.basic_toml_write.proofs.LawsHold.{spells_at_most_one, data_is_spelled, kept_has_same_text}
use Rattle.basic_toml_write.proofs.LawsHold.{kept_has_same_depth}
use Rattle.basic_toml_round_trip.proofs.LawsHold.{read_back, written_again}
use Rattle.basic_toml.specs.Ser.{IsTextOf, HoldsData, MeansKept}

module _ (calls : List Item) where
  module _ (text : List ℕ) (t : IsTextOf calls text) where
    text_holds_data : HoldsData calls text
    text_holds_data d made =
        let same : t.value ≡ written_of d =
        spells_at_most_one calls t.value (written_of d) t.spelled
        (subst (λ (is : List Item). Spells is (written_of d)) (sym made) (data_is_spelled d)) in
        record {
          supported = subst (λ (v : Written). is_unsupported nesting_limit v ≡ false) same t.supported;
          laid_out = t.laid_out ∙ ap layout same;
        }

    text_means : MeansKept calls text
    text_means = record {
      document = λ w spelled.
          let same : t.value ≡ w = spells_at_most_one calls t.value w t.spelled spelled in
          subst (λ (v : Written). IsDocument (folded text) (tree_of (kept v))) same
          (subst (λ (b : List ℕ). IsDocument (folded b) (tree_of (kept t.value))) (sym t.laid_out)
          (read_back calls t.value t.spelled t.recordable t.supported));
      again = λ tree document.
          written_again calls t.value t.spelled t.recordable t.supported tree
          (subst (λ (b : List ℕ). IsDocument (folded b) tree) t.laid_out document)
          ∙ ap (λ (b : List ℕ). Ok b) (sym t.laid_out);
    }

  pub holds_data : {E : Type 0} (r : Result (String Global) E) → IfOk r (λ s. IsTextOf calls (string_bytes s))
      → IfOk r (λ s. HoldsData calls (string_bytes s))
  holds_data (Ok s) t = text_holds_data (string_bytes s) t
  holds_data (Err e) t = tt

  pub means_kept : {E : Type 0} (r : Result (String Global) E) → IfOk r (λ s. IsTextOf calls (string_bytes s))
      → IfOk r (λ s. MeansKept calls (string_bytes s))
  means_kept (Ok s) t = text_means (string_bytes s) t
  means_kept (Err e) t = tt

-- what `to_string` promises beside what its calls come to
pub ruleset promised = (holds_data, means_kept, spells_at_most_one, kept_has_same_text, kept_has_same_depth)
