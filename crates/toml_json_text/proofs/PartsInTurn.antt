-- The text of an array and of a table, by their parts in turn.
use Rattle.std.proofs.Common.{◌≡◌, ℕ, ◌+◌, ◌<◌, Bool, true, List, ◌++◌, length, drop, get_or, sym, ◌∙◌, ap}
use Rattle.std.proofs.Common.{append_assoc}
use Rattle.basic_toml_value.specs.Entries.{seen}
use Rattle.basic_toml_value.specs.Text.{text_bytes}
use Rattle.basic_toml_value.specs.View.{view, entries, items_view}
use Rattle.basic_toml_value.specs.declared.pairs.Pair.{Pair}
use Rattle.basic_toml_value.specs.declared.value.Value.{Value}
use Rattle.basic_toml_layout.proofs.DataIsLaidOut.{drop_at}
use Rattle.toml_json_text.specs.declared.form.Form.{Form}
use Rattle.toml_json_text.specs.declared.layout.Layout.{Layout}
use Rattle.toml_json_text.specs.Json.{separator, name_text, json_at, elements_text, members_text}

-- two pieces were appended, and the rest is left
step : (t t' t'' a b rest : List ℕ) → t' ≡ t ++ a → t'' ≡ t' ++ b → t'' ++ rest ≡ t ++ (a ++ (b ++ rest))
step t t' t'' a b rest first second =
    ap (λ z. z ++ rest) (second ∙ ap (λ z. z ++ b) first)
    ∙ (append_assoc (t ++ a) b rest ∙ append_assoc t a (b ++ rest))

module _ (form : Form) (layout : Layout) (level : ℕ) (later : Bool) (t t' whole : List ℕ) where
  pub elements_step : (values : List Value) (i : ℕ) (value : Value) → i < length values
      → value ≡ get_or values i value → (below : ℕ) → below ≡ level + 1 → (t'' : List ℕ)
      → t' ≡ t ++ separator layout below later → t'' ≡ t' ++ json_at form layout below (view value)
      → t ++ elements_text form layout level later (items_view (drop i values)) ≡ whole
      → t'' ++ elements_text form layout level true (items_view (drop (i + 1) values)) ≡ whole
  elements_step values i value lt read below is t'' first second left =
      step t t' t'' (separator layout (level + 1) later) (json_at form layout (level + 1) (view value))
      (elements_text form layout level true (items_view (drop (i + 1) values)))
      (first ∙ ap (λ n. t ++ separator layout n later) is)
      (second ∙ ap (λ n. t' ++ json_at form layout n (view value)) is)
      ∙ (ap (λ (vs : List Value). t ++ elements_text form layout level later (items_view vs))
      (sym (drop_at values i value lt read)) ∙ left)

  pub members_step : (pairs : List (Pair Value)) (i : ℕ) (pair : Pair Value) → i < length pairs
      → pair ≡ get_or pairs i pair → (below : ℕ) → below ≡ level + 1
      → t' ≡ t ++ (name_text layout below later (text_bytes pair.key) ++ json_at form layout below (view pair.value))
      → t ++ members_text form layout level later (entries (seen (drop i pairs))) ≡ whole
      → t' ++ members_text form layout level true (entries (seen (drop (i + 1) pairs))) ≡ whole
  members_step pairs i pair lt read below is put left =
      let member : ℕ → List ℕ =
      λ n. name_text layout n later (text_bytes pair.key) ++ json_at form layout n (view pair.value) in
      let rest : List ℕ = members_text form layout level true (entries (seen (drop (i + 1) pairs))) in
      let name : List ℕ = name_text layout (level + 1) later (text_bytes pair.key) in
      let value : List ℕ = json_at form layout (level + 1) (view pair.value) in
      ap (λ z. z ++ rest) (put ∙ ap (λ n. t ++ member n) is)
      ∙ (append_assoc t (name ++ value) rest
      ∙ (ap (λ z. t ++ z) (append_assoc name value rest)
      ∙ (ap (λ (ps : List (Pair Value)). t ++ members_text form layout level later (entries (seen ps)))
      (sym (drop_at pairs i pair lt read)) ∙ left)))
