-- A value that is written and read as its own type means what was written.
use Rattle.std.proofs.Common.{◌≡◌, inl, inr, ℕ, List, refl, sym, ap, subst, ◌∙◌, Result, Ok, Err}
use Rattle.std.proofs.Common.{string_bytes, String, Global}
use Rattle.basic_toml_tokens.specs.Text.{folded}
use Rattle.basic_toml_value.specs.Data.{Data, table}
use Rattle.basic_toml_grammar.specs.Document.{IsDocument}
use Rattle.basic_toml_layout.specs.Written.{Written}
use Rattle.basic_toml_layout.specs.Trees.{tree_of}
use Rattle.basic_toml_emit.specs.Items.{Item}
use Rattle.basic_toml_tree.specs.declared.node.Node.{Node}
use Rattle.basic_toml_write.proofs.LawsHold.{spells_at_most_one}
use Rattle.basic_toml_write.specs.declared.error.WriteError.{WriteError}
use Rattle.basic_toml_write.specs.Kept.{kept}
use Rattle.basic_toml_error.specs.Fault.{Fault, want_of_memory}
use Rattle.basic_toml_error.specs.ReadFaults.{lined}
use Rattle.basic_toml.specs.Reading.{ReadsText, value_read, no_memory, no_document, not_taken}
use Rattle.basic_toml.specs.Ser.{Writes, MeansKept, IsTextOf}
use Rattle.basic_toml.proofs.TextHasOneDocument.{one_document}
use Rattle.basic_toml_returns.specs.Returned.{Returned, ReturnsIt}
use Rattle.basic_toml_returns.specs.SpelledParts.{kept_tree}

module _ {A : Type 0} (calls : A → List Item) (gives_up : A → List Item → WriteError → Type 0)
    (takes : Data → Type 0) (reads : Data → A → Type 0) (faults : Node → Fault → Type 0) (meant : A → Data) (x : A) where
  -- what is read from the text of the data
  read_value : (text : List ℕ) (y : A) → IsDocument (folded text) (meant x) → ReadsText takes reads faults text (Ok y)
      → reads (meant x) y
  read_value text y means (value_read {members = m} document read) =
      subst (λ (d : Data). reads d y) (one_document text (table m) (meant x) document means) read

  -- and an error is want of memory, since there is a value to read
  only_memory : (text : List ℕ) (fault : Fault) → IsDocument (folded text) (meant x) → reads (meant x) x
      → ReadsText takes reads faults text (Err fault) → fault ≡ want_of_memory
  only_memory text _ means held no_memory = refl
  only_memory text _ means held (no_document none because) = absurd (none (meant x) means)
  only_memory text fault means held (not_taken {members = m} document (own, only, one, same)) =
      same ∙ ap (lined text)
      (only.held x (subst (λ (d : Data). reads d x) (sym (one_document text (table m) (meant x) document means)) held))

  -- the text of the calls has the data as its document
  means_it : (text : List ℕ) → Returned calls reads meant x → MeansKept (calls x) text
      → IsDocument (folded text) (meant x)
  means_it text is means =
      subst (IsDocument (folded text)) (kept_tree is.means.value (meant x) is.means.whole)
      (means.document is.means.value is.means.spelled)

  pub written_then_read : (s : String Global) (result : Result A Fault) → Returned calls reads meant x
      → Writes (calls x) (gives_up x) (Ok s) → MeansKept (calls x) (string_bytes s)
      → ReadsText takes reads faults (string_bytes s) result → ReturnsIt calls gives_up reads meant x result
  written_then_read s (Ok y) is written means read =
      let t : IsTextOf (calls x) (string_bytes s) = written.text in
      let there : reads (meant x) y = read_value (string_bytes s) y (means_it (string_bytes s) is means) read in
      let whole : tree_of (kept t.value) ≡ meant x =
      subst (λ (w : Written). tree_of (kept w) ≡ meant x)
      (spells_at_most_one (calls x) is.means.value t.value is.means.spelled t.spelled)
      (kept_tree is.means.value (meant x) is.means.whole) in
      record {
        returned = record {
          value = t.value;
          spelled = t.spelled;
          supported = t.supported;
          whole = whole;
          read = there;
          same = is.once y there;
        };
        succeeds = λ w spelled supported. is.once y there;
        refused = tt;
      }
  written_then_read s (Err fault) is written means read =
      let memory : fault ≡ want_of_memory =
      only_memory (string_bytes s) fault (means_it (string_bytes s) is means) is.read read in
      record { returned = tt; succeeds = λ w spelled supported. inr memory; refused = inl memory }

  pub not_written : (fault : Fault) → Writes (calls x) (gives_up x) (Err fault)
      → ReturnsIt calls gives_up reads meant x (Err fault)
  not_written fault written =
      record { returned = tt; succeeds = λ w spelled supported. written.succeeds w spelled supported; refused = written.refused }

pub ruleset written_returns = (not_written)
