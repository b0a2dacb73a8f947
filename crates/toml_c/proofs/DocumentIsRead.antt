-- The document of bytes, or why they have none, from what reading a table answered.
use Rattle.std.proofs.Common.{◌≡◌, ◌≢◌, ◌⊎◌, inl, inr, Bool, true, false, ℕ, List, IsUtf8, refl, ap, sym, subst, ◌∙◌}
use Rattle.std.proofs.Common.{Result, Ok, Err, IfOk, IfErr}
use Rattle.std.specs.Str.{is_utf8}
use Rattle.std.proofs.lemmas.Str.{IsUtf8-from_is_utf8, is_utf8-from_IsUtf8}
use Rattle.basic_toml.specs.Data.{Data, Members, table}
use Rattle.basic_toml.specs.Document.{IsDocument}
use Rattle.basic_toml.specs.Fault.{Fault, out_of_memory, not_text}
use Rattle.basic_toml.specs.Reading.{ReadsText, value_read, no_memory, no_document, not_taken}
use Rattle.basic_toml.specs.ReadFaults.{lined}
use Rattle.basic_toml.specs.TypeFaults.{table_faults}
use Rattle.basic_toml.specs.tokens.Text.{folded}
use Rattle.basic_toml.proofs.RefusedTextsHaveNoDocument.{refused_has_no_document}
use Rattle.toml_c.specs.Answers.{Holds, IsRefusal, refused, not_utf8}

-- bytes are UTF-8, or are not
utf8_or_not : (bytes : List ℕ) → IsUtf8 bytes ⊎ (IsUtf8 bytes → ⊥)
utf8_or_not bytes = go (is_utf8 bytes) refl
  where
    go : (b : Bool) → is_utf8 bytes ≡ b → IsUtf8 bytes ⊎ (IsUtf8 bytes → ⊥)
    go true e = inl (IsUtf8-from_is_utf8 bytes e)
    go false e = inr (λ u. let other : is_utf8 bytes ≡ true = is_utf8-from_IsUtf8 bytes u in cc)

-- a type T that is read from tables, all of which it takes, and shows its members
module _ {T : Type 0} (takes : Data → Type 0) (entries : T → Members) where
  abbrev reads_table : Data → T → Type 0
  reads_table d t = d ≡ table (entries t)

  read_in : (input : List ℕ) (t : T) → ReadsText takes reads_table table_faults input (Ok t)
      → IsDocument (folded input) (table (entries t))
  read_in input t (value_read document same) = subst (IsDocument (folded input)) same document

  pub held : (input : List ℕ) (r : Result T Fault) → (IsUtf8 input → ReadsText takes reads_table table_faults input r)
      → ((IsUtf8 input → ⊥) → r ≡ Err not_text) → IfOk r (λ t. Holds input (table (entries t)))
  held input (Ok t) answers other = elim (utf8_or_not input) [
    | inl utf8 ↦ (utf8, read_in input t (answers utf8))
    | inr not ↦ absurd (let wrong : Ok t ≡ Err not_text = other not in cc)
  ]
  held input (Err e) answers other = tt

  -- an error that is no want of memory is one of a text without a document, since every table is taken
  text_refused : (input : List ℕ) (fault : Fault) → ((members : Members) → takes (table members)) → IsUtf8 input
      → fault.kind ≢ out_of_memory → ReadsText takes reads_table table_faults input (Err fault) → IsRefusal input fault
  text_refused input _ taken utf8 kind no_memory = absurd (kind refl)
  text_refused input _ taken utf8 kind (no_document none why) = refused utf8 why
  text_refused input fault taken utf8 kind (not_taken {members = members} document (own, only, one, same)) =
      absurd (kind (ap (λ (f : Fault). f.kind) (same ∙ ap (lined input) (only.taken (taken members)))))

  pub not_held : (input : List ℕ) (r : Result T Fault) → ((members : Members) → takes (table members))
      → (IsUtf8 input → ReadsText takes reads_table table_faults input r) → ((IsUtf8 input → ⊥) → r ≡ Err not_text)
      → IfErr r (λ e. e.kind ≢ out_of_memory → IsRefusal input e)
  not_held input (Ok t) taken answers other = tt
  not_held input (Err e) taken answers other = λ kind. elim (utf8_or_not input) [
    | inl utf8 ↦ text_refused input e taken utf8 kind (answers utf8)
    | inr not ↦ (let is : e ≡ not_text = cc (other not) in subst (IsRefusal input) (sym is) (not_utf8 not))
  ]

-- bytes with such an error have no document
pub none_held : (input : List ℕ) (fault : Fault) → IsRefusal input fault → (tree : Data) → Holds input tree → ⊥
none_held input _ (refused {error = error} _ why) tree (utf8, document) =
    refused_has_no_document input error tree why document
none_held input _ (not_utf8 not) tree (utf8, document) = not utf8
