-- What is due, from what reading and writing answered.
use Rattle.std.proofs.Common.{◌≡◌, ◌≢◌, ◌⊎◌, ◌≤◌, inl, inr, ℕ, Bool, true, false, List, [], ◌∷◌, ◌++◌, map, flat_map}
use Rattle.std.proofs.Common.{IsUtf8, refl, ap, sym, ◌∙◌, subst, Result, Ok, Err, Option, None, IfOk, string_bytes}
use Rattle.std.specs.Str.{is_utf8}
use Rattle.std.proofs.lemmas.Str.{IsUtf8-from_is_utf8, is_utf8-from_IsUtf8}
use Rattle.basic_toml.specs.Data.{Data, Members, members_of, table}
use Rattle.basic_toml.specs.Document.{IsDocument}
use Rattle.basic_toml.specs.Calls.{outcome}
use Rattle.basic_toml.specs.Nesting.{nesting_limit}
use Rattle.basic_toml.specs.Fault.{Fault, out_of_memory, want_of_memory, not_text}
use Rattle.basic_toml.specs.FaultText.{fault_text}
use Rattle.basic_toml.specs.Items.{Item, field}
use Rattle.basic_toml.specs.ReadFaults.{lined}
use Rattle.basic_toml.specs.Reading.{ReadsText, value_read, no_memory, no_document, not_taken}
use Rattle.basic_toml.specs.TypeFaults.{table_faults}
use Rattle.basic_toml.specs.tokens.Text.{folded}
use Rattle.basic_toml.specs.Impls.{data_calls, members_calls}
use Rattle.basic_toml.specs.Ser.{IsDataText, IsFirstFault}
use Rattle.toml_answer.specs.declared.Answer.{Answer}
use Rattle.toml_answer.specs.declared.Form.{Form}
use Rattle.toml_answer.specs.Due.{IsDue, of_document, refused, not_utf8, IsWriting, writable, unwritable}
use Rattle.toml_answer.specs.Due.{IsTidied, IsWritten}
use Rattle.basic_toml.specs.DataDepth.{depth}
use Rattle.basic_toml.proofs.DocumentsFit.{document_fits}

-- bytes are UTF-8, or are not
utf8_or_not : (bytes : List ℕ) → IsUtf8 bytes ⊎ (IsUtf8 bytes → ⊥)
utf8_or_not bytes = go (is_utf8 bytes) refl
  where
    go : (b : Bool) → is_utf8 bytes ≡ b → IsUtf8 bytes ⊎ (IsUtf8 bytes → ⊥)
    go true e = inl (IsUtf8-from_is_utf8 bytes e)
    go false e = inr (λ u. let other : is_utf8 bytes ≡ true = is_utf8-from_IsUtf8 bytes u in cc)

-- the calls of pairs are those of their data
pub pairs_calls : {V : Type 0} (view : V → Data) (pairs : List (List ℕ × V))
    → flat_map (λ p. field p.0 ∷ data_calls (view p.1)) pairs
    ≡ members_calls (members_of (map (λ p. (p.0, view p.1)) pairs))
pairs_calls view [] = refl
pairs_calls view (p ∷ pairs) =
    ap (λ (is : List Item). field p.0 ∷ (data_calls (view p.1) ++ is)) (pairs_calls view pairs)

-- an error's answer is due where it is no want of memory
pub error_due : (Due : ℕ → List ℕ → Option (ℕ × ℕ) → Type 0) {E : Type 0} (status : ℕ) (fault : Fault)
    (result : Result Answer E) → IfOk result (λ a. a.status ≡ status)
    → IfOk result (λ a. string_bytes a.text ≡ fault_text fault) → IfOk result (λ a. a.line_col ≡ fault.line_column)
    → IfOk result (λ a. fault.kind ≢ out_of_memory)
    → (fault.kind ≢ out_of_memory → Due status (fault_text fault) fault.line_column)
    → IfOk result (λ a. Due a.status (string_bytes a.text) a.line_col)
error_due Due status fault (Ok a) is says stands kind due =
    subst (λ (n : ℕ). Due n (string_bytes a.text) a.line_col) (sym is)
    (subst (λ (t : List ℕ). Due status t a.line_col) (sym says)
    (subst (Due status (fault_text fault)) (sym stands) (due kind)))
error_due Due status fault (Err e) is says stands kind due = tt

-- what is due of a text is due of the answer that it was written
pub tidied_due : (Due : ℕ → List ℕ → Option (ℕ × ℕ) → Type 0) (text : List ℕ) (a : Answer)
    → IsTidied text a.status (string_bytes a.text) a.line_col → Due 0 text None
    → Due a.status (string_bytes a.text) a.line_col
tidied_due Due text a is due =
    let (status, says, place) = is in
    subst (λ (n : ℕ). Due n (string_bytes a.text) a.line_col) (sym status)
    (subst (λ (t : List ℕ). Due 0 t a.line_col) (sym says) (subst (Due 0 text) (sym place) due))

-- a text that is that of the data is due
pub text_due : (d : Data) (text : List ℕ) → IsDataText d text → IsWriting d 0 text None
text_due d text is = subst (λ (s : List ℕ). IsWriting d 0 s None) (sym is.laid_out) (writable is.supported)

-- an error of writing, that is no want of memory and none of the type's own, is the first that the calls meet
pub unwritable_due : (d : Data) (fault : Fault) (calls : List Item) (own : Type 0) → calls ≡ data_calls d
    → (own → ⊥) → (fault ≡ want_of_memory) ⊎ (own ⊎ IsFirstFault calls fault) → fault.kind ≢ out_of_memory
    → IsWriting d 2 (fault_text fault) fault.line_column
unwritable_due d fault calls own made never (inl memory) kind =
    absurd (kind (ap (λ (f : Fault). f.kind) memory))
unwritable_due d fault calls own made never (inr (inl up)) kind = absurd (never up)
unwritable_due d fault calls own made never (inr (inr r)) kind =
    subst (λ (f : Fault). IsWriting d 2 (fault_text f) f.line_column) (sym r.named)
    (unwritable (subst (λ (is : List Item). outcome nesting_limit is ≡ Err r.error) made r.met))

-- a type T that is read from tables, all of which it takes, and shows its members
module _ {T : Type 0} (takes : Data → Type 0) (entries : T → Members) where
  abbrev reads_table : Data → T → Type 0
  reads_table d t = d ≡ table (entries t)

  document_of_value : (input : List ℕ) (t : T) → ReadsText takes reads_table table_faults input (Ok t)
      → IsDocument (folded input) (table (entries t))
  document_of_value input t (value_read document same) = subst (IsDocument (folded input)) same document

  read_as : (input : List ℕ) (t : T) → (IsUtf8 input → ReadsText takes reads_table table_faults input (Ok t))
      → ((IsUtf8 input → ⊥) → Ok t ≡ Err not_text) → IsUtf8 input × IsDocument (folded input) (table (entries t))
  read_as input t text other = elim (utf8_or_not input) [
    | inl utf8 ↦ (utf8, document_of_value input t (text utf8))
    | inr not ↦ absurd (let wrong : Ok t ≡ Err not_text = other not in cc)
  ]

  -- what was read is nested within the limit
  pub table_fits : (input : List ℕ) (t : T)
      → (IsUtf8 input → ReadsText takes reads_table table_faults input (Ok t))
      → ((IsUtf8 input → ⊥) → Ok t ≡ Err not_text) → depth (table (entries t)) ≤ nesting_limit
  table_fits input t answers other =
      let (utf8, document) = read_as input t answers other in
      document_fits (folded input) (table (entries t)) document

  -- what came of writing what was read is due
  pub writing_due : {E : Type 0} (form : Form) (input : List ℕ) (t : T) (result : Result Answer E)
      → (IsUtf8 input → ReadsText takes reads_table table_faults input (Ok t)) → ((IsUtf8 input → ⊥) → Ok t ≡ Err not_text)
      → IfOk result (λ a. IsWritten form (entries t) a.status (string_bytes a.text) a.line_col)
      → IfOk result (λ a. IsDue form input a.status (string_bytes a.text) a.line_col)
  writing_due form input t (Ok a) answers other writing =
      let (utf8, document) = read_as input t answers other in
      of_document utf8 document writing
  writing_due form input t (Err e) answers other writing = tt

  -- an error that is no want of memory is one of a text without a document, since every table is taken
  text_refused : (form : Form) (input : List ℕ) (fault : Fault) → ((members : Members) → takes (table members))
      → IsUtf8 input → fault.kind ≢ out_of_memory → ReadsText takes reads_table table_faults input (Err fault)
      → IsDue form input 1 (fault_text fault) fault.line_column
  text_refused form input _ taken utf8 kind no_memory = absurd (kind refl)
  text_refused form input _ taken utf8 kind (no_document none why) = refused utf8 why
  text_refused form input fault taken utf8 kind (not_taken {members = members} document (own, only, one, same)) =
      absurd (kind (ap (λ (f : Fault). f.kind) (same ∙ ap (lined input) (only.taken (taken members)))))

  pub refused_due : (form : Form) (input : List ℕ) (fault : Fault) → ((members : Members) → takes (table members))
      → (IsUtf8 input → ReadsText takes reads_table table_faults input (Err fault))
      → ((IsUtf8 input → ⊥) → ◌≡◌ {A = Result T Fault} (Err fault) (Err not_text))
      → fault.kind ≢ out_of_memory → IsDue form input 1 (fault_text fault) fault.line_column
  refused_due form input fault taken answers other kind = elim (utf8_or_not input) [
    | inl utf8 ↦ text_refused form input fault taken utf8 kind (answers utf8)
    | inr not ↦ (let is : fault ≡ not_text = cc (other not) in
        subst (λ (f : Fault). IsDue form input 1 (fault_text f) f.line_column) (sym is) (not_utf8 not))
  ]
