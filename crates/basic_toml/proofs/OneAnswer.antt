-- Each of writing, the round trip and reading into a table has one answer.
use Rattle.std.proofs.Common.{◌≡◌, ◌⊎◌, ℕ, List, length, sym, ap, ◌∙◌, refl, subst, Result, Ok, Err}
use Rattle.std.proofs.Common.{inl, inr, arith}
use Rattle.basic_toml_emit.specs.Items.{Item}
use Rattle.basic_toml_emit.specs.Rules as rules
use Rattle.basic_toml_write.specs.declared.error.WriteError.{WriteError}
use Rattle.basic_toml_error.specs.Fault.{Fault, want_of_memory, without_offset}
use Rattle.basic_toml_error.specs.ReadFaults.{fault_in, lined}
use Rattle.basic_toml_tokens.specs.Text.{folded}
use Rattle.basic_toml_grammar.specs.Faults as read
use Rattle.basic_toml_value.specs.Nesting.{nesting_limit}
use Rattle.basic_toml_grammar.specs.Sections.{Section}
use Rattle.basic_toml_grammar.specs.GrammarFaults.{fault_at}
use Rattle.basic_toml_grammar.proofs.Nesting.DeepStopsAreOne.{deep_stops_are_one}
use Rattle.basic_toml_grammar.proofs.LawsHold.{unambiguous, keyed}
use Rattle.basic_toml_grammar.proofs.Viable.FaultsAreOne.{grammar_faults_are_one}
use Rattle.basic_toml_tree.specs.FirstStop.{SectionsFault}
use Rattle.basic_toml_tree.proofs.SectionsFaultIsOne.{sections_fault_is_one}
use Rattle.basic_toml.specs.Reading.{value_read, no_memory, no_document, not_taken, IsTextFault, outside, deep, no_tree}
use Rattle.basic_toml.specs.Ser.{IsFirstFault, IsOwnFault, fault_kind}
use Rattle.basic_toml.specs.OneAnswer.{IsOpen, WritesOneAnswer, RoundTripsToOneAnswer, ReadingHasOneTable}
use Rattle.basic_toml.specs.OneAnswer.{ReadingHasOneError}
use Rattle.basic_toml.proofs.TextHasOneDocument.{one_document}

module _ (calls : List Item) (gives_up : List Item → WriteError → Type 0) where
  same_error : (d e : rules.CallFault) → ◌≡◌ {A = Result (List ℕ) rules.CallFault} (Err d) (Err e) → d ≡ e
  same_error d e same = cc

  -- the first error that calls meet is one
  one_first : {f g : Fault} → IsFirstFault calls f → IsFirstFault calls g → f ≡ g
  one_first p q = p.named
      ∙ ap (λ (e : rules.CallFault). without_offset (fault_kind e)) (same_error p.error q.error (sym p.met ∙ q.met))
      ∙ sym q.named

  -- errors that are want of memory, the type's own, or the first one, agree
  errors_agree : {f g : Fault} → (f ≡ want_of_memory) ⊎ (IsOwnFault gives_up f ⊎ IsFirstFault calls f)
      → (g ≡ want_of_memory) ⊎ (IsOwnFault gives_up g ⊎ IsFirstFault calls g)
      → IsOpen gives_up f ⊎ (IsOpen gives_up g ⊎ (f ≡ g))
  errors_agree (inl m) q = inl (inl m)
  errors_agree (inr (inl own)) q = inl (inr own)
  errors_agree (inr (inr p)) (inl m) = inr (inl (inl m))
  errors_agree (inr (inr p)) (inr (inl own)) = inr (inl (inr own))
  errors_agree (inr (inr p)) (inr (inr q)) = inr (inr (one_first p q))

  swapped : {f : Fault} → IsOwnFault gives_up f ⊎ (f ≡ want_of_memory) → IsOpen gives_up f
  swapped (inl own) = inr own
  swapped (inr m) = inl m

  pub writing : WritesOneAnswer calls gives_up
  writing (Ok s) (Ok t) p q = p.text.laid_out ∙ sym (q.succeeds p.text.value p.text.spelled p.text.supported)
  writing (Ok s) (Err f) p q = swapped (q.succeeds p.text.value p.text.spelled p.text.supported)
  writing (Err f) (Ok t) p q = swapped (p.succeeds q.text.value q.text.spelled q.text.supported)
  writing (Err f) (Err g) p q = errors_agree p.refused q.refused

  pub round : RoundTripsToOneAnswer calls gives_up
  round (Ok s) (Ok t) p q = p.table.whole ∙ sym (q.succeeds p.table.value p.table.spelled p.table.supported)
  round (Ok s) (Err f) p q = swapped (q.succeeds p.table.value p.table.spelled p.table.supported)
  round (Err f) (Ok t) p q = swapped (p.succeeds q.table.value q.table.spelled q.table.supported)
  round (Err f) (Err g) p q = errors_agree p.refused q.refused

-- the errors of a text are one
module _ (text : List ℕ) where
  one_error : (e f : read.Fault) → IsTextFault text e → IsTextFault text f → e ≡ f
  one_error e f (outside p w) (outside q v) =
      grammar_faults_are_one (folded text) (length text) e f p q
  one_error e _ (outside p w) (deep {offset = o} q) = absurd (w o q.met)
  one_error e f (outside p w) (no_tree {sections = sections} grammar low why) = absurd (p.outside sections grammar)
  one_error _ f (deep {offset = o} p) (outside q v) = absurd (v o p.met)
  one_error _ _ (deep {offset = o} p) (deep {offset = q} d) =
      ap (λ (o : ℕ). fault_at read.nested_too_deeply o)
      (deep_stops_are_one nesting_limit (folded text) o q p.met d.met)
  one_error _ f (deep p) (no_tree {sections = sections} grammar low why) =
      absurd (omega (arith, low, p.passes sections grammar))
  one_error e f (no_tree {sections = sections} grammar low why) (outside q v) =
      absurd (q.outside sections grammar)
  one_error e _ (no_tree {sections = sections} grammar low why) (deep q) =
      absurd (omega (arith, low, q.passes sections grammar))
  one_error e f (no_tree {sections = ss} g low p) (no_tree {sections = ts} h under q) =
      let same : ts ≡ ss = unambiguous _ (folded text) ts ss h g in
      sections_fault_is_one ss e f (keyed (folded text) ss g) p
      (subst (λ (us : List Section). SectionsFault us f) same q)

pub reading_has_one_table : ReadingHasOneTable
reading_has_one_table text t (Ok u) (value_read d r) (value_read e s) = sym r ∙ one_document text _ _ d e ∙ s
reading_has_one_table text t (Err f) (value_read d r) no_memory = refl
reading_has_one_table text t (Err f) (value_read d r) (no_document none _) = absurd (none _ d)
reading_has_one_table text t (Err f) (value_read d r) (not_taken e (own, only, one, same)) =
    same ∙ ap (lined text) (only.taken refl)

pub reading_has_one_error : ReadingHasOneError
reading_has_one_error text f g no_memory q = inl refl
reading_has_one_error text f g (not_taken e (own, only, one, same)) q =
    inl (same ∙ ap (lined text) (only.taken refl))
reading_has_one_error text f g (no_document none p) no_memory = inr (inl refl)
reading_has_one_error text f g (no_document none p) (not_taken e (own, only, one, same)) =
    inr (inl (same ∙ ap (lined text) (only.taken refl)))
reading_has_one_error text f g (no_document {error = d} none p) (no_document {error = e} other q) =
    inr (inr (ap (fault_in text) (one_error text d e p q)))
