-- What `to_string` answers for a type that gives up only once a call was refused, and for a string.
use Rattle.std.proofs.Common.{◌≡◌, ℕ, List, [], ◌∷◌, codes, sym, ◌∙◌, ap, subst, Result, Ok, Err, IfErr, ◌⊎◌, inl, inr}
use Rattle.std.proofs.Common.{refl, string_bytes, String}
use Rattle.std.proofs.lemmas.Bool.{false≢true}
use Rattle.std.specs.Prelude.{IsOk, OnOk, ⊤}
use Rattle.std.specs.declared.alloc.Global.{Global}
use Rattle.basic_toml_write.specs.Error.{IsCustom}
use Rattle.basic_toml_write.specs.declared.error.WriteError.{WriteError}
use Rattle.basic_toml_write.proofs.OutcomeIsLayout.{outcome-layout}
use Rattle.basic_toml.specs.Fault.{Fault, want_of_memory, without_offset, unsupported_type}
use Rattle.basic_toml.specs.Items.{Item, a_scalar}
use Rattle.basic_toml.specs.Layout.{layout}
use Rattle.basic_toml.specs.Nesting.{nesting_limit}
use Rattle.basic_toml.specs.Rules as rules
use Rattle.basic_toml.specs.Calls.{outcome}
use Rattle.basic_toml.specs.Ser.{Writes, IsTextOf, IsOwnFault, IsFirstFault, CallsGrow, fault_kind}
use Rattle.basic_toml.specs.Serializer.{GivesUpAfter, NoFault, ran}
use Rattle.basic_toml.specs.Written.{refused, text}

refused_or_not : {A E : Type 0} (r : Result A E) → OnOk r ⊥ → IsOk r → ⊥
refused_or_not (Ok x) never ok = never
refused_or_not (Err e) never ok = absurd (cc)

-- a type gives up only once a call was refused
module _ (G : List Item → WriteError → Type 0)
    (late : (sent : List Item) (e : WriteError) → G sent e → OnOk (ran sent) ⊥) where
  never_own : (f : Fault) → IsOwnFault G f → ⊥
  never_own f own = refused_or_not (ran own.met.sent) (late own.met.sent own.own own.met.allowed) own.met.unrefused

  met_first : (calls : List Item) (f : Fault) → (f ≡ want_of_memory) ⊎ (IsOwnFault G f ⊎ IsFirstFault calls f)
      → (f ≡ want_of_memory) ⊎ IsFirstFault calls f
  met_first calls f (inl memory) = inl memory
  met_first calls f (inr (inl own)) = absurd (never_own f own)
  met_first calls f (inr (inr first)) = inr first

  pub first_error : (calls : List Item) (r : Result (String Global) Fault) → Writes calls G r
      → IfErr r (λ f. (f ≡ want_of_memory) ⊎ IsFirstFault calls f)
  first_error calls (Ok s) w = tt
  first_error calls (Err f) w = met_first calls f w.refused

-- a type that passes over the error of its call, and answers one of its own
abbrev unit : List Item
unit = a_scalar refused ∷ []

abbrev CarelessGivesUp : List Item → WriteError → Type 0
CarelessGivesUp = GivesUpAfter unit (IsCustom (codes "no"))

gives_up_late : (sent : List Item) (e : WriteError) → CarelessGivesUp sent e → OnOk (ran sent) ⊥
gives_up_late sent e g = subst (λ (l : List Item). OnOk (ran l) ⊥) (sym g.at) tt

abbrev unit_refused : Result (List ℕ) rules.CallFault
unit_refused = Err rules.unsupported_type

-- calls that come to that error
module _ (calls : List Item) (is : outcome nesting_limit calls ≡ unit_refused) where
  no_text : (bytes : List ℕ) → IsTextOf calls bytes → ⊥
  no_text bytes t =
      let e : outcome nesting_limit calls ≡ Ok (layout t.value) =
      outcome-layout nesting_limit calls t.value t.spelled t.supported in
      absurd (cc)

  named : (f : Fault) → IsFirstFault calls f → f ≡ without_offset unsupported_type
  named f first =
      let met : outcome nesting_limit calls ≡ Err first.error = first.met in
      let same : rules.unsupported_type ≡ first.error = cc in
      first.named ∙ ap (λ e. without_offset (fault_kind e)) (sym same)

abbrev an_error : Fault → Result (String Global) Fault
an_error f = Err f

answered : (f : Fault) → (f ≡ want_of_memory) ⊎ IsFirstFault unit f
    → (an_error f ≡ Err want_of_memory) ⊎ (an_error f ≡ Err (without_offset unsupported_type))
answered f (inl memory) = inl (ap an_error memory)
answered f (inr first) = inr (ap an_error (named unit refl f first))

pub careless_text : (r : Result (String Global) Fault) → Writes unit CarelessGivesUp r
    → (r ≡ Err want_of_memory) ⊎ (r ≡ Err (without_offset unsupported_type))
careless_text (Ok s) w = absurd (no_text unit refl (string_bytes s) w.text)
careless_text (Err f) w = answered f (first_error CarelessGivesUp gives_up_late unit (Err f) w)

-- a string alone, which grows nothing
abbrev words_alone : List ℕ → List Item
words_alone t = a_scalar (text t) ∷ []

pub words_refused : (t : List ℕ) (r : Result (String Global) Fault) → Writes (words_alone t) NoFault r
    → (⊤ → IfErr r (CallsGrow (words_alone t))) → r ≡ Err (without_offset unsupported_type)
words_refused t (Ok s) w grown = absurd (no_text (words_alone t) refl (string_bytes s) w.text)
words_refused t (Err f) w grown = go w.refused
  where
    go : (f ≡ want_of_memory) ⊎ (IsOwnFault NoFault f ⊎ IsFirstFault (words_alone t) f)
        → an_error f ≡ Err (without_offset unsupported_type)
    go (inl memory) = absurd (false≢true (grown tt memory))
    go (inr (inl own)) = absurd own.met.allowed
    go (inr (inr first)) = ap an_error (named (words_alone t) refl f first)
