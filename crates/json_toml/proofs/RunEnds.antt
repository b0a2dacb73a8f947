-- How a run ends, from what each step of it answered.
use Rattle.std.proofs.Common.{◌≡◌, ◌≢◌, ℕ, zero, suc, List, codes, sym, ◌∙◌, subst, refl, Option, Some, None, IfSome}
use Rattle.std.specs.Io.KnownBytes.{Appends}
use Rattle.std.proofs.KnownBytes.{Keeps-refl}
use Rattle.toml_streams.specs.Streams.{AppendsFront, TellsFailure}
use Rattle.toml_json_text.specs.declared.form.Form.{Form}
use Rattle.json_toml.specs.Run.{IsDue, Ends, written, refused, not_answered, not_written_all, not_told_all}

-- a source that does not tell its bytes promises nothing
module _ (form : Form) (name : List ℕ) (known output output' errors errors' : Option (List ℕ)) where
  pub unanswered : (label : List ℕ) (status : ℕ) → label ≡ name → status ≡ 3 → TellsFailure label errors errors'
      → IfSome known (λ input. Ends form name input output output errors errors' status)
  unanswered label status named is told = go known
    where
      go : (o : Option (List ℕ)) → IfSome o (λ input. Ends form name input output output errors errors' status)
      go None = tt
      go (Some input) = subst (λ (n : ℕ). Ends form name input output output errors errors' n) (sym is)
          (not_answered (Keeps-refl output) (subst (λ (l : List ℕ). TellsFailure l errors errors') named told))

  module _ (label items bytes text : List ℕ) (status : ℕ) (named : label ≡ name)
      (read : IfSome known (λ left. items ≡ left)) (same : bytes ≡ items) (due : IsDue form label bytes status text)
    where
      for_known : (P : List ℕ → List ℕ → Type 0) → P label bytes → IfSome known (P name)
      for_known P holds = go known read
        where
          go : (o : Option (List ℕ)) → IfSome o (λ left. items ≡ left) → IfSome o (P name)
          go None all = tt
          go (Some input) all = subst (λ (l : List ℕ). P l input) named (subst (P label) (same ∙ all) holds)

      due_zero : status ≡ 0 → IsDue form label bytes 0 text
      due_zero none = subst (λ (n : ℕ). IsDue form label bytes n text) none due

      pub toml_written : (piece : List ℕ) → status ≡ 0 → piece ≡ text → Appends output output' piece
          → IfSome known (λ input. Ends form name input output output' errors errors 0)
      toml_written piece none whole put = for_known (λ l input. Ends form l input output output' errors errors 0)
          (written (due_zero none) (subst (Appends output output') whole put) (Keeps-refl errors))

      pub toml_cut : (piece : List ℕ) (ended : ℕ) → status ≡ 0 → piece ≡ text → AppendsFront output output' piece
          → ended ≡ 3 → TellsFailure (codes "stdout") errors errors'
          → IfSome known (λ input. Ends form name input output output' errors errors' ended)
      toml_cut piece ended none whole front is told =
          for_known (λ l input. Ends form l input output output' errors errors' ended)
          (subst (λ (n : ℕ). Ends form label bytes output output' errors errors' n) (sym is)
          (not_written_all (due_zero none) (subst (AppendsFront output output') whole front) told))

      refusal_ends : (n : ℕ) → n ≢ 0 → IsDue form label bytes n text → Appends errors errors' text
          → Ends form label bytes output output errors errors' n
      refusal_ends zero some is put = absurd (some refl)
      refusal_ends (suc n) some is put = refused is (Keeps-refl output) put

      pub refusal_written : (piece : List ℕ) → status ≢ 0 → piece ≡ text → Appends errors errors' piece
          → IfSome known (λ input. Ends form name input output output errors errors' status)
      refusal_written piece some whole put =
          for_known (λ l input. Ends form l input output output errors errors' status)
          (refusal_ends status some due (subst (Appends errors errors') whole put))

      refusal_stops : (n : ℕ) → n ≢ 0 → IsDue form label bytes n text → AppendsFront errors errors' text
          → Ends form label bytes output output errors errors' 3
      refusal_stops zero some is front = absurd (some refl)
      refusal_stops (suc n) some is front = not_told_all is (Keeps-refl output) front

      pub refusal_cut : (piece : List ℕ) → status ≢ 0 → piece ≡ text → AppendsFront errors errors' piece
          → IfSome known (λ input. Ends form name input output output errors errors' 3)
      refusal_cut piece some whole front = for_known (λ l input. Ends form l input output output errors errors' 3)
          (refusal_stops status some due (subst (AppendsFront errors errors') whole front))

pub ruleset run_ends = (unanswered, toml_written, toml_cut, refusal_written, refusal_cut)
