-- How a run ends, from what each step of it answered.
use Rattle.std.proofs.Common.{◌≡◌, ◌≢◌, ℕ, zero, suc, List, ◌++◌, codes, refl, sym, ◌∙◌, subst, Option, Some, None, IfSome}
use Rattle.std.specs.Io.KnownBytes.{Appends}
use Rattle.std.proofs.KnownBytes.{Keeps-refl}
use Rattle.toml_answer.specs.Due as answer
use Rattle.toml_answer.specs.declared.Form.{Form}
use Rattle.toml_streams.specs.Streams.{AppendsFront, TellsFailure}
use Rattle.toml_tidy.specs.Run.{IsDue, tidied, error, Ends, done, not_answered, not_written_all}

pub tidied_text : (form : Form) (input text : List ℕ) (place : Option (ℕ × ℕ)) (status : ℕ)
    → answer.IsDue form input status text place → status ≡ 0 → IsDue form input status text
tidied_text form input text place status due is =
    subst (λ (n : ℕ). IsDue form input n text) (sym is)
    (tidied (subst (λ (n : ℕ). answer.IsDue form input n text place) is due))

pub error_text : (form : Form) (input text : List ℕ) (place : Option (ℕ × ℕ)) (status : ℕ)
    → answer.IsDue form input status text place → status ≢ 0 → IsDue form input status (text ++ codes "\n")
error_text form input text place zero due not = absurd (not refl)
error_text form input text place (suc status) due not = error due

-- a source that does not tell its bytes promises nothing
module _ (form : Form) (name : List ℕ) (known output output' errors errors' : Option (List ℕ)) where
  for_known : (items bytes : List ℕ) → IfSome known (λ left. items ≡ left) → bytes ≡ items
      → (P : List ℕ → Type 0) → P bytes → IfSome known P
  for_known items bytes read same P holds = go known read
    where
      go : (o : Option (List ℕ)) → IfSome o (λ left. items ≡ left) → IfSome o P
      go None all = tt
      go (Some input) all = subst P (same ∙ all) holds

  pub unanswered : (label : List ℕ) (status : ℕ) → label ≡ name → status ≡ 3 → TellsFailure label errors errors'
      → IfSome known (λ input. Ends form name input output output errors errors' status)
  unanswered label status named is told = go known
    where
      go : (o : Option (List ℕ)) → IfSome o (λ input. Ends form name input output output errors errors' status)
      go None = tt
      go (Some input) = subst (λ (n : ℕ). Ends form name input output output errors errors' n) (sym is)
          (not_answered (Keeps-refl output) (subst (λ (l : List ℕ). TellsFailure l errors errors') named told))

  pub all_written : (items bytes text piece : List ℕ) (status : ℕ) → IfSome known (λ left. items ≡ left)
      → bytes ≡ items → IsDue form bytes status text → piece ≡ text → Appends output output' piece
      → IfSome known (λ input. Ends form name input output output' errors errors status)
  all_written items bytes text piece status read same due whole appends =
      for_known items bytes read same (λ input. Ends form name input output output' errors errors status)
      (done due (subst (Appends output output') whole appends) (Keeps-refl errors))

  pub front_written : (items bytes text piece : List ℕ) (due_status status : ℕ)
      → IfSome known (λ left. items ≡ left) → bytes ≡ items → IsDue form bytes due_status text → piece ≡ text
      → AppendsFront output output' piece → status ≡ 3 → TellsFailure (codes "stdout") errors errors'
      → IfSome known (λ input. Ends form name input output output' errors errors' status)
  front_written items bytes text piece due_status status read same due whole front is told =
      for_known items bytes read same (λ input. Ends form name input output output' errors errors' status)
      (subst (λ (n : ℕ). Ends form name bytes output output' errors errors' n) (sym is)
      (not_written_all due (subst (AppendsFront output output') whole front) told))

pub ruleset run_ends = (unanswered, all_written, front_written)
