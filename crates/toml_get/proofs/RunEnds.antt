-- How a run ends, from what each step of it answered.
use Rattle.std.proofs.Common.{◌≡◌, ◌≢◌, ℕ, zero, suc, List, codes, sym, subst, refl, Option}
use Rattle.std.specs.Io.KnownBytes.{Appends}
use Rattle.std.proofs.KnownBytes.{Keeps-refl}
use Rattle.toml_get.specs.Run.{IsSaid, Ends, done, told, not_answered, not_written_all, not_told_all}
use Rattle.toml_get.specs.declared.format.Format.{Format}
use Rattle.toml_streams.specs.Streams.{AppendsFront, TellsFailure}

module _ (format : Format) (name path : List ℕ) (known output output' errors errors' : Option (List ℕ)) where
  pub unanswered : (label : List ℕ) (status : ℕ) → label ≡ name → status ≡ 3 → TellsFailure label errors errors'
      → Ends format name path known output output errors errors' status
  unanswered label status named is failure =
      subst (λ (n : ℕ). Ends format name path known output output errors errors' n) (sym is)
      (not_answered (Keeps-refl output) (subst (λ (l : List ℕ). TellsFailure l errors errors') named failure))

  module _ (text : List ℕ) (status : ℕ) (said : IsSaid format name path known status text) where
    said_zero : status ≡ 0 → IsSaid format name path known 0 text
    said_zero none = subst (λ (n : ℕ). IsSaid format name path known n text) none said

    pub value_written : (piece : List ℕ) → status ≡ 0 → piece ≡ text → Appends output output' piece
        → Ends format name path known output output' errors errors 0
    value_written piece none whole put =
        done (said_zero none) (subst (Appends output output') whole put) (Keeps-refl errors)

    pub value_cut : (piece : List ℕ) (ended : ℕ) → status ≡ 0 → piece ≡ text → AppendsFront output output' piece
        → ended ≡ 3 → TellsFailure (codes "stdout") errors errors'
        → Ends format name path known output output' errors errors' ended
    value_cut piece ended none whole front is failure =
        subst (λ (n : ℕ). Ends format name path known output output' errors errors' n) (sym is)
        (not_written_all (said_zero none) (subst (AppendsFront output output') whole front) failure)

    told_whole : (n : ℕ) → n ≢ 0 → IsSaid format name path known n text → Appends errors errors' text
        → Ends format name path known output output errors errors' n
    told_whole zero some is put = absurd (some refl)
    told_whole (suc n) some is put = told is (Keeps-refl output) put

    pub reason_written : (piece : List ℕ) (ended : ℕ) → status ≢ 0 → piece ≡ text → Appends errors errors' piece
        → ended ≡ status → Ends format name path known output output errors errors' ended
    reason_written piece ended some whole put is =
        subst (λ (n : ℕ). Ends format name path known output output errors errors' n) (sym is)
        (told_whole status some said (subst (Appends errors errors') whole put))

    told_front : (n : ℕ) → n ≢ 0 → IsSaid format name path known n text → AppendsFront errors errors' text
        → Ends format name path known output output errors errors' 3
    told_front zero some is front = absurd (some refl)
    told_front (suc n) some is front = not_told_all is (Keeps-refl output) front

    pub reason_cut : (piece : List ℕ) (ended : ℕ) → status ≢ 0 → piece ≡ text → AppendsFront errors errors' piece
        → ended ≡ 3 → Ends format name path known output output errors errors' ended
    reason_cut piece ended some whole front is =
        subst (λ (n : ℕ). Ends format name path known output output errors errors' n) (sym is)
        (told_front status some said (subst (AppendsFront errors errors') whole front))

pub ruleset run_ends = (unanswered, value_written, value_cut, reason_written, reason_cut)
