-- How a run ends, from what each step of it answered.
use Rattle.std.proofs.Common.{◌≡◌, ℕ, List, [], codes, sym, ◌∙◌, subst, Option, Some, None, IfSome}
use Rattle.std.specs.Io.KnownBytes.{Appends}
use Rattle.std.proofs.KnownBytes.{Keeps-refl, Appends-nil}
use Rattle.toml_streams.specs.Streams.{AppendsFront, TellsFailure}
use Rattle.toml_json.specs.declared.run.Style.{Style}
use Rattle.toml_json.specs.Run.{IsDue, Ends, done, not_answered, not_written_all, not_told_all}

-- a source that does not tell its bytes promises nothing
module _ (style : Style) (name : List ℕ) (known output output' errors errors' : Option (List ℕ)) where
  pub unanswered : (label : List ℕ) (status : ℕ) → label ≡ name → status ≡ 3 → TellsFailure label errors errors'
      → IfSome known (λ input. Ends style name input output output errors errors' status)
  unanswered label status named is told = go known
    where
      go : (o : Option (List ℕ)) → IfSome o (λ input. Ends style name input output output errors errors' status)
      go None = tt
      go (Some input) = subst (λ (n : ℕ). Ends style name input output output errors errors' n) (sym is)
          (not_answered (Keeps-refl output) (subst (λ (l : List ℕ). TellsFailure l errors errors') named told))

  module _ (label items bytes text : List ℕ) (named : label ≡ name) (read : IfSome known (λ left. items ≡ left))
      (same : bytes ≡ items) where
    for_known : (P : List ℕ → List ℕ → Type 0) → P label bytes → IfSome known (P name)
    for_known P holds = go known read
      where
        go : (o : Option (List ℕ)) → IfSome o (λ left. items ≡ left) → IfSome o (P name)
        go None all = tt
        go (Some input) all = subst (λ (l : List ℕ). P l input) named (subst (P label) (same ∙ all) holds)

    pub json_written : (piece : List ℕ) → IsDue style label bytes 0 text [] → piece ≡ text
        → Appends output output' piece → IfSome known (λ input. Ends style name input output output' errors errors 0)
    json_written piece due whole put = for_known (λ l input. Ends style l input output output' errors errors 0)
        (done due (subst (Appends output output') whole put) (Appends-nil errors))

    pub json_cut : (piece : List ℕ) (status : ℕ) → IsDue style label bytes 0 text [] → piece ≡ text
        → AppendsFront output output' piece → status ≡ 3 → TellsFailure (codes "stdout") errors errors'
        → IfSome known (λ input. Ends style name input output output' errors errors' status)
    json_cut piece status due whole front is told =
        for_known (λ l input. Ends style l input output output' errors errors' status)
        (subst (λ (n : ℕ). Ends style label bytes output output' errors errors' n) (sym is)
        (not_written_all due (subst (AppendsFront output output') whole front) told))

    pub refusal_written : (piece : List ℕ) → IsDue style label bytes 1 [] text → piece ≡ text
        → Appends errors errors' piece → IfSome known (λ input. Ends style name input output output errors errors' 1)
    refusal_written piece due whole put = for_known (λ l input. Ends style l input output output errors errors' 1)
        (done due (Appends-nil output) (subst (Appends errors errors') whole put))

    pub refusal_cut : (piece : List ℕ) → IsDue style label bytes 1 [] text → piece ≡ text
        → AppendsFront errors errors' piece
        → IfSome known (λ input. Ends style name input output output errors errors' 3)
    refusal_cut piece due whole front = for_known (λ l input. Ends style l input output output errors errors' 3)
        (not_told_all due (Keeps-refl output) (subst (AppendsFront errors errors') whole front))

pub ruleset run_ends = (unanswered, json_written, json_cut, refusal_written, refusal_cut)
