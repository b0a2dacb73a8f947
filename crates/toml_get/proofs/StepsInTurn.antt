-- The text of a path, by its steps in turn.
use Rattle.std.proofs.Common.{◌≡◌, ℕ, ◌+◌, ◌<◌, Bool, true, List, ◌++◌, length, drop, get_or, sym, ◌∙◌, ap}
use Rattle.std.proofs.Common.{◌≤◌, append_assoc, append-nil}
use Rattle.std.proofs.lemmas.List.{drop_all}
use Rattle.basic_toml_layout.proofs.DataIsLaidOut.{drop_at}
use Rattle.toml_get.specs.Fronts.{steps_seen, step_text, steps_text}
use Rattle.toml_path.specs.Path.{step_of}
use Rattle.toml_path.specs.declared.path.Step as code

-- a step was appended, and the others are left
pub step_more : (later : Bool) (t t' whole : List ℕ) (steps : List code.Step) (i : ℕ) (step : code.Step)
    → i < length steps → step ≡ get_or steps i step → t' ≡ t ++ step_text later (step_of step)
    → t ++ steps_text later (steps_seen (drop i steps)) ≡ whole
    → t' ++ steps_text true (steps_seen (drop (i + 1) steps)) ≡ whole
step_more later t t' whole steps i step lt read put left =
    let rest : List ℕ = steps_text true (steps_seen (drop (i + 1) steps)) in
    ap (λ z. z ++ rest) put
    ∙ (append_assoc t (step_text later (step_of step)) rest
    ∙ (ap (λ (ss : List code.Step). t ++ steps_text later (steps_seen ss)) (sym (drop_at steps i step lt read)) ∙ left))

-- none is left
pub steps_end : (later : Bool) (t whole : List ℕ) (steps : List code.Step) (i : ℕ) → length steps ≤ i
    → t ++ steps_text later (steps_seen (drop i steps)) ≡ whole → t ≡ whole
steps_end later t whole steps i past left =
    sym (append-nil t)
    ∙ (ap (λ (ss : List code.Step). t ++ steps_text later (steps_seen ss)) (sym (drop_all i steps past)) ∙ left)
