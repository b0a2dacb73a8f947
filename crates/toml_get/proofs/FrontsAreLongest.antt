-- The longest front of a path, step by step.
use Rattle.std.proofs.Common.{◌≡◌, ℕ, zero, suc, ◌<◌, ◌≤◌, List, [], ◌∷◌, length, take, Option, Some, None, refl}
use Rattle.std.proofs.Common.{Bool, true, false, ltb, ap, arith, sym, ◌∙◌, subst}
use Rattle.std.proofs.lemmas.Bool.{ltb-true, ltb-false}
use Rattle.std.proofs.Common.{◌≢◌, ◌++◌, codes, Result, Ok, Err, IfOk, string_bytes, String, Global}
use Rattle.std.proofs.lemmas.List.{length-map, take-map, take_all}
use Rattle.std.specs.Option.{option_and_then}
use Rattle.basic_toml_value.specs.Data.{Data}
use Rattle.toml_get.specs.Fronts.{steps_seen, path_text, there_text, IsLongestFront}
use Rattle.toml_path.specs.Find.{after, data_at}
use Rattle.toml_path.specs.Path.{Step, step_of}
use Rattle.toml_path.specs.declared.path.Step as code

no_steps : (d : Data) → IsLongestFront d [] 0
no_steps d = record {
  is_front = omega arith;
  stands = (d, refl);
  no_longer = λ m over within. absurd (omega arith);
}

pub no_steps_left : (d : Data) (steps : List code.Step) → length steps ≡ 0 → IsLongestFront d (steps_seen steps) 0
no_steps_left d [] none = no_steps d
no_steps_left d (step ∷ steps) none = absurd (omega arith)

stopped_here : (d : Data) (step : Step) (steps : List Step) → after d step ≡ None → IsLongestFront d (step ∷ steps) 0
stopped_here d step steps e = record { is_front = omega arith; stands = (d, refl); no_longer = go }
  where
    go : (m : ℕ) → 0 < m → m ≤ length (step ∷ steps) → data_at d (take m (step ∷ steps)) ≡ None
    go zero over within = absurd (omega arith)
    go (suc m) over within = ap (option_and_then (λ next. data_at next (take m steps))) e

one_further : (d next : Data) (step : Step) (steps : List Step) (n : ℕ) → after d step ≡ Some next
    → IsLongestFront next steps n → IsLongestFront d (step ∷ steps) (suc n)
one_further d next step steps n e front = record {
  is_front = let within = front.is_front in omega arith;
  stands = (front.stands.0, ap (option_and_then (λ x. data_at x (take n steps))) e ∙ front.stands.1);
  no_longer = go;
}
  where
    go : (m : ℕ) → suc n < m → m ≤ length (step ∷ steps) → data_at d (take m (step ∷ steps)) ≡ None
    go zero over within = absurd (omega arith)
    go (suc m) over within =
        ap (option_and_then (λ x. data_at x (take m steps))) e
        ∙ front.no_longer m (omega arith) (omega arith)

-- a single step
one_ahead : (d : Data) (step : Step) → data_at d (step ∷ []) ≡ after d step
one_ahead d step = go (after d step)
  where
    go : (o : Option Data) → option_and_then (λ next. data_at next []) o ≡ o
    go None = refl
    go (Some next) = refl

-- in the code's steps
module _ (d : Data) (steps others : List code.Step) (first : code.Step) (split : steps ≡ first ∷ others) where
  ahead : after d (step_of first) ≡ data_at d (steps_seen (take 1 steps))
  ahead = sym (ap (λ (ss : List code.Step). data_at d (steps_seen (take 1 ss))) split ∙ one_ahead d (step_of first))

  pub front_stopped : data_at d (steps_seen (take 1 steps)) ≡ None → IsLongestFront d (steps_seen steps) 0
  front_stopped e = subst (λ (ss : List code.Step). IsLongestFront d (steps_seen ss) 0) (sym split)
      (stopped_here d (step_of first) (steps_seen others) (ahead ∙ e))

  pub front_further : (next : Data) (n : ℕ) → data_at d (steps_seen (take 1 steps)) ≡ Some next
      → IsLongestFront next (steps_seen others) n → IsLongestFront d (steps_seen steps) (suc n)
  front_further next n e front = subst (λ (ss : List code.Step). IsLongestFront d (steps_seen ss) (suc n)) (sym split)
      (one_further d next (step_of first) (steps_seen others) n (ahead ∙ e) front)

-- where nothing stands at the end, each front is shorter
pub front_is_short : (d : Data) (steps : List code.Step) (n : ℕ) → IsLongestFront d (steps_seen steps) n
    → data_at d (steps_seen steps) ≡ None → n < length steps
front_is_short d steps n front none =
    let same : length (steps_seen steps) ≡ length steps = length-map steps step_of in
    let within : n ≤ length (steps_seen steps) = front.is_front in
    go (ltb n (length steps)) refl
  where
    go : (b : Bool) → ltb n (length steps) ≡ b → n < length steps
    go true e = ltb-true n (length steps) e
    go false e =
        let same : length (steps_seen steps) ≡ length steps = length-map steps step_of in
        let over : length steps ≤ n = ltb-false n (length steps) e in
        let all : take n (steps_seen steps) ≡ steps_seen steps = take_all n (steps_seen steps) (omega arith) in
        let some : data_at d (steps_seen steps) ≡ Some front.stands.0 = ap (data_at d) (sym all) ∙ front.stands.1 in
        cc

-- the words for each length of the front
pub key_missing : {E : Type 0} (steps : List code.Step) (n : ℕ) (key : List ℕ) (result : Result (String Global) E)
    → n ≡ 0 → key ≡ path_text (steps_seen (take 1 steps))
    → IfOk result (λ text. string_bytes text ≡ codes "the document has no key " ++ key)
    → IfOk result (λ text. string_bytes text ≡ there_text (steps_seen steps) n)
key_missing steps n key (Ok text) none is says =
    says ∙ ap (λ k. codes "the document has no key " ++ k) (is ∙ ap path_text (sym (take-map step_of 1 steps)))
    ∙ ap (there_text (steps_seen steps)) (sym none)
key_missing steps n key (Err e) none is says = tt

pub front_there : {E : Type 0} (steps : List code.Step) (n : ℕ) (front : List ℕ) (result : Result (String Global) E)
    → n ≢ 0 → front ≡ path_text (steps_seen (take n steps))
    → IfOk result (λ text. string_bytes text ≡ front ++ codes " is there")
    → IfOk result (λ text. string_bytes text ≡ there_text (steps_seen steps) n)
front_there steps zero front result some is says = absurd (some refl)
front_there steps (suc n) front (Ok text) some is says =
    says ∙ ap (λ f. f ++ codes " is there") (is ∙ ap path_text (sym (take-map step_of (suc n) steps)))
front_there steps (suc n) front (Err e) some is says = tt
