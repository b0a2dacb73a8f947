-- A path leads to another: it is the other as far as so many keys as it has.
use Rattle.std.proofs.Common.{◌≡◌, ℕ, zero, suc, ◌&&◌, Bool, true, false, List, [], ◌∷◌, ◌++◌, length, drop}
use Rattle.std.proofs.Common.{refl, ap, sym, ◌∙◌, subst, arith}
use Rattle.std.proofs.lemmas.Bool.{and_parts, ne_eqb}
use Rattle.basic_toml_grammar.specs.Sections.{KeyTexts}
use Rattle.basic_toml_grammar.specs.Steps.{Step, key, number, Path, step_eq, begins, steps_of, keys_of}
use Rattle.basic_toml_grammar.proofs.Clash.StepTestsDecide.{step_same, step_is}
use Rattle.basic_toml_places.specs.Places.{as_far_as}

-- the first path is all of the second, or ends with a key where the second goes on with another key
pub data Leads : Path → Path → Type 0 where
  whole : (p : Path) → Leads p p
  cut : (k l : List ℕ) (q : Path) → Leads (key k ∷ []) (key k ∷ key l ∷ q)
  on : {p q : Path} (s : Step) → Leads p q → Leads (s ∷ p) (s ∷ q)

pub leads_behind : {p q : Path} (front : Path) → Leads p q → Leads (front ++ p) (front ++ q)
leads_behind [] l = l
leads_behind (s ∷ front) l = on s (leads_behind front l)

number_far : (n m : ℕ) (p q : Path) → as_far_as n q ≡ p → (n ≡ 0 → length (keys_of q) ≡ 0)
    → as_far_as n (number m ∷ q) ≡ number m ∷ p
number_far zero m p q e h =
    let none : length (keys_of q) ≡ 0 = h refl in
    let same : q ≡ p = rw none at e in
    rw none (ap (λ p. number m ∷ p) same)
number_far (suc n) m p q e h = ap (λ p. number m ∷ p) e

whole_far : (p : Path) → as_far_as (length (keys_of p)) p ≡ p
whole_far [] = refl
whole_far (key k ∷ p) = ap (λ p. key k ∷ p) (whole_far p)
whole_far (number m ∷ p) = number_far (length (keys_of p)) m p p (whole_far p) (λ e. e)

far : {p q : Path} → Leads p q
    → (as_far_as (length (keys_of p)) q ≡ p) × (length (keys_of p) ≡ 0 → length (keys_of q) ≡ 0)
far (whole p) = (whole_far p, λ e. e)
far (cut k l q) =
    (rw (ne_eqb (suc (length (keys_of q))) 0 (λ e. omega arith)) refl, λ e. absurd (omega arith))
far (on (key k) l) = (ap (λ p. key k ∷ p) (far l).0, λ e. absurd (omega arith))
far (on {p = p} {q = q} (number m) l) = (number_far (length (keys_of p)) m p q (far l).0 (far l).1, (far l).1)

pub leads_far : {p q : Path} → Leads p q → as_far_as (length (keys_of p)) q ≡ p
leads_far l = (far l).0

-- what a path begins goes on from it
pub begins_on : (p q : Path) → begins p q ≡ true → q ≡ p ++ drop (length p) q
begins_on [] q e = refl
begins_on (s ∷ p) [] e = cc
begins_on (s ∷ p) (t ∷ q) e =
    let h : (step_eq s t ≡ true) × (begins p q ≡ true) = and_parts _ _ e in
    let same : s ≡ t = step_is s t h.0 in
    let more : q ≡ p ++ drop (length p) q = begins_on p q h.1 in
    cc

-- a step that is the other leaves the rest of a test
passed : (s t : Step) (b : Bool) → s ≡ t → (step_eq t s && b) ≡ b
passed s t b e = subst (λ (t : Step). (step_eq t s && b) ≡ b) e (rw step_same refl)

-- a path that properly begins keys: its first step, and the others
parts : (s : Step) (p : Path) (k : List ℕ) (ks : KeyTexts) → begins (s ∷ p) (key k ∷ steps_of ks) ≡ true
    → begins (key k ∷ steps_of ks) (s ∷ p) ≡ false
    → (key k ≡ s) × (begins p (steps_of ks) ≡ true) × (begins (steps_of ks) p ≡ false)
parts s p k ks e f =
    let h : (step_eq s (key k) ≡ true) × (begins p (steps_of ks) ≡ true) = and_parts _ _ e in
    let same : s ≡ key k = step_is s (key k) h.0 in
    (sym same, h.1, sym (passed s (key k) _ same) ∙ f)

-- such a path leads to the keys, where it has a step at least
pub keys_lead : (s : Step) (p : Path) (ks : KeyTexts) → begins (s ∷ p) (steps_of ks) ≡ true
    → begins (steps_of ks) (s ∷ p) ≡ false → Leads (s ∷ p) (steps_of ks)
keys_lead s p [] e f = cc
keys_lead s [] (k ∷ []) e f =
    let h = parts s [] k [] e f in
    cc
keys_lead s [] (k ∷ l ∷ ks) e f =
    let h = parts s [] k (l ∷ ks) e f in
    subst (λ (s : Step). Leads (s ∷ []) (key k ∷ key l ∷ steps_of ks)) h.0 (cut k l (steps_of ks))
keys_lead s (t ∷ p) (k ∷ ks) e f =
    let h = parts s (t ∷ p) k ks e f in
    subst (λ (s : Step). Leads (s ∷ t ∷ p) (key k ∷ steps_of ks)) h.0 (on (key k) (keys_lead t p ks h.1 h.2))

-- A path that properly begins a front with keys behind it, and does not begin the front, is the front and then leads to
-- the keys.
pub keys_lead_behind : (front : Path) (ks : KeyTexts) (p : Path) → begins p (front ++ steps_of ks) ≡ true
    → begins (front ++ steps_of ks) p ≡ false → begins p front ≡ false
    → (r : Path) × (p ≡ front ++ r) × Leads r (steps_of ks)
keys_lead_behind [] ks [] e f g = cc
keys_lead_behind [] ks (s ∷ p) e f g = (s ∷ p, refl, keys_lead s p ks e f)
keys_lead_behind (t ∷ front) ks [] e f g = cc
keys_lead_behind (t ∷ front) ks (s ∷ p) e f g =
    let h : (step_eq s t ≡ true) × (begins p (front ++ steps_of ks) ≡ true) = and_parts _ _ e in
    let same : s ≡ t = step_is s t h.0 in
    let outside : begins p front ≡ false = rw h.0 at g in
    let more = keys_lead_behind front ks p h.1 (sym (passed s t _ same) ∙ f) outside in
    let all : s ∷ p ≡ t ∷ (front ++ more.0) = cc in
    (more.0, all, more.2)
