-- Sections placed one after another, and how many elements an array has then: what is placed below one step counts
-- nowhere else.
use Rattle.std.proofs.Common.{sym, ℕ, Some, append-nil, ◌≡◌, true, false, List, [], ◌∷◌, ◌++◌, refl, ap, ◌∙◌}
use Rattle.std.proofs.Common.{append_assoc}
use Rattle.std.proofs.lemmas.Bool.{and_parts, and_right, false≢true}
use Rattle.basic_toml_grammar.specs.Sections.{Section}
use Rattle.basic_toml_grammar.specs.Steps.{number, Step, Path, step_eq, begins, path_eq}
use Rattle.basic_toml_grammar.specs.Placed.{Placed, adds_element, elements_at, placed_after, placed_from}
use Rattle.basic_toml_grammar.proofs.Clash.StepTestsDecide.{begins_same}
use Rattle.basic_toml_round_trip.proofs.SectionsOfTable.{below, placed_here}
use Rattle.basic_toml_round_trip.proofs.StepsKeepSectionsApart.{placed_at}

-- all after a path
abbrev pub lift : Path → List Placed → List Placed
lift p [] = []
lift p (l ∷ ls) = placed_at (p ++ l.target) l.element l.rows ∷ lift p ls

lift-append : (p : Path) (ls os : List Placed) → lift p (ls ++ os) ≡ lift p ls ++ lift p os
lift-append p [] os = refl
lift-append p (l ∷ ls) os = ap (λ x. placed_at (p ++ l.target) l.element l.rows ∷ x) (lift-append p ls os)

below-append : (s : Step) (ls os : List Placed) → below s (ls ++ os) ≡ below s ls ++ below s os
below-append s [] os = refl
below-append s (l ∷ ls) os = ap (λ x. placed_at (s ∷ l.target) l.element l.rows ∷ x) (below-append s ls os)

pub lift_below : (p : Path) (s : Step) (ls : List Placed) → lift (p ++ s ∷ []) ls ≡ lift p (below s ls)
lift_below p s [] = refl
lift_below p s (l ∷ ls) = (λ i. placed_at (append_assoc p (s ∷ []) l.target i) l.element l.rows ∷ lift_below p s ls i)

pub lift_none : (ls : List Placed) → lift [] ls ≡ ls
lift_none [] = refl
lift_none (l ∷ ls) = ap (λ x. l ∷ x) (lift_none ls)

-- earlier sections stand the latest first
abbrev pub after : List Placed → List Placed → List Placed
after before [] = before
after before (l ∷ ls) = after (l ∷ before) ls

placed-append : (before : List Placed) (xs ys : List Section)
    → placed_from before (xs ++ ys) ≡ placed_from before xs ++ placed_from (after before (placed_from before xs)) ys
placed-append before [] ys = refl
placed-append before (x ∷ xs) ys =
    ap (λ l. placed_after before x ∷ l) (placed-append (placed_after before x ∷ before) xs ys)

pub placed_then : (before : List Placed) (xs ys : List Section) {ls os : List Placed} → placed_from before xs ≡ ls
    → placed_from (after before ls) ys ≡ os → placed_from before (xs ++ ys) ≡ ls ++ os
placed_then before xs ys {ls = ls} e f =
    placed-append before xs ys ∙ ap (λ l. l ++ placed_from (after before l) ys) e ∙ ap (λ l. ls ++ l) f

-- a part below a step, and then more
pub placed_part : (before : List Placed) (p : Path) (s : Step) (xs ys : List Section) (ls os : List Placed)
    → placed_from before xs ≡ lift p (below s ls) → placed_from (after before (lift p (below s ls))) ys ≡ lift p os
    → placed_from before (xs ++ ys) ≡ lift p (below s ls ++ os)
placed_part before p s xs ys ls os e f = placed_then before xs ys e f ∙ sym (lift-append p (below s ls) os)

-- a part of a header and what stands below it
pub placed_whole : (before : List Placed) (p : Path) (s : Step) (hs xs ys : List Section) (ks ls os : List Placed)
    → placed_from before hs ≡ lift p (below s ks)
    → placed_from (after before (lift p (below s ks))) xs ≡ lift p (below s ls)
    → placed_from (after (after before (lift p (below s ks))) (lift p (below s ls))) ys ≡ lift p os
    → placed_from before (hs ++ (xs ++ ys)) ≡ lift p (below s (ks ++ ls) ++ os)
placed_whole before p s hs xs ys ks ls os e f g =
    placed_then before hs (xs ++ ys) e (placed_part (after before (lift p (below s ks))) p s xs ys ls os f g)
    ∙ sym (lift-append p (below s ks) (below s ls ++ os))
    ∙ ap (lift p) (sym (append_assoc (below s ks) (below s ls) os) ∙ ap (λ l. l ++ os) (sym (below-append s ks ls)))

-- an element, what stands below it, and the elements after it
pub placed_element : (before : List Placed) (p : Path) (i : ℕ) (x : Section) (xs ys : List Section)
    (ls os : List Placed)
    → placed_after before x ≡ placed_at p (Some i) x.rows
    → placed_from (placed_at p (Some i) x.rows ∷ before) xs ≡ lift p (below (number i) ls)
    → placed_from (after (placed_at p (Some i) x.rows ∷ before) (lift p (below (number i) ls))) ys ≡ lift p os
    → placed_from before (x ∷ (xs ++ ys)) ≡ lift p (placed_here (Some i) x.rows ∷ (below (number i) ls ++ os))
placed_element before p i x xs ys ls os e f g =
    ap (λ l. l ∷ placed_from (l ∷ before) (xs ++ ys)) e
    ∙ ap (λ l. placed_at p (Some i) x.rows ∷ l)
    (placed_part (placed_at p (Some i) x.rows ∷ before) p (number i) xs ys ls os f g)
    ∙ ap (λ q. placed_at q (Some i) x.rows ∷ lift p (below (number i) ls ++ os)) (sym (append-nil p))

-- paths apart
begins_apart : (p t u : Path) → begins t u ≡ false → begins (p ++ t) (p ++ u) ≡ false
begins_apart [] t u e = e
begins_apart (s ∷ p) t u e = and_right (step_eq s s) (begins (p ++ t) (p ++ u)) (begins_apart p t u e)

pub apart_left : (p t u : Path) → begins t u ≡ false → path_eq (p ++ t) (p ++ u) ≡ false
apart_left p t u e = rw (begins_apart p t u e) refl

longer : (p q : Path) (s : Step) (t : Path) → begins q p ≡ true → begins (p ++ s ∷ t) q ≡ false
longer [] [] s t e = refl
longer [] (u ∷ q) s t e = absurd (false≢true e)
longer (a ∷ p) [] s t e = refl
longer (a ∷ p) (b ∷ q) s t e =
    and_right (step_eq a b) (begins (p ++ s ∷ t) q) (longer p q s t (and_parts (step_eq b a) (begins q p) e).1)

pub off_longer : (p : Path) (s : Step) (t : Path) → path_eq p (p ++ s ∷ t) ≡ false
off_longer p s t = and_right (begins p (p ++ s ∷ t)) (begins (p ++ s ∷ t) p) (longer p p s t (begins_same p))

pub off_beginning : (p q : Path) (s : Step) → begins q p ≡ true → (t : Path) → path_eq (p ++ s ∷ t) q ≡ false
off_beginning p q s e t = rw (longer p q s t e) refl

-- what is placed elsewhere does not count
pub not_counted : (q : Path) (l : Placed) (before : List Placed) → path_eq l.target q ≡ false
    → elements_at q (l ∷ before) ≡ elements_at q before
not_counted q l before e = rw e (rw (and_right (adds_element l.element) false refl) refl)

-- later, more may be counted below this step of a path, and nowhere else
pub record Aside (p : Path) (s : Step) (before later : List Placed) : Type 0 where
  pub same : (q : Path) → ((t : Path) → path_eq (p ++ s ∷ t) q ≡ false) → elements_at q later ≡ elements_at q before

all_aside : (p : Path) (s : Step) (ls before : List Placed) (q : Path) → ((t : Path) → path_eq (p ++ s ∷ t) q ≡ false)
    → elements_at q (after before (lift p (below s ls))) ≡ elements_at q before
all_aside p s [] before q h = refl
all_aside p s (l ∷ ls) before q h =
    let here : Placed = placed_at (p ++ s ∷ l.target) l.element l.rows in
    all_aside p s ls (here ∷ before) q h ∙ not_counted q here before (h l.target)

pub aside_offsets : (p : Path) (s : Step) (ls before : List Placed)
    → Aside p s before (after before (lift p (below s ls)))
aside_offsets p s ls before = record { same = all_aside p s ls before }

pub aside_then : {p : Path} {s : Step} {before mid later : List Placed} → Aside p s before mid → Aside p s mid later
    → Aside p s before later
aside_then a b = record { same = λ q h. b.same q h ∙ a.same q h }

pub aside_up : {p : Path} {s t : Step} {before later : List Placed} → Aside (p ++ s ∷ []) t before later
    → Aside p s before later
aside_up {p = p} {s = s} {t = t} a =
    record { same = λ q h. a.same q (λ u. ap (λ r. path_eq r q) (append_assoc p (s ∷ []) (t ∷ u)) ∙ h (t ∷ u)) }
