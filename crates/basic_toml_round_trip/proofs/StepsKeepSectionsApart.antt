-- Sections that stand at different steps of a table or an array do not clash, and those below one step clash as they do
-- without it.
use Rattle.std.proofs.Common.{◌≡◌, ℕ, Bool, false, ◌&&◌, List, [], ◌∷◌, ◌++◌, Option, Some, refl, ◌∙◌}
use Rattle.std.specs.List.{list_any}
use Rattle.std.specs.Str.{bytes_eq}
use Rattle.std.proofs.lemmas.Bool.{or_parts, or_from, and_right}
use Rattle.basic_toml_grammar.specs.Sections.{texts, Rows, no_rows, row}
use Rattle.basic_toml_grammar.specs.Steps.{Step, key, number, Path, step_eq, begins, path_eq, steps_of}
use Rattle.basic_toml_grammar.specs.SectionClash.{any_pair}
use Rattle.basic_toml_grammar.specs.Placed.{Placed, step_into, adds_element, path_of, is_cut, crosses, rows_meet}
use Rattle.basic_toml_grammar.specs.Placed.{placed_clash_one_way, placed_clash}
use Rattle.basic_toml_grammar.proofs.Clash.StepTestsDecide.{step_same}
use Rattle.basic_toml_grammar.proofs.Clash.ClashesAgree.{turn_eq}
use Rattle.basic_toml_round_trip.proofs.SectionsOfTable.{below}

-- a section with these rows at a target
abbrev pub placed_at : Path → Option ℕ → Rows → Placed
placed_at t e rs = record { target = t; element = e; rows = rs }

-- what a clash one way needs
pub one_way : (i j : Placed) → path_eq (path_of i) (path_of j) ≡ false
    → (adds_element j.element && is_cut j.target (path_of i)) ≡ false
    → rows_meet (path_of i) i.rows (path_of j) j.target ≡ false → placed_clash_one_way i j ≡ false
one_way i j a b c = or_from _ _ a (or_from _ _ b c)

pub rows_apart : (p : Path) (rs : Rows) (q u : Path) → ((steps : Path) → begins (p ++ steps) q ≡ false)
    → ((steps : Path) → crosses p steps u ≡ false)
    → rows_meet p rs q u ≡ false
rows_apart p no_rows q u f g = refl
rows_apart p (row keys at v rs) q u f g =
    or_from _ _ (or_from _ _ (f (steps_of (texts keys))) (g (steps_of (texts keys)))) (rows_apart p rs q u f g)

-- the section stands at this step, or below it
pub data At : Step → Placed → Type 0 where
  deeper : {s : Step} {t : Path} {e : Option ℕ} {rs : Rows} → At s (placed_at (s ∷ t) e rs)
  element : {i : ℕ} {rs : Rows} → At (number i) (placed_at [] (Some i) rs)

-- two keys, or two numbers
pub data Differ : Step → Step → Type 0 where
  by_keys : {k l : List ℕ} → bytes_eq k l ≡ false → Differ (key k) (key l)
  by_numbers : {i j : ℕ} → step_eq (number i) (number j) ≡ false → Differ (number i) (number j)

turned : {s t : Step} → Differ s t → Differ t s
turned (by_keys {k = k} {l = l} e) = by_keys (turn_eq (key l) (key k) ∙ e)
turned (by_numbers {i = i} {j = j} e) = by_numbers (turn_eq (number j) (number i) ∙ e)

off_way : (s t : Step) (p q : Path) (e f : Option ℕ) (rs os : Rows) → step_eq s t ≡ false → step_eq t s ≡ false
    → placed_clash_one_way (placed_at (s ∷ p) e rs) (placed_at (t ∷ q) f os) ≡ false
off_way s t p q e f rs os a b =
    one_way (placed_at (s ∷ p) e rs) (placed_at (t ∷ q) f os) (rw a refl) (rw b (and_right (adds_element f) false refl))
    (rows_apart (s ∷ (p ++ step_into e)) rs (t ∷ (q ++ step_into f)) (t ∷ q) (λ steps. rw a refl) (λ steps. rw a refl))

apart_way : {s t : Step} {i j : Placed} → At s i → At t j → Differ s t → placed_clash_one_way i j ≡ false
apart_way (deeper {t = p} {e = e} {rs = rs}) (deeper {t = q} {e = f} {rs = os}) (by_keys {k = k} {l = l} a) =
    off_way (key k) (key l) p q e f rs os a (turn_eq (key l) (key k) ∙ a)
apart_way (deeper {t = p} {e = e} {rs = rs}) (deeper {t = q} {e = f} {rs = os}) (by_numbers {i = i} {j = j} a) =
    off_way (number i) (number j) p q e f rs os a (turn_eq (number j) (number i) ∙ a)
apart_way (deeper {t = p} {e = e} {rs = rs}) (element {rs = os}) (by_numbers {i = i} {j = j} a) =
    one_way (placed_at (number i ∷ p) e rs) (placed_at [] (Some j) os) (rw a refl) refl
    (rows_apart (number i ∷ (p ++ step_into e)) rs (number j ∷ []) [] (λ steps. rw a refl) (λ steps. refl))
apart_way (element {rs = rs}) (deeper {t = q} {e = f} {rs = os}) (by_numbers {i = i} {j = j} a) =
    let b : step_eq (number j) (number i) ≡ false = turn_eq (number j) (number i) ∙ a in
    one_way (placed_at [] (Some i) rs) (placed_at (number j ∷ q) f os) (rw a refl)
    (rw b (and_right (adds_element f) false refl))
    (rows_apart (number i ∷ []) rs (number j ∷ (q ++ step_into f)) (number j ∷ q) (λ steps. rw a refl)
    (λ steps. rw a refl))
apart_way (element {rs = rs}) (element {rs = os}) (by_numbers {i = i} {j = j} a) =
    one_way (placed_at [] (Some i) rs) (placed_at [] (Some j) os) (rw a refl) refl
    (rows_apart (number i ∷ []) rs (number j ∷ []) [] (λ steps. rw a refl) (λ steps. refl))

apart : {s t : Step} {i j : Placed} → At s i → At t j → Differ s t → placed_clash i j ≡ false
apart a b d = or_from _ _ (apart_way a b d) (apart_way b a (turned d))

-- below the same step
pub rows_below : (s : Step) (p : Path) (rs : Rows) (q u : Path)
    → rows_meet (s ∷ p) rs (s ∷ q) (s ∷ u) ≡ rows_meet p rs q u
rows_below s p no_rows q u = refl
rows_below s p (row keys at v rs) q u = rw (rows_below s p rs q u, step_same s) refl

pub way_below : (s : Step) (i j : Placed)
    → placed_clash_one_way (placed_at (s ∷ i.target) i.element i.rows) (placed_at (s ∷ j.target) j.element j.rows)
    ≡ placed_clash_one_way i j
way_below s i j = rw (rows_below s (path_of i) i.rows (path_of j) j.target, step_same s) refl

any_below : (s : Step) (i : Placed) (ls : List Placed)
    → list_any (placed_clash (placed_at (s ∷ i.target) i.element i.rows)) (below s ls) ≡ list_any (placed_clash i) ls
any_below s i [] = refl
any_below s i (l ∷ ls) = rw (way_below s i l, way_below s l i, any_below s i ls) refl

pairs_below : (s : Step) (ls : List Placed) → any_pair placed_clash (below s ls) ≡ any_pair placed_clash ls
pairs_below s [] = refl
pairs_below s (l ∷ ls) = rw (any_below s l ls, pairs_below s ls) refl

-- all of these stand at steps with a property
abbrev pub AllAt : (Step → Type 0) → List Placed → Type 0
AllAt P [] = Unit {0}
AllAt P (l ∷ ls) = ((s : Step) × At s l × P s) × AllAt P ls

pub at_more : (P Q : Step → Type 0) → ((s : Step) → P s → Q s) → (ls : List Placed) → AllAt P ls → AllAt Q ls
at_more P Q h [] a = tt
at_more P Q h (l ∷ ls) a = ((a.0.0, a.0.1, h a.0.0 a.0.2), at_more P Q h ls a.1)

pub at_below : (P : Step → Type 0) (s : Step) (ls os : List Placed) → P s → AllAt P os → AllAt P (below s ls ++ os)
at_below P s [] os p a = a
at_below P s (l ∷ ls) os p a = ((s, deeper, p), at_below P s ls os p a)

pub none_clashes : (P : Step → Type 0) {s : Step} (l : Placed) (os : List Placed) → At s l → AllAt P os
    → ((t : Step) → P t → Differ s t)
    → list_any (placed_clash l) os ≡ false
none_clashes P l [] here a d = refl
none_clashes P l (o ∷ os) here a d = or_from _ _ (apart here a.0.1 (d a.0.0 a.0.2)) (none_clashes P l os here a.1 d)

pub any-append : (f : Placed → Bool) (ls os : List Placed) → list_any f ls ≡ false → list_any f os ≡ false
    → list_any f (ls ++ os) ≡ false
any-append f [] os a b = b
any-append f (l ∷ ls) os a b =
    let p : (f l ≡ false) × (list_any f ls ≡ false) = or_parts _ _ a in
    or_from _ _ p.0 (any-append f ls os p.1 b)

-- what stands below one step, and then what stands at others
pub pairs_apart : (P : Step → Type 0) (s : Step) (ls os : List Placed) → any_pair placed_clash ls ≡ false → AllAt P os
    → ((t : Step) → P t → Differ s t)
    → any_pair placed_clash os ≡ false → any_pair placed_clash (below s ls ++ os) ≡ false
pairs_apart P s ls os inner a d rest = go ls (pairs_below s ls ∙ inner)
  where
    go : (ls : List Placed) → any_pair placed_clash (below s ls) ≡ false
        → any_pair placed_clash (below s ls ++ os) ≡ false
    go [] e = rest
    go (l ∷ ls) e =
        let here : Placed = placed_at (s ∷ l.target) l.element l.rows in
        let p : (list_any (placed_clash here) (below s ls) ≡ false) × (any_pair placed_clash (below s ls) ≡ false) =
        or_parts _ _ e in
        or_from _ _ (any-append (placed_clash here) (below s ls) os p.0 (none_clashes P here os deeper a d)) (go ls p.1)
