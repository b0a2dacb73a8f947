-- What headers make, by the trie of the sections: a table that a header names or passes through, and an array.
use Rattle.std.proofs.Common.{◌≡◌, inl, inr, ℕ, zero, Bool, true, false, List, [], ◌∷◌, ◌++◌, refl, ap, arith}
use Rattle.std.proofs.Common.{◌∙◌, map, length, drop, Option, Some, None}
use Rattle.std.specs.Prelude.{◌&&◌, ◌||◌}
use Rattle.std.specs.List.{list_any}
use Rattle.std.proofs.lemmas.Bool.{false≢true, or_cases, or_left, or_right, false_from_ne_true}
use Rattle.std.proofs.lemmas.List.Folds.{list_any-append}
use Rattle.basic_toml_grammar.specs.Sections.{Rows, Section}
use Rattle.basic_toml_grammar.specs.Steps.{Step, number, Path, step_eq, begins, path_eq}
use Rattle.basic_toml_grammar.specs.IndexedPath.{located}
use Rattle.basic_toml_grammar.specs.Placed.{Placed, step_into, path_of, placed}
use Rattle.basic_toml_grammar.specs.Marks.{MarkKind, by_latest, named, added, Mark, mark, after, marks_of_rows}
use Rattle.basic_toml_grammar.specs.Marks.{marks_from, marks, all_marks}
use Rattle.basic_toml_grammar.specs.Nodes.{is_number, is_made, is_array}
use Rattle.basic_toml_grammar.specs.Standing.{Standing, array, fits, standing_at, take_all}
use Rattle.basic_toml_grammar.specs.Entering.{enter_all}
use Rattle.basic_toml_grammar.proofs.AmongElements.{Among, first, next}
use Rattle.basic_toml_grammar.proofs.Clash.ClashesAgree.{turn_eq}
use Rattle.basic_toml_grammar.proofs.Clash.EnteringAccepts.{enter_all_grows}
use Rattle.basic_toml_grammar.proofs.Clash.LatestElementsWereAdded.{latest_added}
use Rattle.basic_toml_grammar.proofs.Clash.MarksAreWhatIsSaid.{marked, said, rows_said, same_truth}
use Rattle.basic_toml_grammar.proofs.Clash.MarksTellPlaces.{rows_row}
use Rattle.basic_toml_grammar.proofs.Clash.PathsAgree.{paths_agree}
use Rattle.basic_toml_grammar.proofs.Clash.StepTestsDecide.{paths_are}
use Rattle.basic_toml_grammar.proofs.Clash.WhatSectionsSay.{Says, adds, on}
use Rattle.basic_toml_grammar.proofs.Naming.WhereHeadersStop.{is_header}
use Rattle.basic_toml_grow.proofs.ItemsStand.{stands_array}
use Rattle.basic_toml_tree.specs.Outer.{stands_made}

pub any_of : {A : Type 0} (f : A → Bool) (xs : List A) → list_any f xs ≡ true → (x : A) × Among x xs × (f x ≡ true)
any_of f [] e = absurd (false≢true e)
any_of f (x ∷ xs) e = elim (or_cases _ _ e) [
  | inl h ↦ (x, first, h)
  | inr h ↦ let r = any_of f xs h in (r.0, next r.1, r.2)
]

pub of_any : {A : Type 0} {x : A} {xs : List A} (f : A → Bool) → Among x xs → f x ≡ true → list_any f xs ≡ true
of_any f first e = or_left _ _ e
of_any f (next a) e = or_right _ _ (of_any f a e)

-- What marks leave, that which headers make or arrays alone: by which kinds, where it stands, and which paths go there.
abbrev leaves : Bool → MarkKind → Bool
leaves false k = is_header k
leaves true added = true
leaves true by_latest = true
leaves true k = false

abbrev lasts : Bool → Option Standing → Bool
lasts false o = stands_made o
lasts true o = stands_array o

abbrev goes : Bool → Path → Path → Bool
goes false p path = begins p path
goes true p path = begins p path && is_number (drop (length p) path)

-- but for the kind of mark that goes by the latest element, and for an array without any
abbrev first_leaves : Bool → MarkKind → Bool
first_leaves a by_latest = false
first_leaves a k = leaves a k

abbrev first_lasts : Bool → Option Standing → Bool
first_lasts a (Some (array zero)) = false
first_lasts a o = lasts a o

-- a mark of some kinds at a path
abbrev at : (MarkKind → Bool) → Path → Mark → Bool
at f p m = path_eq m.path p && f m.kind

first_fits : (m : Mark) (st ms after : List Mark) → take_all st (m ∷ ms) ≡ Some after
    → (fits m.kind (standing_at st m.path) ≡ true) × (take_all (m ∷ st) ms ≡ Some after)
first_fits m st ms after e = (grind arith, grind arith)

-- marks one step further down
below_step : (f : MarkKind → Bool) (s r : Step) (p : Path) (ms : List Mark)
    → list_any (at f (r ∷ p)) (after s ms) ≡ (step_eq r s && list_any (at f p) ms)
below_step f s r p [] = grind arith
below_step f s r p (m ∷ ms) = grind (arith, turn_eq s r, below_step f s r p ms)

none_here : (f : MarkKind → Bool) (s : Step) (ms : List Mark) → list_any (at f []) (after s ms) ≡ false
none_here f s [] = refl
none_here f s (m ∷ ms) = none_here f s ms

any_marks : (q : Mark → Bool) (r : Placed → Bool) → ((l : Placed) → list_any q (marks l) ≡ r l) → (ls : List Placed)
    → list_any q (all_marks ls) ≡ list_any r ls
any_marks q r here [] = refl
any_marks q r here (l ∷ ls) = rw (list_any-append, here l, any_marks q r here ls) refl

says_added : (n : ℕ) (rs : Rows) (t : Path) → Says (Some n) rs t t added
says_added n rs [] = adds
says_added n rs (s ∷ t) = on (says_added n rs t)

mapped_any : {A B : Type 0} (f : B → Bool) (g : A → B) (xs : List A)
    → list_any f (map g xs) ≡ list_any (λ x. f (g x)) xs
mapped_any f g [] = refl
mapped_any f g (x ∷ xs) = rw (mapped_any f g xs) refl

-- it stays whatever comes later, nothing else leaves it, and no row does
module _ (a : Bool) (p : Path) where
  stay : (st ms after : List Mark) → take_all st ms ≡ Some after
      → (list_any (at (first_leaves a) p) ms || first_lasts a (standing_at st p)) ≡ true
      → first_lasts a (standing_at after p) ≡ true
  stay st [] after e h = grind arith
  stay st (m ∷ ms) after e h =
      let fit = first_fits m st ms after e in
      stay (m ∷ st) ms after fit.1 (grind (arith, paths_are m.path p, fit.0))

  one_comes : (m : Mark) (st : List Mark) (b : Bool) → (b || lasts a (standing_at (m ∷ st) p)) ≡ true
      → ((at (leaves a) p m || b) || lasts a (standing_at st p)) ≡ true
  one_comes m st b h = grind arith

  come : (st ms after : List Mark) → take_all st ms ≡ Some after → lasts a (standing_at after p) ≡ true
      → (list_any (at (leaves a) p) ms || lasts a (standing_at st p)) ≡ true
  come st [] after e h = grind arith
  come st (m ∷ ms) after e h = one_comes m st _ (come (m ∷ st) ms after (first_fits m st ms after e).1 h)

  no_rows_leave : (rs : Rows) → list_any (at (leaves a) p) (marks_of_rows rs) ≡ false
  no_rows_leave rs = false_from_ne_true _ (λ e.
      let m = any_of (at (leaves a) p) (marks_of_rows rs) e in
      let row = rows_row (rows_said rs m.1) in grind (arith, m.2))

-- the marks of a section at a path
marks_at : (a : Bool) (e : Option ℕ) (rs : Rows) (t p : Path)
    → list_any (at (leaves a) p) (marks_from e rs t) ≡ goes a p (t ++ step_into e)
marks_at a None rs [] [] = grind (arith, no_rows_leave a [] rs)
marks_at a None rs [] (s ∷ p) = grind (arith, no_rows_leave a (s ∷ p) rs)
marks_at a (Some n) rs [] [] = grind arith
marks_at a (Some n) rs [] (s ∷ p) =
    grind (arith, below_step (leaves a) (number n) s p (mark [] named ∷ marks_of_rows rs), marks_at a None rs [] p)
marks_at a e rs (u ∷ t) [] = grind (arith, none_here (leaves a) u (marks_from e rs t))
marks_at a e rs (u ∷ t) (s ∷ p) =
    grind (arith, below_step (leaves a) u s p (marks_from e rs t), marks_at a e rs t p)

-- a list of sections that was entered
module _ (ss : List Section) (st : List Mark) (e : enter_all ss [] ≡ Some st) where
  took : take_all [] (all_marks (placed ss)) ≡ Some st
  took = grind (arith, enter_all_grows ss [] [] (λ p. refl) (λ p. refl), e)

  module _ (a : Bool) (p : Path) where
    here : (l : Placed) → list_any (at (leaves a) p) (marks l) ≡ goes a p (path_of l)
    here l = marks_at a l.element l.rows l.target p

    left : {m : Mark} (l : Placed) → Among l (placed ss) → Among m (marks l) → at (first_leaves a) p m ≡ true
        → lasts a (standing_at st p) ≡ true
    left l among m is =
        let f = at (first_leaves a) p in
        let there = of_any (λ l. list_any f (marks l)) among (of_any f m is) in
        grind (arith, stay a p [] _ st took (or_left _ _ (any_marks f _ (λ l. refl) (placed ss) ∙ there)))

    -- where a header goes by the latest element of an array, one was added
    stands : {q : Path} (k : MarkKind) (l : Placed) → Among l (placed ss) → Among (mark q k) (marks l)
        → at (leaves a) p (mark q k) ≡ true → lasts a (standing_at st p) ≡ true
    stands {q} by_latest l among m is =
        let says = said l.element l.rows l.target m in
        let k = latest_added (placed ss) [] ss (λ k a. elim a [ ]) (λ k a. a) l among q says in
        let adds : Says k.0.element k.0.rows k.0.target q added = rw (k.3, k.4) (says_added k.1 k.0.rows q) in
        left k.0 k.2 (marked _ _ _ adds) (grind (arith, is))
    stands k l among m is = left l among m is

    told : list_any (λ l. goes a p l.path) (located ss) ≡ lasts a (standing_at st p)
    told =
        let passes = list_any (λ l. goes a p (path_of l)) (placed ss) in
        let same = simp mapped_any at (ap (list_any (goes a p)) (paths_agree ss)) in
        same ∙ same_truth passes (lasts a (standing_at st p)) (λ any.
        let l = any_of (λ l. goes a p (path_of l)) (placed ss) any in
        let m = any_of (at (leaves a) p) (marks l.0) (here l.0 ∙ l.2) in
        stands m.0.kind l.0 l.1 m.1 m.2) (λ stood.
        let any = come a p [] (all_marks (placed ss)) st took stood in
        grind (arith, any, any_marks (at (leaves a) p) (λ l. goes a p (path_of l)) here (placed ss)))

  pub made_is : (s : Step) (p : Path) → is_made (located ss) (s ∷ p) ≡ stands_made (standing_at st (s ∷ p))
  made_is s p = told false (s ∷ p)

  pub array_is : (p : Path) → is_array (located ss) p ≡ stands_array (standing_at st p)
  array_is p = told true p
