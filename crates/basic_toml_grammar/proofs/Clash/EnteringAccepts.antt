-- A list of sections is entered exactly where no rows and no two sections clash.
use Rattle.std.proofs.Common.{◌≡◌, ℕ, suc, Bool, true, false, cond, List, [], ◌∷◌, ◌++◌, Option, Some, None, refl}
use Rattle.std.proofs.Common.{ap, sym, ◌∙◌, subst}
use Rattle.std.specs.Prelude.{◌&&◌, ◌||◌, not, is_some, if◌then◌else◌}
use Rattle.std.proofs.lemmas.Bool.{and_parts, or_parts}
use Rattle.basic_toml_value.specs.Data.{Data}
use Rattle.basic_toml_grammar.specs.Sections.{KeyTexts, texts, Rows, no_rows, row, Section}
use Rattle.basic_toml_grammar.specs.Steps.{Step, key, number, Path, step_eq, path_eq}
use Rattle.basic_toml_grammar.specs.RowClash.{rows_clash, has_row_clash}
use Rattle.basic_toml_grammar.specs.IndexedPath.{latest}
use Rattle.basic_toml_grammar.specs.Mentions.{finished}
use Rattle.basic_toml_grammar.specs.Placed.{Placed, adds_element, elements_at, target_from, element_from, placed_by}
use Rattle.basic_toml_grammar.specs.Placed.{placed_after, placed_from, placed, any_placed_clash}
use Rattle.basic_toml_grammar.specs.Marks.{named, Mark, mark, after, passing, marks_of_keys, marks_of_rows}
use Rattle.basic_toml_grammar.specs.Marks.{marks_from, marks, all_marks}
use Rattle.basic_toml_grammar.specs.Standing.{fits, standing_at, take_all}
use Rattle.basic_toml_grammar.specs.Entering.{and_then, enter_all, rows_keyed, header_keyed, is_keyed, all_keyed}
use Rattle.basic_toml_grammar.proofs.Clash.StepTestsDecide.{step_is, step_same}
use Rattle.basic_toml_grammar.proofs.Clash.SectionMarksFit.{Sound, none, more, run_takes}
use Rattle.basic_toml_grammar.proofs.Clash.WalkTakesMarks.{counts, added_at, Sized, sized_more, take-append}
use Rattle.basic_toml_grammar.proofs.Clash.WalkTakesMarks.{enter_grows}

-- two ways to count that agree locate a section alike
target_same : (f g : Path → ℕ) → ((p : Path) → f p ≡ g p) → (a : Bool) (cut : Path) (keys : KeyTexts)
    → target_from f a cut keys ≡ target_from g a cut keys
target_same f g h a cut [] = refl
target_same f g h a cut (k ∷ []) = rw (h (cut ++ key k ∷ [])) refl
target_same f g h a cut (k ∷ l ∷ keys) =
    rw (h (cut ++ key k ∷ []))
    (ap (λ t. key k ∷ (latest (g (cut ++ key k ∷ [])) ++ t))
    (target_same f g h a (cut ++ key k ∷ latest (g (cut ++ key k ∷ []))) (l ∷ keys)))

element_same : (f g : Path → ℕ) → ((p : Path) → f p ≡ g p) → (a : Bool) (cut : Path) (keys : KeyTexts)
    → element_from f a cut keys ≡ element_from g a cut keys
element_same f g h a cut [] = refl
element_same f g h a cut (k ∷ []) = rw (h (cut ++ key k ∷ [])) refl
element_same f g h a cut (k ∷ l ∷ keys) =
    rw (h (cut ++ key k ∷ [])) (element_same f g h a (cut ++ key k ∷ latest (g (cut ++ key k ∷ []))) (l ∷ keys))

pub offset_same : (f g : Path → ℕ) → ((p : Path) → f p ≡ g p) → (s : Section) → placed_by f s ≡ placed_by g s
offset_same f g h s = rw (
  target_same f g h s.is_array [] (texts s.header),
  element_same f g h s.is_array [] (texts s.header),
) refl

-- how many elements marks add to the array at a path, beside n
abbrev pub added_onto : Path → List Mark → ℕ → ℕ
added_onto q [] n = n
added_onto q (m ∷ ms) n = added_onto q ms (if counts m.kind && path_eq m.path q then suc n else n)

-- what a run leaves
grow_then : (st ms : List Mark) (f g : List Mark → Option (List Mark)) → Sized st
    → ((after : List Mark) → Sized after → ((q : Path) → added_at after q ≡ added_onto q ms (added_at st q))
    → f after ≡ g after)
    → and_then (take_all st ms) f ≡ and_then (take_all st ms) g
grow_then st [] f g h k = k st h (λ q. refl)
grow_then st (m ∷ ms) f g h k =
    go (fits m.kind (standing_at st m.path)) refl (λ e. grow_then (m ∷ st) ms f g (sized_more m.path m.kind st h e) k)
  where
    go : (b : Bool) → fits m.kind (standing_at st m.path) ≡ b
        → (fits m.kind (standing_at st m.path) ≡ true
        → and_then (take_all (m ∷ st) ms) f ≡ and_then (take_all (m ∷ st) ms) g)
        → and_then (cond b (take_all (m ∷ st) ms) None) f ≡ and_then (cond b (take_all (m ∷ st) ms) None) g
    go true e i = i e
    go false e i = refl

pub onto-append : (q : Path) (ms ns : List Mark) (n : ℕ)
    → added_onto q (ms ++ ns) n ≡ added_onto q ns (added_onto q ms n)
onto-append q [] ns n = refl
onto-append q (m ∷ ms) ns n = onto-append q ms ns (if counts m.kind && path_eq m.path q then suc n else n)

and_false : (b : Bool) → (b && false) ≡ false
and_false true = refl
and_false false = refl

onto_after_root : (s : Step) (ms : List Mark) (n : ℕ) → added_onto [] (after s ms) n ≡ n
onto_after_root s [] n = refl
onto_after_root s (m ∷ ms) n =
    ap (λ b. added_onto [] (after s ms) (if b then suc n else n)) (and_false (counts m.kind)) ∙ onto_after_root s ms n

onto_after_off : (s t : Step) (q : Path) (ms : List Mark) (n : ℕ) → step_eq s t ≡ false
    → added_onto (t ∷ q) (after s ms) n ≡ n
onto_after_off s t q [] n e = refl
onto_after_off s t q (m ∷ ms) n e = ap (λ b. added_onto (t ∷ q) (after s ms) (if b then suc n else n)) off ∙
    onto_after_off s t q ms n e
  where
    off : (counts m.kind && path_eq (s ∷ m.path) (t ∷ q)) ≡ false
    off = rw (e, and_false (counts m.kind)) refl

onto_after : (s : Step) (q : Path) (ms : List Mark) (n : ℕ) → added_onto (s ∷ q) (after s ms) n ≡ added_onto q ms n
onto_after s q [] n = refl
onto_after s q (m ∷ ms) n = ap (λ b. added_onto (s ∷ q) (after s ms) (if b then suc n else n)) same ∙
    onto_after s q ms (if counts m.kind && path_eq m.path q then suc n else n)
  where
    same : (counts m.kind && path_eq (s ∷ m.path) (s ∷ q)) ≡ (counts m.kind && path_eq m.path q)
    same = rw (step_same s) refl

-- rows add no element
onto_after_none : (s : Step) (ms : List Mark) → ((q : Path) (n : ℕ) → added_onto q ms n ≡ n) → (q : Path) (n : ℕ)
    → added_onto q (after s ms) n ≡ n
onto_after_none s ms h [] n = onto_after_root s ms n
onto_after_none s ms h (t ∷ q) n = go (step_eq s t) refl
  where
    go : (b : Bool) → step_eq s t ≡ b → added_onto (t ∷ q) (after s ms) n ≡ n
    go false e = onto_after_off s t q ms n e
    go true e = subst (λ t. added_onto (t ∷ q) (after s ms) n ≡ n) (step_is s t e) (onto_after s q ms n ∙ h q n)

onto_keys : (v : Data) (ks : KeyTexts) (q : Path) (n : ℕ) → added_onto q (marks_of_keys ks v) n ≡ n
onto_keys v [] q n = refl
onto_keys v (k ∷ []) q n = refl
onto_keys v (k ∷ l ∷ ks) q n = onto_after_none (key k) (marks_of_keys (l ∷ ks) v) (onto_keys v (l ∷ ks)) q n

onto_rows : (rs : Rows) (q : Path) (n : ℕ) → added_onto q (marks_of_rows rs) n ≡ n
onto_rows no_rows q n = refl
onto_rows (row keys at v rs) q n = onto-append q (marks_of_keys (texts keys) (finished v)) (marks_of_rows rs) n
    ∙ onto_rows rs q (added_onto q (marks_of_keys (texts keys) (finished v)) n) ∙
    onto_keys (finished v) (texts keys) q n

passing_uncounted : (s : Step) → counts (passing s) ≡ false
passing_uncounted (key k) = refl
passing_uncounted (number n) = refl

pub onto_marks : (e : Option ℕ) (rs : Rows) (t q : Path) (n : ℕ)
    → added_onto q (marks_from e rs t) n ≡ (if adds_element e && path_eq t q then suc n else n)
onto_marks None rs [] q n = onto_rows rs q n
onto_marks (Some i) rs [] [] n = onto_after_root (number i) (mark [] named ∷ marks_of_rows rs) (suc n)
onto_marks (Some i) rs [] (t ∷ q) n =
    onto_after_none (number i) (mark [] named ∷ marks_of_rows rs) (onto_rows rs) (t ∷ q) n
onto_marks e rs (s ∷ t) [] n =
    ap (λ b. added_onto [] (after s (marks_from e rs t)) (if b && path_eq [] [] then suc n else n))
    (passing_uncounted s)
    ∙ onto_after_root s (marks_from e rs t) n ∙ ap (λ b. if b then suc n else n) (sym (and_false (adds_element e)))
onto_marks e rs (s ∷ t) (x ∷ q) n =
    ap (λ b. added_onto (x ∷ q) (after s (marks_from e rs t)) (if b && path_eq [] (x ∷ q) then suc n else n))
    (passing_uncounted s)
    ∙ go (onto_marks e rs t q n) (step_eq s x) refl
  where
    go : added_onto q (marks_from e rs t) n ≡ (if adds_element e && path_eq t q then suc n else n) → (b : Bool)
        → step_eq s x ≡ b
        → added_onto (x ∷ q) (after s (marks_from e rs t)) n
        ≡ (if adds_element e && path_eq (s ∷ t) (x ∷ q) then suc n else n)
    go ih false d = rw (d, and_false (adds_element e)) (onto_after_off s x q (marks_from e rs t) n d)
    go ih true d = subst (λ x. added_onto (x ∷ q) (after s (marks_from e rs t)) n
        ≡ (if adds_element e && path_eq (s ∷ t) (x ∷ q) then suc n else n)) (step_is s x d)
        (rw (step_same s) (onto_after s q (marks_from e rs t) n ∙ ih))

abbrev Counted : List Mark → List Placed → Type 0
Counted st before = (q : Path) → added_at st q ≡ elements_at q before

pub enter_all_grows : (ss : List Section) (before : List Placed) (st : List Mark) → Sized st → Counted st before
    → enter_all ss st ≡ (if has_row_clash ss then None else take_all st (all_marks (placed_from before ss)))
enter_all_grows [] before st h c = refl
enter_all_grows (s ∷ ss) before st h c =
    ap (λ o. and_then o (λ st. enter_all ss st)) (enter_grows s st h ∙
    ap (λ l. if rows_clash s.rows then None else take_all st (marks l))
    (offset_same (λ p. added_at st p) (λ p. elements_at p before) c s))
    ∙ go (λ st h c. enter_all_grows ss (l ∷ before) st h c) (rows_clash s.rows)
  where
    l : Placed
    l = placed_after before s

    later : List Mark
    later = all_marks (placed_from (l ∷ before) ss)

    go : ((st : List Mark) → Sized st → Counted st (l ∷ before)
        → enter_all ss st ≡ (if has_row_clash ss then None else take_all st later))
        → (b : Bool) → and_then (if b then None else take_all st (marks l)) (λ st. enter_all ss st)
        ≡ (if b || has_row_clash ss then None else take_all st (marks l ++ later))
    go ih true = refl
    go ih false = grow_then st (marks l) (λ st. enter_all ss st)
        (λ st. if has_row_clash ss then None else take_all st later) h
        (λ after sized counted. ih after sized (λ q. counted q ∙ onto_marks l.element l.rows l.target q (added_at st q)
        ∙ ap (λ n. if adds_element l.element && path_eq l.target q then suc n else n) (c q)))
        ∙ last (has_row_clash ss)
      where
        never : (o : Option (List Mark)) → and_then o (λ st. let r : Option (List Mark) = None in r) ≡ None
        never None = refl
        never (Some st) = refl

        last : (b : Bool) → and_then (take_all st (marks l)) (λ st. if b then None else take_all st later)
            ≡ (if b then None else take_all st (marks l ++ later))
        last true = never (take_all st (marks l))
        last false = sym (take-append st (marks l) later)

pub sound_from : (ss : List Section) (before : List Placed) → all_keyed ss ≡ true → has_row_clash ss ≡ false
    → Sound (placed_from before ss)
sound_from [] before k e = none
sound_from (s ∷ ss) before k e =
    let a : (is_keyed s ≡ true) × (all_keyed ss ≡ true) = and_parts _ _ k in
    let r : (rows_keyed s.rows ≡ true) × (header_keyed s.is_array (texts s.header) ≡ true) = and_parts _ _ a.0 in
    let b : (rows_clash s.rows ≡ false) × (has_row_clash ss ≡ false) = or_parts _ _ e in
    more r.0 b.0 (sound_from ss (placed_after before s ∷ before) a.1 b.1)

-- exactly where nothing clashes
pub accepts : (ss : List Section) → all_keyed ss ≡ true
    → is_some (enter_all ss []) ≡ not (has_row_clash ss || any_placed_clash ss)
accepts ss k = ap is_some (enter_all_grows ss [] [] (λ p. refl) (λ p. refl)) ∙ go (has_row_clash ss) refl
  where
    go : (b : Bool) → has_row_clash ss ≡ b
        → is_some (if b then None else take_all [] (all_marks (placed ss))) ≡ not (b || any_placed_clash ss)
    go true e = refl
    go false e = run_takes (placed ss) (sound_from ss [] k e)
