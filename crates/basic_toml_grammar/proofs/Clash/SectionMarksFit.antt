-- The marks of one section may stand together where its rows do not clash; so a run takes the marks of a list of sections
-- exactly where no two of these clash.
use Rattle.std.proofs.Common.{◌≡◌, ℕ, Bool, true, false, List, [], ◌∷◌, ◌++◌, Option, Some, None, refl, ap, sym, ◌∙◌}
use Rattle.std.proofs.Common.{subst}
use Rattle.std.specs.Prelude.{◌||◌, not, is_some}
use Rattle.std.specs.List.{list_any}
use Rattle.std.specs.Str.{bytes_eq}
use Rattle.std.proofs.lemmas.Bool.{false≢true, and_parts, or_left, or_right, or_parts}
use Rattle.std.proofs.lemmas.List.Folds.{list_any-append}
use Rattle.std.proofs.lemmas.Slice.Eq.{bytes_eq-Decides}
use Rattle.basic_toml_value.specs.Data.{Data}
use Rattle.basic_toml_grammar.specs.Sections.{KeyTexts, texts, Rows, no_rows, row}
use Rattle.basic_toml_grammar.specs.Steps.{Step, key, number, Path, path_eq, overlap, steps_of}
use Rattle.basic_toml_grammar.specs.RowClash.{any_overlaps, rows_clash, value_clashes}
use Rattle.basic_toml_grammar.specs.SectionClash.{any_pair}
use Rattle.basic_toml_grammar.specs.Mentions.{finished}
use Rattle.basic_toml_grammar.specs.Placed.{Placed, placed_clash}
use Rattle.basic_toml_grammar.specs.Marks.{MarkKind, named, added, dotted, collide, Mark, mark, after, passing}
use Rattle.basic_toml_grammar.specs.Marks.{marks_of_keys, marks_of_rows, marks_from, marks, all_marks, hits, refuses}
use Rattle.basic_toml_grammar.specs.Marks.{is_refused}
use Rattle.basic_toml_grammar.specs.Standing.{take_all}
use Rattle.basic_toml_grammar.specs.Entering.{rows_keyed}
use Rattle.basic_toml_grammar.proofs.AmongElements.{Among}
use Rattle.basic_toml_grammar.proofs.Clash.StepTestsDecide.{paths_are, step_same}
use Rattle.basic_toml_grammar.proofs.Clash.WhatSectionsSay.{KeysSay, value_here, dots_here, deeper, RowsSay, this_row}
use Rattle.basic_toml_grammar.proofs.Clash.WhatSectionsSay.{later_row}
use Rattle.basic_toml_grammar.proofs.Clash.ClashIsCollision.{clash_with}
use Rattle.basic_toml_grammar.proofs.Clash.MarksAreWhatIsSaid.{keys_said, rows_said, any_here, same_truth, refused_pair}
use Rattle.basic_toml_grammar.proofs.Clash.MarksFit.{refused_more, takes_where, tells_none}

texts_same : (k : List ℕ) → bytes_eq k k ≡ true
texts_same k = (bytes_eq-Decides k k).1 refl

-- two rows that say of one path what may not be said together overlap
keys_overlap : {v w : Data} {ks ls : KeyTexts} {q : Path} {m n : MarkKind} → KeysSay v ks q m → KeysSay w ls q n
    → collide m n ≡ true → overlap (steps_of ks) (steps_of ls) ≡ true
keys_overlap value_here y c = refl
keys_overlap (dots_here {k = k}) (deeper value_here) c = rw (texts_same k) refl
keys_overlap (deeper {k = k} value_here) (dots_here) c = rw (texts_same k) refl
keys_overlap dots_here dots_here c = absurd (false≢true c)
keys_overlap (deeper {k = k} x) (deeper y) c = rw (texts_same k) (keys_overlap x y c)

rows_overlap : {v : Data} {ks : KeyTexts} {rs : Rows} {q : Path} {m n : MarkKind} → KeysSay v ks q m → RowsSay rs q n
    → collide m n ≡ true → any_overlaps (steps_of ks) rs ≡ true
rows_overlap x (this_row y) c = or_left _ _ (keys_overlap x y c)
rows_overlap x (later_row y) c = or_right _ _ (rows_overlap x y c)

or_none : (b : Bool) → (b || false) ≡ b
or_none true = refl
or_none false = refl

refused_by_none : (ns : List Mark) → is_refused [] ns ≡ false
refused_by_none [] = refl
refused_by_none (n ∷ ns) = refused_by_none ns

sorted : (a b c d e : Bool) → ((a || b) || (c || (d || e))) ≡ ((a || c) || (d || (b || e)))
sorted true b c d e = refl
sorted false true true d e = refl
sorted false true false true e = refl
sorted false true false false e = refl
sorted false false c d e = assoc c d e
  where
    assoc : (c d e : Bool) → (c || (d || e)) ≡ (c || (d || e))
    assoc c d e = refl

pairs-append : (ms ns : List Mark)
    → any_pair hits (ms ++ ns) ≡ (any_pair hits ms || (any_pair hits ns || is_refused ms ns))
pairs-append [] ns = sym (ap (λ x. any_pair hits ns || x) (refused_by_none ns) ∙ or_none (any_pair hits ns))
pairs-append (m ∷ ms) ns =
    ap (λ x. x || any_pair hits (ms ++ ns)) (list_any-append (hits m) ms ns)
    ∙ ap (λ x. (list_any (hits m) ms || list_any (hits m) ns) || x) (pairs-append ms ns)
    ∙ sorted (list_any (hits m) ms) (list_any (hits m) ns) (any_pair hits ms) (any_pair hits ns) (is_refused ms ns)
    ∙ ap (λ x. (list_any (hits m) ms || any_pair hits ms) || (any_pair hits ns || x)) (sym (refused_more m ms ns))

hits_after : (s : Step) (m : Mark) (ns : List Mark)
    → list_any (hits (mark (s ∷ m.path) m.kind)) (after s ns) ≡ list_any (hits m) ns
hits_after s m [] = refl
hits_after s m (n ∷ ns) = rw (hits_after s m ns, step_same s) refl

pairs_after : (s : Step) (ms : List Mark) → any_pair hits (after s ms) ≡ any_pair hits ms
pairs_after s [] = refl
pairs_after s (m ∷ ms) = rw (pairs_after s ms) (ap (λ x. x || any_pair hits ms) (hits_after s m ms))

-- no mark after a step is one of the root
root_free : (k : MarkKind) (s : Step) (ms : List Mark) → list_any (hits (mark [] k)) (after s ms) ≡ false
root_free k s [] = refl
root_free k s (m ∷ ms) = root_free k s ms

keys_root_free : (v : Data) (k : MarkKind) (l : List ℕ) (ks : KeyTexts)
    → list_any (hits (mark [] k)) (marks_of_keys (l ∷ ks) v) ≡ false
keys_root_free v k l [] = refl
keys_root_free v k l (j ∷ ks) = root_free k (key l) (marks_of_keys (j ∷ ks) v)

rows_root_free : (k : MarkKind) (rs : Rows) → rows_keyed rs ≡ true
    → list_any (hits (mark [] k)) (marks_of_rows rs) ≡ false
rows_root_free k no_rows e = refl
rows_root_free k (row [] at v rs) e = absurd (false≢true e)
rows_root_free k (row (l ∷ keys) at v rs) e =
    list_any-append (hits (mark [] k)) (marks_of_keys (texts (l ∷ keys)) (finished v)) (marks_of_rows rs)
    ∙ rw (keys_root_free (finished v) k l.text (texts keys), rows_root_free k rs e) refl

-- the marks of one row
deeper_free : (v : Data) (s : Step) (k : MarkKind) (l : List ℕ) (ks : KeyTexts)
    → list_any (hits (mark (s ∷ []) k)) (after s (marks_of_keys (l ∷ ks) v)) ≡ false
deeper_free v s k l ks = hits_after s (mark [] k) (marks_of_keys (l ∷ ks) v) ∙ keys_root_free v k l ks

own_keys : (v : Data) (ks : KeyTexts) → any_pair hits (marks_of_keys ks v) ≡ false
own_keys v [] = refl
own_keys v (k ∷ []) = refl
own_keys v (k ∷ l ∷ ks) =
    rw (deeper_free v (key k) dotted l ks, pairs_after (key k) (marks_of_keys (l ∷ ks) v)) (own_keys v (l ∷ ks))

own_rows : (rs : Rows) → rows_clash rs ≡ false → any_pair hits (marks_of_rows rs) ≡ false
own_rows no_rows e = refl
own_rows (row keys at v rs) e =
    let a : ((any_overlaps (steps_of (texts keys)) rs || value_clashes v) ≡ false) × (rows_clash rs ≡ false) =
    or_parts _ _ e in
    let b : (any_overlaps (steps_of (texts keys)) rs ≡ false) × (value_clashes v ≡ false) = or_parts _ _ a.0 in
    pairs-append (marks_of_keys (texts keys) (finished v)) (marks_of_rows rs)
    ∙ rw (own_keys (finished v) (texts keys), own_rows rs a.1) (apart b.0)
  where
    apart : any_overlaps (steps_of (texts keys)) rs ≡ false
        → is_refused (marks_of_keys (texts keys) (finished v)) (marks_of_rows rs) ≡ false
    apart o = same_truth _ _ (λ e. absurd (false≢true (sym o ∙ found e))) (λ e. absurd (false≢true e))
      where
        found : is_refused (marks_of_keys (texts keys) (finished v)) (marks_of_rows rs) ≡ true
            → any_overlaps (steps_of (texts keys)) rs ≡ true
        found e =
            let m : (m : Mark) × Among m (marks_of_rows rs)
            × (refuses (marks_of_keys (texts keys) (finished v)) m ≡ true) =
            any_here (refuses (marks_of_keys (texts keys) (finished v))) (marks_of_rows rs) e in
            let x : (x : Mark) × Among x (marks_of_keys (texts keys) (finished v)) × (hits x m.0 ≡ true) =
            any_here _ (marks_of_keys (texts keys) (finished v)) m.2 in
            let c : (path_eq x.0.path m.0.path ≡ true) × (collide x.0.kind m.0.kind ≡ true) = and_parts _ _ x.2 in
            rows_overlap (subst (λ p. KeysSay (finished v) (texts keys) p x.0.kind) (paths_are x.0.path m.0.path c.0)
            (keys_said (finished v) (texts keys) x.1)) (rows_said rs m.1) c.1

own_there : (rs : Rows) → rows_keyed rs ≡ true → rows_clash rs ≡ false
    → any_pair hits (mark [] named ∷ marks_of_rows rs) ≡ false
own_there rs k e = rw (rows_root_free named rs k) (own_rows rs e)

pub own_marks : (e : Option ℕ) (rs : Rows) (t : Path) → rows_keyed rs ≡ true → rows_clash rs ≡ false
    → any_pair hits (marks_from e rs t) ≡ false
own_marks None rs [] k c = own_there rs k c
own_marks (Some n) rs [] k c =
    rw (
      root_free added (number n) (mark [] named ∷ marks_of_rows rs),
      pairs_after (number n) (mark [] named ∷ marks_of_rows rs),
    ) (own_there rs k c)
own_marks e rs (s ∷ t) k c =
    rw (root_free (passing s) s (marks_from e rs t), pairs_after s (marks_from e rs t)) (own_marks e rs t k c)

-- what several lists of marks refuse
pub refused_all : (l : Placed) (ls : List Placed) → is_refused (marks l) (all_marks ls) ≡ list_any (placed_clash l) ls
refused_all l [] = refl
refused_all l (x ∷ ls) = list_any-append (refuses (marks l)) (marks x) (all_marks ls)
    ∙ ap (λ b. b || is_refused (marks l) (all_marks ls)) (refused_pair x l ∙
    clash_with x.element x.rows x.target l.element l.rows l.target)
    ∙ ap (λ b. placed_clash l x || b) (refused_all l ls)

-- of each section: rows with keys, and no two that clash
pub data Sound : List Placed → Type 0 where
  none : Sound []
  more : {l : Placed} {ls : List Placed} → rows_keyed l.rows ≡ true → rows_clash l.rows ≡ false → Sound ls
      → Sound (l ∷ ls)

pub all_pairs : (ls : List Placed) → Sound ls → any_pair hits (all_marks ls) ≡ any_pair placed_clash ls
all_pairs [] none = refl
all_pairs (l ∷ ls) (more k c h) = pairs-append (marks l) (all_marks ls)
    ∙ rw (own_marks l.element l.rows l.target k c, all_pairs ls h, refused_all l ls)
    (swap (any_pair placed_clash ls) (list_any (placed_clash l) ls))
  where
    swap : (a b : Bool) → (a || b) ≡ (b || a)
    swap true true = refl
    swap true false = refl
    swap false true = refl
    swap false false = refl

-- the marks of a list of sections are taken exactly where no two clash
pub run_takes : (ls : List Placed) → Sound ls → is_some (take_all [] (all_marks ls)) ≡ not (any_pair placed_clash ls)
run_takes ls h = takes_where [] (all_marks ls) tells_none ∙
    rw (refused_by_none (all_marks ls)) (ap not (all_pairs ls h))
