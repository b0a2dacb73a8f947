-- Where nothing clashes, no two mentions are in each other's way.
use Rattle.std.proofs.Common.{◌≡◌, ◌⊎◌, inl, inr, ℕ, Bool, true, false, not, cond, List, [], ◌∷◌, ◌++◌, refl, ap}
use Rattle.std.proofs.Common.{sym, ◌∙◌, subst, append_assoc, Option, Some, None}
use Rattle.std.specs.Prelude.{◌&&◌, ◌||◌}
use Rattle.std.specs.List.{list_any}
use Rattle.std.proofs.lemmas.Bool.{false≢true, or_parts, or_from}
use Rattle.basic_toml_value.specs.Data.{Data}
use Rattle.basic_toml_grammar.specs.Sections.{KeyTexts, texts, Rows, no_rows, row, Section}
use Rattle.basic_toml_grammar.specs.Steps.{key, number, Path, step_eq, begins, overlap, steps_of}
use Rattle.basic_toml_grammar.specs.RowClash.{any_overlaps, rows_clash, value_clashes, has_row_clash}
use Rattle.basic_toml_grammar.specs.SectionClash.{any_pair, sections_clash}
use Rattle.basic_toml_grammar.specs.Mentions.{finished, row_mentions, section_mentions, mentions}
use Rattle.basic_toml_grammar.specs.Tree.{Mention}
use Rattle.basic_toml_grammar.specs.IndexedPath.{located}
use Rattle.basic_toml_grammar.specs.Placed.{Placed, step_into, path_of, placed, placed_clash}
use Rattle.basic_toml_grammar.specs.Marks.{by_latest}
use Rattle.basic_toml_grammar.proofs.Clash.StepTestsDecide.{step_same}
use Rattle.basic_toml_grammar.proofs.Clash.WhatSectionsSay.{Says}
use Rattle.basic_toml_grammar.proofs.Clash.ClashIsCollision.{clash_with}
use Rattle.basic_toml_grammar.specs.Entering.{rows_keyed, all_keyed}
use Rattle.basic_toml_grammar.proofs.AmongElements.{Among, first, next, among_either}
use Rattle.basic_toml_grammar.proofs.Clash.SectionMarksFit.{Sound}
use Rattle.basic_toml_grammar.proofs.Clash.EnteringAccepts.{sound_from}
use Rattle.basic_toml_grammar.proofs.Clash.ClashesAgree.{clashes_agree, turn_eq}
use Rattle.basic_toml_grammar.proofs.Trees.EnteringGrows.{placed_mentions, mentions_are}
use Rattle.basic_toml_grammar.proofs.Nesting.TreeIsAsDeepAsMentions.{same_kind, bars, barred_by, Peace, none, more}
use Rattle.std.proofs.lemmas.List.{append-nil}
use Rattle.std.proofs.lemmas.List.Folds.{list_any-append}
use Rattle.basic_toml_grammar.proofs.Trees.PeacefulSectionsDoNotOverlap.{RowOf, this, later, Tells, itself, a_row}
use Rattle.basic_toml_grammar.proofs.Trees.PeacefulSectionsDoNotOverlap.{inside, along, sections_free}
use Rattle.basic_toml_grammar.proofs.Clash.LatestElementsWereAdded.{Added, latest_added, any_free, avoids}

-- what a section mentions, it tells
along_all : {e : Option ℕ} {rs : Rows} {q : Path} {v : Option Data} (t : Path) → Tells e rs [] q v
    → Tells e rs t (t ++ q) v
along_all [] x = x
along_all (s ∷ t) x = along (along_all t x)

tells_table : (e : Option ℕ) (rs : Rows) (t : Path) → Tells e rs t (t ++ step_into e) None
tells_table None rs t = along_all t itself
tells_table (Some n) rs t = along_all t (inside itself)

tells_row : {ks : KeyTexts} {d : Data} {rs : Rows} (e : Option ℕ) (t : Path) → RowOf ks d rs
    → Tells e rs t ((t ++ step_into e) ++ steps_of ks) (Some d)
tells_row {ks = ks} {d = d} {rs = rs} None t x =
    subst (λ p. Tells None rs t p (Some d)) (sym (append_assoc t [] (steps_of ks))) (along_all t (a_row x))
tells_row {ks = ks} {d = d} {rs = rs} (Some n) t x =
    subst (λ p. Tells (Some n) rs t p (Some d)) (sym (append_assoc t (number n ∷ []) (steps_of ks)))
    (along_all t (inside (a_row x)))

rows_told : (e : Option ℕ) (t p : Path) (rs os : Rows) → ((ks : KeyTexts) (d : Data) → RowOf ks d os → RowOf ks d rs)
    → p ≡ t ++ step_into e
    → {m : Mention} → Among m (row_mentions p os) → Tells e rs t m.path m.value
rows_told e t p rs no_rows sub h a = elim a [ ]
rows_told e t p rs (row keys at v os) sub h first =
    subst (λ q. Tells e rs t (q ++ steps_of (texts keys)) (Some (finished v))) (sym h)
    (tells_row e t (sub (texts keys) (finished v) this))
rows_told e t p rs (row keys at v os) sub h (next a) = rows_told e t p rs os (λ ks d x. sub ks d (later x)) h a

section_told : (l : Placed) {m : Mention} → Among m (section_mentions (path_of l) l.rows)
    → Tells l.element l.rows l.target m.path m.value
section_told l first = tells_table l.element l.rows l.target
section_told l (next a) = rows_told l.element l.target (path_of l) l.rows l.rows (λ ks d x. x) refl a

-- rows of one section
bars_under : (p a b : Path) (v w : Option Data) → bars (p ++ a) v (p ++ b) w ≡ bars a v b w
bars_under [] a b v w = refl
bars_under (s ∷ p) a b v w = ap (λ c. cond c (bars (p ++ a) v (p ++ b) w) (not (same_kind s s))) (step_same s) ∙
    bars_under p a b v w

bars_keys : (ks ls : KeyTexts) (d c : Data)
    → bars (steps_of ks) (Some d) (steps_of ls) (Some c) ≡ overlap (steps_of ks) (steps_of ls)
bars_keys [] ls d c = refl
bars_keys (k ∷ ks) [] d c = refl
bars_keys (k ∷ ks) (l ∷ ls) d c =
    go (step_eq (key k) (key l)) (step_eq (key l) (key k)) (turn_eq (key k) (key l)) (bars_keys ks ls d c)
  where
    go : (a b : Bool) → a ≡ b → bars (steps_of ks) (Some d) (steps_of ls) (Some c) ≡ overlap (steps_of ks) (steps_of ls)
        → cond a (bars (steps_of ks) (Some d) (steps_of ls) (Some c)) false
        ≡ ((a && begins (steps_of ks) (steps_of ls)) || (b && begins (steps_of ls) (steps_of ks)))
    go true true e h = h
    go false false e h = refl
    go true false e h = absurd (false≢true (sym e))
    go false true e h = absurd (false≢true e)

row_free : (p : Path) (ks : KeyTexts) (d : Data) (rs : Rows)
    → list_any (barred_by (record { path = p ++ steps_of ks; value = Some d })) (row_mentions p rs)
    ≡ any_overlaps (steps_of ks) rs
row_free p ks d no_rows = refl
row_free p ks d (row keys at v rs) =
    ap (λ b. b || list_any (barred_by (record { path = p ++ steps_of ks; value = Some d })) (row_mentions p rs))
    (bars_under p (steps_of ks) (steps_of (texts keys)) (Some d) (Some (finished v)) ∙
    bars_keys ks (texts keys) d (finished v))
    ∙ ap (λ b. overlap (steps_of ks) (steps_of (texts keys)) || b) (row_free p ks d rs)

pub rows_peace : (p : Path) (rs : Rows) → rows_clash rs ≡ false → Peace (row_mentions p rs)
rows_peace p no_rows e = none
rows_peace p (row keys at v rs) e =
    let a : ((any_overlaps (steps_of (texts keys)) rs || value_clashes v) ≡ false) × (rows_clash rs ≡ false) =
    or_parts _ _ e in
    let b : (any_overlaps (steps_of (texts keys)) rs ≡ false) × (value_clashes v ≡ false) = or_parts _ _ a.0 in
    more (row_free p (texts keys) (finished v) rs ∙ b.0) (rows_peace p rs a.1)

table_free : (p : Path) (rs : Rows) → rows_keyed rs ≡ true
    → list_any (barred_by (record { path = p; value = None })) (row_mentions p rs) ≡ false
table_free p no_rows k = refl
table_free p (row [] at v rs) k = absurd (false≢true k)
table_free p (row (l ∷ keys) at v rs) k =
    or_from _ _ (ap (λ q. bars q None (p ++ steps_of (texts (l ∷ keys))) (Some (finished v))) (sym (append-nil p)) ∙
    bars_under p [] (steps_of (texts (l ∷ keys))) None (Some (finished v)))
    (table_free p rs k)

section_peace : (p : Path) (rs : Rows) → rows_keyed rs ≡ true → rows_clash rs ≡ false → Peace (section_mentions p rs)
section_peace p rs k e = more (table_free p rs k) (rows_peace p rs e)

-- lists of mentions
none_barred : (m : Mention) (ns : List Mention) → ((n : Mention) → Among n ns → barred_by m n ≡ true → ⊥)
    → list_any (barred_by m) ns ≡ false
none_barred m [] h = refl
none_barred m (n ∷ ns) h = or_from _ _ (known (barred_by m n) refl) (none_barred m ns (λ x a. h x (next a)))
  where
    known : (b : Bool) → barred_by m n ≡ b → b ≡ false
    known false e = refl
    known true e = absurd (h n first e)

peace-append : {ms ns : List Mention} → Peace ms → Peace ns
    → ((m n : Mention) → Among m ms → Among n ns → barred_by m n ≡ true → ⊥) → Peace (ms ++ ns)
peace-append none q h = q
peace-append {ns = ns} (more {m = m} {ms = ms} e p) q h =
    more (list_any-append (barred_by m) ms ns ∙ or_from _ _ e (none_barred m ns (λ n a. h m n first a)))
    (peace-append p q (λ x n a b. h x n (next a) b))

among_placed : {m : Mention} (ls : List Placed) → Among m (placed_mentions ls) → (l : Placed) × Among l ls
    × Among m (section_mentions (path_of l) l.rows)
among_placed [] a = elim a [ ]
among_placed {m = m} (l ∷ ls) a =
    go (among_either (section_mentions (path_of l) l.rows) (placed_mentions ls) a) (among_placed ls)
  where
    go : Among m (section_mentions (path_of l) l.rows) ⊎ Among m (placed_mentions ls)
        → (Among m (placed_mentions ls) → (k : Placed) × Among k ls × Among m (section_mentions (path_of k) k.rows))
        → (k : Placed) × Among k (l ∷ ls) × Among m (section_mentions (path_of k) k.rows)
    go (inl h) f = (l, first, h)
    go (inr h) f = let r = f h in (r.0, next r.1, r.2)

placed_peace : (all : List Placed) → any_pair placed_clash all ≡ false
    → ((j : Placed) → Among j all → (c : Path) → Says j.element j.rows j.target c by_latest → Added all c)
    → (ls : List Placed) → ((l : Placed) → Among l ls → Among l all) → any_pair placed_clash ls ≡ false → Sound ls
    → Peace (placed_mentions ls)
placed_peace all free late [] sub e Sound.none = none
placed_peace all free late (l ∷ ls) sub e (Sound.more k c sound) =
    peace-append (section_peace (path_of l) l.rows k c)
    (placed_peace all free late ls (λ x m. sub x (next m)) (or_parts _ _ e).1 sound) apart_from
  where
    apart_from : (m n : Mention) → Among m (section_mentions (path_of l) l.rows) → Among n (placed_mentions ls)
        → barred_by m n ≡ true → ⊥
    apart_from m n a b h =
        let r = among_placed ls b in
        let f : placed_clash l r.0 ≡ false = any_free l (or_parts _ _ e).0 r.1 in
        sections_free l.element l.rows l.target r.0.element r.0.rows r.0.target (section_told l a)
        (section_told r.0 r.2) f
        (clash_with r.0.element r.0.rows r.0.target l.element l.rows l.target ∙ f)
        (avoids all free late l r.0 (sub l first) (sub r.0 (next r.1)))
        (avoids all free late r.0 l (sub r.0 (next r.1)) (sub l first))
        [] m.path n.path refl refl h

-- no two mentions of a list bar each other
pub mentions_peace : (ss : List Section) → all_keyed ss ≡ true → has_row_clash ss ≡ false → sections_clash ss ≡ false
    → Peace (mentions (located ss))
mentions_peace ss k r e =
    subst Peace (sym (mentions_are [] ss))
    (placed_peace (placed ss) free (λ j m c x. latest_added (placed ss) [] ss (λ k m. elim m [ ]) (λ k m. m) j m c x)
    (placed ss) (λ l m. m) free (sound_from ss [] k r))
  where
    free : any_pair placed_clash (placed ss) ≡ false
    free = sym (clashes_agree ss k) ∙ e
