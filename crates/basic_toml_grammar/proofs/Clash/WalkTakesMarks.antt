-- The walk takes the marks of the section at its indexed path, and no others.
use Rattle.std.proofs.Common.{◌≡◌, ℕ, zero, suc, Bool, true, false, cond, List, [], ◌∷◌, ◌++◌, Option, Some, None}
use Rattle.std.proofs.Common.{refl, ap, sym, ◌∙◌, subst, append_assoc}
use Rattle.std.specs.Prelude.{◌&&◌, if◌then◌else◌}
use Rattle.std.proofs.lemmas.Bool.{false≢true}
use Rattle.basic_toml_value.specs.Data.{Data}
use Rattle.basic_toml_grammar.specs.Sections.{KeyTexts, texts, Rows, no_rows, row, Section}
use Rattle.basic_toml_grammar.specs.Steps.{Step, key, number, Path, path_eq}
use Rattle.basic_toml_grammar.specs.RowClash.{rows_clash}
use Rattle.basic_toml_grammar.specs.IndexedPath.{latest}
use Rattle.basic_toml_grammar.specs.Mentions.{finished}
use Rattle.basic_toml_grammar.specs.Placed.{target_from, element_from, placed_by}
use Rattle.basic_toml_grammar.specs.Marks.{MarkKind, passed, by_latest, named, added, dotted, valued, Mark, mark}
use Rattle.basic_toml_grammar.specs.Marks.{after, passing, marks_of_keys, marks_of_rows, marks_from, marks}
use Rattle.basic_toml_grammar.specs.Standing.{Standing, table, array, value, fits, taken, standing_at, take_all}
use Rattle.basic_toml_grammar.specs.Entering.{and_then, take_mark, element_count, count_at, add_row, add_rows}
use Rattle.basic_toml_grammar.specs.Entering.{add_table, by_element, add_element, walk, enter}
use Rattle.basic_toml_grammar.proofs.Clash.StepTestsDecide.{paths_are}

abbrev pub under : Path → List Mark → List Mark
under p [] = []
under p (m ∷ ms) = mark (p ++ m.path) m.kind ∷ under p ms

append_none : (p : Path) → p ++ [] ≡ p
append_none [] = refl
append_none (s ∷ p) = ap (λ p. s ∷ p) (append_none p)

pub under_after : (p : Path) (s : Step) (ms : List Mark) → under p (after s ms) ≡ under (p ++ s ∷ []) ms
under_after p s [] = refl
under_after p s (m ∷ ms) = rw (append_assoc p (s ∷ []) m.path, under_after p s ms) refl

pub under_append : (p : Path) (ms ns : List Mark) → under p (ms ++ ns) ≡ under p ms ++ under p ns
under_append p [] ns = refl
under_append p (m ∷ ms) ns = ap (λ x. mark (p ++ m.path) m.kind ∷ x) (under_append p ms ns)

pub under_none : (ms : List Mark) → under [] ms ≡ ms
under_none [] = refl
under_none (m ∷ ms) = ap (λ x. m ∷ x) (under_none ms)

pub take-append : (st ms ns : List Mark) → take_all st (ms ++ ns) ≡ and_then (take_all st ms) (λ st. take_all st ns)
take-append st [] ns = refl
take-append st (m ∷ ms) ns = go (fits m.kind (standing_at st m.path)) (take-append (m ∷ st) ms ns)
  where
    go : (b : Bool) → take_all (m ∷ st) (ms ++ ns) ≡ and_then (take_all (m ∷ st) ms) (λ st. take_all st ns)
        → cond b (take_all (m ∷ st) (ms ++ ns)) None
        ≡ and_then (cond b (take_all (m ∷ st) ms) None) (λ st. take_all st ns)
    go true e = e
    go false e = refl

and_then_same : (o : Option (List Mark)) (f g : List Mark → Option (List Mark)) → ((st : List Mark) → f st ≡ g st)
    → and_then o f ≡ and_then o g
and_then_same None f g h = refl
and_then_same (Some st) f g h = h st

-- a mark that is taken, and then others
take_grows : (p : Path) (k : MarkKind) (st : List Mark) (f : List Mark → Option (List Mark)) (ms : List Mark)
    → (fits k (standing_at st p) ≡ true → f (mark p k ∷ st) ≡ take_all (mark p k ∷ st) ms)
    → and_then (take_mark p k st) f ≡ take_all st (mark p k ∷ ms)
take_grows p k st f ms h = go (fits k (standing_at st p)) refl
  where
    go : (b : Bool) → fits k (standing_at st p) ≡ b
        → and_then (cond b (Some (mark p k ∷ st)) None) f ≡ cond b (take_all (mark p k ∷ st) ms) None
    go true e = h e
    go false e = refl

row_grows : (p : Path) (ks : KeyTexts) (v : Data) (st : List Mark)
    → add_row p ks v st ≡ take_all st (under p (marks_of_keys ks v))
row_grows p [] v st = rw (append_none p) refl
row_grows p (k ∷ []) v st = refl
row_grows p (k ∷ l ∷ ks) v st =
    take_grows (p ++ key k ∷ []) dotted st (λ st. add_row (p ++ key k ∷ []) (l ∷ ks) v st)
    (under p (after (key k) (marks_of_keys (l ∷ ks) v)))
    (λ e. row_grows (p ++ key k ∷ []) (l ∷ ks) v (mark (p ++ key k ∷ []) dotted ∷ st)
    ∙ ap (λ ms. take_all (mark (p ++ key k ∷ []) dotted ∷ st) ms)
    (sym (under_after p (key k) (marks_of_keys (l ∷ ks) v))))

rows_grow : (p : Path) (rs : Rows) (st : List Mark) → add_rows p rs st ≡ take_all st (under p (marks_of_rows rs))
rows_grow p no_rows st = refl
rows_grow p (row keys at v rs) st =
    ap (λ o. and_then o (λ st. add_rows p rs st)) (row_grows p (texts keys) (finished v) st)
    ∙ and_then_same (take_all st (under p (marks_of_keys (texts keys) (finished v)))) (λ st. add_rows p rs st)
    (λ st. take_all st (under p (marks_of_rows rs))) (λ st. rows_grow p rs st)
    ∙ sym (take-append st (under p (marks_of_keys (texts keys) (finished v))) (under p (marks_of_rows rs)))
    ∙ ap (λ ms. take_all st ms) (sym (under_append p (marks_of_keys (texts keys) (finished v)) (marks_of_rows rs)))

table_grows : (p : Path) (rs : Rows) (st : List Mark)
    → add_table p rs st ≡ take_all st (under p (mark [] named ∷ marks_of_rows rs))
table_grows p rs st = take_grows p named st (λ st. add_rows p rs st) (under p (marks_of_rows rs))
    (λ e. rows_grow p rs (mark p named ∷ st))
    ∙ ap (λ x. take_all st (mark x named ∷ under p (marks_of_rows rs))) (sym (append_none p))

-- how many elements were added to the array at a path
abbrev pub counts : MarkKind → Bool
counts added = true
counts k = false

abbrev pub added_at : List Mark → Path → ℕ
added_at [] p = 0
added_at (m ∷ st) p = if counts m.kind && path_eq m.path p then suc (added_at st p) else added_at st p

abbrev pub Sized : List Mark → Type 0
Sized st = (p : Path) → count_at st p ≡ added_at st p

size_law : (k : MarkKind) (m : Option Standing) → fits k m ≡ true
    → element_count (Some (taken k m)) ≡ cond (counts k) (suc (element_count m)) (element_count m)
size_law passed None e = refl
size_law passed (Some (table p n d)) e = refl
size_law passed (Some (array zero)) e = refl
size_law passed (Some (array (suc n))) e = absurd (false≢true e)
size_law passed (Some value) e = absurd (false≢true e)
size_law named None e = refl
size_law named (Some (table p n d)) e = refl
size_law named (Some (array zero)) e = refl
size_law named (Some (array (suc n))) e = absurd (false≢true e)
size_law named (Some value) e = absurd (false≢true e)
size_law dotted None e = refl
size_law dotted (Some (table p n d)) e = refl
size_law dotted (Some (array zero)) e = refl
size_law dotted (Some (array (suc n))) e = absurd (false≢true e)
size_law dotted (Some value) e = absurd (false≢true e)
size_law by_latest None e = refl
size_law by_latest (Some m) e = refl
size_law added None e = refl
size_law added (Some (table p n d)) e = absurd (false≢true e)
size_law added (Some (array n)) e = refl
size_law added (Some value) e = absurd (false≢true e)
size_law (valued w) None e = refl
size_law (valued w) (Some m) e = absurd (false≢true e)

pub sized_more : (p : Path) (k : MarkKind) (st : List Mark) → Sized st → fits k (standing_at st p) ≡ true
    → Sized (mark p k ∷ st)
sized_more p k st h f q = go (path_eq p q) refl
  where
    here : (b : Bool) → cond b (suc (added_at st q)) (added_at st q)
        ≡ cond (b && true) (suc (added_at st q)) (added_at st q)
    here true = refl
    here false = refl

    off : (b : Bool) → added_at st q ≡ cond (b && false) (suc (added_at st q)) (added_at st q)
    off true = refl
    off false = refl

    go : (b : Bool) → path_eq p q ≡ b
        → element_count (cond b (Some (taken k (standing_at st q))) (standing_at st q))
        ≡ cond (counts k && b) (suc (added_at st q)) (added_at st q)
    go false e = h q ∙ off (counts k)
    go true e = size_law k (standing_at st q) (subst (λ p. fits k (standing_at st p) ≡ true) (paths_are p q e) f)
        ∙ ap (λ n. cond (counts k) (suc n) n) (h q) ∙ here (counts k)

marks_step : (cut : Path) (s : Step) (e : Option ℕ) (rs : Rows) (t : Path)
    → under cut (marks_from e rs (s ∷ t)) ≡ mark cut (passing s) ∷ under (cut ++ s ∷ []) (marks_from e rs t)
marks_step cut s e rs t = rw (append_none cut, under_after cut s (marks_from e rs t)) refl

marks_added : (here : Path) (n : ℕ) (rs : Rows)
    → under here (marks_from (Some n) rs []) ≡ mark here added
    ∷ under (here ++ number n ∷ []) (mark [] named ∷ marks_of_rows rs)
marks_added here n rs = rw (append_none here)
    (ap (λ ms. mark here added ∷ ms) (under_after here (number n) (mark [] named ∷ marks_of_rows rs)))

-- THE WALK, from a cut on
pub walk_grows : (a : Bool) (rs : Rows) (cut : Path) (keys : KeyTexts) (st : List Mark) → Sized st
    → walk a rs cut keys st ≡ take_all st
    (under cut (marks_from (element_from (λ p. added_at st p) a cut keys) rs
    (target_from (λ p. added_at st p) a cut keys)))
walk_grows a rs cut [] st h = table_grows cut rs st
walk_grows true rs cut (k ∷ []) st h =
    take_grows cut passed st (λ st. add_element rs here st) (under here (marks_from (Some n) rs []))
    (λ e. let h' : Sized after = sized_more cut passed st h e in
    ap (λ n. and_then (take_mark here added after) (λ st. add_table (here ++ number n ∷ []) rs st)) (h' here)
    ∙ take_grows here added after (λ st. add_table (here ++ number n ∷ []) rs st)
    (under (here ++ number n ∷ []) (mark [] named ∷ marks_of_rows rs))
    (λ e. table_grows (here ++ number n ∷ []) rs (mark here added ∷ after))
    ∙ ap (λ ms. take_all after ms) (sym (marks_added here n rs)))
    ∙ ap (λ ms. take_all st ms) (sym (marks_step cut (key k) (Some n) rs []))
  where
    here : Path
    here = cut ++ key k ∷ []

    n : ℕ
    n = added_at st here

    after : List Mark
    after = mark cut passed ∷ st
walk_grows false rs cut (k ∷ []) st h =
    take_grows cut passed st (λ st. by_element (λ p st. add_table p rs st) here (count_at st here) st)
    (under here (marks_from None rs (latest n)))
    (λ e. ap (λ n. by_element (λ p st. add_table p rs st) here n after) (sized_more cut passed st h e here) ∙ go n)
    ∙ ap (λ ms. take_all st ms) (sym (marks_step cut (key k) None rs (latest n)))
  where
    here : Path
    here = cut ++ key k ∷ []

    n : ℕ
    n = added_at st here

    after : List Mark
    after = mark cut passed ∷ st

    go : (n : ℕ) → by_element (λ p st. add_table p rs st) here n after
        ≡ take_all after (under here (marks_from None rs (latest n)))
    go zero = table_grows here rs after
    go (suc n) =
        take_grows here by_latest after (λ st. add_table (here ++ number n ∷ []) rs st)
        (under (here ++ number n ∷ []) (marks_from None rs []))
        (λ e. table_grows (here ++ number n ∷ []) rs (mark here by_latest ∷ after))
        ∙ ap (λ ms. take_all after ms) (sym (marks_step here (number n) None rs []))
walk_grows a rs cut (k ∷ l ∷ keys) st h =
    take_grows cut passed st (λ st. by_element (λ p st. walk a rs p (l ∷ keys) st) here (count_at st here) st)
    (under here (rest (latest n)))
    (λ e. let h' : Sized after = sized_more cut passed st h e in
    ap (λ n. by_element (λ p st. walk a rs p (l ∷ keys) st) here n after) (h' here) ∙
    go (λ c st h. walk_grows a rs c (l ∷ keys) st h) h' n)
    ∙ ap (λ ms. take_all st ms)
    (sym (marks_step cut (key k) (element (cut ++ key k ∷ latest n)) rs (latest n
    ++ target (cut ++ key k ∷ latest n))))
  where
    here : Path
    here = cut ++ key k ∷ []

    n : ℕ
    n = added_at st here

    after : List Mark
    after = mark cut passed ∷ st

    element : Path → Option ℕ
    element c = element_from (λ p. added_at st p) a c (l ∷ keys)

    target : Path → Path
    target c = target_from (λ p. added_at st p) a c (l ∷ keys)

    rest : Path → List Mark
    rest by = marks_from (element (cut ++ key k ∷ by)) rs (by ++ target (cut ++ key k ∷ by))

    go : ((c : Path) (st : List Mark) → Sized st → walk a rs c (l ∷ keys) st
        ≡ take_all st (under c (marks_from (element_from (λ p. added_at st p) a c (l ∷ keys)) rs
        (target_from (λ p. added_at st p) a c (l ∷ keys)))))
        → Sized after → (n : ℕ) → by_element (λ p st. walk a rs p (l ∷ keys) st) here n after
        ≡ take_all after (under here (rest (latest n)))
    go ih h' zero = ih here after h'
    go ih h' (suc n) =
        take_grows here by_latest after (λ st. walk a rs (here ++ number n ∷ []) (l ∷ keys) st)
        (under (here ++ number n ∷ [])
        (marks_from (element (cut ++ key k ∷ number n ∷ [])) rs (target (cut ++ key k ∷ number n ∷ []))))
        (λ e. ih (here ++ number n ∷ []) (mark here by_latest ∷ after) (sized_more here by_latest after h' e)
        ∙ ap (λ c. take_all (mark here by_latest ∷ after)
        (under (here ++ number n ∷ []) (marks_from (element c) rs (target c))))
        (append_assoc cut (key k ∷ []) (number n ∷ [])))
        ∙ ap (λ ms. take_all after ms)
        (sym (marks_step here (number n) (element (cut ++ key k ∷ number n ∷ [])) rs
        (target (cut ++ key k ∷ number n ∷ []))))

-- a section is entered by the marks of its target
pub enter_grows : (s : Section) (st : List Mark) → Sized st
    → enter s st ≡ (if rows_clash s.rows then None else take_all st (marks (placed_by (λ p. added_at st p) s)))
enter_grows s st h = ap (λ o. if rows_clash s.rows then None else o)
    (walk_grows s.is_array s.rows [] (texts s.header) st h ∙
    ap (λ ms. take_all st ms) (under_none (marks (placed_by (λ p. added_at st p) s))))
