-- The tree of the marks that a section list leaves is the tree of its mentions.
use Rattle.std.proofs.Common.{◌≡◌, ℕ, Bool, true, false, cond, List, [], ◌∷◌, ◌++◌, Option, Some, None, refl, ap}
use Rattle.std.proofs.Common.{sym, ◌∙◌, append_assoc}
use Rattle.std.specs.Prelude.{if◌then◌else◌}
use Rattle.basic_toml_value.specs.Data.{Data}
use Rattle.basic_toml_grammar.specs.Sections.{KeyTexts, texts, Rows, no_rows, row, Section}
use Rattle.basic_toml_grammar.specs.Steps.{Step, key, number, Path, step_eq, steps_of}
use Rattle.basic_toml_grammar.specs.RowClash.{has_row_clash}
use Rattle.basic_toml_grammar.specs.IndexedPath.{located_from, located}
use Rattle.basic_toml_grammar.specs.Tree.{Mention}
use Rattle.basic_toml_grammar.specs.Growth.{Growth, Branches, grown, no_branches, branch, nothing_grown, grow}
use Rattle.basic_toml_grammar.specs.Growth.{grow_at, grow_all, closed, tree_of}
use Rattle.basic_toml_grammar.specs.Mentions.{finished, row_mentions, section_mentions, mentions}
use Rattle.basic_toml_grammar.specs.Placed.{Placed, step_into, path_of, placed_after, placed_from, placed}
use Rattle.basic_toml_grammar.specs.Marks.{named, Mark, mark, after, passing, marks_of_keys, marks_of_rows}
use Rattle.basic_toml_grammar.specs.Marks.{marks_from, marks, all_marks}
use Rattle.basic_toml_grammar.specs.Standing.{fits, standing_at, take_all, value_of, growth_of}
use Rattle.basic_toml_grammar.specs.Entering.{enter_all}
use Rattle.basic_toml_grammar.proofs.Clash.StepTestsDecide.{step_same}
use Rattle.basic_toml_grammar.proofs.Clash.WalkTakesMarks.{under, under_after, under_append, under_none}
use Rattle.basic_toml_grammar.proofs.Clash.EnteringAccepts.{enter_all_grows}
use Rattle.basic_toml_grammar.proofs.Trees.TreeIsGrouped.{or_none, shoots}
use Rattle.basic_toml_grammar.proofs.Clash.PathsAgree.{offsets, path_is}

-- a path that begins another adds nothing to it
beginning_at : (s : Step) (p q : Path) (v : Option Data) → ((g : Growth) → grow (grow g p None) q v ≡ grow g q v)
    → (bs : Branches) → grow_at (grow_at bs s p None) s q v ≡ grow_at bs s q v
beginning_at s p q v h no_branches =
    rw (step_same s) (ap (λ g. branch s g no_branches) (ap (λ g. grow g q v) (shoots p None) ∙ h nothing_grown ∙
    sym (shoots q v)))
beginning_at s p q v h (branch t g bs) = go (step_eq t s) refl (beginning_at s p q v h bs)
  where
    go : (b : Bool) → step_eq t s ≡ b → grow_at (grow_at bs s p None) s q v ≡ grow_at bs s q v
        → grow_at (cond b (branch t (grow g p None) bs) (branch t g (grow_at bs s p None))) s q v
        ≡ cond b (branch t (grow g q v) bs) (branch t g (grow_at bs s q v))
    go true e ih = rw e (ap (λ g. branch t g bs) (h g))
    go false e ih = rw e (ap (λ bs. branch t g bs) ih)

pub beginning : (p r : Path) (v : Option Data) (g : Growth) → grow (grow g p None) (p ++ r) v ≡ grow g (p ++ r) v
beginning [] r v (grown h bs) = ap (λ h. grow (grown h bs) r v) (or_none h)
beginning (s ∷ p) r v (grown h bs) = ap (λ bs. grown h bs) (beginning_at s p (p ++ r) v (beginning p r v) bs)

append_none : (p : Path) → p ++ [] ≡ p
append_none [] = refl
append_none (s ∷ p) = ap (λ p. s ∷ p) (append_none p)

-- marks in order, each by its path and its value
abbrev grow_marks : Growth → List Mark → Growth
grow_marks g [] = g
grow_marks g (m ∷ ms) = grow_marks (grow g m.path (value_of m.kind)) ms

marks-append : (g : Growth) (ms ns : List Mark) → grow_marks g (ms ++ ns) ≡ grow_marks (grow_marks g ms) ns
marks-append g [] ns = refl
marks-append g (m ∷ ms) ns = marks-append (grow g m.path (value_of m.kind)) ms ns

all-append : (g : Growth) (ms ns : List Mention) → grow_all g (ms ++ ns) ≡ grow_all (grow_all g ms) ns
all-append g [] ns = refl
all-append g (m ∷ ms) ns = all-append (grow g m.path m.value) ms ns

-- the dots of a row are on its way
row_grown : (p : Path) (ks : KeyTexts) (v : Data) (g : Growth)
    → grow_marks g (under p (marks_of_keys ks v)) ≡ grow g (p ++ steps_of ks) (Some v)
row_grown p [] v g = refl
row_grown p (k ∷ []) v g = refl
row_grown p (k ∷ l ∷ ks) v g =
    ap (λ ms. grow_marks (grow g (p ++ key k ∷ []) None) ms) (under_after p (key k) (marks_of_keys (l ∷ ks) v))
    ∙ row_grown (p ++ key k ∷ []) (l ∷ ks) v (grow g (p ++ key k ∷ []) None)
    ∙ beginning (p ++ key k ∷ []) (steps_of (l ∷ ks)) (Some v) g
    ∙ ap (λ q. grow g q (Some v)) (append_assoc p (key k ∷ []) (steps_of (l ∷ ks)))

rows_grown : (p : Path) (rs : Rows) (g : Growth)
    → grow_marks g (under p (marks_of_rows rs)) ≡ grow_all g (row_mentions p rs)
rows_grown p no_rows g = refl
rows_grown p (row keys at v rs) g =
    ap (λ ms. grow_marks g ms) (under_append p (marks_of_keys (texts keys) (finished v)) (marks_of_rows rs))
    ∙ marks-append g (under p (marks_of_keys (texts keys) (finished v))) (under p (marks_of_rows rs))
    ∙ ap (λ g. grow_marks g (under p (marks_of_rows rs))) (row_grown p (texts keys) (finished v) g)
    ∙ rows_grown p rs (grow g (p ++ steps_of (texts keys)) (Some (finished v)))

table_grown : (p : Path) (rs : Rows) (g : Growth)
    → grow_marks g (under p (mark [] named ∷ marks_of_rows rs)) ≡ grow_all g (section_mentions p rs)
table_grown p rs g = ap (λ q. grow_marks (grow g q None) (under p (marks_of_rows rs))) (append_none p) ∙
    rows_grown p rs (grow g p None)

-- a path on the way of a section adds nothing
on_the_way : (p r : Path) (rs : Rows) (g : Growth)
    → grow_all (grow g p None) (section_mentions (p ++ r) rs) ≡ grow_all g (section_mentions (p ++ r) rs)
on_the_way p r rs g = ap (λ g. grow_all g (row_mentions (p ++ r) rs)) (beginning p r None g)

section_grown : (e : Option ℕ) (rs : Rows) (p t : Path) (g : Growth)
    → grow_marks g (under p (marks_from e rs t)) ≡ grow_all g (section_mentions (p ++ (t ++ step_into e)) rs)
section_grown None rs p [] g = table_grown p rs g ∙ ap (λ q. grow_all g (section_mentions q rs)) (sym (append_none p))
section_grown (Some n) rs p [] g =
    ap (λ q. grow_marks (grow g q None) (under p (after (number n) (mark [] named ∷ marks_of_rows rs)))) (append_none p)
    ∙ ap (λ ms. grow_marks (grow g p None) ms) (under_after p (number n) (mark [] named ∷ marks_of_rows rs))
    ∙ table_grown (p ++ number n ∷ []) rs (grow g p None)
    ∙ on_the_way p (number n ∷ []) rs g
section_grown e rs p (s ∷ t) g =
    ap (λ v. grow_marks (grow g (p ++ []) v) (under p (after s (marks_from e rs t)))) (no_value s)
    ∙ ap (λ q. grow_marks (grow g q None) (under p (after s (marks_from e rs t)))) (append_none p)
    ∙ ap (λ ms. grow_marks (grow g p None) ms) (under_after p s (marks_from e rs t))
    ∙ section_grown e rs (p ++ s ∷ []) t (grow g p None)
    ∙ ap (λ q. grow_all (grow g p None) (section_mentions q rs)) (append_assoc p (s ∷ []) (t ++ step_into e))
    ∙ on_the_way p (s ∷ (t ++ step_into e)) rs g
  where
    no_value : (s : Step) → value_of (passing s) ≡ None
    no_value (key k) = refl
    no_value (number n) = refl

abbrev pub placed_mentions : List Placed → List Mention
placed_mentions [] = []
placed_mentions (l ∷ ls) = section_mentions (path_of l) l.rows ++ placed_mentions ls

all_grown : (ls : List Placed) (g : Growth) → grow_marks g (all_marks ls) ≡ grow_all g (placed_mentions ls)
all_grown [] g = refl
all_grown (l ∷ ls) g = marks-append g (marks l) (all_marks ls)
    ∙ ap (λ g. grow_marks g (all_marks ls)) (ap (λ ms. grow_marks g ms) (sym (under_none (marks l))) ∙
    section_grown l.element l.rows [] l.target g)
    ∙ all_grown ls (grow_all g (section_mentions (path_of l) l.rows))
    ∙ sym (all-append g (section_mentions (path_of l) l.rows) (placed_mentions ls))

pub mentions_are : (earlier sections : List Section)
    → mentions (located_from earlier sections) ≡ placed_mentions (placed_from (offsets earlier) sections)
mentions_are earlier [] = refl
mentions_are earlier (s ∷ sections) =
    ap (λ p. section_mentions p s.rows ++ mentions (located_from (s ∷ earlier) sections)) (path_is s earlier)
    ∙ ap (λ ms. section_mentions (path_of (placed_after (offsets earlier) s)) s.rows ++ ms)
    (mentions_are (s ∷ earlier) sections)

-- the marks that were taken
taken_grown : (st ms after : List Mark) → take_all st ms ≡ Some after → growth_of after ≡ grow_marks (growth_of st) ms
taken_grown st [] after e = let same : st ≡ after = cc in ap growth_of (sym same)
taken_grown st (m ∷ ms) after e = go (taken_grown (m ∷ st) ms after) (fits m.kind (standing_at st m.path)) e
  where
    go : (take_all (m ∷ st) ms ≡ Some after → growth_of after ≡ grow_marks (growth_of st) (m ∷ ms))
        → (b : Bool) → cond b (take_all (m ∷ st) ms) None ≡ Some after
        → growth_of after ≡ grow_marks (growth_of st) (m ∷ ms)
    go ih true e = ih e
    go ih false e = cc

-- what was entered grows as the mentions do, so its tree is the tree of mentions
pub growth_entered : (sections : List Section) (after : List Mark) → enter_all sections [] ≡ Some after
    → growth_of after ≡ grow_all nothing_grown (mentions (located sections))
growth_entered sections after e =
    go (has_row_clash sections) (sym (enter_all_grows sections [] [] (λ p. refl) (λ p. refl)) ∙ e)
  where
    go : (b : Bool) → (if b then None else take_all [] (all_marks (placed sections))) ≡ Some after
        → growth_of after ≡ grow_all nothing_grown (mentions (located sections))
    go true e = cc
    go false e = taken_grown [] (all_marks (placed sections)) after e ∙ all_grown (placed sections) nothing_grown
        ∙ ap (grow_all nothing_grown) (sym (mentions_are [] sections))

pub tree_entered : (sections : List Section) (after : List Mark) → enter_all sections [] ≡ Some after
    → closed (growth_of after) ≡ tree_of (mentions (located sections))
tree_entered sections after e = ap closed (growth_entered sections after e)
