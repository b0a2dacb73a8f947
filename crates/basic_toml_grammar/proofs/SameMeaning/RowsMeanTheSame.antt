-- The rows of sections in another order make trees of the same maps.
use Rattle.std.proofs.Common.{◌≡◌, ◌⊎◌, inl, inr, ℕ, suc, false, cond, List, [], ◌∷◌, ◌++◌, map, refl, ap}
use Rattle.std.proofs.Common.{sym, ◌∙◌, subst, Some, None}
use Rattle.std.specs.Prelude.{◌&&◌}
use Rattle.std.proofs.lemmas.Bool.{or_parts}
use Rattle.basic_toml_value.specs.Data.{Data}
use Rattle.basic_toml_grammar.specs.Sections.{KeyTexts, texts, Rows, no_rows, row, Section}
use Rattle.basic_toml_grammar.specs.Steps.{Path, path_eq, steps_of}
use Rattle.basic_toml_grammar.specs.RowClash.{has_row_clash}
use Rattle.basic_toml_grammar.specs.IndexedPath.{located}
use Rattle.basic_toml_grammar.specs.SectionClash.{sections_clash}
use Rattle.basic_toml_grammar.specs.Tree.{Mention}
use Rattle.basic_toml_grammar.specs.Mentions.{finished, row_mentions, section_mentions, mentions}
use Rattle.basic_toml_grammar.specs.Placed.{Placed, step_into, adds_element, path_of, elements_at, target_from}
use Rattle.basic_toml_grammar.specs.Placed.{element_from, placed_by, placed_after, placed_from, placed}
use Rattle.basic_toml_grammar.specs.Statements.{Reordered, same, kept, turned, and_on}
use Rattle.basic_toml_grammar.specs.RowOrder.{pairs_of, RowsReordered, RowOrderMeansNothing}
use Rattle.basic_toml_grammar.proofs.AmongElements.{Among, first, next, among_left, among_right, among_either}
use Rattle.basic_toml_grammar.proofs.Clash.EnteringAccepts.{offset_same}
use Rattle.basic_toml_grammar.proofs.Trees.TreeIsGrouped.{tree_is_grouped}
use Rattle.basic_toml_grammar.proofs.Trees.EnteringGrows.{placed_mentions, mentions_are}
use Rattle.basic_toml_grammar.proofs.Trees.MentionsDoNotOverlap.{mentions_peace}
use Rattle.basic_toml_grammar.proofs.SameMeaning.OrderIsFree.{map_reordered}
use Rattle.basic_toml_grammar.proofs.SameMeaning.SameMapsReordered.{placed_order, reordered_back}
use Rattle.basic_toml_grammar.proofs.SameMeaning.SameTrees.{InOrder, Turned, same_trees}

-- sections at the same places, with the same rows
data PlacedAlike : List Placed → List Placed → Type 0 where
  none : PlacedAlike [] []
  more : {l k : Placed} {ls ks : List Placed} → l.target ≡ k.target → l.element ≡ k.element
      → Reordered (KeyTexts × Data) (pairs_of l.rows) (pairs_of k.rows) → PlacedAlike ls ks
      → PlacedAlike (l ∷ ls) (k ∷ ks)

alike_back : {ls ks : List Placed} → PlacedAlike ls ks → PlacedAlike ks ls
alike_back none = none
alike_back (more t e r h) = more (sym t) (sym e) (reordered_back r) (alike_back h)

counts_same : (p : Path) {ls ks : List Placed} → PlacedAlike ls ks → elements_at p ls ≡ elements_at p ks
counts_same p none = refl
counts_same p (more t e r h) =
    (λ i. cond (adds_element (e i) && path_eq (t i) p) (suc (counts_same p h i)) (counts_same p h i))

abbrev count_in : List Placed → Path → ℕ
count_in before p = elements_at p before

all_alike : {ss ts : List Section} (before earlier : List Placed) → PlacedAlike before earlier → RowsReordered ss ts
    → PlacedAlike (placed_from before ss) (placed_from earlier ts)
all_alike before earlier h RowsReordered.none = none
all_alike before earlier h (RowsReordered.section {s = s} {t = t} k a r more_on) =
    more target element r
    (all_alike (placed_after before s ∷ before) (placed_after earlier t ∷ earlier) (more target element r h) more_on)
  where
    here : placed_by (count_in before) s ≡ placed_by (count_in earlier) s
    here = offset_same (count_in before) (count_in earlier) (λ p. counts_same p h) s

    target : (placed_after before s).target ≡ (placed_after earlier t).target
    target = ap (λ (l : Placed). l.target) here ∙ (λ i. target_from (count_in earlier) (a i) [] (k i))

    element : (placed_after before s).element ≡ (placed_after earlier t).element
    element = ap (λ (l : Placed). l.element) here ∙ (λ i. element_from (count_in earlier) (a i) [] (k i))

-- what rows mention
abbrev mention_of : Path → KeyTexts × Data → Mention
mention_of p r = record { path = p ++ steps_of r.0; value = Some r.1 }

rows_mention : (p : Path) (rs : Rows) → row_mentions p rs ≡ map (mention_of p) (pairs_of rs)
rows_mention p no_rows = refl
rows_mention p (row ks q v rs) = ap (λ ms. mention_of p (texts ks, finished v) ∷ ms) (rows_mention p rs)

among_cases : {A : Type 0} {n m : A} {ms : List A} → Among n (m ∷ ms) → (n ≡ m) ⊎ Among n ms
among_cases first = inl refl
among_cases (next a) = inr a

among_turned : {A : Type 0} {x : A} {xs ys : List A} → Reordered A xs ys → Among x xs → Among x ys
among_turned same a = a
among_turned {x = x} (kept {x = y} {xs = xs} {ys = ys} r) a = go (λ a. among_turned r a) (among_cases a)
  where
    go : (Among x xs → Among x ys) → (x ≡ y) ⊎ Among x xs → Among x (y ∷ ys)
    go ih (inl e) = subst (λ y. Among x (y ∷ ys)) e first
    go ih (inr a) = next (ih a)
among_turned {A = A} {x = x} (turned {x = y} {y = z} {xs = xs}) a = go (among_cases a)
  where
    on : (x ≡ z) ⊎ Among x xs → Among x (z ∷ y ∷ xs)
    on (inl e) = subst (λ (z : A). Among x (z ∷ y ∷ xs)) e first
    on (inr a) = next (next a)

    go : (x ≡ y) ⊎ Among x (z ∷ xs) → Among x (z ∷ y ∷ xs)
    go (inl e) = next (subst (λ (y : A). Among x (y ∷ xs)) e first)
    go (inr a) = on (among_cases a)
among_turned (and_on r q) a = among_turned q (among_turned r a)

abbrev table_here : Path → Mention
table_here p = record { path = p; value = None }

section_turned : {m : Mention} (p q : Path) (rs qs : Rows) → p ≡ q
    → Reordered (KeyTexts × Data) (pairs_of rs) (pairs_of qs) → Among m (section_mentions p rs)
    → Among m (section_mentions q qs)
section_turned {m = m} p q rs qs e r a =
    subst (λ q. Among m (section_mentions q qs)) e
    (subst (λ (ms : List Mention). Among m (table_here p ∷ ms)) (sym (rows_mention p qs))
    (among_turned (kept (map_reordered (mention_of p) r))
    (subst (λ (ms : List Mention). Among m (table_here p ∷ ms)) (rows_mention p rs) a)))

among_alike : {m : Mention} {ls ks : List Placed} → PlacedAlike ls ks → Among m (placed_mentions ls)
    → Among m (placed_mentions ks)
among_alike none a = a
among_alike {m = m} (more {l = l} {k = k} {ls = ls} {ks = ks} t e r h) a =
    go (λ a. among_alike h a) (among_either (section_mentions (path_of l) l.rows) (placed_mentions ls) a)
  where
    go : (Among m (placed_mentions ls) → Among m (placed_mentions ks)) → Among m (section_mentions (path_of l) l.rows)
        ⊎ Among m (placed_mentions ls)
        → Among m (placed_mentions (k ∷ ks))
    go ih (inl a) = among_left (placed_mentions ks)
        (section_turned (path_of l) (path_of k) l.rows k.rows (λ i. t i ++ step_into (e i)) r a)
    go ih (inr a) = among_right (section_mentions (path_of k) k.rows) (ih a)

pub row_order_means_nothing : RowOrderMeansNothing
row_order_means_nothing sections others k l r e f =
    same_trees reordered ((tree_is_grouped (mentions (located sections)) _).1 refl)
    ((tree_is_grouped (mentions (located others)) _).1 refl)
  where
    free : (has_row_clash sections ≡ false) × (sections_clash sections ≡ false)
    free = or_parts _ _ e

    others_free : (has_row_clash others ≡ false) × (sections_clash others ≡ false)
    others_free = or_parts _ _ f

    its_mentions : (ss : List Section) → mentions (located ss) ≡ placed_mentions (placed ss)
    its_mentions ss = mentions_are [] ss

    alike : PlacedAlike (placed sections) (placed others)
    alike = all_alike [] [] none r

    reordered : Turned (mentions (located sections)) (mentions (located others))
    reordered = record {
      there = λ n a. subst (Among n) (sym (its_mentions others))
          (among_alike alike (subst (Among n) (its_mentions sections) a));
      back = λ n a. subst (Among n) (sym (its_mentions sections))
          (among_alike (alike_back alike) (subst (Among n) (its_mentions others) a));
      peace = mentions_peace sections k free.0 free.1;
      its_peace = mentions_peace others l others_free.0 others_free.1;
      order = subst InOrder (sym (its_mentions sections)) (placed_order [] sections);
      its_order = subst InOrder (sym (its_mentions others)) (placed_order [] others);
    }
