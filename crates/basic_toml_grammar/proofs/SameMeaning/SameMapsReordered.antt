-- The tree of a list without clashes has the same maps in each order in which its sections keep their indexed paths.
use Rattle.std.proofs.Common.{◌≡◌, ◌⊎◌, inl, inr, ℕ, zero, suc, ◌≤◌, ◌==◌, Bool, true, false, cond, List, [], ◌∷◌}
use Rattle.std.proofs.Common.{◌++◌, refl, ap, sym, ◌∙◌, subst, arith, append_assoc, Option, Some, None}
use Rattle.std.specs.Prelude.{◌&&◌, nat_lt}
use Rattle.std.proofs.lemmas.Bool.{or_parts, eqb-true, eqb-false, lt-ltb}
use Rattle.std.proofs.lemmas.List.{append-nil}
use Rattle.basic_toml_value.specs.SameMaps.{SameMaps}
use Rattle.basic_toml_grammar.specs.Sections.{KeyTexts, texts, Rows, no_rows, row, Section}
use Rattle.basic_toml_grammar.specs.Steps.{key, number, Path, step_eq, path_eq, steps_of}
use Rattle.basic_toml_grammar.specs.RowClash.{has_row_clash}
use Rattle.basic_toml_grammar.specs.IndexedPath.{latest, located}
use Rattle.basic_toml_grammar.specs.SectionClash.{sections_clash}
use Rattle.basic_toml_grammar.specs.Tree.{Mention}
use Rattle.basic_toml_grammar.specs.Mentions.{row_mentions, section_mentions, mentions}
use Rattle.basic_toml_grammar.specs.Placed.{Placed, step_into, adds_element, path_of, elements_at, target_from}
use Rattle.basic_toml_grammar.specs.Placed.{element_from, placed_after, placed_from, placed}
use Rattle.basic_toml_grammar.specs.Entering.{all_keyed}
use Rattle.basic_toml_grammar.specs.Document.{has_clash, tree_of_sections}
use Rattle.basic_toml_grammar.specs.Statements.{Reordered, same, kept, turned, and_on}
use Rattle.basic_toml_grammar.proofs.Clash.StepTestsDecide.{step_same, step_is, paths_same}
use Rattle.basic_toml_grammar.proofs.Trees.TreeIsGrouped.{tree_is_grouped}
use Rattle.basic_toml_grammar.proofs.Trees.EnteringGrows.{placed_mentions, mentions_are}
use Rattle.basic_toml_grammar.proofs.AmongElements.{Among, first, next, among_left, among_right, among_either}
use Rattle.basic_toml_grammar.proofs.Trees.MentionsDoNotOverlap.{mentions_peace}
use Rattle.basic_toml_grammar.proofs.SameMeaning.OrderIsFree.{order_free}
use Rattle.basic_toml_grammar.proofs.SameMeaning.SameTrees.{follows, InOrder, none, more, Turned, same_trees}

-- Each number of a path q after p is of an array that has at least so many elements, and none too many.
abbrev Between : (Path → ℕ) → (Path → ℕ) → Path → Path → Type 0
Between low high p [] = Unit {0}
Between low high p (key k ∷ q) = Between low high (p ++ key k ∷ []) q
Between low high p (number n ∷ q) = (low p ≤ suc n) × (suc n ≤ high p) × Between low high (p ++ number n ∷ []) q

between-append : (low high : Path → ℕ) (p q r : Path) → Between low high p q → Between low high (p ++ q) r
    → Between low high p (q ++ r)
between-append low high p [] r h k = subst (λ p. Between low high p r) (append-nil p) k
between-append low high p (key k ∷ q) r h i =
    between-append low high (p ++ key k ∷ []) q r h
    (subst (λ p. Between low high p r) (sym (append_assoc p (key k ∷ []) q)) i)
between-append low high p (number n ∷ q) r h i = (
  h.0,
  h.1,
  between-append low high (p ++ number n ∷ []) q r h.2
      (subst (λ p. Between low high p r) (sym (append_assoc p (number n ∷ []) q)) i),
)

between_keys : (low high : Path → ℕ) (p : Path) (ks : KeyTexts) → Between low high p (steps_of ks)
between_keys low high p [] = tt
between_keys low high p (k ∷ ks) = between_keys low high (p ++ key k ∷ []) ks

-- paths by the counts of two times follow each other
between_follows : (low high low' high' : Path → ℕ) (p q r : Path) → ((c : Path) → high c ≤ low' c)
    → Between low high p q → Between low' high' p r → follows q r ≡ true
between_follows low high low' high' p [] r h a b = refl
between_follows low high low' high' p (s ∷ q) [] h a b = refl
between_follows low high low' high' p (key k ∷ q) (key l ∷ r) h a b =
    go (λ b. between_follows low high low' high' (p ++ key k ∷ []) q r h a b) (step_eq (key k) (key l)) refl
  where
    go : (Between low' high' (p ++ key k ∷ []) r → follows q r ≡ true) → (i : Bool) → step_eq (key k) (key l) ≡ i
        → cond i (follows q r) true ≡ true
    go ih false e = refl
    go ih true e = ih (subst (λ s. Between low' high' (p ++ s ∷ []) r) (sym (step_is (key k) (key l) e)) b)
between_follows low high low' high' p (key k ∷ q) (number m ∷ r) h a b = refl
between_follows low high low' high' p (number n ∷ q) (key l ∷ r) h a b = refl
between_follows low high low' high' p (number n ∷ q) (number m ∷ r) h a b =
    go (λ b. between_follows low high low' high' (p ++ number n ∷ []) q r h a.2 b) (n == m) refl
  where
    go : (Between low' high' (p ++ number n ∷ []) r → follows q r ≡ true) → (i : Bool) → (n == m) ≡ i
        → cond i (follows q r) (nat_lt n m) ≡ true
    go ih true e = ih (subst (λ m. Between low' high' (p ++ number m ∷ []) r) (sym (eqb-true n m e)) b.2)
    go ih false e =
        let apart : n ≡ m → ⊥ = eqb-false n m e in
        lt-ltb n m (omega (arith, apart, h p, a.0, a.1, b.0, b.1))

-- the latest element of each array on the way
on_target : (count : Path → ℕ) (high : Path → ℕ) → ((c : Path) → count c ≤ high c)
    → (a : Bool) (p : Path) (keys : KeyTexts) → Between count high p (target_from count a p keys)
on_target count high h a p [] = tt
on_target count high h true p (k ∷ []) = tt
on_target count high h false p (k ∷ []) = go (count (p ++ key k ∷ [])) refl
  where
    go : (n : ℕ) → count (p ++ key k ∷ []) ≡ n → Between count high (p ++ key k ∷ []) (latest n)
    go zero e = tt
    go (suc n) e = (omega arith, omega (arith, h (p ++ key k ∷ [])), tt)
on_target count high h a p (k ∷ l ∷ keys) =
    go (λ q. on_target count high h a q (l ∷ keys)) (count (p ++ key k ∷ [])) refl
  where
    go : ((q : Path) → Between count high q (target_from count a q (l ∷ keys))) → (n : ℕ) → count (p ++ key k ∷ []) ≡ n
        → Between count high (p ++ key k ∷ []) (latest n ++ target_from count a (p ++ key k ∷ latest n) (l ∷ keys))
    go ih zero e = ih (p ++ key k ∷ [])
    go ih (suc n) e = (
      omega arith,
      omega (arith, h (p ++ key k ∷ [])),
      subst (λ q. Between count high q (target_from count a (p ++ key k ∷ number n ∷ []) (l ∷ keys)))
          (sym (append_assoc p (key k ∷ []) (number n ∷ [])))
          (ih (p ++ key k ∷ number n ∷ [])),
    )

-- the number of an own element is the count at the target
own_number : (count : Path → ℕ) (a : Bool) (p : Path) (keys : KeyTexts) (n : ℕ) → element_from count a p keys ≡ Some n
    → count (p ++ target_from count a p keys) ≡ n
own_number count a p [] n e = cc
own_number count true p (k ∷ []) n e = cc
own_number count false p (k ∷ []) n e = cc
own_number count a p (k ∷ l ∷ keys) n e =
    ap count (sym (append_assoc p steps (target_from count a (p ++ steps) (l ∷ keys)))) ∙
    own_number count a (p ++ steps) (l ∷ keys) n e
  where
    steps : Path
    steps = key k ∷ latest (count (p ++ key k ∷ []))

-- as many elements as before, or one more
counted : (l : Placed) (before : List Placed) (c : Path) → elements_at c before ≤ elements_at c (l ∷ before)
counted l before c = go (adds_element l.element && path_eq l.target c)
  where
    go : (b : Bool) → elements_at c before ≤ cond b (suc (elements_at c before)) (elements_at c before)
    go true = omega arith
    go false = omega arith

abbrev At : List Placed → Path → ℕ
At before p = elements_at p before

module _ (before : List Placed) (s : Section) where
  placed_between : Between (At before) (At (placed_after before s ∷ before)) [] (path_of (placed_after before s))
  placed_between = between-append (At before) (At (l ∷ before)) [] l.target (step_into l.element)
      (on_target (At before) (At (l ∷ before)) (counted l before) s.is_array [] (texts s.header)) (go l.element refl)
    where
      l : Placed
      l = placed_after before s

      go : (e : Option ℕ) → l.element ≡ e → Between (At before) (At (l ∷ before)) l.target (step_into e)
      go None e = tt
      go (Some n) e =
          let here : elements_at l.target before ≡ n = own_number (At before) s.is_array [] (texts s.header) n e in
          let adds : elements_at l.target (l ∷ before) ≡ suc (elements_at l.target before) =
          rw (e, paths_same l.target) refl in
          (omega arith, omega arith, tt)

-- each mention of a section goes on from its path by keys
abbrev Below : Path → Mention → Type 0
Below p m = (ks : KeyTexts) × (m.path ≡ p ++ steps_of ks)

below_rows : (p : Path) (rs : Rows) {m : Mention} → Among m (row_mentions p rs) → Below p m
below_rows p no_rows a = elim a [ ]
below_rows p (row keys at v rs) first = (texts keys, refl)
below_rows p (row keys at v rs) (next a) = below_rows p rs a

below_section : (p : Path) (rs : Rows) {m : Mention} → Among m (section_mentions p rs) → Below p m
below_section p rs first = ([], sym (append-nil p))
below_section p rs (next a) = below_rows p rs a

follows_under : (p q r : Path) → follows (p ++ q) (p ++ r) ≡ follows q r
follows_under [] q r = refl
follows_under (s ∷ p) q r = rw (step_same s) (follows_under p q r)

follows_keys : (ks ls : KeyTexts) → follows (steps_of ks) (steps_of ls) ≡ true
follows_keys [] ls = refl
follows_keys (k ∷ ks) [] = refl
follows_keys (k ∷ ks) (l ∷ ls) = go (step_eq (key k) (key l)) (follows_keys ks ls)
  where
    go : (b : Bool) → follows (steps_of ks) (steps_of ls) ≡ true
        → cond b (follows (steps_of ks) (steps_of ls)) true ≡ true
    go true h = h
    go false h = refl

section_order : (p : Path) (ms : List Mention) → ((m : Mention) → Among m ms → Below p m) → InOrder ms
section_order p [] h = none
section_order p (m ∷ ms) h = more follow (section_order p ms (λ n a. h n (next a)))
  where
    follow : (n : Mention) → Among n ms → follows m.path n.path ≡ true
    follow n a =
        let b = h m first in
        let c = h n (next a) in
        rw (b.1, c.1) (follows_under p (steps_of b.0) (steps_of c.0) ∙ follows_keys b.0 c.0)

below_between : (low high : Path → ℕ) (p : Path) → Between low high [] p → (m : Mention) → Below p m
    → Between low high [] m.path
below_between low high p h m b =
    subst (λ q. Between low high [] q) (sym b.1)
    (between-append low high [] p (steps_of b.0) h (between_keys low high p b.0))

order-append : {ms ns : List Mention} → InOrder ms → InOrder ns
    → ((m n : Mention) → Among m ms → Among n ns → follows m.path n.path ≡ true) → InOrder (ms ++ ns)
order-append none q h = q
order-append {ns = ns} (more {m = m} {ms = ms} f o) q h = more follow (order-append o q (λ x n a b. h x n (next a) b))
  where
    either : (n : Mention) → Among n ms ⊎ Among n ns → follows m.path n.path ≡ true
    either n (inl a) = f n a
    either n (inr a) = h m n first a

    follow : (n : Mention) → Among n (ms ++ ns) → follows m.path n.path ≡ true
    follow n a = either n (among_either ms ns a)

-- when a mention is made, no array has fewer elements than before
record Later (before : List Placed) (m : Mention) : Type 0 where
  low : Path → ℕ
  high : Path → ℕ
  grown : (c : Path) → At before c ≤ low c
  between : Between low high [] m.path

later : (before : List Placed) (ss : List Section) {m : Mention} → Among m (placed_mentions (placed_from before ss))
    → Later before m
later before [] a = elim a [ ]
later before (s ∷ ss) {m = m} a =
    go (λ a. later (l ∷ before) ss a)
    (among_either (section_mentions (path_of l) l.rows) (placed_mentions (placed_from (l ∷ before) ss)) a)
  where
    l : Placed
    l = placed_after before s

    go : (Among m (placed_mentions (placed_from (l ∷ before) ss)) → Later (l ∷ before) m)
        → Among m (section_mentions (path_of l) l.rows) ⊎ Among m (placed_mentions (placed_from (l ∷ before) ss))
        → Later before m
    go ih (inl a) = record {
      low = At before;
      high = At (l ∷ before);
      grown = λ c. omega arith;
      between = below_between (At before) (At (l ∷ before)) (path_of l) (placed_between before s) m
          (below_section (path_of l) l.rows a);
    }
    go ih (inr a) =
        let r : Later (l ∷ before) m = ih a in
        record {
          low = r.low;
          high = r.high;
          grown = λ c. omega (arith, counted l before c, r.grown c);
          between =
              r.between;
        }

-- no mention of a list goes back in an array
pub placed_order : (before : List Placed) (ss : List Section) → InOrder (placed_mentions (placed_from before ss))
placed_order before [] = none
placed_order before (s ∷ ss) =
    order-append (section_order (path_of l) (section_mentions (path_of l) l.rows)
    (λ m a. below_section (path_of l) l.rows a)) (placed_order (l ∷ before) ss) follow
  where
    l : Placed
    l = placed_after before s

    follow : (m n : Mention) → Among m (section_mentions (path_of l) l.rows)
        → Among n (placed_mentions (placed_from (l ∷ before) ss)) → follows m.path n.path ≡ true
    follow m n a b =
        let r : Later (l ∷ before) n = later (l ∷ before) ss b in
        between_follows (At before) (At (l ∷ before)) r.low r.high [] m.path n.path r.grown
        (below_between (At before) (At (l ∷ before)) (path_of l) (placed_between before s) m
        (below_section (path_of l) l.rows a)) r.between

-- the same mentions in each order
pub reordered_back : {A : Type 0} {xs ys : List A} → Reordered A xs ys → Reordered A ys xs
reordered_back same = same
reordered_back (kept r) = kept (reordered_back r)
reordered_back turned = turned
reordered_back (and_on r q) = and_on (reordered_back q) (reordered_back r)

among_reordered : {ls ks : List Placed} {m : Mention} → Reordered Placed ls ks → Among m (placed_mentions ls)
    → Among m (placed_mentions ks)
among_reordered same a = a
among_reordered {m = m} (kept {x = l} {xs = ls} {ys = ks} r) a =
    go (λ a. among_reordered r a) (among_either (section_mentions (path_of l) l.rows) (placed_mentions ls) a)
  where
    go : (Among m (placed_mentions ls) → Among m (placed_mentions ks)) → Among m (section_mentions (path_of l) l.rows)
        ⊎ Among m (placed_mentions ls)
        → Among m (placed_mentions (l ∷ ks))
    go ih (inl a) = among_left (placed_mentions ks) a
    go ih (inr a) = among_right (section_mentions (path_of l) l.rows) (ih a)
among_reordered {m = m} (turned {x = l} {y = k} {xs = ls}) a =
    go (among_either (section_mentions (path_of l) l.rows) (placed_mentions (k ∷ ls)) a)
  where
    on : Among m (section_mentions (path_of k) k.rows) ⊎ Among m (placed_mentions ls)
        → Among m (placed_mentions (k ∷ l ∷ ls))
    on (inl a) = among_left (placed_mentions (l ∷ ls)) a
    on (inr a) = among_right (section_mentions (path_of k) k.rows) (among_right (section_mentions (path_of l) l.rows) a)

    go : Among m (section_mentions (path_of l) l.rows) ⊎ Among m (placed_mentions (k ∷ ls))
        → Among m (placed_mentions (k ∷ l ∷ ls))
    go (inl a) = among_right (section_mentions (path_of k) k.rows) (among_left (placed_mentions ls) a)
    go (inr a) = on (among_either (section_mentions (path_of k) k.rows) (placed_mentions ls) a)
among_reordered (and_on r q) a = among_reordered q (among_reordered r a)

-- the tree has the same maps
pub same_maps_reordered : (sections others : List Section) → all_keyed sections ≡ true → all_keyed others ≡ true
    → Reordered Placed (placed sections) (placed others)
    → has_clash sections ≡ false → SameMaps (tree_of_sections sections) (tree_of_sections others)
same_maps_reordered sections others k l r e =
    same_trees reordered ((tree_is_grouped (mentions (located sections)) _).1 refl)
    ((tree_is_grouped (mentions (located others)) _).1 refl)
  where
    free : (has_row_clash sections ≡ false) × (sections_clash sections ≡ false)
    free = or_parts _ _ e

    others_free : (has_row_clash others ≡ false) × (sections_clash others ≡ false)
    others_free = or_parts _ _ (sym (order_free sections others k l r) ∙ e)

    its_mentions : (ss : List Section) → mentions (located ss) ≡ placed_mentions (placed ss)
    its_mentions ss = mentions_are [] ss

    reordered : Turned (mentions (located sections)) (mentions (located others))
    reordered = record {
      there = λ n a. subst (Among n) (sym (its_mentions others))
          (among_reordered r (subst (Among n) (its_mentions sections) a));
      back = λ n a. subst (Among n) (sym (its_mentions sections))
          (among_reordered (reordered_back r) (subst (Among n) (its_mentions others) a));
      peace = mentions_peace sections k free.0 free.1;
      its_peace = mentions_peace others l others_free.0 others_free.1;
      order = subst InOrder (sym (its_mentions sections)) (placed_order [] sections);
      its_order = subst InOrder (sym (its_mentions others)) (placed_order [] others);
    }
