-- Sections that are put into a trie go through exactly where they are entered, and leave the trie of the marks that
-- entering leaves.
use Rattle.std.proofs.Common.{◌≡◌, ℕ, zero, suc, Bool, true, false, List, [], ◌∷◌, ◌++◌, Option, Some, None, refl, ap}
use Rattle.std.proofs.Common.{sym, ◌∙◌}
use Rattle.std.specs.Prelude.{if◌then◌else◌, option_map}
use Rattle.basic_toml_value.specs.Data.{Data}
use Rattle.basic_toml_grammar.specs.Sections.{KeyTexts, texts, Rows, no_rows, row, Section}
use Rattle.basic_toml_grammar.specs.Steps.{Step, key, number, Path}
use Rattle.basic_toml_grammar.specs.RowClash.{rows_clash}
use Rattle.basic_toml_grammar.specs.Mentions.{finished}
use Rattle.basic_toml_grammar.specs.Marks.{MarkKind, passed, by_latest, named, added, dotted, valued, Mark, mark}
use Rattle.basic_toml_grammar.specs.Standing.{fits, standing_at}
use Rattle.basic_toml_grammar.specs.Entering.{and_then, take_mark, element_count, count_at, add_row, add_rows}
use Rattle.basic_toml_grammar.specs.Entering.{add_table, by_element, add_element, enter, enter_all}
use Rattle.basic_toml_grammar.specs.Entering as marked
use Rattle.basic_toml_grammar.specs.Trie.{Trie, nothing, mark_here, at_step, put_row, put_rows, put_table}
use Rattle.basic_toml_grammar.specs.Trie.{count, go_on, put_element, walk, put_section, put_sections}
use Rattle.basic_toml_grammar.proofs.Tries.MarksInATrie.{touch, trie_of, descend, standing_of}
use Rattle.basic_toml_grammar.proofs.Tries.StopsForgotten.{at_path}
use Rattle.basic_toml_grammar.proofs.Tries.ChangesByPath.{then_then, then_some, at_path_here}
use Rattle.basic_toml_grammar.proofs.Tries.ChangesByPath.{at_path_append, at_path_twice, mark_by}

-- what is done to the marks at a path is done to their trie there
record Is (p : Path) (F : List Mark → Option (List Mark)) (f : Trie → Option Trie) : Type 0 where
  same : (st : List Mark) → option_map trie_of (F st) ≡ at_path p f (trie_of st)

takes_mark : (p : Path) (k : MarkKind) → Is p (λ st. take_mark p k st) (λ t. mark_here k t)
takes_mark p k = record {
  same = λ st. go st (fits k (standing_at st p)) ∙
      ap (λ o. if fits k o then Some (touch p k (trie_of st)) else None) (sym (standing_of st p)) ∙
      sym (mark_by p k (trie_of st));
}
  where
    go : (st : List Mark) (b : Bool) → option_map trie_of (if b then Some (mark p k ∷ st) else None)
        ≡ (if b then Some (touch p k (trie_of st)) else None)
    go st true = refl
    go st false = refl

then_is : (p : Path) (F G : List Mark → Option (List Mark)) (f g : Trie → Option Trie) → Is p F f → Is p G g
    → Is p (λ st. and_then (F st) G) (λ t. and_then (f t) g)
then_is p F G f g a b = record {
  same = λ st. go (F st) ∙ ap (λ o. and_then o (λ t. at_path p g t)) (a.same st) ∙
      at_path_twice p f g (trie_of st);
}
  where
    go : (o : Option (List Mark)) → option_map trie_of (and_then o G)
        ≡ and_then (option_map trie_of o) (λ t. at_path p g t)
    go None = refl
    go (Some st) = b.same st

down_is : (p : Path) (s : Step) (F : List Mark → Option (List Mark)) (f : Trie → Option Trie) → Is (p ++ s ∷ []) F f
    → Is p F (λ t. at_step s f t)
down_is p s F f a = record { same = λ st. a.same st ∙ at_path_append p (s ∷ []) f (trie_of st) }

count_is : (p : Path) (F : ℕ → List Mark → Option (List Mark)) (f : ℕ → Trie → Option Trie)
    → ((n : ℕ) → Is p (F n) (f n)) → Is p (λ st. F (count_at st p) st) (λ t. f (count t) t)
count_is p F f a = record {
  same = λ st. (a (count_at st p)).same st ∙
      at_path_here p (f (count_at st p)) (λ t. f (count t) t) (trie_of st)
      (ap (λ o. f (element_count o) (descend p (trie_of st))) (sym (standing_of st p)));
}

-- a row, and rows after what was done before
row_is : (p : Path) (ks : KeyTexts) (v : Data) → Is p (λ st. add_row p ks v st) (λ t. put_row ks v t)
row_is p [] v = takes_mark p (valued v)
row_is p (k ∷ []) v =
    down_is p (key k) (λ st. take_mark (p ++ key k ∷ []) (valued v) st) (λ t. mark_here (valued v) t)
    (takes_mark (p ++ key k ∷ []) (valued v))
row_is p (k ∷ l ∷ ks) v =
    down_is p (key k) (λ st. and_then (take_mark here dotted st) (λ st. add_row here (l ∷ ks) v st))
    (λ t. and_then (mark_here dotted t) (λ t. put_row (l ∷ ks) v t))
    (then_is here (λ st. take_mark here dotted st) (λ st. add_row here (l ∷ ks) v st) (λ t. mark_here dotted t)
    (λ t. put_row (l ∷ ks) v t) (takes_mark here dotted) (row_is here (l ∷ ks) v))
  where
    here : Path
    here = p ++ key k ∷ []

rows_are : (p : Path) (rs : Rows) (F : List Mark → Option (List Mark)) (f : Trie → Option Trie) → Is p F f
    → Is p (λ st. and_then (F st) (λ st. add_rows p rs st)) (λ t. and_then (f t) (λ t. put_rows rs t))
rows_are p no_rows F f a = record {
  same = λ st. ap (λ o. option_map trie_of o) (then_some (F st)) ∙ a.same st ∙
      at_path_here p f (λ t. and_then (f t) (λ t. Some t)) (trie_of st) (sym (then_some (f (descend p (trie_of st)))));
}
rows_are p (row keys at v rs) F f a = record {
  same = λ st.
      ap (λ o. option_map trie_of o) (sym (then_then R (λ st. add_rows p rs st) (F st)))
      ∙ (rows_are p rs (λ st. and_then (F st) R) (λ t. and_then (f t) r)
      (then_is p F R f r a (row_is p (texts keys) (finished v)))).same st
      ∙ at_path_here p (λ t. and_then (and_then (f t) r) (λ t. put_rows rs t))
      (λ t. and_then (f t) (λ t. put_rows (row keys at v rs) t)) (trie_of st)
      (then_then r (λ t. put_rows rs t) (f (descend p (trie_of st))));
}
  where
    R : List Mark → Option (List Mark)
    R st = add_row p (texts keys) (finished v) st

    r : Trie → Option Trie
    r t = put_row (texts keys) (finished v) t

table_is : (p : Path) (rs : Rows) → Is p (λ st. add_table p rs st) (λ t. put_table rs t)
table_is p rs = rows_are p rs (λ st. take_mark p named st) (λ t. mark_here named t) (takes_mark p named)

-- on into the latest element, and into one more
by_element_is : (p : Path) (go : Path → List Mark → Option (List Mark)) (f : Trie → Option Trie)
    → ((c : Path) → Is c (go c) f) → (n : ℕ) → Is p (λ st. by_element go p n st) (λ t. go_on f n t)
by_element_is p go f h zero = h p
by_element_is p go f h (suc n) =
    then_is p (λ st. take_mark p by_latest st) (go (p ++ number n ∷ [])) (λ t. mark_here by_latest t)
    (λ t. at_step (number n) f t) (takes_mark p by_latest)
    (down_is p (number n) (go (p ++ number n ∷ [])) f (h (p ++ number n ∷ [])))

element_is : (p : Path) (rs : Rows) → Is p (λ st. add_element rs p st) (λ t. put_element rs t)
element_is p rs = count_is p
    (λ n st. and_then (take_mark p added st) (λ st. add_table (p ++ number n ∷ []) rs st))
    (λ n t. and_then (mark_here added t) (λ u. at_step (number n) (λ t. put_table rs t) u))
    (λ n. then_is p (λ st. take_mark p added st) (λ st. add_table (p ++ number n ∷ []) rs st) (λ t. mark_here added t)
    (λ u. at_step (number n) (λ t. put_table rs t) u) (takes_mark p added)
    (down_is p (number n) (λ st. add_table (p ++ number n ∷ []) rs st) (λ t. put_table rs t)
    (table_is (p ++ number n ∷ []) rs)))

-- past a cut, and on by a key
pass_is : (cut : Path) (k : List ℕ) (F : List Mark → Option (List Mark)) (f : Trie → Option Trie)
    → Is (cut ++ key k ∷ []) F f
    → Is cut (λ st. and_then (take_mark cut passed st) F)
    (λ t. and_then (mark_here passed t) (λ t. at_step (key k) f t))
pass_is cut k F f a =
    then_is cut (λ st. take_mark cut passed st) F (λ t. mark_here passed t) (λ t. at_step (key k) f t)
    (takes_mark cut passed) (down_is cut (key k) F f a)

-- THE WALK, from a cut on
walk_is : (a : Bool) (rs : Rows) (cut : Path) (keys : KeyTexts)
    → Is cut (λ st. marked.walk a rs cut keys st) (λ t. walk a rs keys t)
walk_is a rs cut [] = table_is cut rs
walk_is true rs cut (k ∷ []) =
    pass_is cut k (λ st. add_element rs (cut ++ key k ∷ []) st) (λ t. put_element rs t)
    (element_is (cut ++ key k ∷ []) rs)
walk_is false rs cut (k ∷ []) =
    pass_is cut k (λ st. by_element (λ p st. add_table p rs st) here (count_at st here) st)
    (λ t. go_on (λ t. put_table rs t) (count t) t)
    (count_is here (λ n st. by_element (λ p st. add_table p rs st) here n st) (λ n t. go_on (λ t. put_table rs t) n t)
    (λ n. by_element_is here (λ p st. add_table p rs st) (λ t. put_table rs t) (λ c. table_is c rs) n))
  where
    here : Path
    here = cut ++ key k ∷ []
walk_is a rs cut (k ∷ l ∷ keys) =
    pass_is cut k (λ st. by_element (λ p st. marked.walk a rs p (l ∷ keys) st) here (count_at st here) st)
    (λ t. go_on (λ t. walk a rs (l ∷ keys) t) (count t) t)
    (count_is here (λ n st. by_element (λ p st. marked.walk a rs p (l ∷ keys) st) here n st)
    (λ n t. go_on (λ t. walk a rs (l ∷ keys) t) n t)
    (λ n. by_element_is here (λ p st. marked.walk a rs p (l ∷ keys) st) (λ t. walk a rs (l ∷ keys) t)
    (λ c. walk_is a rs c (l ∷ keys)) n))
  where
    here : Path
    here = cut ++ key k ∷ []

section_is : (s : Section) (st : List Mark) → option_map trie_of (enter s st) ≡ put_section s (trie_of st)
section_is s st = go (rows_clash s.rows)
  where
    go : (b : Bool) → option_map trie_of (if b then None else marked.walk s.is_array s.rows [] (texts s.header) st)
        ≡ (if b then None else walk s.is_array s.rows (texts s.header) (trie_of st))
    go true = refl
    go false = (walk_is s.is_array s.rows [] (texts s.header)).same st

pub sections_are : (sections : List Section) (st : List Mark)
    → put_sections sections (trie_of st) ≡ option_map trie_of (enter_all sections st)
sections_are [] st = refl
sections_are (s ∷ sections) st = ap (λ o. and_then o (λ t. put_sections sections t)) (sym (section_is s st)) ∙
    go (λ st. sections_are sections st) (enter s st)
  where
    go : ((st : List Mark) → put_sections sections (trie_of st) ≡ option_map trie_of (enter_all sections st))
        → (o : Option (List Mark)) → and_then (option_map trie_of o) (λ t. put_sections sections t)
        ≡ option_map trie_of (and_then o (λ st. enter_all sections st))
    go ih None = refl
    go ih (Some st) = ih st

pub trie_is_entering : (sections : List Section)
    → put_sections sections nothing ≡ option_map trie_of (enter_all sections [])
trie_is_entering sections = sections_are sections []
