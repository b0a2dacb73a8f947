-- A section that is put into a trie goes on or stops as it does where it is entered, so what stops it is named.
use Rattle.std.proofs.Common.{◌≡◌, ℕ, zero, suc, Bool, true, false, List, [], ◌∷◌, ◌++◌, Option, Some, None, refl, ap}
use Rattle.std.proofs.Common.{sym, ◌∙◌, subst, length}
use Rattle.std.specs.Prelude.{if◌then◌else◌, option_map}
use Rattle.basic_toml_value.specs.Data.{Data}
use Rattle.basic_toml_grammar.specs.Sections.{Key, KeyTexts, texts, Raw, Elements, no_elements, element, Rows}
use Rattle.basic_toml_grammar.specs.Sections.{no_rows, row, Section}
use Rattle.basic_toml_grammar.specs.Steps.{Step, key, number, Path}
use Rattle.basic_toml_grammar.specs.Mentions.{finished}
use Rattle.basic_toml_grammar.specs.Marks.{MarkKind, passed, by_latest, named, added, dotted, valued, Mark, mark}
use Rattle.basic_toml_grammar.specs.Standing.{Standing, fits, standing_at}
use Rattle.basic_toml_grammar.specs.NamedClash.{last_key}
use Rattle.basic_toml_grammar.specs.Entering.{element_count, count_at, enter_all}
use Rattle.basic_toml_grammar.specs.Trie.{Trie, nothing, count}
use Rattle.basic_toml_grammar.specs.Stops.{Stop, at_row, header_stop, last_stop, Outcome, goes_on, stops}
use Rattle.basic_toml_grammar.specs.Stops.{and_on, held, try_mark, try_row, try_rows, try_value, try_elements}
use Rattle.basic_toml_grammar.specs.Stops.{try_header, try_table, try_element, try_latest, try_walk, try_enter}
use Rattle.basic_toml_grammar.specs.TrieStops.{outcome_map, try_here, try_step, try_put_row, try_put_rows}
use Rattle.basic_toml_grammar.specs.TrieStops.{try_put_value, try_put_elements, try_put_table, try_put_element}
use Rattle.basic_toml_grammar.specs.TrieStops.{try_go_on, try_by_keys, try_put_section}
use Rattle.basic_toml_grammar.specs.Statements.{TrieStopsAreNamed}
use Rattle.basic_toml_grammar.proofs.Tries.MarksInATrie.{touch, trie_of, descend, standing_of}
use Rattle.basic_toml_grammar.proofs.Tries.TrieIsEntering.{trie_is_entering}
use Rattle.basic_toml_grammar.proofs.Tries.StopsByPath.{try_path, on_on, on_goes, path_here, path_append, path_twice}
use Rattle.basic_toml_grammar.proofs.Tries.StopsByPath.{path_stop, mark_or_stop}
use Rattle.basic_toml_grammar.proofs.Naming.StopsAreNamed.{stops_named}

-- what is done to the marks at a path is done to their trie there
record Is (p : Path) (F : List Mark → Outcome (List Mark)) (f : Trie → Outcome Trie) : Type 0 where
  same : (st : List Mark) → outcome_map trie_of (F st) ≡ try_path p f (trie_of st)

takes_mark : (p : Path) (k : MarkKind) (name : Option Standing → Stop)
    → Is p (λ st. try_mark p k name st) (λ t. try_here k name t)
takes_mark p k name = record {
  same = λ st. go st (fits k (standing_at st p)) ∙
      ap (λ o. if fits k o then goes_on (touch p k (trie_of st)) else stops (name o)) (sym (standing_of st p)) ∙
      sym (mark_or_stop p k name (trie_of st));
}
  where
    go : (st : List Mark) (b : Bool)
        → outcome_map trie_of (if b then goes_on (mark p k ∷ st) else stops (name (standing_at st p)))
        ≡ (if b then goes_on (touch p k (trie_of st)) else stops (name (standing_at st p)))
    go st true = refl
    go st false = refl

then_is : (p : Path) (F G : List Mark → Outcome (List Mark)) (f g : Trie → Outcome Trie) → Is p F f → Is p G g
    → Is p (λ st. and_on (F st) G) (λ t. and_on (f t) g)
then_is p F G f g a b = record {
  same = λ st. go (F st) ∙ ap (λ o. and_on o (λ t. try_path p g t)) (a.same st) ∙ path_twice p f g (trie_of st);
}
  where
    go : (o : Outcome (List Mark)) → outcome_map trie_of (and_on o G)
        ≡ and_on (outcome_map trie_of o) (λ t. try_path p g t)
    go (stops x) = refl
    go (goes_on st) = b.same st

down_is : (p : Path) (s : Step) (F : List Mark → Outcome (List Mark)) (f : Trie → Outcome Trie) → Is (p ++ s ∷ []) F f
    → Is p F (λ t. try_step s f t)
down_is p s F f a = record { same = λ st. a.same st ∙ path_append p (s ∷ []) f (trie_of st) }

count_is : (p : Path) (F : ℕ → List Mark → Outcome (List Mark)) (f : ℕ → Trie → Outcome Trie)
    → ((n : ℕ) → Is p (F n) (f n)) → Is p (λ st. F (count_at st p) st) (λ t. f (count t) t)
count_is p F f a = record {
  same = λ st. (a (count_at st p)).same st ∙
      path_here p (f (count_at st p)) (λ t. f (count t) t) (trie_of st)
      (ap (λ o. f (element_count o) (descend p (trie_of st))) (sym (standing_of st p)));
}

-- a row, and rows after what was done before
row_is : (p : Path) (before : KeyTexts) (ks : List Key) (v : Data)
    → Is p (λ st. try_row p before ks v st) (λ t. try_put_row before ks v t)
row_is p before [] v = takes_mark p (valued v) (last_stop before (last_key []))
row_is p before (k ∷ []) v =
    down_is p (key k.text) (λ st. try_mark (p ++ key k.text ∷ []) (valued v) (last_stop before k) st)
    (λ t. try_here (valued v) (last_stop before k) t)
    (takes_mark (p ++ key k.text ∷ []) (valued v) (last_stop before k))
row_is p before (k ∷ l ∷ ks) v =
    down_is p (key k.text)
    (λ st. and_on (try_mark here dotted (λ m. at_row before k) st) (λ st. try_row here further (l ∷ ks) v st))
    (λ t. and_on (try_here dotted (λ m. at_row before k) t) (λ t. try_put_row further (l ∷ ks) v t))
    (then_is here (λ st. try_mark here dotted (λ m. at_row before k) st) (λ st. try_row here further (l ∷ ks) v st)
    (λ t. try_here dotted (λ m. at_row before k) t) (λ t. try_put_row further (l ∷ ks) v t)
    (takes_mark here dotted (λ m. at_row before k)) (row_is here further (l ∷ ks) v))
  where
    here : Path
    here = p ++ key k.text ∷ []

    further : KeyTexts
    further = before ++ k.text ∷ []

stop_is : (p : Path) (x : Stop) → Is p (λ st. stops x) (λ t. stops x)
stop_is p x = record { same = λ st. sym (path_stop p x (trie_of st)) }

held_same : (keys : List Key) (o : Outcome (List Mark))
    → outcome_map trie_of (held keys o) ≡ held keys (outcome_map trie_of o)
held_same keys (goes_on st) = refl
held_same keys (stops x) = refl

on_same : (o : Outcome (List Mark)) (a : Outcome (List Mark))
    → outcome_map trie_of (and_on o (λ _. a)) ≡ and_on (outcome_map trie_of o) (λ _. outcome_map trie_of a)
on_same (goes_on st) a = refl
on_same (stops x) a = refl

-- one row more, after what was done before and where its value stops or goes on
abbrev MoreRows : Path → Rows → Type 0
MoreRows p rs = (F : List Mark → Outcome (List Mark)) (f : Trie → Outcome Trie) → Is p F f
    → Is p (λ st. and_on (F st) (λ st. try_rows p rs st)) (λ t. and_on (f t) (λ t. try_put_rows rs t))

one_row : (p : Path) (keys : List Key) (v : Data) (rs : Rows) (o : Outcome (List Mark))
    (F : List Mark → Outcome (List Mark)) (f : Trie → Outcome Trie) → Is p F f → MoreRows p rs
    → Is p (λ st. and_on (F st) (λ st. and_on o (λ _. and_on (try_row p [] keys v st) (λ st. try_rows p rs st))))
    (λ t. and_on (f t) (λ t. and_on (outcome_map trie_of o) (λ _. and_on (try_put_row [] keys v t)
    (λ t. try_put_rows rs t))))
one_row p keys v rs (stops x) F f a h = then_is p F (λ st. stops x) f (λ t. stops x) a (stop_is p x)
one_row p keys v rs (goes_on now) F f a h = record {
  same = λ st.
      ap (λ o. outcome_map trie_of o) (sym (on_on R (λ st. try_rows p rs st) (F st)))
      ∙ (h (λ st. and_on (F st) R) (λ t. and_on (f t) r) (then_is p F R f r a (row_is p [] keys v))).same st
      ∙ path_here p (λ t. and_on (and_on (f t) r) (λ t. try_put_rows rs t))
      (λ t. and_on (f t) (λ t. and_on (r t) (λ t. try_put_rows rs t))) (trie_of st)
      (on_on r (λ t. try_put_rows rs t) (f (descend p (trie_of st))));
}
  where
    R : List Mark → Outcome (List Mark)
    R st = try_row p [] keys v st

    r : Trie → Outcome Trie
    r t = try_put_row [] keys v t

no_rows_are : (p : Path) → MoreRows p no_rows
no_rows_are p F f a = record {
  same = λ st. ap (λ o. outcome_map trie_of o) (on_goes (F st)) ∙ a.same st ∙
      path_here p f (λ t. and_on (f t) (λ t. goes_on t)) (trie_of st) (sym (on_goes (f (descend p (trie_of st)))));
}

inline_is : (rs : Rows) → MoreRows [] rs → outcome_map trie_of (try_rows [] rs []) ≡ try_put_rows rs nothing
inline_is rs h = (h (λ st. goes_on st) (λ t. goes_on t) (record { same = λ st. refl })).same []

mutual
  rows_are : (p : Path) (rs : Rows) → MoreRows p rs
  rows_are p no_rows = no_rows_are p
  rows_are p (row keys at v rs) = λ F f a.
      subst (λ o. Is p (λ st. and_on (F st) (λ st. try_rows p (row keys at v rs) st))
      (λ t. and_on (f t) (λ t. and_on o (λ _. and_on (try_put_row [] keys (finished v) t) (λ t. try_put_rows rs t)))))
      (held_same keys (try_value v) ∙ ap (λ o. held keys o) (value_is v))
      (one_row p keys (finished v) rs (held keys (try_value v)) F f a (rows_are p rs))

  value_is : (v : Raw) → outcome_map trie_of (try_value v) ≡ try_put_value v
  value_is (Raw.integer z) = refl
  value_is (Raw.float t) = refl
  value_is (Raw.boolean b) = refl
  value_is (Raw.string t _) = refl
  value_is (Raw.array es) = elements_are es
  value_is (Raw.inline rs) = inline_is rs (rows_are [] rs)

  elements_are : (es : Elements) → outcome_map trie_of (try_elements es) ≡ try_put_elements es
  elements_are no_elements = refl
  elements_are (element at v es) = on_same (try_value v) (try_elements es) ∙
      ap (λ o. and_on o (λ _. outcome_map trie_of (try_elements es))) (value_is v) ∙
      ap (λ o. and_on (try_put_value v) (λ _. o)) (elements_are es)

table_is : (p : Path) (rs : Rows) → Is p (λ st. try_table p rs st) (λ t. try_put_table rs t)
table_is p rs = rows_are p rs (λ st. try_header p named 0 st) (λ t. try_here named (header_stop named 0) t)
    (takes_mark p named (header_stop named 0))

-- on into the latest element, and into one more
latest_is : (p : Path) (go : Path → List Mark → Outcome (List Mark)) (f : Trie → Outcome Trie) (left : ℕ)
    → ((c : Path) → Is c (go c) f) → (n : ℕ) → Is p (λ st. try_latest go p left n st) (λ t. try_go_on f left n t)
latest_is p go f left h zero = h p
latest_is p go f left h (suc n) =
    then_is p (λ st. try_header p by_latest left st) (go (p ++ number n ∷ []))
    (λ t. try_here by_latest (header_stop by_latest left) t) (λ t. try_step (number n) f t)
    (takes_mark p by_latest (header_stop by_latest left))
    (down_is p (number n) (go (p ++ number n ∷ [])) f (h (p ++ number n ∷ [])))

element_is : (p : Path) (rs : Rows) → Is p (λ st. try_element rs p st) (λ t. try_put_element rs t)
element_is p rs = count_is p
    (λ n st. and_on (try_header p added 0 st) (λ st. try_table (p ++ number n ∷ []) rs st))
    (λ n t. and_on (try_here added (header_stop added 0) t) (λ u. try_step (number n) (λ t. try_put_table rs t) u))
    (λ n. then_is p (λ st. try_header p added 0 st) (λ st. try_table (p ++ number n ∷ []) rs st)
    (λ t. try_here added (header_stop added 0) t) (λ u. try_step (number n) (λ t. try_put_table rs t) u)
    (takes_mark p added (header_stop added 0))
    (down_is p (number n) (λ st. try_table (p ++ number n ∷ []) rs st) (λ t. try_put_table rs t)
    (table_is (p ++ number n ∷ []) rs)))

-- past a cut, and on by a key
pass_is : (cut : Path) (k : List ℕ) (left : ℕ) (F : List Mark → Outcome (List Mark)) (f : Trie → Outcome Trie)
    → Is (cut ++ key k ∷ []) F f
    → Is cut (λ st. and_on (try_header cut passed left st) F)
    (λ t. and_on (try_here passed (header_stop passed left) t) (λ t. try_step (key k) f t))
pass_is cut k left F f a =
    then_is cut (λ st. try_header cut passed left st) F (λ t. try_here passed (header_stop passed left) t)
    (λ t. try_step (key k) f t) (takes_mark cut passed (header_stop passed left)) (down_is cut (key k) F f a)

-- THE WALK, from a cut on
walk_is : (a : Bool) (rs : Rows) (cut : Path) (keys : KeyTexts)
    → Is cut (λ st. try_walk a rs cut keys st) (λ t. try_by_keys a rs keys t)
walk_is a rs cut [] = table_is cut rs
walk_is true rs cut (k ∷ []) =
    pass_is cut k 1 (λ st. try_element rs (cut ++ key k ∷ []) st) (λ t. try_put_element rs t)
    (element_is (cut ++ key k ∷ []) rs)
walk_is false rs cut (k ∷ []) =
    pass_is cut k 1 (λ st. try_latest (λ p st. try_table p rs st) here 0 (count_at st here) st)
    (λ t. try_go_on (λ t. try_put_table rs t) 0 (count t) t)
    (count_is here (λ n st. try_latest (λ p st. try_table p rs st) here 0 n st)
    (λ n t. try_go_on (λ t. try_put_table rs t) 0 n t)
    (λ n. latest_is here (λ p st. try_table p rs st) (λ t. try_put_table rs t) 0 (λ c. table_is c rs) n))
  where
    here : Path
    here = cut ++ key k ∷ []
walk_is a rs cut (k ∷ l ∷ keys) =
    pass_is cut k (length (k ∷ l ∷ keys))
    (λ st. try_latest (λ p st. try_walk a rs p (l ∷ keys) st) here (length (l ∷ keys)) (count_at st here) st)
    (λ t. try_go_on (λ t. try_by_keys a rs (l ∷ keys) t) (length (l ∷ keys)) (count t) t)
    (count_is here (λ n st. try_latest (λ p st. try_walk a rs p (l ∷ keys) st) here (length (l ∷ keys)) n st)
    (λ n t. try_go_on (λ t. try_by_keys a rs (l ∷ keys) t) (length (l ∷ keys)) n t)
    (λ n. latest_is here (λ p st. try_walk a rs p (l ∷ keys) st) (λ t. try_by_keys a rs (l ∷ keys) t)
    (length (l ∷ keys)) (λ c. walk_is a rs c (l ∷ keys)) n))
  where
    here : Path
    here = cut ++ key k ∷ []

pub section_is : (s : Section) (st : List Mark)
    → outcome_map trie_of (try_enter s st) ≡ try_put_section s (trie_of st)
section_is s st = (walk_is s.is_array s.rows [] (texts s.header)).same st

some_trie : (o : Option (List Mark)) (t : Trie) → option_map trie_of o ≡ Some t
    → (st : List Mark) × (o ≡ Some st) × (trie_of st ≡ t)
some_trie None t e = cc
some_trie (Some st) t e = (st, refl, cc)

same_stop : (o : Outcome (List Mark)) (x : Stop) → outcome_map trie_of o ≡ stops x → o ≡ stops x
same_stop (goes_on st) x e = cc
same_stop (stops y) x e = ap stops (ap (stop_of x) e)
  where
    stop_of : Stop → Outcome Trie → Stop
    stop_of x (stops y) = y
    stop_of x (goes_on t) = x

pub trie_stops_named : TrieStopsAreNamed
trie_stops_named earlier s later t x k y d e f =
    let h : (st : List Mark) × (enter_all earlier [] ≡ Some st) × (trie_of st ≡ t) =
    some_trie (enter_all earlier []) t (sym (trie_is_entering earlier) ∙ e) in
    stops_named earlier s later h.0 x k y d h.1
    (same_stop (try_enter s h.0) x (section_is s h.0 ∙ ap (λ t. try_put_section s t) h.2 ∙ f))
