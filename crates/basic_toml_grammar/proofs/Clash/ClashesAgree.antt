-- The cuts of a section, and so the clashes, are the same cut by cut and section by section.

use Rattle.std.proofs.Common.{◌≡◌, ℕ, zero, suc, Bool, true, false, List, [], ◌∷◌, ◌++◌, refl, ap, sym, ◌∙◌}
use Rattle.std.proofs.Common.{append_assoc, arith, length, map, ◌≤◌}
use Rattle.std.specs.Prelude.{◌&&◌, ◌||◌}
use Rattle.std.specs.List.{list_any}
use Rattle.std.proofs.lemmas.Bool.{false≢true, and_parts}
use Rattle.basic_toml_grammar.specs.Sections.{KeyTexts, texts, Rows, no_rows, row, Section}
use Rattle.basic_toml_grammar.specs.Steps.{Step, key, Path, step_eq, begins, path_eq, steps_of}
use Rattle.basic_toml_grammar.specs.IndexedPath.{latest, cuts_to, Located, located_after, located_from}
use Rattle.basic_toml_grammar.specs.SectionClash.{target, inner_beginnings, array_on_cut, row_crossed}
use Rattle.basic_toml_grammar.specs.SectionClash.{any_row_clashes, clashes_one_way, clashes, any_pair}
use Rattle.basic_toml_grammar.specs.SectionClash.{sections_clash}
use Rattle.basic_toml_grammar.specs.Placed.{Placed, adds_element, path_of, element_from, placed_after, placed_from}
use Rattle.basic_toml_grammar.specs.Placed.{is_cut, is_short, is_inner, crosses, row_meets, rows_meet}
use Rattle.basic_toml_grammar.specs.Placed.{placed_clash_one_way, placed_clash, any_placed_clash}
use Rattle.basic_toml_grammar.specs.Entering.{header_keyed, is_keyed, all_keyed, rows_keyed}
use Rattle.basic_toml_grammar.proofs.Clash.StepTestsDecide.{step_same, step_is}
use Rattle.basic_toml_grammar.proofs.Clash.MarksAreWhatIsSaid.{same_truth}
use Rattle.basic_toml_grammar.proofs.Clash.PathsAgree.{offsets, count_in, counted, cut_from, append_none, whole}
use Rattle.basic_toml_grammar.proofs.Clash.PathsAgree.{cuts_are, adds_none, adds_one, counts_are, path_is, target_is}

-- all cuts from one on, the shortest first
abbrev cuts_from : (Path → ℕ) → Bool → Path → KeyTexts → List Path
cuts_from count a p [] = p ∷ []
cuts_from count a p (k ∷ keys) = p
    ∷ cuts_from count a (p ++ key k ∷ latest (counted a keys (count (p ++ key k ∷ [])))) keys

-- t goes on from p by a cut of r
abbrev cut_after : Path → Path → Path → Bool
cut_after [] r t = is_cut t r
cut_after (s ∷ p) r [] = false
cut_after (s ∷ p) r (t ∷ q) = step_eq t s && cut_after p r q

pub turn_eq : (s t : Step) → step_eq s t ≡ step_eq t s
turn_eq s t = same_truth _ _ (λ e. ap (λ x. step_eq t x) (step_is s t e) ∙ step_same t)
    (λ e. ap (λ x. step_eq s x) (step_is t s e) ∙ step_same s)

latest_cut : (c : ℕ) (r t : Path) → cut_after (latest c) r t ≡ is_cut t (latest c ++ r)
latest_cut zero r t = refl
latest_cut (suc n) r [] = refl
latest_cut (suc n) r (u ∷ t) = refl

shared : (a b x y : Bool) → a ≡ b → ((a && x) && (b && y)) ≡ (b && (x && y))
shared true true x y e = refl
shared true false x y e = absurd (false≢true (sym e))
shared false true x y e = absurd (false≢true e)
shared false false x y e = refl

and_or : (a x y : Bool) → ((a && x) || (a && y)) ≡ (a && (x || y))
and_or true x y = refl
and_or false x y = refl

-- a cut, or one further on
cut_here : (p : Path) (k : List ℕ) (c : ℕ) (r t : Path)
    → (path_eq p t || cut_after (p ++ key k ∷ latest c) r t) ≡ cut_after p (key k ∷ (latest c ++ r)) t
cut_here [] k c r [] = refl
cut_here [] k c r (u ∷ t) = ap (λ b. step_eq u (key k) && b) (latest_cut c r t)
cut_here (s ∷ p) k c r [] = refl
cut_here (s ∷ p) k c r (u ∷ t) =
    ap (λ b. b || (step_eq u s && cut_after (p ++ key k ∷ latest c) r t))
    (shared (step_eq s u) (step_eq u s) (begins p t) (begins t p) (turn_eq s u))
    ∙ and_or (step_eq u s) (path_eq p t) (cut_after (p ++ key k ∷ latest c) r t)
    ∙ ap (λ b. step_eq u s && b) (cut_here p k c r t)

last_cut : (p t : Path) → (path_eq p t || false) ≡ cut_after p [] t
last_cut [] [] = refl
last_cut [] (u ∷ t) = refl
last_cut (s ∷ p) [] = refl
last_cut (s ∷ p) (u ∷ t) =
    ap (λ b. b || false) (shared (step_eq s u) (step_eq u s) (begins p t) (begins t p) (turn_eq s u))
    ∙ ap (λ b. (step_eq u s && path_eq p t) || b) (sym (none (step_eq u s)))
    ∙ and_or (step_eq u s) (path_eq p t) false ∙ ap (λ b. step_eq u s && b) (last_cut p t)
  where
    none : (a : Bool) → (a && false) ≡ false
    none true = refl
    none false = refl

-- what stands after a cut, and it is the path there
abbrev rest_from : (Path → ℕ) → Bool → Path → KeyTexts → Path
rest_from count a p [] = []
rest_from count a p (k ∷ keys) =
    let c = counted a keys (count (p ++ key k ∷ [])) in
    key k ∷ (latest c ++ rest_from count a (p ++ key k ∷ latest c) keys)

rest_is : (count : Path → ℕ) (a : Bool) (p : Path) (keys : KeyTexts) → cut_from count a p keys (length keys) ≡ p
    ++ rest_from count a p keys
rest_is count a p [] = sym (append_none p)
rest_is count a p (k ∷ keys) = rest_is count a (p ++ key k ∷ latest c) keys ∙
    append_assoc p (key k ∷ latest c) (rest_from count a (p ++ key k ∷ latest c) keys)
  where
    c : ℕ
    c = counted a keys (count (p ++ key k ∷ []))

any_cut : (count : Path → ℕ) (a : Bool) (p : Path) (keys : KeyTexts) (t : Path)
    → list_any (λ c. path_eq c t) (cuts_from count a p keys) ≡ cut_after p (rest_from count a p keys) t
any_cut count a p [] t = last_cut p t
any_cut count a p (k ∷ keys) t =
    ap (λ b. path_eq p t || b) (any_cut count a (p ++ key k ∷ latest c) keys t) ∙
    cut_here p k c (rest_from count a (p ++ key k ∷ latest c) keys) t
  where
    c : ℕ
    c = counted a keys (count (p ++ key k ∷ []))

-- the cuts by their numbers, the longest first
abbrev numbered : (Path → ℕ) → Bool → Path → KeyTexts → ℕ → List Path
numbered count a p keys zero = cut_from count a p keys zero ∷ []
numbered count a p keys (suc l) = cut_from count a p keys (suc l) ∷ numbered count a p keys l

exchange : (a b c : Bool) → (a || (b || c)) ≡ (b || (a || c))
exchange true true c = refl
exchange true false c = refl
exchange false b c = refl

any_numbered : (q : Path → Bool) (count : Path → ℕ) (a : Bool) (p : Path) (k : List ℕ) (keys : KeyTexts) (l : ℕ)
    → list_any q (numbered count a p (k ∷ keys) (suc l))
    ≡ (q p || list_any q (numbered count a (p ++ key k ∷ latest (counted a keys (count (p ++ key k ∷ [])))) keys l))
any_numbered q count a p k keys zero = exchange (q (cut_from count a p (k ∷ keys) 1)) (q p) false
any_numbered q count a p k keys (suc l) =
    ap (λ b. q (cut_from count a p (k ∷ keys) (suc (suc l))) || b) (any_numbered q count a p k keys l)
    ∙ exchange (q (cut_from count a p (k ∷ keys) (suc (suc l)))) (q p) _

any_order : (q : Path → Bool) (count : Path → ℕ) (a : Bool) (p : Path) (keys : KeyTexts)
    → list_any q (numbered count a p keys (length keys)) ≡ list_any q (cuts_from count a p keys)
any_order q count a p [] = refl
any_order q count a p (k ∷ keys) = any_numbered q count a p k keys (length keys)
    ∙ ap (λ b. q p || b) (any_order q count a (p ++ key k ∷ latest (counted a keys (count (p ++ key k ∷ [])))) keys)

cuts_numbered : (s : Section) (earlier : List Section) (l : ℕ) → l ≤ length (texts s.header)
    → cuts_to l (s ∷ earlier) (texts s.header) ≡ numbered (count_in earlier) s.is_array [] (texts s.header) l
cuts_numbered s earlier zero h = refl
cuts_numbered s earlier (suc l) h =
    ap (λ c. c ∷ cuts_to l (s ∷ earlier) (texts s.header)) (cuts_are s earlier (counts_are earlier) (suc l) h)
    ∙ ap (λ cs. cut_from (count_in earlier) s.is_array [] (texts s.header) (suc l) ∷ cs)
    (cuts_numbered s earlier l (omega arith))

-- some cut of a section is this path
pub cuts_say : (s : Section) (earlier : List Section) (t : Path)
    → list_any (λ c. path_eq c t) (located_after earlier s).cuts ≡ is_cut t (path_of (placed_after (offsets earlier) s))
cuts_say s earlier t =
    ap (λ cs. list_any (λ c. path_eq c t) cs) (cuts_numbered s earlier (length header) (omega arith))
    ∙ any_order (λ c. path_eq c t) (count_in earlier) s.is_array [] header
    ∙ any_cut (count_in earlier) s.is_array [] header t
    ∙ ap (λ r. is_cut t r) (sym (rest_is (count_in earlier) s.is_array [] header) ∙
    whole (count_in earlier) s.is_array [] header)
  where
    header : KeyTexts
    header = texts s.header

-- the inner beginnings of a row's path
any_map : (q : Path → Bool) (f : Path → Path) (ps : List Path) → list_any q (map f ps) ≡ list_any (λ p. q (f p)) ps
any_map q f [] = refl
any_map q f (p ∷ ps) = ap (λ b. q (f p) || b) (any_map q f ps)

any_none : (ps : List Path) → list_any (λ p. false) ps ≡ false
any_none [] = refl
any_none (p ∷ ps) = any_none ps

-- one step more on both sides
any_after : (s u : Step) (f : Path → Path) (t : Path) (ps : List Path)
    → list_any (λ b. path_eq (s ∷ f b) (u ∷ t)) ps ≡ (step_eq s u && list_any (λ b. path_eq (f b) t) ps)
any_after s u f t [] = sym (none (step_eq s u))
  where
    none : (a : Bool) → (a && false) ≡ false
    none true = refl
    none false = refl
any_after s u f t (b ∷ ps) =
    ap (λ x. x || list_any (λ b. path_eq (s ∷ f b) (u ∷ t)) ps)
    (shared (step_eq s u) (step_eq u s) (begins (f b) t) (begins t (f b)) (turn_eq s u) ∙
    ap (λ x. x && path_eq (f b) t) (turn_eq u s))
    ∙ ap (λ x. (step_eq s u && path_eq (f b) t) || x) (any_after s u f t ps)
    ∙ and_or (step_eq s u) (path_eq (f b) t) (list_any (λ b. path_eq (f b) t) ps)

any_inner : (steps t : Path) → list_any (λ b. path_eq b t) (inner_beginnings steps) ≡ is_inner t steps
any_inner [] [] = refl
any_inner [] (u ∷ t) = refl
any_inner (s ∷ []) [] = refl
any_inner (s ∷ []) (u ∷ []) = sym (none (step_eq u s))
  where
    none : (a : Bool) → (a && false) ≡ false
    none true = refl
    none false = refl
any_inner (s ∷ []) (u ∷ v ∷ t) = sym (none (step_eq u s))
  where
    none : (a : Bool) → (a && false) ≡ false
    none true = refl
    none false = refl
any_inner (s ∷ r ∷ steps) [] = any_map (λ b. path_eq b []) (λ q. s ∷ q) (inner_beginnings (r ∷ steps)) ∙
    any_none (inner_beginnings (r ∷ steps))
any_inner (s ∷ r ∷ steps) (u ∷ []) =
    ap (λ b. path_eq (s ∷ []) (u ∷ []) || b)
    (any_map (λ b. path_eq b (u ∷ [])) (λ q. s ∷ q) (inner_beginnings (r ∷ steps))
    ∙ any_after s u (λ b. b) [] (inner_beginnings (r ∷ steps)) ∙ ap (λ b. step_eq s u && b) (any_inner (r ∷ steps) []))
    ∙ end (step_eq s u) (step_eq u s) (turn_eq s u)
  where
    end : (a b : Bool) → a ≡ b → (((a && true) && (b && true)) || (a && false)) ≡ (b && true)
    end true b e = rw (← e) refl
    end false b e = rw (← e) refl
any_inner (s ∷ r ∷ steps) (u ∷ v ∷ t) =
    ap (λ b. path_eq (s ∷ []) (u ∷ v ∷ t) || b)
    (any_map (λ b. path_eq b (u ∷ v ∷ t)) (λ q. s ∷ q) (inner_beginnings (r ∷ steps))
    ∙ any_after s u (λ b. b) (v ∷ t) (inner_beginnings (r ∷ steps)) ∙
    ap (λ b. step_eq s u && b) (any_inner (r ∷ steps) (v ∷ t)))
    ∙ end (step_eq s u) (step_eq u s) (is_short (v ∷ t) (r ∷ steps)) (turn_eq s u)
  where
    end : (a b x : Bool) → a ≡ b → (((a && true) && (b && false)) || (a && x)) ≡ (b && x)
    end true b x e = rw (← e) refl
    end false b x e = rw (← e) refl

-- a header crosses a row's path
pub crossed_is : (p steps t : Path) → list_any (λ b. path_eq (p ++ b) t) (inner_beginnings steps) ≡ crosses p steps t
crossed_is [] steps t = any_inner steps t
crossed_is (s ∷ p) steps [] = any_none (inner_beginnings steps)
crossed_is (s ∷ p) steps (u ∷ t) = any_after s u (λ b. p ++ b) t (inner_beginnings steps) ∙
    ap (λ b. step_eq s u && b) (crossed_is p steps t)

-- a section by its cuts and by its target
pub record Alike (l : Located) (p : Placed) : Type 0 where
  pub path : l.path ≡ path_of p
  pub target : target l ≡ p.target
  pub array : l.section.is_array ≡ adds_element p.element
  pub rows : l.section.rows ≡ p.rows
  pub cuts : (t : Path) → list_any (λ c. path_eq c t) l.cuts ≡ is_cut t (path_of p)

pub array_is : (count : Path → ℕ) (a : Bool) (keys : KeyTexts) → header_keyed a keys ≡ true
    → a ≡ adds_element (element_from count a [] keys)
array_is count false keys e = sym (adds_none count [] keys)
array_is count true [] e = absurd (false≢true e)
array_is count true (k ∷ keys) e = sym (adds_one count [] k keys)

pub alike : (s : Section) (earlier : List Section) → header_keyed s.is_array (texts s.header) ≡ true
    → Alike (located_after earlier s) (placed_after (offsets earlier) s)
alike s earlier e = record {
  path = path_is s earlier;
  target = target_is s earlier;
  array = array_is (count_in earlier) s.is_array (texts s.header) e;
  rows = refl;
  cuts = cuts_say s earlier;
}

rows_alike : {p q : Path} (rows : Rows) {j : Located} {m : Placed} → p ≡ q → Alike j m
    → any_row_clashes p rows j ≡ rows_meet q rows (path_of m) m.target
rows_alike no_rows e h = refl
rows_alike {p = p} {q = q} (row keys at v rows) {j = j} {m = m} e h =
    ap (λ x. (begins (p ++ steps) x || row_crossed p steps j) || any_row_clashes p rows j) h.path
    ∙ ap (λ x. (begins (p ++ steps) (path_of m) || list_any (λ b. path_eq (p ++ b) x) (inner_beginnings steps)) ||
    any_row_clashes p rows j) h.target
    ∙ ap (λ x. (begins (p ++ steps) (path_of m) || x) || any_row_clashes p rows j) (crossed_is p steps m.target)
    ∙ ap (λ x. row_meets x steps (path_of m) m.target || any_row_clashes p rows j) e
    ∙ ap (λ x. row_meets q steps (path_of m) m.target || x) (rows_alike rows e h)
  where
    steps : Path
    steps = steps_of (texts keys)

one_way_alike : {i j : Located} {l m : Placed} → Alike i l → Alike j m → clashes_one_way i j ≡ placed_clash_one_way l m
one_way_alike {i = i} {j = j} {l = l} {m = m} h k =
    ap (λ x. path_eq x j.path || (array_on_cut i j || any_row_clashes i.path i.section.rows j)) h.path
    ∙ ap (λ x. path_eq (path_of l) x || (array_on_cut i j || any_row_clashes i.path i.section.rows j)) k.path
    ∙ ap (λ x. path_eq (path_of l) (path_of m) ||
    ((x && list_any (λ c. path_eq c (target j)) i.cuts) || any_row_clashes i.path i.section.rows j)) k.array
    ∙ ap (λ x. path_eq (path_of l) (path_of m) ||
    ((adds_element m.element && x) || any_row_clashes i.path i.section.rows j)) (h.cuts (target j) ∙
    ap (λ t. is_cut t (path_of l)) k.target)
    ∙ ap (λ x. path_eq (path_of l) (path_of m) || ((adds_element m.element && is_cut m.target (path_of l)) || x))
    (rows_alike i.section.rows h.path k ∙ ap (λ r. rows_meet (path_of l) r (path_of m) m.target) h.rows)

clash_alike : {i j : Located} {l m : Placed} → Alike i l → Alike j m → clashes i j ≡ placed_clash l m
clash_alike {i = i} {j = j} {l = l} {m = m} h k = ap (λ x. x || clashes_one_way j i) (one_way_alike h k) ∙
    ap (λ x. placed_clash_one_way l m || x) (one_way_alike k h)

data AllAlike : List Located → List Placed → Type 0 where
  none : AllAlike [] []
  more : {l : Located} {p : Placed} {ls : List Located} {ps : List Placed} → Alike l p → AllAlike ls ps
      → AllAlike (l ∷ ls) (p ∷ ps)

any_alike : {l : Located} {p : Placed} {ls : List Located} {ps : List Placed} → Alike l p → AllAlike ls ps
    → list_any (clashes l) ls ≡ list_any (placed_clash p) ps
any_alike h none = refl
any_alike {l = l} {p = p} h (more {l = i} {p = m} {ls = ls} {ps = ps} k r) =
    ap (λ x. x || list_any (clashes l) ls) (clash_alike h k) ∙ ap (λ x. placed_clash p m || x) (any_alike h r)

pairs_alike : {ls : List Located} {ps : List Placed} → AllAlike ls ps → any_pair clashes ls ≡ any_pair placed_clash ps
pairs_alike none = refl
pairs_alike (more {p = p} {ls = ls} {ps = ps} k r) = ap (λ x. x || any_pair clashes ls) (any_alike k r) ∙
    ap (λ x. list_any (placed_clash p) ps || x) (pairs_alike r)

all_alike : (earlier sections : List Section) → all_keyed sections ≡ true
    → AllAlike (located_from earlier sections) (placed_from (offsets earlier) sections)
all_alike earlier [] e = none
all_alike earlier (s ∷ sections) e =
    let h : (is_keyed s ≡ true) × (all_keyed sections ≡ true) = and_parts _ _ e in
    let k : (rows_keyed s.rows ≡ true) × (header_keyed s.is_array (texts s.header) ≡ true) = and_parts _ _ h.0 in
    more (alike s earlier k.1) (all_alike (s ∷ earlier) sections h.1)

-- the sections clash alike
pub clashes_agree : (sections : List Section) → all_keyed sections ≡ true
    → sections_clash sections ≡ any_placed_clash sections
clashes_agree sections e = pairs_alike (all_alike [] sections e)
