-- Where the keys of a header lead, and so where one section stands after others.
use Rattle.std.proofs.Common.{◌≡◌, ℕ, zero, suc, Bool, true, false, cond, List, [], ◌∷◌, ◌++◌, Some, None, refl, ap}
use Rattle.std.proofs.Common.{sym, ◌∙◌, subst, append_assoc}
use Rattle.std.proofs.lemmas.Bool.{and_parts, false≢true}
use Rattle.basic_toml_grammar.specs.Sections.{Key, KeyTexts, texts, Rows}
use Rattle.basic_toml_grammar.specs.Steps.{Step, key, number, Path, step_eq, begins}
use Rattle.basic_toml_grammar.specs.IndexedPath.{latest}
use Rattle.basic_toml_grammar.specs.Placed.{Placed, elements_at, target_from, element_from, placed_after, placed_from}
use Rattle.basic_toml_grammar.proofs.Clash.StepTestsDecide.{begins_itself, begins_same}
use Rattle.basic_toml_round_trip.proofs.SectionsOfTable.{one_key, backwards, section_of, below, placed_here}
use Rattle.basic_toml_round_trip.proofs.StepsKeepSectionsApart.{placed_at}
use Rattle.basic_toml_round_trip.proofs.PartsCountAside.{lift, after, off_beginning, Aside}

-- the keys of a path, which has its last key first
abbrev pub keys_to : KeyTexts → KeyTexts
keys_to path = texts (backwards path)

texts-append : (xs ys : List Key) → texts (xs ++ ys) ≡ texts xs ++ texts ys
texts-append [] ys = refl
texts-append (x ∷ xs) ys = ap (λ l. x.text ∷ l) (texts-append xs ys)

-- These keys lead to this indexed path, after these sections and wherever as many elements stand at its beginnings.
pub record Leads (keys : KeyTexts) (p : Path) (before : List Placed) : Type 0 where
  pub to : (f : Path → ℕ) → ((q : Path) → begins q p ≡ true → f q ≡ elements_at q before)
      → (a : Bool) (k : List ℕ) (ks : KeyTexts)
      → (target_from f a [] (keys ++ k ∷ ks) ≡ p ++ target_from f a p (k ∷ ks))
      × (element_from f a [] (keys ++ k ∷ ks) ≡ element_from f a p (k ∷ ks))

pub leads_aside : {keys : KeyTexts} {p : Path} {s : Step} {before later : List Placed} → Aside p s before later
    → Leads keys p before → Leads keys p later
leads_aside {p = p} {s = s} aside h =
    record { to = λ f e a k ks. h.to f (λ q b. e q b ∙ aside.same q (off_beginning p q s b)) a k ks }

begins_on : (q p t : Path) → begins q p ≡ true → begins q (p ++ t) ≡ true
begins_on [] p t e = refl
begins_on (s ∷ q) [] t e = absurd (false≢true e)
begins_on (s ∷ q) (u ∷ p) t e =
    let h : (step_eq s u ≡ true) × (begins q p ≡ true) = and_parts _ _ e in
    rw (h.0, begins_on q p t h.1) refl

on_way : (p : Path) (k : List ℕ) (n : ℕ) → begins (p ++ key k ∷ []) (p ++ key k ∷ latest n) ≡ true
on_way p k zero = begins_same (p ++ key k ∷ [])
on_way p k (suc n) =
    subst (λ q. begins (p ++ key k ∷ []) q ≡ true) (append_assoc p (key k ∷ []) (number n ∷ []))
    (begins_itself (p ++ key k ∷ []) (number n ∷ []))

-- one key further, and into the latest element of n
leads_on : (keys : KeyTexts) (p : Path) (before : List Placed) (k : List ℕ) (n : ℕ)
    → elements_at (p ++ key k ∷ []) before ≡ n
    → Leads keys p before → Leads (keys ++ k ∷ []) (p ++ key k ∷ latest n) before
leads_on keys p before k n count h = record { to = go }
  where
    go : (f : Path → ℕ) → ((q : Path) → begins q (p ++ key k ∷ latest n) ≡ true → f q ≡ elements_at q before)
        → (a : Bool) (l : List ℕ) (ls : KeyTexts)
        → (target_from f a [] ((keys ++ k ∷ []) ++ l ∷ ls)
        ≡ (p ++ key k ∷ latest n) ++ target_from f a (p ++ key k ∷ latest n) (l ∷ ls))
        × (element_from f a [] ((keys ++ k ∷ []) ++ l ∷ ls) ≡ element_from f a (p ++ key k ∷ latest n) (l ∷ ls))
    go f e a l ls =
        let r = h.to f (λ q b. e q (begins_on q p (key k ∷ latest n) b)) a k (l ∷ ls) in
        let here : f (p ++ key k ∷ []) ≡ n = e (p ++ key k ∷ []) (on_way p k n) ∙ count in
        let same : (keys ++ k ∷ []) ++ l ∷ ls ≡ keys ++ k ∷ l ∷ ls = append_assoc keys (k ∷ []) (l ∷ ls) in (
          ap (λ ks. target_from f a [] ks) same ∙ r.0
              ∙ ap (λ m. p ++ ((key k ∷ latest m) ++ target_from f a (p ++ key k ∷ latest m) (l ∷ ls))) here
              ∙ sym (append_assoc p (key k ∷ latest n) (target_from f a (p ++ key k ∷ latest n) (l ∷ ls))),
          ap (λ ks. element_from f a [] ks) same ∙ r.1
              ∙ ap (λ m. element_from f a (p ++ key k ∷ latest m) (l ∷ ls)) here,
        )

pub leads_down : (path : KeyTexts) (p : Path) (before : List Placed) (k : List ℕ) (n : ℕ)
    → elements_at (p ++ key k ∷ []) before ≡ n
    → Leads (keys_to path) p before → Leads (keys_to (k ∷ path)) (p ++ key k ∷ latest n) before
leads_down path p before k n count h =
    subst (λ ks. Leads ks (p ++ key k ∷ latest n) before) (sym (texts-append (backwards path) (one_key k)))
    (leads_on (keys_to path) p before k n count h)

-- where one section stands
section_stands : (before : List Placed) (path : KeyTexts) (p : Path) (k : List ℕ) (a : Bool) (rs : Rows)
    → Leads (keys_to path) p before
    → placed_after before (section_of (k ∷ path) a rs)
    ≡ placed_at (p ++ target_from (λ q. elements_at q before) a p (k ∷ []))
    (element_from (λ q. elements_at q before) a p (k ∷ [])) rs
section_stands before path p k a rs h =
    let count : Path → ℕ = λ q. elements_at q before in
    let r = h.to count (λ q e. refl) a k [] in
    ap (λ ks. placed_at (target_from count a [] ks) (element_from count a [] ks) rs)
    (texts-append (backwards path) (one_key k))
    ∙ (λ i. placed_at (r.0 i) (r.1 i) rs)

table_stands : (before : List Placed) (path : KeyTexts) (p : Path) (k : List ℕ) (rs : Rows)
    → Leads (keys_to path) p before
    → elements_at (p ++ key k ∷ []) before ≡ 0
    → placed_after before (section_of (k ∷ path) false rs) ≡ placed_at (p ++ key k ∷ []) None rs
table_stands before path p k rs h z =
    section_stands before path p k false rs h ∙ ap (λ n. placed_at (p ++ key k ∷ latest n) None rs) z

pub element_stands : (before : List Placed) (path : KeyTexts) (p : Path) (k : List ℕ) (rs : Rows) (i : ℕ)
    → Leads (keys_to path) p before
    → elements_at (p ++ key k ∷ []) before ≡ i
    → placed_after before (section_of (k ∷ path) true rs) ≡ placed_at (p ++ key k ∷ []) (Some i) rs
element_stands before path p k rs i h z =
    section_stands before path p k true rs h ∙ ap (λ n. placed_at (p ++ key k ∷ []) (Some n) rs) z

-- a header that is written or not
pub head_stands : (has : Bool) (before : List Placed) (path : KeyTexts) (p : Path) (k : List ℕ) (rs : Rows)
    → Leads (keys_to path) p before
    → elements_at (p ++ key k ∷ []) before ≡ 0
    → placed_from before (cond has (section_of (k ∷ path) false rs ∷ []) [])
    ≡ lift p (below (key k) (cond has (placed_here None rs ∷ []) []))
head_stands true before path p k rs h z = ap (λ l. l ∷ []) (table_stands before path p k rs h z)
head_stands false before path p k rs h z = refl

pub head_counts : (has : Bool) (before : List Placed) (p : Path) (k : List ℕ) (rs : Rows) (q : Path)
    → elements_at q (after before (lift p (below (key k) (cond has (placed_here None rs ∷ []) []))))
    ≡ elements_at q before
head_counts true before p k rs q = refl
head_counts false before p k rs q = refl
