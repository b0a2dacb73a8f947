-- A section that goes by the latest element of an array stands after one that added it.
use Rattle.std.proofs.Common.{◌≡◌, ◌⊎◌, inl, inr, ℕ, zero, suc, Bool, true, false, cond, List, [], ◌∷◌, ◌++◌}
use Rattle.std.proofs.Common.{refl, ap, sym, ◌∙◌, subst, append_assoc, Option, Some, None}
use Rattle.std.specs.Prelude.{◌&&◌}
use Rattle.std.specs.List.{list_any}
use Rattle.std.proofs.lemmas.Bool.{false≢true, or_parts}
use Rattle.basic_toml_value.specs.Data.{Data}
use Rattle.basic_toml_grammar.specs.Sections.{KeyTexts, texts, Rows, Section}
use Rattle.basic_toml_grammar.specs.Steps.{key, number, Path, path_eq}
use Rattle.basic_toml_grammar.specs.SectionClash.{any_pair}
use Rattle.basic_toml_grammar.specs.IndexedPath.{latest}
use Rattle.basic_toml_grammar.specs.Placed.{Placed, adds_element, elements_at, target_from, placed_after}
use Rattle.basic_toml_grammar.specs.Placed.{placed_from, placed_clash}
use Rattle.basic_toml_grammar.specs.Marks.{MarkKind, by_latest, added}
use Rattle.basic_toml_grammar.proofs.AmongElements.{Among, first, next}
use Rattle.basic_toml_grammar.proofs.Clash.StepTestsDecide.{paths_are}
use Rattle.basic_toml_grammar.proofs.Clash.WhatSectionsSay.{KeysSay, deeper, RowsSay, this_row, later_row, Says}
use Rattle.basic_toml_grammar.proofs.Clash.WhatSectionsSay.{rows_say, adds, into, passes, goes_by, on}
use Rattle.basic_toml_grammar.proofs.Clash.ClashIsCollision.{apart, clash_with, collide_with}
use Rattle.basic_toml_grammar.proofs.Trees.PeacefulSectionsDoNotOverlap.{by_key, added_collides, Avoids}

-- who goes by the latest element of an array goes after one that was added
counted_from : (c : Path) (before : List Placed) (n : ℕ) → elements_at c before ≡ suc n → (k : Placed) × (m : ℕ)
    × Among k before × (k.element ≡ Some m) × (k.target ≡ c)
counted_from c [] n e = cc
counted_from c (l ∷ before) n e = go l.element refl (path_eq l.target c) refl (counted_from c before n) e
  where
    go : (o : Option ℕ) → l.element ≡ o → (b : Bool) → path_eq l.target c ≡ b
        → (elements_at c before ≡ suc n → (k : Placed) × (m : ℕ) × Among k before × (k.element ≡ Some m)
        × (k.target ≡ c))
        → cond (adds_element o && b) (suc (elements_at c before)) (elements_at c before) ≡ suc n
        → (k : Placed) × (m : ℕ) × Among k (l ∷ before) × (k.element ≡ Some m) × (k.target ≡ c)
    go (Some m) f true g ih e = (l, m, first, f, paths_are l.target c g)
    go (Some m) f false g ih e = let r = ih e in (r.0, r.1, next r.2, r.3, r.4)
    go None f b g ih e = let r = ih e in (r.0, r.1, next r.2, r.3, r.4)

by_count : (count : Path → ℕ) (a : Bool) (p : Path) (keys : KeyTexts) (c : Path) (n : ℕ) (r : Path)
    → target_from count a p keys ≡ c ++ number n ∷ r → (m : ℕ) × (count (p ++ c) ≡ suc m)
by_count count a p [] [] n r e = cc
by_count count a p [] (s ∷ c) n r e = cc
by_count count a p (k ∷ []) [] n r e = cc
by_count count true p (k ∷ []) (s ∷ []) n r e = cc
by_count count true p (k ∷ []) (s ∷ z ∷ c) n r e = cc
by_count count false p (k ∷ []) (s ∷ c) n r e = go (count (p ++ key k ∷ [])) refl c next
  where
    first : key k ≡ s
    first = cc

    next : latest (count (p ++ key k ∷ [])) ≡ c ++ number n ∷ r
    next = cc

    go : (x : ℕ) → count (p ++ key k ∷ []) ≡ x → (c : Path) → latest x ≡ c ++ number n ∷ r → (m : ℕ)
        × (count (p ++ s ∷ c) ≡ suc m)
    go zero f [] e = cc
    go zero f (z ∷ c) e = cc
    go (suc m) f [] e = (m, ap (λ s. count (p ++ s ∷ [])) (sym first) ∙ f)
    go (suc m) f (z ∷ []) e = cc
    go (suc m) f (z ∷ y ∷ c) e = cc
by_count count a p (k ∷ l ∷ keys) [] n r e = cc
by_count count a p (k ∷ l ∷ keys) (s ∷ c) n r e =
    go (count (p ++ key k ∷ [])) refl c next (λ q c e. by_count count a q (l ∷ keys) c n r e)
  where
    first : key k ≡ s
    first = cc

    next : latest (count (p ++ key k ∷ []))
        ++ target_from count a (p ++ key k ∷ latest (count (p ++ key k ∷ []))) (l ∷ keys) ≡ c ++ number n ∷ r
    next = cc

    go : (x : ℕ) → count (p ++ key k ∷ []) ≡ x → (c : Path) → latest x
        ++ target_from count a (p ++ key k ∷ latest x) (l ∷ keys) ≡ c ++ number n ∷ r
        → ((q c : Path) → target_from count a q (l ∷ keys) ≡ c ++ number n ∷ r → (m : ℕ) × (count (q ++ c) ≡ suc m))
        → (m : ℕ) × (count (p ++ s ∷ c) ≡ suc m)
    go zero f c e ih =
        let o = ih (p ++ key k ∷ []) c e in
        (o.0, ap (λ s. count (p ++ s ∷ c)) (sym first) ∙ ap count (sym (append_assoc p (key k ∷ []) c)) ∙ o.1)
    go (suc m) f [] e ih = (m, ap (λ s. count (p ++ s ∷ [])) (sym first) ∙ f)
    go (suc m) f (z ∷ c) e ih =
        let second : number m ≡ z = cc in
        let rest : target_from count a (p ++ key k ∷ number m ∷ []) (l ∷ keys) ≡ c ++ number n ∷ r = cc in
        let o = ih (p ++ key k ∷ number m ∷ []) c rest in (
          o.0,
          ap (λ s. count (p ++ s ∷ z ∷ c)) (sym first) ∙ ap (λ z. count (p ++ key k ∷ z ∷ c)) (sym second)
              ∙ ap count (sym (append_assoc p (key k ∷ number m ∷ []) c)) ∙ o.1,
        )

keys_not_latest : {d : Data} {ks : KeyTexts} {q : Path} → KeysSay d ks q by_latest → ⊥
keys_not_latest (deeper x) = keys_not_latest x

rows_not_latest : {rs : Rows} {q : Path} → RowsSay rs q by_latest → ⊥
rows_not_latest (this_row x) = keys_not_latest x
rows_not_latest (later_row x) = rows_not_latest x

table_not_latest : {rs : Rows} {q : Path} → Says None rs [] q by_latest → ⊥
table_not_latest (rows_say x) = rows_not_latest x

latest_in : {e : Option ℕ} {rs : Rows} {t c : Path} → Says e rs t c by_latest → (n : ℕ) × (r : Path)
    × (t ≡ c ++ number n ∷ r)
latest_in (rows_say x) = absurd (rows_not_latest x)
latest_in (into x) = absurd (table_not_latest x)
latest_in (goes_by {n = n} {t = t}) = (n, t, refl)
latest_in (on {s = s} x) = let r = latest_in x in (r.0, r.1, ap (λ p. s ∷ p) r.2)

says_added : (n : ℕ) (rs : Rows) (t : Path) → Says (Some n) rs t t added
says_added n rs [] = adds
says_added n rs (s ∷ t) = on (says_added n rs t)

no_key_there : {n : ℕ} {rs : Rows} {t c : Path} {m : MarkKind} → Says (Some n) rs t c m → t ≡ c → by_key m ≡ true → ⊥
no_key_there adds e k = false≢true k
no_key_there (into {n = n} {q = q} x) e k = let h : [] ≡ number n ∷ q = e in cc
no_key_there (passes {k = l} {t = t}) e k = let h : key l ∷ t ≡ [] = e in cc
no_key_there (goes_by {n = n} {t = t}) e k = let h : number n ∷ t ≡ [] = e in cc
no_key_there (on {s = s} {t = t} {q = q} x) e k =
    let h : s ∷ t ≡ s ∷ q = e in
    let f : t ≡ q = cc in
    no_key_there x f k

-- where an element was added, for each section that goes by the latest
abbrev pub Added : List Placed → Path → Type 0
Added all c = (k : Placed) × (n : ℕ) × Among k all × (k.element ≡ Some n) × (k.target ≡ c)

pub latest_added : (all before : List Placed) (ss : List Section) → ((k : Placed) → Among k before → Among k all)
    → ((k : Placed) → Among k (placed_from before ss) → Among k all)
    → (j : Placed) → Among j (placed_from before ss) → (c : Path) → Says j.element j.rows j.target c by_latest
    → Added all c
latest_added all before [] sub all_of j m c x = elim m [ ]
latest_added all before (s ∷ ss) sub all_of j first c x =
    let r = latest_in x in
    let o = by_count (λ p. elements_at p before) s.is_array [] (texts s.header) c r.0 r.1 r.2 in
    let k = counted_from c before o.0 o.1 in
    (k.0, k.1, sub k.0 k.2, k.3, k.4)
latest_added all before (s ∷ ss) sub all_of j (next m) c x =
    latest_added all (l ∷ before) ss here (λ k m. all_of k (next m)) j m c x
  where
    l : Placed
    l = placed_after before s

    here : (k : Placed) → Among k (l ∷ before) → Among k all
    here k first = all_of l first
    here k (next m) = sub k m

-- of two members, either they are one or they do not clash
pub any_free : (l : Placed) {k : Placed} {ls : List Placed} → list_any (placed_clash l) ls ≡ false → Among k ls
    → placed_clash l k ≡ false
any_free l e first = (or_parts _ _ e).0
any_free l e (next m) = any_free l (or_parts _ _ e).1 m

two_free : {ls : List Placed} (k i : Placed) → any_pair placed_clash ls ≡ false → Among k ls → Among i ls → (k ≡ i)
    ⊎ (placed_clash k i ≡ false)
two_free k i e first first = inl refl
two_free k i e first (next n) = inr (any_free k (or_parts _ _ e).0 n)
two_free k i e (next m) first =
    inr (clash_with k.element k.rows k.target i.element i.rows i.target ∙ any_free i (or_parts _ _ e).0 m)
two_free k i e (next m) (next n) = two_free k i (or_parts _ _ e).1 m n

pub avoids : (all : List Placed) → any_pair placed_clash all ≡ false
    → ((j : Placed) → Among j all → (c : Path) → Says j.element j.rows j.target c by_latest → Added all c)
    → (i j : Placed) → Among i all → Among j all → Avoids i.element i.rows i.target j.element j.rows j.target
avoids all free late i j mi mj c m x k y = go (two_free a.0 i free a.2 mi)
  where
    a : Added all c
    a = late j mj c y

    there : Says a.0.element a.0.rows a.0.target c added
    there = subst (λ e. Says e a.0.rows a.0.target c added) (sym a.3)
        (subst (λ p. Says (Some a.1) a.0.rows a.0.target p added) a.4 (says_added a.1 a.0.rows a.0.target))

    itself_there : (l : Placed) → l.element ≡ Some a.1 → l.target ≡ c → Says l.element l.rows l.target c m → ⊥
    itself_there l e t z = no_key_there (subst (λ e. Says e l.rows l.target c m) e z) t k

    go : (a.0 ≡ i) ⊎ (placed_clash a.0 i ≡ false) → ⊥
    go (inl h) = itself_there a.0 a.3 a.4 (subst (λ l. Says l.element l.rows l.target c m) (sym h) x)
    go (inr h) = false≢true (sym h ∙
        apart a.0.element a.0.rows a.0.target i.element i.rows i.target there x (collide_with added m ∙
        added_collides m k))
