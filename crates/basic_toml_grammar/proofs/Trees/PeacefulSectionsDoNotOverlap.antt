-- Two sections that do not clash mention nothing that is in the way of the other.
use Rattle.std.proofs.Common.{◌≡◌, ℕ, Bool, true, false, not, cond, List, [], ◌∷◌, ◌++◌, refl, ap, sym, ◌∙◌, subst}
use Rattle.std.proofs.Common.{append_assoc, Option, Some, None}
use Rattle.std.proofs.lemmas.Bool.{false≢true}
use Rattle.basic_toml_value.specs.Data.{Data}
use Rattle.basic_toml_grammar.specs.Sections.{Key, KeyTexts, texts, Raw, Rows, row}
use Rattle.basic_toml_grammar.specs.Steps.{Step, key, number, Path, step_eq, steps_of}
use Rattle.basic_toml_grammar.specs.Mentions.{finished}
use Rattle.basic_toml_grammar.specs.Marks.{MarkKind, passed, by_latest, named, added, dotted, valued, collide}
use Rattle.basic_toml_grammar.proofs.Clash.StepTestsDecide.{step_is}
use Rattle.basic_toml_grammar.proofs.Clash.WhatSectionsSay.{KeysSay, value_here, dots_here, deeper, RowsSay, this_row}
use Rattle.basic_toml_grammar.proofs.Clash.WhatSectionsSay.{later_row, Says, names, rows_say, adds, into, passes}
use Rattle.basic_toml_grammar.proofs.Clash.WhatSectionsSay.{goes_by, on}
use Rattle.basic_toml_grammar.proofs.Clash.ClashIsCollision.{clash, apart, collide_with}
use Rattle.basic_toml_grammar.proofs.Nesting.TreeIsAsDeepAsMentions.{same_kind, bars}

-- a row of some rows
pub data RowOf : KeyTexts → Data → Rows → Type 0 where
  this : {keys : List Key} {at : ℕ} {v : Raw} {rs : Rows} → RowOf (texts keys) (finished v) (row keys at v rs)
  later : {ks : KeyTexts} {d : Data} {keys : List Key} {at : ℕ} {v : Raw} {rs : Rows} → RowOf ks d rs
      → RowOf ks d (row keys at v rs)

-- what a section mentions, by its element, its rows and what is left of its target
pub data Tells : Option ℕ → Rows → Path → Path → Option Data → Type 0 where
  itself : {rs : Rows} → Tells None rs [] [] None
  a_row : {ks : KeyTexts} {d : Data} {rs : Rows} → RowOf ks d rs → Tells None rs [] (steps_of ks) (Some d)
  inside : {n : ℕ} {rs : Rows} {q : Path} {v : Option Data} → Tells None rs [] q v
      → Tells (Some n) rs [] (number n ∷ q) v
  along : {e : Option ℕ} {rs : Rows} {s : Step} {t q : Path} {v : Option Data} → Tells e rs t q v
      → Tells e rs (s ∷ t) (s ∷ q) v

-- a kind of what is said where a mention goes on by a key, or by a number
abbrev pub by_key : MarkKind → Bool
by_key passed = true
by_key named = true
by_key dotted = true
by_key k = false

abbrev by_number : MarkKind → Bool
by_number by_latest = true
by_number added = true
by_number k = false

-- what is said where a mention stands, with the rest of its path ahead
abbrev Ahead : (MarkKind → Type 0) → Path → Option Data → Type 0
Ahead says [] (Some d) = says (valued d)
Ahead says [] None = says named
Ahead says (key k ∷ r) v = (m : MarkKind) × says m × (by_key m ≡ true)
Ahead says (number n ∷ r) v = (m : MarkKind) × says m × (by_number m ≡ true)

ahead_map : (f g : MarkKind → Type 0) → ((m : MarkKind) → f m → g m) → (r : Path) (v : Option Data) → Ahead f r v
    → Ahead g r v
ahead_map f g h [] (Some d) a = h (valued d) a
ahead_map f g h [] None a = h named a
ahead_map f g h (key k ∷ r) v a = (a.0, h a.0 a.1, a.2)
ahead_map f g h (number n ∷ r) v a = (a.0, h a.0 a.1, a.2)

-- after the first key of a row
keys_ahead : (d : Data) (k : List ℕ) (ks : KeyTexts) (c r : Path) → steps_of ks ≡ c ++ r
    → Ahead (KeysSay d (k ∷ ks) (key k ∷ c)) r (Some d)
keys_ahead d k [] [] r e = subst (λ r. Ahead (KeysSay d (k ∷ []) (key k ∷ [])) r (Some d)) e (deeper value_here)
keys_ahead d k (l ∷ ks) [] r e =
    subst (λ r. Ahead (KeysSay d (k ∷ l ∷ ks) (key k ∷ [])) r (Some d)) e (dotted, dots_here, refl)
keys_ahead d k [] (s ∷ c) r e = cc
keys_ahead d k (l ∷ ks) (s ∷ c) r e =
    let head : key l ≡ s = cc in
    let tail : steps_of ks ≡ c ++ r = cc in
    subst (λ s. Ahead (KeysSay d (k ∷ l ∷ ks) (key k ∷ s ∷ c)) r (Some d)) head
    (ahead_map (KeysSay d (l ∷ ks) (key l ∷ c)) (KeysSay d (k ∷ l ∷ ks) (key k ∷ key l ∷ c)) (λ m x. deeper x) r
    (Some d) (keys_ahead d l ks c r tail))

row_says : {ks : KeyTexts} {d : Data} {rs : Rows} {q : Path} {m : MarkKind} → RowOf ks d rs → KeysSay d ks q m
    → RowsSay rs q m
row_says this x = this_row x
row_says (later r) x = later_row (row_says r x)

ahead : {e : Option ℕ} {rs : Rows} {t p : Path} {v : Option Data} → Tells e rs t p v → (c r : Path) → p ≡ c ++ r
    → Ahead (Says e rs t c) r v
ahead {rs = rs} itself [] r e = subst (λ r. Ahead (Says None rs [] []) r None) e names
ahead itself (s ∷ c) r e = cc
ahead {rs = rs} (a_row {ks = []} {d = d} x) [] r e =
    subst (λ r. Ahead (Says None rs [] []) r (Some d)) e (rows_say (row_says x value_here))
ahead {rs = rs} (a_row {ks = k ∷ ks} {d = d} x) [] r e =
    subst (λ r. Ahead (Says None rs [] []) r (Some d)) e (named, names, refl)
ahead (a_row {ks = []} {d = d} x) (s ∷ c) r e = cc
ahead {rs = rs} (a_row {ks = k ∷ ks} {d = d} x) (s ∷ c) r e =
    let head : key k ≡ s = cc in
    let tail : steps_of ks ≡ c ++ r = cc in
    subst (λ s. Ahead (Says None rs [] (s ∷ c)) r (Some d)) head
    (ahead_map (KeysSay d (k ∷ ks) (key k ∷ c)) (Says None rs [] (key k ∷ c)) (λ m y. rows_say (row_says x y)) r
    (Some d) (keys_ahead d k ks c r tail))
ahead {rs = rs} (inside {n = n} {q = q} {v = v} x) [] r e =
    subst (λ r. Ahead (Says (Some n) rs [] []) r v) e (added, adds, refl)
ahead {rs = rs} (inside {n = n} {q = q} {v = v} x) (s ∷ c) r e =
    let head : number n ≡ s = cc in
    let tail : q ≡ c ++ r = cc in
    subst (λ s. Ahead (Says (Some n) rs [] (s ∷ c)) r v) head
    (ahead_map (Says None rs [] c) (Says (Some n) rs [] (number n ∷ c)) (λ m y. into y) r v (ahead x c r tail))
ahead {e = e} {rs = rs} (along {s = key k} {t = t} {v = v} x) [] r h =
    subst (λ r. Ahead (Says e rs (key k ∷ t) []) r v) h (passed, passes, refl)
ahead {e = e} {rs = rs} (along {s = number n} {t = t} {v = v} x) [] r h =
    subst (λ r. Ahead (Says e rs (number n ∷ t) []) r v) h (by_latest, goes_by, refl)
ahead {e = e} {rs = rs} (along {s = s} {t = t} {q = q} {v = v} x) (u ∷ c) r h =
    let head : s ≡ u = cc in
    let tail : q ≡ c ++ r = cc in
    subst (λ u. Ahead (Says e rs (s ∷ t) (u ∷ c)) r v) head
    (ahead_map (Says e rs t c) (Says e rs (s ∷ t) (s ∷ c)) (λ m y. on y) r v (ahead x c r tail))

something_said : (f : MarkKind → Type 0) (r : Path) (v : Option Data) → Ahead f r v → (m : MarkKind) × f m
something_said f [] (Some d) a = (valued d, a)
something_said f [] None a = (named, a)
something_said f (key k ∷ r) v a = (a.0, a.1)
something_said f (number n ∷ r) v a = (a.0, a.1)

value_collides : (d : Data) (m : MarkKind) → collide m (valued d) ≡ true
value_collides d m = collide_with m (valued d)

-- where one goes on by a key, another adds no element
pub added_collides : (m : MarkKind) → by_key m ≡ true → collide m added ≡ true
added_collides passed e = refl
added_collides named e = refl
added_collides dotted e = refl
added_collides by_latest e = absurd (false≢true e)
added_collides added e = absurd (false≢true e)
added_collides (valued d) e = absurd (false≢true e)

-- nor goes by the latest
abbrev pub Avoids : Option ℕ → Rows → Path → Option ℕ → Rows → Path → Type 0
Avoids e rs t f os u = (c : Path) (m : MarkKind) → Says e rs t c m → by_key m ≡ true → Says f os u c by_latest → ⊥

by_key_number : (e : Option ℕ) (rs : Rows) (t : Path) (f : Option ℕ) (os : Rows) (u c : Path) (m n : MarkKind)
    → clash e rs t f os u ≡ false → Avoids e rs t f os u
    → Says e rs t c m → by_key m ≡ true → Says f os u c n → by_number n ≡ true → ⊥
by_key_number e rs t f os u c m added free av x k y h =
    false≢true (sym free ∙ apart e rs t f os u x y (added_collides m k))
by_key_number e rs t f os u c m by_latest free av x k y h = av c m x k y
by_key_number e rs t f os u c m passed free av x k y h = false≢true h
by_key_number e rs t f os u c m named free av x k y h = false≢true h
by_key_number e rs t f os u c m dotted free av x k y h = false≢true h
by_key_number e rs t f os u c m (valued d) free av x k y h = false≢true h

-- two sections that do not clash mention nothing that bars
pub sections_free : {p q : Path} {v w : Option Data} (e : Option ℕ) (rs : Rows) (t : Path) (f : Option ℕ) (os : Rows)
    (u : Path)
    → Tells e rs t p v → Tells f os u q w → clash e rs t f os u ≡ false → clash f os u e rs t ≡ false
    → Avoids e rs t f os u → Avoids f os u e rs t
    → (c p' q' : Path) → p ≡ c ++ p' → q ≡ c ++ q' → bars p' v q' w ≡ true → ⊥
sections_free {v = Some d} {w = w} e rs t f os u x y free eerf av va c [] q' h k b =
    let o = something_said (Says f os u c) q' w (ahead y c q' k) in
    false≢true (sym free ∙ apart e rs t f os u (ahead x c [] h) o.1 refl)
sections_free {v = None} {w = Some d} e rs t f os u x y free eerf av va c [] [] h k b =
    false≢true (sym free ∙ apart e rs t f os u (ahead x c [] h) (ahead y c [] k) refl)
sections_free {v = None} {w = None} e rs t f os u x y free eerf av va c [] [] h k b = false≢true b
sections_free {v = None} e rs t f os u x y free eerf av va c [] (z ∷ q') h k b = false≢true b
sections_free {v = v} {w = Some d} e rs t f os u x y free eerf av va c (s ∷ p') [] h k b =
    let o = something_said (Says e rs t c) (s ∷ p') v (ahead x c (s ∷ p') h) in
    false≢true (sym free ∙ apart e rs t f os u o.1 (ahead y c [] k) (value_collides d o.0))
sections_free {w = None} e rs t f os u x y free eerf av va c (s ∷ p') [] h k b = false≢true b
sections_free {p = p} {q = q} {v = v} {w = w} e rs t f os u x y free eerf av va c (s ∷ p') (z ∷ q') h k b =
    go (λ c h k b. sections_free e rs t f os u x y free eerf av va c p' q' h k b) (step_eq s z) refl b
  where
    other : (s z : Step) → Ahead (Says e rs t c) (s ∷ p') v → Ahead (Says f os u c) (z ∷ q') w
        → not (same_kind s z) ≡ true → ⊥
    other (key k) (key l) a o n = false≢true n
    other (number k) (number l) a o n = false≢true n
    other (key k) (number l) a o n = by_key_number e rs t f os u c a.0 o.0 free av a.1 a.2 o.1 o.2
    other (number k) (key l) a o n = by_key_number f os u e rs t c o.0 a.0 eerf va o.1 o.2 a.1 a.2

    go : ((c : Path) → p ≡ c ++ p' → q ≡ c ++ q' → bars p' v q' w ≡ true → ⊥) → (i : Bool) → step_eq s z ≡ i
        → cond i (bars p' v q' w) (not (same_kind s z)) ≡ true → ⊥
    go ih true i b =
        let same : s ≡ z = step_is s z i in
        ih (c ++ s ∷ []) (h ∙ sym (append_assoc c (s ∷ []) p')) (k ∙ ap (λ z. c ++ z ∷ q') (sym same) ∙
        sym (append_assoc c (s ∷ []) q')) b
    go ih false i b = other s z (ahead x c (s ∷ p') h) (ahead y c (z ∷ q') k) b
