-- The marks of a section are what it says, and two sections clash exactly where a mark of one may not stand with one
-- of the other.
use Rattle.std.proofs.Common.{◌≡◌, ℕ, Bool, true, false, List, [], ◌∷◌, Option, Some, None, refl, sym, ◌∙◌, subst}
use Rattle.std.proofs.Common.{inl, inr}
use Rattle.std.specs.Prelude.{◌&&◌, ◌⊎◌}
use Rattle.std.specs.List.{list_any}
use Rattle.std.proofs.lemmas.Bool.{false≢true, and_parts, and_from, or_cases, or_left, or_right}
use Rattle.basic_toml_value.specs.Data.{Data}
use Rattle.basic_toml_grammar.specs.Sections.{KeyTexts, texts, Rows, no_rows, row}
use Rattle.basic_toml_grammar.specs.Steps.{Step, key, number, Path, path_eq}
use Rattle.basic_toml_grammar.specs.Mentions.{finished}
use Rattle.basic_toml_grammar.specs.Placed.{Placed, placed_clash}
use Rattle.basic_toml_grammar.specs.Marks.{MarkKind, named, collide, Mark, mark, after, marks_of_keys, marks_of_rows}
use Rattle.basic_toml_grammar.specs.Marks.{marks_from, marks, refuses, is_refused}
use Rattle.basic_toml_grammar.proofs.AmongElements.{Among, first, next, among_left, among_right, among_either}
use Rattle.basic_toml_grammar.proofs.Clash.StepTestsDecide.{paths_are, paths_same}
use Rattle.basic_toml_grammar.proofs.Clash.WhatSectionsSay.{KeysSay, value_here, dots_here, deeper, RowsSay, this_row}
use Rattle.basic_toml_grammar.proofs.Clash.WhatSectionsSay.{later_row, Says, names, rows_say, adds, into, passes}
use Rattle.basic_toml_grammar.proofs.Clash.WhatSectionsSay.{goes_by, on}
use Rattle.basic_toml_grammar.proofs.Clash.ClashIsCollision.{apart, meets, Collision, collide_with}

here_after : {q : Path} {k : MarkKind} {ms : List Mark} (s : Step) → Among (mark q k) ms
    → Among (mark (s ∷ q) k) (after s ms)
here_after s first = first
here_after s (next h) = next (here_after s h)

after_here : (P : Path → MarkKind → Type 0) (s : Step) (ms : List Mark) {m : Mark}
    → ((q : Path) (k : MarkKind) → Among (mark q k) ms → P (s ∷ q) k)
    → Among m (after s ms) → P m.path m.kind
after_here P s [] f h = elim h [ ]
after_here P s (x ∷ ms) f first = f x.path x.kind first
after_here P s (x ∷ ms) f (next h) = after_here P s ms (λ q k h. f q k (next h)) h

keys_marked : (v : Data) (ks : KeyTexts) {q : Path} {k : MarkKind} → KeysSay v ks q k
    → Among (mark q k) (marks_of_keys ks v)
keys_marked v [] value_here = first
keys_marked v (k ∷ []) (deeper value_here) = first
keys_marked v (k ∷ l ∷ ks) dots_here = first
keys_marked v (k ∷ l ∷ ks) (deeper x) = next (here_after (key k) (keys_marked v (l ∷ ks) x))

rows_marked : (rs : Rows) {q : Path} {k : MarkKind} → RowsSay rs q k → Among (mark q k) (marks_of_rows rs)
rows_marked no_rows x = elim x [ ]
rows_marked (row keys at v rs) (this_row x) = among_left (marks_of_rows rs) (keys_marked (finished v) (texts keys) x)
rows_marked (row keys at v rs) (later_row x) = among_right (marks_of_keys (texts keys) (finished v)) (rows_marked rs x)

pub marked : (e : Option ℕ) (rs : Rows) (t : Path) {q : Path} {k : MarkKind} → Says e rs t q k
    → Among (mark q k) (marks_from e rs t)
marked None rs [] names = first
marked None rs [] (rows_say x) = next (rows_marked rs x)
marked (Some n) rs [] adds = first
marked (Some n) rs [] (into names) = next first
marked (Some n) rs [] (into (rows_say x)) = next (here_after (number n) (next (rows_marked rs x)))
marked e rs (key k ∷ t) passes = first
marked e rs (number n ∷ t) goes_by = first
marked e rs (s ∷ t) (on x) = next (here_after s (marked e rs t x))

pub keys_said : (v : Data) (ks : KeyTexts) {m : Mark} → Among m (marks_of_keys ks v) → KeysSay v ks m.path m.kind
keys_said v [] first = value_here
keys_said v [] (next h) = elim h [ ]
keys_said v (k ∷ []) first = deeper value_here
keys_said v (k ∷ []) (next h) = elim h [ ]
keys_said v (k ∷ l ∷ ks) first = dots_here
keys_said v (k ∷ l ∷ ks) (next h) =
    after_here (KeysSay v (k ∷ l ∷ ks)) (key k) (marks_of_keys (l ∷ ks) v) (λ q m x. deeper (keys_said v (l ∷ ks) x)) h

pub rows_said : (rs : Rows) {m : Mark} → Among m (marks_of_rows rs) → RowsSay rs m.path m.kind
rows_said no_rows h = elim h [ ]
rows_said (row keys at v rs) {m = m} h =
    go (rows_said rs) (among_either (marks_of_keys (texts keys) (finished v)) (marks_of_rows rs) h)
  where
    go : (Among m (marks_of_rows rs) → RowsSay rs m.path m.kind) → Among m (marks_of_keys (texts keys) (finished v))
        ⊎ Among m (marks_of_rows rs) → RowsSay (row keys at v rs) m.path m.kind
    go ih (inl h) = this_row (keys_said (finished v) (texts keys) h)
    go ih (inr h) = later_row (ih h)

there_said : (rs : Rows) {m : Mark} → Among m (mark [] named ∷ marks_of_rows rs) → Says None rs [] m.path m.kind
there_said rs first = names
there_said rs (next h) = rows_say (rows_said rs h)

pub said : (e : Option ℕ) (rs : Rows) (t : Path) {m : Mark} → Among m (marks_from e rs t) → Says e rs t m.path m.kind
said None rs [] h = there_said rs h
said (Some n) rs [] first = adds
said (Some n) rs [] (next h) =
    after_here (Says (Some n) rs []) (number n) (mark [] named ∷ marks_of_rows rs) (λ q k x. into (there_said rs x)) h
said e rs (key k ∷ t) first = passes
said e rs (number n ∷ t) first = goes_by
said e rs (s ∷ t) (next h) = after_here (Says e rs (s ∷ t)) s (marks_from e rs t) (λ q k x. on (said e rs t x)) h

pub any_here : (p : Mark → Bool) (ms : List Mark) → list_any p ms ≡ true → (m : Mark) × Among m ms × (p m ≡ true)
any_here p [] e = absurd (false≢true e)
any_here p (m ∷ ms) e = go (any_here p ms) (or_cases _ _ e)
  where
    go : (list_any p ms ≡ true → (m : Mark) × Among m ms × (p m ≡ true)) → (p m ≡ true) ⊎ (list_any p ms ≡ true)
        → (x : Mark) × Among x (m ∷ ms) × (p x ≡ true)
    go ih (inl h) = (m, first, h)
    go ih (inr h) = let r : (m : Mark) × Among m ms × (p m ≡ true) = ih h in (r.0, next r.1, r.2)

pub here_any : (p : Mark → Bool) {m : Mark} {ms : List Mark} → Among m ms → p m ≡ true → list_any p ms ≡ true
here_any p first e = or_left _ _ e
here_any p (next h) e = or_right _ _ (here_any p h e)

pub same_truth : (a b : Bool) → (a ≡ true → b ≡ true) → (b ≡ true → a ≡ true) → a ≡ b
same_truth true true f g = refl
same_truth true false f g = sym (f refl)
same_truth false true f g = g refl
same_truth false false f g = refl

-- THE KEY LEMMA, pairwise
pub refused_pair : (i j : Placed) → is_refused (marks j) (marks i) ≡ placed_clash i j
refused_pair i j = same_truth _ _ forth back
  where
    forth : is_refused (marks j) (marks i) ≡ true → placed_clash i j ≡ true
    forth e =
        let m : (m : Mark) × Among m (marks i) × (refuses (marks j) m ≡ true) =
        any_here (refuses (marks j)) (marks i) e in
        let x : (x : Mark) × Among x (marks j) × ((path_eq x.path m.0.path && collide x.kind m.0.kind) ≡ true) =
        any_here _ (marks j) m.2 in
        let c : (path_eq x.0.path m.0.path ≡ true) × (collide x.0.kind m.0.kind ≡ true) = and_parts _ _ x.2 in
        apart i.element i.rows i.target j.element j.rows j.target (said i.element i.rows i.target m.1)
        (subst (λ p. Says j.element j.rows j.target p x.0.kind) (paths_are x.0.path m.0.path c.0)
        (said j.element j.rows j.target x.1))
        (collide_with m.0.kind x.0.kind ∙ c.1)

    back : placed_clash i j ≡ true → is_refused (marks j) (marks i) ≡ true
    back e =
        let h : Collision i.element i.rows i.target j.element j.rows j.target =
        meets i.element i.rows i.target j.element j.rows j.target e in
        here_any (refuses (marks j)) (marked i.element i.rows i.target h.says)
        (here_any (λ x. path_eq x.path h.path && collide x.kind h.kind) (marked j.element j.rows j.target h.others)
        (and_from _ _ (paths_same h.path) (collide_with h.other h.kind ∙ h.collides)))
