-- Two sections clash exactly where they say of one path what may not be said together.
use Rattle.std.proofs.Common.{◌≡◌, ℕ, Bool, true, false, List, [], ◌∷◌, ◌++◌, Option, Some, None, refl, ap, sym, ◌∙◌}
use Rattle.std.proofs.Common.{subst, inl, inr}
use Rattle.std.specs.Prelude.{◌&&◌, ◌||◌, ◌⊎◌}
use Rattle.std.proofs.lemmas.Bool.{false≢true, and_parts, or_cases, or_left, or_right, eq-eqb, eqb-true}
use Rattle.basic_toml_value.specs.Data.{Data}
use Rattle.basic_toml_grammar.specs.Sections.{Key, KeyTexts, texts, Rows, no_rows, row, Raw}
use Rattle.basic_toml_grammar.specs.Steps.{Step, key, number, Path, step_eq, begins, steps_of}
use Rattle.basic_toml_grammar.specs.Mentions.{finished}
use Rattle.basic_toml_grammar.specs.Placed.{Placed, step_into, adds_element, is_short, is_inner, crosses, row_meets}
use Rattle.basic_toml_grammar.specs.Placed.{rows_meet, placed_clash_one_way, placed_clash}
use Rattle.basic_toml_grammar.specs.Marks.{MarkKind, passed, by_latest, named, added, dotted, valued, collide}
use Rattle.basic_toml_grammar.proofs.Clash.WhatSectionsSay.{KeysSay, value_here, dots_here, deeper, RowsSay, this_row}
use Rattle.basic_toml_grammar.proofs.Clash.WhatSectionsSay.{later_row, Says, names, rows_say, adds, into, passes}
use Rattle.basic_toml_grammar.proofs.Clash.WhatSectionsSay.{goes_by, on}
use Rattle.basic_toml_grammar.proofs.Clash.StepTestsDecide.{step_same, step_is}

abbrev at : Option ℕ → Rows → Path → Placed
at e rs t = record { target = t; element = e; rows = rs }

-- two sections, by their parts
abbrev pub clash : Option ℕ → Rows → Path → Option ℕ → Rows → Path → Bool
clash e rs t f os u = placed_clash (at e rs t) (at f os u)

dots_end : {n : MarkKind} (f : Option ℕ) (os : Rows) (u : Path) (l : List ℕ) (ks : KeyTexts) → Says f os u [] n
    → collide dotted n ≡ true
    → (begins (steps_of (l ∷ ks)) (u ++ step_into f) || is_short u (steps_of (l ∷ ks))) ≡ true
dots_end f os [] l ks y c = or_right _ _ refl
dots_end f os (key k ∷ u) l ks passes c = cc
dots_end f os (number n ∷ u) l ks goes_by c = cc

-- a row goes on into what another section says
row_says : {v : Data} {ks : KeyTexts} {q : Path} {m n : MarkKind} (f : Option ℕ) (os : Rows) (u : Path)
    → KeysSay v ks q m → Says f os u q n → collide m n ≡ true
    → (begins (steps_of ks) (u ++ step_into f) || is_short u (steps_of ks)) ≡ true
row_says f os [] value_here y c = refl
row_says f os (s ∷ u) value_here y c = refl
row_says f os [] (dots_here) y c = or_right _ _ refl
row_says f os [] (deeper x) y c = or_right _ _ refl
row_says f os (s ∷ u) (deeper x) (on y) c = rw step_same (row_says f os u x y c)
row_says f os (s ∷ u) (dots_here {k = k} {l = l} {ks = ks}) (on y) c = rw (step_same (key k)) (dots_end f os u l ks y c)

rows_say_too : {rs : Rows} {q : Path} {m n : MarkKind} (f : Option ℕ) (os : Rows) (s : Step) (u : Path)
    → RowsSay rs q m → Says f os (s ∷ u) q n → collide m n ≡ true
    → rows_meet [] rs (s ∷ u ++ step_into f) (s ∷ u) ≡ true
rows_say_too f os s u (this_row x) y c = or_left _ _ (row_says f os (s ∷ u) x y c)
rows_say_too f os s u (later_row x) y c = or_right _ _ (rows_say_too f os s u x y c)

rows_meet_on : (s : Step) (p : Path) (rs : Rows) (q t : Path)
    → rows_meet (s ∷ p) rs (s ∷ q) (s ∷ t) ≡ rows_meet p rs q t
rows_meet_on s p no_rows q t = refl
rows_meet_on s p (row keys at v rs) q t = rw (rows_meet_on s p rs q t, step_same s) refl

-- a common first step does not matter
clash_on : (s : Step) (e : Option ℕ) (rs : Rows) (t : Path) (f : Option ℕ) (os : Rows) (u : Path)
    → clash e rs (s ∷ t) f os (s ∷ u) ≡ clash e rs t f os u
clash_on s e rs t f os u =
    rw (
      rows_meet_on s (t ++ step_into e) rs (u ++ step_into f) u,
      rows_meet_on s (u ++ step_into f) os (t ++ step_into e) t,
      step_same s,
    ) refl

either_way : (a b : Bool) → (a || b) ≡ (b || a)
either_way true true = refl
either_way true false = refl
either_way false true = refl
either_way false false = refl

pub clash_with : (e : Option ℕ) (rs : Rows) (t : Path) (f : Option ℕ) (os : Rows) (u : Path)
    → clash e rs t f os u ≡ clash f os u e rs t
clash_with e rs t f os u =
    either_way (placed_clash_one_way (at e rs t) (at f os u)) (placed_clash_one_way (at f os u) (at e rs t))

pub collide_with : (m n : MarkKind) → collide m n ≡ collide n m
collide_with m passed = elim m as (λ m. collide m passed ≡ collide passed m) [
  | passed ↦ refl
  | by_latest ↦ refl
  | named ↦ refl
  | added ↦ refl
  | dotted ↦ refl
  | valued w ↦ refl
]
collide_with m by_latest =
    elim m as (λ m. collide m by_latest ≡ collide by_latest m) [
      | passed ↦ refl
      | by_latest ↦ refl
      | named ↦ refl
      | added ↦ refl
      | dotted ↦ refl
      | valued w ↦ refl
    ]
collide_with m named = elim m as (λ m. collide m named ≡ collide named m) [
  | passed ↦ refl
  | by_latest ↦ refl
  | named ↦
      refl
  | added ↦ refl
  | dotted ↦ refl
  | valued w ↦ refl
]
collide_with m added = elim m as (λ m. collide m added ≡ collide added m) [
  | passed ↦ refl
  | by_latest ↦ refl
  | named ↦
      refl
  | added ↦ refl
  | dotted ↦ refl
  | valued w ↦ refl
]
collide_with m dotted = elim m as (λ m. collide m dotted ≡ collide dotted m) [
  | passed ↦ refl
  | by_latest ↦ refl
  | named ↦ refl
  | added ↦ refl
  | dotted ↦ refl
  | valued w ↦ refl
]
collide_with m (valued v) =
    elim m as (λ m. collide m (valued v) ≡ collide (valued v) m) [
      | passed ↦ refl
      | by_latest ↦ refl
      | named ↦ refl
      | added ↦ refl
      | dotted ↦ refl
      | valued w ↦ refl
    ]

crosses_end : (p ks : Path) → crosses p ks [] ≡ false
crosses_end [] ks = refl
crosses_end (s ∷ p) ks = refl

rows_meet_end : (s : Step) (p : Path) (rs : Rows) (q : Path) → rows_meet (s ∷ p) rs (s ∷ q) [] ≡ rows_meet p rs q []
rows_meet_end s p no_rows q = refl
rows_meet_end s p (row keys at v rs) q =
    rw (rows_meet_end s p rs q, step_same s, crosses_end p (steps_of (texts keys))) refl

-- a section that adds an element, against one that goes into that element
clash_into : (n : ℕ) (rs : Rows) (f : Option ℕ) (os : Rows) (u : Path)
    → clash (Some n) rs [] f os (number n ∷ u) ≡ clash None rs [] f os u
clash_into n rs f os u =
    rw (
      rows_meet_on (number n) [] rs (u ++ step_into f) u,
      rows_meet_end (number n) (u ++ step_into f) os [],
      eq-eqb n n refl,
    ) refl

-- a section whose target is the root, against another
root_none : {q : Path} {m n : MarkKind} (rs : Rows) (f : Option ℕ) (os : Rows) (u : Path)
    → Says None rs [] q m → Says f os u q n → collide m n ≡ true → clash None rs [] f os u ≡ true
root_none rs None os [] x y c = refl
root_none rs (Some n) os [] x y c = refl
root_none rs f os (s ∷ u) (rows_say r) y c = or_left _ _ (or_right _ _ (rows_say_too f os s u r y c))
root_none rs f os (key k ∷ u) names passes c = cc
root_none rs f os (number n ∷ u) names goes_by c = cc

root : {q : Path} {m n : MarkKind} (e : Option ℕ) (rs : Rows) (f : Option ℕ) (os : Rows) (u : Path)
    → Says e rs [] q m → Says f os u q n → collide m n ≡ true → clash e rs [] f os u ≡ true
root None rs f os u x y c = root_none rs f os u x y c
root (Some i) rs None os [] x y c = or_right _ _ refl
root (Some i) rs (Some j) os [] adds adds c = cc
root (Some i) rs (Some j) os [] (into x) (into y) c = rw (eq-eqb i i refl) refl
root (Some i) rs f os (key k ∷ u) adds passes c = or_right _ _ refl
root (Some i) rs f os (number n ∷ u) adds goes_by c = cc
root (Some i) rs f os (key k ∷ u) (into x) y c = elim y [ ]
root (Some i) rs f os (number n ∷ u) (into x) (on y) c = rw (clash_into i rs f os u) (root_none rs f os u x y c)

-- what may not be said together makes a clash
pub apart : {q : Path} {m n : MarkKind} (e : Option ℕ) (rs : Rows) (t : Path) (f : Option ℕ) (os : Rows) (u : Path)
    → Says e rs t q m → Says f os u q n → collide m n ≡ true → clash e rs t f os u ≡ true
apart e rs [] f os u x y c = root e rs f os u x y c
apart {m = m} {n = n} e rs (s ∷ t) f os [] x y c =
    rw (clash_with e rs (s ∷ t) f os []) (root f os e rs (s ∷ t) y x (rw (collide_with n m) c))
apart e rs (s ∷ t) f os (s' ∷ u) (on x) (on y) c = rw (clash_on s e rs t f os u) (apart e rs t f os u x y c)
apart e rs (key k ∷ t) f os (s' ∷ u) passes passes c = cc
apart e rs (number k ∷ t) f os (s' ∷ u) goes_by goes_by c = cc
apart e rs (key k ∷ t) f os (s' ∷ u) passes goes_by c = cc
apart e rs (number k ∷ t) f os (s' ∷ u) goes_by passes c = cc

-- one path of which both say what may not be said together
pub record Collision (e : Option ℕ) (rs : Rows) (t : Path) (f : Option ℕ) (os : Rows) (u : Path) : Type 0 where
  pub path : Path
  pub kind : MarkKind
  pub other : MarkKind
  pub says : Says e rs t path kind
  pub others : Says f os u path other
  pub collides : collide kind other ≡ true

-- the same of a row
record Hit (v : Data) (ks : KeyTexts) (f : Option ℕ) (os : Rows) (u : Path) : Type 0 where
  path : Path
  kind : MarkKind
  other : MarkKind
  says : KeysSay v ks path kind
  others : Says f os u path other
  collides : collide kind other ≡ true

-- each section says something of the root
something : (f : Option ℕ) (os : Rows) (u : Path) → (n : MarkKind) × Says f os u [] n
something None os [] = (named, names)
something (Some n) os [] = (added, adds)
something f os (key k ∷ u) = (passed, passes)
something f os (number n ∷ u) = (by_latest, goes_by)

deeper_hit : {v : Data} {ks : KeyTexts} {f : Option ℕ} {os : Rows} {u : Path} (k : List ℕ) (s : Step) → s ≡ key k
    → Hit v ks f os u → Hit v (k ∷ ks) f os (s ∷ u)
deeper_hit {v = v} {ks = ks} {f = f} {os = os} {u = u} k s e h =
    subst (λ s. Hit v (k ∷ ks) f os (s ∷ u)) (sym e)
    (record {
      path = key k ∷ h.path;
      kind = h.kind;
      other = h.other;
      says = deeper h.says;
      others = on h.others;
      collides = h.collides;
    })

begins_hit : (v : Data) (ks : KeyTexts) (f : Option ℕ) (os : Rows) (u : Path)
    → begins (steps_of ks) (u ++ step_into f) ≡ true → Hit v ks f os u
begins_hit v [] f os u e = let y : (n : MarkKind) × Says f os u [] n = something f os u in
    record { path = []; kind = valued v; other = y.0; says = value_here; others = y.1; collides = refl }
begins_hit v (k ∷ ks) None os [] e = cc
begins_hit v (k ∷ ks) (Some n) os [] e = cc
begins_hit v (k ∷ ks) f os (s ∷ u) e =
    let h : (step_eq (key k) s ≡ true) × (begins (steps_of ks) (u ++ step_into f) ≡ true) = and_parts _ _ e in
    deeper_hit k s (sym (step_is (key k) s h.0)) (begins_hit v ks f os u h.1)

short_hit : (v : Data) (ks : KeyTexts) (f : Option ℕ) (os : Rows) (s : Step) (u : Path)
    → is_short (s ∷ u) (steps_of ks) ≡ true → Hit v ks f os (s ∷ u)
short_hit v [] f os s u e = cc
short_hit v (k ∷ []) f os s [] e =
    let h : (step_eq s (key k) ≡ true) × (false ≡ true) = and_parts _ _ e in cc
short_hit v (k ∷ []) f os s (r ∷ u) e =
    let h : (step_eq s (key k) ≡ true) × (false ≡ true) = and_parts _ _ e in cc
short_hit v (k ∷ l ∷ ks) f os s [] e =
    let h : (step_eq s (key k) ≡ true) × (true ≡ true) = and_parts _ _ e in
    end f (step_is s (key k) h.0)
  where
    end : (f : Option ℕ) → s ≡ key k → Hit v (k ∷ l ∷ ks) f os (s ∷ [])
    end None e = subst (λ s. Hit v (k ∷ l ∷ ks) None os (s ∷ [])) (sym e)
        (record {
          path = key k ∷ [];
          kind = dotted;
          other = named;
          says = dots_here;
          others = on names;
          collides =
              refl;
        })
    end (Some n) e = subst (λ s. Hit v (k ∷ l ∷ ks) (Some n) os (s ∷ [])) (sym e)
        (record {
          path = key k ∷ [];
          kind = dotted;
          other = added;
          says = dots_here;
          others = on adds;
          collides =
              refl;
        })
short_hit v (k ∷ l ∷ ks) f os s (r ∷ u) e =
    let h : (step_eq s (key k) ≡ true) × (is_short (r ∷ u) (steps_of (l ∷ ks)) ≡ true) = and_parts _ _ e in
    deeper_hit k s (step_is s (key k) h.0) (short_hit v (l ∷ ks) f os r u h.1)

row_hit : (v : Data) (ks : KeyTexts) (f : Option ℕ) (os : Rows) (u : Path)
    → row_meets [] (steps_of ks) (u ++ step_into f) u ≡ true → Hit v ks f os u
row_hit v ks f os u e = go u (or_cases _ _ e)
  where
    go : (u : Path) → (begins (steps_of ks) (u ++ step_into f) ≡ true) ⊎ (is_inner u (steps_of ks) ≡ true)
        → Hit v ks f os u
    go u (inl h) = begins_hit v ks f os u h
    go [] (inr h) = cc
    go (s ∷ u) (inr h) = short_hit v ks f os s u h

says_later : {keys : List Key} {at : ℕ} {v : Raw} {rs : Rows} {q : Path} {m : MarkKind} → Says None rs [] q m
    → Says None (row keys at v rs) [] q m
says_later names = names
says_later (rows_say r) = rows_say (later_row r)

rows_hit : (rs : Rows) (f : Option ℕ) (os : Rows) (u : Path) → rows_meet [] rs (u ++ step_into f) u ≡ true
    → Collision None rs [] f os u
rows_hit no_rows f os u e = cc
rows_hit (row keys at v rs) f os u e = go (rows_hit rs f os u) (or_cases _ _ e)
  where
    later : Collision None rs [] f os u → Collision None (row keys at v rs) [] f os u
    later h = record {
      path = h.path;
      kind = h.kind;
      other = h.other;
      says = says_later h.says;
      others = h.others;
      collides = h.collides;
    }

    first : Hit (finished v) (texts keys) f os u → Collision None (row keys at v rs) [] f os u
    first h = record {
      path = h.path;
      kind = h.kind;
      other = h.other;
      says = rows_say (this_row h.says);
      others =
          h.others;
      collides = h.collides;
    }

    go : (rows_meet [] rs (u ++ step_into f) u ≡ true → Collision None rs [] f os u)
        → (row_meets [] (steps_of (texts keys)) (u ++ step_into f) u ≡ true)
        ⊎ (rows_meet [] rs (u ++ step_into f) u ≡ true) → Collision None (row keys at v rs) [] f os u
    go ih (inl h) = first (row_hit (finished v) (texts keys) f os u h)
    go ih (inr h) = later (ih h)

pub step_off : (s t : Step) → step_eq s t ≡ false → step_eq t s ≡ false
step_off s t e = go (step_eq t s) refl
  where
    go : (b : Bool) → step_eq t s ≡ b → b ≡ false
    go false h = refl
    go true h = let x : t ≡ s = step_is t s h in absurd (false≢true (sym e ∙ ap (λ x. step_eq s x) x ∙ step_same s))

rows_meet_off : (s t : Step) (p : Path) (rs : Rows) (q u : Path) → step_eq s t ≡ false
    → rows_meet (s ∷ p) rs (t ∷ q) (t ∷ u) ≡ false
rows_meet_off s t p no_rows q u e = refl
rows_meet_off s t p (row keys at v rs) q u e = rw (rows_meet_off s t p rs q u e, e) refl

rows_meet_off_end : (s t : Step) (p : Path) (rs : Rows) (q : Path) → step_eq s t ≡ false
    → rows_meet (s ∷ p) rs (t ∷ q) [] ≡ false
rows_meet_off_end s t p no_rows q e = refl
rows_meet_off_end s t p (row keys at v rs) q e = rw (rows_meet_off_end s t p rs q e, e) refl

rows_meet_none : (s : Step) (p : Path) (rs : Rows) → rows_meet (s ∷ p) rs [] [] ≡ false
rows_meet_none s p no_rows = refl
rows_meet_none s p (row keys at v rs) = rows_meet_none s p rs

and_none : (b : Bool) → (b && false) ≡ false
and_none true = refl
and_none false = refl

-- paths with different first steps do not clash
clash_off : (s s' : Step) (e : Option ℕ) (rs : Rows) (t : Path) (f : Option ℕ) (os : Rows) (u : Path)
    → step_eq s s' ≡ false
    → clash e rs (s ∷ t) f os (s' ∷ u) ≡ false
clash_off s s' e rs t f os u d =
    rw (
      rows_meet_off s s' (t ++ step_into e) rs (u ++ step_into f) u d,
      rows_meet_off s' s (u ++ step_into f) os (t ++ step_into e) t (step_off s s' d),
      step_off s s' d,
      d,
      and_none (adds_element f),
      and_none (adds_element e),
    ) refl

clash_off_into : (n m : ℕ) (rs : Rows) (f : Option ℕ) (os : Rows) (u : Path) → step_eq (number n) (number m) ≡ false
    → clash (Some n) rs [] f os (number m ∷ u) ≡ false
clash_off_into n m rs f os u d =
    rw (
      rows_meet_off (number n) (number m) [] rs (u ++ step_into f) u d,
      rows_meet_off_end (number m) (number n) (u ++ step_into f) os [] (step_off (number n) (number m) d),
      step_off (number n) (number m) d,
      d,
      and_none (adds_element f),
    ) refl

clash_off_both : (n m : ℕ) (rs os : Rows) → step_eq (number n) (number m) ≡ false
    → clash (Some n) rs [] (Some m) os [] ≡ false
clash_off_both n m rs os d =
    rw (
      rows_meet_off_end (number n) (number m) [] rs [] d,
      rows_meet_off_end (number m) (number n) [] os [] (step_off (number n) (number m) d),
      step_off (number n) (number m) d,
      d,
    ) refl

turned : {e : Option ℕ} {rs : Rows} {t : Path} {f : Option ℕ} {os : Rows} {u : Path} → Collision f os u e rs t
    → Collision e rs t f os u
turned h = record {
  path = h.path;
  kind = h.other;
  other = h.kind;
  says = h.others;
  others = h.says;
  collides =
      collide_with h.other h.kind ∙ h.collides;
}

into_both : {rs : Rows} {f : Option ℕ} {os : Rows} {u : Path} (n m : ℕ) → n ≡ m → Collision None rs [] f os u
    → Collision (Some n) rs [] f os (number m ∷ u)
into_both {rs = rs} {f = f} {os = os} {u = u} n m e h = subst (λ m. Collision (Some n) rs [] f os (number m ∷ u)) e
    (record {
      path = number n ∷ h.path;
      kind = h.kind;
      other = h.other;
      says = into h.says;
      others = on h.others;
      collides = h.collides;
    })

on_both : {e : Option ℕ} {rs : Rows} {t : Path} {f : Option ℕ} {os : Rows} {u : Path} (s s' : Step) → s ≡ s'
    → Collision e rs t f os u → Collision e rs (s ∷ t) f os (s' ∷ u)
on_both {e = e} {rs = rs} {t = t} {f = f} {os = os} {u = u} s s' d h =
    subst (λ x. Collision e rs (s ∷ t) f os (x ∷ u)) d
    (record {
      path = s ∷ h.path;
      kind = h.kind;
      other = h.other;
      says = on h.says;
      others = on h.others;
      collides =
          h.collides;
    })

root_none_meets : (rs : Rows) (f : Option ℕ) (os : Rows) (u : Path) → clash None rs [] f os u ≡ true
    → Collision None rs [] f os u
root_none_meets rs None os [] c =
    record { path = []; kind = named; other = named; says = names; others = names; collides = refl }
root_none_meets rs (Some n) os [] c =
    record { path = []; kind = named; other = added; says = names; others = adds; collides = refl }
root_none_meets rs f os (s ∷ u) c = rows_hit rs f os (s ∷ u) (sym less ∙ c)
  where
    less : clash None rs [] f os (s ∷ u) ≡ rows_meet [] rs (s ∷ u ++ step_into f) (s ∷ u)
    less = rw (rows_meet_none s (u ++ step_into f) os, and_none (adds_element f)) (either_way _ false)

root_meets : (e : Option ℕ) (rs : Rows) (f : Option ℕ) (os : Rows) (u : Path) → clash e rs [] f os u ≡ true
    → Collision e rs [] f os u
root_meets None rs f os u c = root_none_meets rs f os u c
root_meets (Some n) rs None os [] c =
    record { path = []; kind = added; other = named; says = adds; others = names; collides = refl }
root_meets (Some n) rs (Some m) os [] c = go (step_eq (number n) (number m)) refl
  where
    go : (b : Bool) → step_eq (number n) (number m) ≡ b → Collision (Some n) rs [] (Some m) os []
    go true d = subst (λ m. Collision (Some n) rs [] (Some m) os []) (eqb-true n m d)
        (record {
          path = number n ∷ [];
          kind = named;
          other = named;
          says = into names;
          others = into names;
          collides = refl;
        })
    go false d = absurd (false≢true (sym (clash_off_both n m rs os d) ∙ c))
root_meets (Some n) rs f os (key k ∷ u) c =
    record { path = []; kind = added; other = passed; says = adds; others = passes; collides = refl }
root_meets (Some n) rs f os (number m ∷ u) c = go (step_eq (number n) (number m)) refl
  where
    go : (b : Bool) → step_eq (number n) (number m) ≡ b → Collision (Some n) rs [] f os (number m ∷ u)
    go false d = absurd (false≢true (sym (clash_off_into n m rs f os u d) ∙ c))
    go true d = let same : n ≡ m = eqb-true n m d in
        into_both n m same (root_none_meets rs f os u (sym (clash_into n rs f os u) ∙
        subst (λ m. clash (Some n) rs [] f os (number m ∷ u) ≡ true) (sym same) c))

-- a clash is a path of which both say what may not be said together
pub meets : (e : Option ℕ) (rs : Rows) (t : Path) (f : Option ℕ) (os : Rows) (u : Path) → clash e rs t f os u ≡ true
    → Collision e rs t f os u
meets e rs [] f os u c = root_meets e rs f os u c
meets e rs (s ∷ t) f os [] c = turned (root_meets f os e rs (s ∷ t) (clash_with f os [] e rs (s ∷ t) ∙ c))
meets e rs (s ∷ t) f os (s' ∷ u) c = go (meets e rs t f os u) (step_eq s s') refl
  where
    go : (clash e rs t f os u ≡ true → Collision e rs t f os u) → (b : Bool) → step_eq s s' ≡ b
        → Collision e rs (s ∷ t) f os (s' ∷ u)
    go ih false d = absurd (false≢true (sym (clash_off s s' e rs t f os u d) ∙ c))
    go ih true d = let same : s ≡ s' = step_is s s' d in
        on_both s s' same (ih (sym (clash_on s e rs t f os u) ∙
        subst (λ x. clash e rs (s ∷ t) f os (x ∷ u) ≡ true) (sym same) c))
