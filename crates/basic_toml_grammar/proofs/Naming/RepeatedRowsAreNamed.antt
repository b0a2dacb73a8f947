-- Where rows stop, a row before them in the same table is the cause, and the fault is one of repeated rows; or else it
-- is a mark that stood before the rows.
use Rattle.std.proofs.Common.{◌≡◌, ℕ, Bool, true, false, List, [], ◌∷◌, ◌++◌, refl, ap, sym, ◌∙◌, subst}
use Rattle.std.proofs.Common.{inl, inr, take}
use Rattle.std.specs.Prelude.{◌⊎◌, if◌then◌else◌}
use Rattle.std.proofs.lemmas.Bool.{false≢true, and_parts}
use Rattle.basic_toml_value.specs.Data.{Data}
use Rattle.basic_toml_grammar.specs.Sections.{Key, KeyTexts, texts, Raw, Elements, no_elements, element, Rows}
use Rattle.basic_toml_grammar.specs.Sections.{no_rows, row}
use Rattle.basic_toml_grammar.specs.Steps.{key, Path, step_eq, begins, properly_begins, steps_of}
use Rattle.basic_toml_grammar.specs.Mentions.{finished}
use Rattle.basic_toml_grammar.specs.Placed.{is_short, is_inner}
use Rattle.basic_toml_grammar.specs.Marks.{MarkKind, Mark, mark}
use Rattle.basic_toml_grammar.specs.Faults.{Fault}
use Rattle.basic_toml_grammar.specs.NamedClash.{last_key, first_key, first_of_several, nth_key, dotted_fault, key_fault}
use Rattle.basic_toml_grammar.specs.NamedClash.{extending_faults, dotted_faults, dotted_faults_in, dotted_faults_among}
use Rattle.basic_toml_grammar.specs.NamedClash.{repeating_faults, repeated_faults, repeated_faults_in}
use Rattle.basic_toml_grammar.specs.NamedClash.{repeated_faults_among}
use Rattle.basic_toml_grammar.specs.Stops.{Stop, at_row, held_stop, Outcome, goes_on}
use Rattle.basic_toml_grammar.specs.Stops.{stops, and_on, try_row, held, try_rows, try_value, try_elements}
use Rattle.basic_toml_grammar.proofs.AmongElements.{Among, first, next, among_left, among_right}
use Rattle.basic_toml_grammar.proofs.Clash.StepTestsDecide.{step_same}
use Rattle.basic_toml_grammar.proofs.Clash.WhatSectionsSay.{KeysSay, value_here, dots_here, deeper}
use Rattle.basic_toml_grammar.proofs.Clash.MarksFit.{Tells, tells_none}
use Rattle.basic_toml_grammar.proofs.Clash.ClashesAgree.{turn_eq}
use Rattle.basic_toml_grammar.proofs.Clash.MarksTellPlaces.{RowOf, this_one, a_later, keys_row, valued_at, dotted_at}
use Rattle.basic_toml_grammar.proofs.Naming.WhereRowsStop.{keys_before, steps_to_key, Reason, names_it, adds_it}
use Rattle.basic_toml_grammar.proofs.Naming.WhereRowsStop.{ends_before, on_its_way, repeats_it, RowHit, row_hit}
use Rattle.basic_toml_grammar.proofs.Naming.RowsLeaveMarks.{RowRan, row_ran}

-- repeated faults, where a function tells the key path from the keys that the stop tells
abbrev pub faults_by : (KeyTexts → KeyTexts) → Rows → List Fault
faults_by f rows = repeated_faults (λ keys. f (first_of_several keys)) (λ keys. f (first_key keys)) rows

pub record Repeats (rows : Rows) (x : Stop) : Type 0 where
  pub before : KeyTexts
  pub at : Key
  pub is : x ≡ at_row before at
  pub among : (f : KeyTexts → KeyTexts) → Among (key_fault at (f before)) (faults_by f rows)

record ValueRepeats (v : Raw) (x : Stop) : Type 0 where
  before : KeyTexts
  at : Key
  is : x ≡ at_row before at
  among : (keys : KeyTexts) → Among (key_fault at keys) (repeated_faults_in keys v)

record ElementsRepeat (es : Elements) (x : Stop) : Type 0 where
  before : KeyTexts
  at : Key
  is : x ≡ at_row before at
  among : (keys : KeyTexts) → Among (key_fault at keys) (repeated_faults_among keys es)

-- nothing is in two lists
pub both_none : {A : Type 0} (xs ys : List A) → xs ++ ys ≡ [] → (xs ≡ []) × (ys ≡ [])
both_none [] ys e = (refl, e)
both_none (x ∷ xs) ys e = cc

not_in_none : {A : Type 0} {x : A} (xs : List A) → xs ≡ [] → Among x xs → ⊥
not_in_none {x = x} xs e a = let h : Among x [] = subst (λ xs. Among x xs) e a in elim h [ ]

begin_in : {A : Type 0} (b : Bool) (f : A) (fs : List A) → b ≡ true → Among f (if b then f ∷ fs else fs)
begin_in true f fs e = first
begin_in false f fs e = absurd (false≢true e)

further_in : {A : Type 0} {f : A} (b : Bool) (g : A) (fs : List A) → Among f fs → Among f (if b then g ∷ fs else fs)
further_in true g fs a = next a
further_in false g fs a = a

extends_in : {rs : Rows} {ks : List Key} {w : Data} (at : ℕ) (p : Path) → RowOf rs ks w
    → properly_begins p (steps_of (texts ks)) ≡ true → Among (dotted_fault at) (extending_faults at p rs)
extends_in at p this_one e = begin_in _ _ _ e
extends_in at p (a_later h) e = further_in _ _ _ (extends_in at p h e)

repeats_in : {rs : Rows} {ks : List Key} {w : Data} (f : List Key → KeyTexts) (p : Path) → RowOf rs ks w
    → begins (steps_of (texts ks)) p ≡ true → Among (key_fault (last_key ks) (f ks)) (repeating_faults f p rs)
repeats_in f p this_one e = begin_in _ _ _ e
repeats_in f p (a_later h) e = further_in _ _ _ (repeats_in f p h e)

short_properly : (q p : Path) → is_short q p ≡ true → properly_begins q p ≡ true
short_properly [] [] h = absurd (false≢true h)
short_properly [] (t ∷ p) h = refl
short_properly (s ∷ q) [] h = absurd (false≢true h)
short_properly (s ∷ q) (t ∷ p) h =
    let a : (step_eq s t ≡ true) × (is_short q p ≡ true) = and_parts _ _ h in
    rw (a.0, sym (turn_eq s t) ∙ a.0) (short_properly q p a.1)

inner_properly : (q p : Path) → is_inner q p ≡ true → properly_begins q p ≡ true
inner_properly [] p h = absurd (false≢true h)
inner_properly (s ∷ q) p h = short_properly (s ∷ q) p h

row_begins : {v : Data} {ks : KeyTexts} {q : Path} {k : MarkKind} → KeysSay v ks q k → begins q (steps_of ks) ≡ true
row_begins value_here = refl
row_begins (dots_here {k = k}) = rw (step_same (key k)) refl
row_begins (deeper {k = k} y) = rw (step_same (key k)) (row_begins y)

abbrev rest_of : Path → Path
rest_of [] = []
rest_of (s ∷ p) = p

same_rest : (p q r : Path) → p ++ q ≡ p ++ r → q ≡ r
same_rest [] q r e = e
same_rest (s ∷ p) q r e = same_rest p q r (ap rest_of e)

abbrev stop_of : Stop → Outcome (List Mark) → Stop
stop_of x (stops y) = y
stop_of x (goes_on st) = x

-- a row before is the cause
by_row : {v w : Data} {rs : Rows} {c k : MarkKind} (keys : List Key) (at : ℕ) (value : Raw) (ks : List Key) (m : ℕ)
    (x : Stop) → Reason ks m x c k → KeysSay w (texts ks) (steps_to_key m ks) k
    → KeysSay v (texts keys) (steps_to_key m ks) c → RowOf rs ks w → extending_faults at (steps_of (texts keys)) rs ≡ []
    → Repeats (row keys at value rs) x
by_row keys at value ks m x (names_it i) y z o d = absurd (false≢true (sym (keys_row z)))
by_row keys at value ks m x (adds_it i) y z o d = absurd (false≢true (sym (keys_row z)))
by_row keys at value ks m x (on_its_way h i e) y z o d = absurd (false≢true (sym (keys_row z) ∙ h))
by_row keys at value ks m x (ends_before i) y z o d =
    absurd (not_in_none _ d (extends_in at (steps_of (texts keys)) o
    (ap (λ q. properly_begins q (steps_of (texts ks))) (sym (valued_at z)) ∙
    inner_properly (steps_to_key m ks) (steps_of (texts ks)) (dotted_at y))))
by_row {rs = rs} keys at value ks m x (repeats_it h i e) y z o d = record {
  before = take 1 (keys_before m ks);
  at = nth_key m ks;
  is = i;
  among = λ f. among_left (faults_by f rs) (among_left (repeated_faults_in (f (first_key keys)) value) (found f));
}
  where
    over : begins (steps_of (texts ks)) (steps_of (texts keys)) ≡ true
    over = ap (λ q. begins q (steps_of (texts keys))) (sym (valued_at y)) ∙ row_begins z

    found : (f : KeyTexts → KeyTexts) → Among (key_fault (nth_key m ks) (f (take 1 (keys_before m ks))))
        (repeating_faults (λ keys. f (first_of_several keys)) (steps_of (texts keys)) rs)
    found f =
        subst (λ g. Among g (repeating_faults (λ keys. f (first_of_several keys)) (steps_of (texts keys)) rs))
        (ap (λ k. key_fault k (f (first_of_several ks))) e.last ∙ ap (λ b. key_fault (nth_key m ks) (f b)) e.first)
        (repeats_in (λ keys. f (first_of_several keys)) (steps_of (texts keys)) o over)

later_hit : {ls : List Key} {at : ℕ} {w : Raw} {p : Path} {rs : Rows} {st now : List Mark} {x : Stop}
    → ((m : Mark) → Among m st → Among m now) → (h : RowHit p rs now x)
    → Among (mark (p ++ steps_to_key h.at h.keys) h.other) st → RowHit p (row ls at w rs) st x
later_hit kept h a = record {
  keys = h.keys;
  value = h.value;
  row = a_later h.row;
  at = h.at;
  kind = h.kind;
  says = h.says;
  other = h.other;
  stood = a;
  reason = h.reason;
  unnamed = λ l i a. h.unnamed l i (kept _ a);
}

later_repeats : {ls : List Key} {at : ℕ} {w : Raw} {rs : Rows} {x : Stop} → Repeats rs x → Repeats (row ls at w rs) x
later_repeats {ls = ls} {w = w} {rs = rs} h = record {
  before = h.before;
  at = h.at;
  is = h.is;
  among = λ f. among_right (repeating_faults (λ keys. f (first_of_several keys)) (steps_of (texts ls)) rs
      ++ repeated_faults_in (f (first_key ls)) w) (h.among f);
}

-- a hit on what stood after a row
resolved : (p : Path) (keys : List Key) (at : ℕ) (v : Raw) (rs : Rows) (st now : List Mark) (x : Stop)
    → RowRan p keys (finished v) st now → extending_faults at (steps_of (texts keys)) rs ≡ [] → RowHit p rs now x
    → Repeats (row keys at v rs) x ⊎ RowHit p (row keys at v rs) st x
resolved p keys at v rs st now x ran d h = go (ran.made h.stood)
  where
    q : Path
    q = steps_to_key h.at h.keys

    go : Among (mark (p ++ q) h.other) st
        ⊎ ((r : Path) × (p ++ q ≡ p ++ r) × KeysSay (finished v) (texts keys) r h.other)
        → Repeats (row keys at v rs) x ⊎ RowHit p (row keys at v rs) st x
    go (inl a) = inr (later_hit (λ m a. ran.kept a) h a)
    go (inr z) = inl (by_row keys at v h.keys h.at x h.reason h.says
        (subst (λ r. KeysSay (finished v) (texts keys) r h.other) (sym (same_rest p q z.0 z.1)) z.2) h.row d)

held_repeats : (keys : List Key) (at : ℕ) (v : Raw) (rs : Rows) (x y : Stop) → ValueRepeats v y
    → x ≡ held_stop keys y → Repeats (row keys at v rs) x
held_repeats keys at v rs x y h e = record {
  before = first_key keys;
  at = h.at;
  is = e ∙ ap (held_stop keys) h.is;
  among = λ f. among_left (faults_by f rs)
      (among_right (repeating_faults (λ keys. f (first_of_several keys)) (steps_of (texts keys)) rs)
      (h.among (f (first_key keys))));
}

row_stops : (p : Path) (keys : List Key) (at : ℕ) (v : Raw) (rows : Rows) (st : List Mark) (x : Stop) → Tells st
    → dotted_faults (row keys at v rows) ≡ []
    → ((y : Stop) → dotted_faults_in v ≡ [] → try_value v ≡ stops y → ValueRepeats v y)
    → ((now : List Mark) → Tells now → dotted_faults rows ≡ [] → try_rows p rows now ≡ stops x
    → Repeats rows x ⊎ RowHit p rows now x)
    → try_rows p (row keys at v rows) st ≡ stops x → Repeats (row keys at v rows) x ⊎ RowHit p (row keys at v rows) st x
row_stops p keys at v rows st x t d in_value in_rows e = go (try_value v) refl e
  where
    outer : (extending_faults at (steps_of (texts keys)) rows ++ dotted_faults_in v ≡ []) × (dotted_faults rows ≡ [])
    outer = both_none _ _ d

    inner : (extending_faults at (steps_of (texts keys)) rows ≡ []) × (dotted_faults_in v ≡ [])
    inner = both_none _ _ outer.0

    after : (o : Outcome (List Mark)) → try_row p [] keys (finished v) st ≡ o
        → and_on o (λ st. try_rows p rows st) ≡ stops x
        → Repeats (row keys at v rows) x ⊎ RowHit p (row keys at v rows) st x
    after (stops y) i e = inr (row_hit p keys (finished v) st x t this_one (i ∙ e))
    after (goes_on now) i e =
        let ran : RowRan p keys (finished v) st now = row_ran p [] keys (finished v) st now t i in
        rest now ran (in_rows now ran.tells outer.1 e)
      where
        rest : (now : List Mark) → RowRan p keys (finished v) st now → Repeats rows x ⊎ RowHit p rows now x
            → Repeats (row keys at v rows) x ⊎ RowHit p (row keys at v rows) st x
        rest now ran (inl h) = inl (later_repeats h)
        rest now ran (inr h) = resolved p keys at v rows st now x ran inner.0 h

    go : (o : Outcome (List Mark)) → try_value v ≡ o
        → and_on (held keys o) (λ _. and_on (try_row p [] keys (finished v) st) (λ st. try_rows p rows st)) ≡ stops x
        → Repeats (row keys at v rows) x ⊎ RowHit p (row keys at v rows) st x
    go (stops y) i e = inl (held_repeats keys at v rows x y (in_value y inner.1 i) (ap (stop_of x) (sym e)))
    go (goes_on a) i e = after (try_row p [] keys (finished v) st) refl e

of_array : {es : Elements} {x : Stop} → ElementsRepeat es x → ValueRepeats (Raw.array es) x
of_array h = record { before = h.before; at = h.at; is = h.is; among = λ keys. h.among keys }

of_inline : {rows : Rows} {x : Stop} → Repeats rows x ⊎ RowHit [] rows [] x → ValueRepeats (Raw.inline rows) x
of_inline (inl h) = record { before = h.before; at = h.at; is = h.is; among = λ keys. h.among (λ _. keys) }
of_inline (inr h) = elim h.stood [ ]

one_stops : (at : ℕ) (v : Raw) (es : Elements) (x : Stop) → dotted_faults_among (element at v es) ≡ []
    → (dotted_faults_in v ≡ [] → try_value v ≡ stops x → ValueRepeats v x)
    → (dotted_faults_among es ≡ [] → try_elements es ≡ stops x → ElementsRepeat es x)
    → try_elements (element at v es) ≡ stops x → ElementsRepeat (element at v es) x
one_stops at v es x d in_value in_rest e = go (try_value v) refl e
  where
    parts : (dotted_faults_in v ≡ []) × (dotted_faults_among es ≡ [])
    parts = both_none _ _ d

    of_value : ValueRepeats v x → ElementsRepeat (element at v es) x
    of_value h = record {
      before = h.before;
      at = h.at;
      is = h.is;
      among = λ keys. among_left (repeated_faults_among keys es) (h.among keys);
    }

    of_rest : ElementsRepeat es x → ElementsRepeat (element at v es) x
    of_rest h = record {
      before = h.before;
      at = h.at;
      is = h.is;
      among = λ keys. among_right (repeated_faults_in keys v) (h.among keys);
    }

    go : (o : Outcome (List Mark)) → try_value v ≡ o → and_on o (λ _. try_elements es) ≡ stops x
        → ElementsRepeat (element at v es) x
    go (stops y) i e = of_value (in_value parts.0 (i ∙ e))
    go (goes_on a) i e = of_rest (in_rest parts.1 e)

mutual
  pub rows_stop : (p : Path) (rows : Rows) (st : List Mark) (x : Stop) → Tells st → dotted_faults rows ≡ []
      → try_rows p rows st ≡ stops x → Repeats rows x ⊎ RowHit p rows st x
  rows_stop p no_rows st x t d e = cc
  rows_stop p (row keys at v rows) st x t d e =
      row_stops p keys at v rows st x t d (λ y f g. value_stop v y f g) (λ now t f g. rows_stop p rows now x t f g) e

  value_stop : (v : Raw) (x : Stop) → dotted_faults_in v ≡ [] → try_value v ≡ stops x → ValueRepeats v x
  value_stop (Raw.integer z) x d e = cc
  value_stop (Raw.float t) x d e = cc
  value_stop (Raw.boolean b) x d e = cc
  value_stop (Raw.string t _) x d e = cc
  value_stop (Raw.array es) x d e = of_array (elements_stop es x d e)
  value_stop (Raw.inline rows) x d e = of_inline (rows_stop [] rows [] x tells_none d e)

  elements_stop : (es : Elements) (x : Stop) → dotted_faults_among es ≡ [] → try_elements es ≡ stops x
      → ElementsRepeat es x
  elements_stop no_elements x d e = cc
  elements_stop (element at v es) x d e =
      one_stops at v es x d (λ f g. value_stop v x f g) (λ f g. elements_stop es x f g) e
