-- A section stops at a mark of its header, which does not fit what stood before the section, or at its rows.
use Rattle.std.proofs.Common.{◌≡◌, ℕ, zero, suc, ◌+◌, Bool, true, false, cond, List, [], ◌∷◌, ◌++◌, Option, Some, None}
use Rattle.std.proofs.Common.{refl, ap, sym, ◌∙◌, subst, inl, inr, append_assoc, arith, length}
use Rattle.std.specs.Prelude.{◌⊎◌, if◌then◌else◌}
use Rattle.basic_toml_grammar.specs.Sections.{KeyTexts, Rows}
use Rattle.basic_toml_grammar.specs.Steps.{Step, key, number, Path, path_eq, keys_of}
use Rattle.basic_toml_grammar.specs.IndexedPath.{latest}
use Rattle.basic_toml_grammar.specs.Placed.{step_into, target_from, element_from}
use Rattle.basic_toml_grammar.specs.Marks.{MarkKind, passed, by_latest, named, added, dotted, valued, Mark, mark}
use Rattle.basic_toml_grammar.specs.Standing.{Standing, fits, taken, standing_at}
use Rattle.basic_toml_grammar.specs.Entering.{element_count, count_at}
use Rattle.basic_toml_grammar.specs.Stops.{Stop, header_stop, Outcome, goes_on, stops, and_on, try_mark, try_rows}
use Rattle.basic_toml_grammar.specs.Stops.{try_header, try_table, try_element, try_latest, try_walk}
use Rattle.basic_toml_grammar.proofs.Clash.StepTestsDecide.{step_same}
use Rattle.basic_toml_grammar.proofs.Clash.WhatSectionsSay.{Says, names, adds, into, passes, goes_by, on}
use Rattle.basic_toml_grammar.proofs.Clash.WalkTakesMarks.{added_at, Sized}
use Rattle.basic_toml_grammar.proofs.Clash.PathsAgree.{append_none}

-- the marks that a header makes
abbrev pub is_header : MarkKind → Bool
is_header dotted = false
is_header (valued v) = false
is_header k = true

-- from a path on, the same stands
abbrev pub SameFrom : Path → List Mark → List Mark → Type 0
SameFrom p st st0 = (r : Path) → standing_at st (p ++ r) ≡ standing_at st0 (p ++ r)

longer : (p : Path) (s : Step) (r : Path) → path_eq p (p ++ s ∷ r) ≡ false
longer [] s r = refl
longer (u ∷ p) s r = rw (step_same u) (longer p s r)

-- a mark here changes nothing further down
pub below_same : (p : Path) (k : MarkKind) (st : List Mark) (s : Step) (r : Path)
    → standing_at (mark p k ∷ st) (p ++ s ∷ r) ≡ standing_at st (p ++ s ∷ r)
below_same p k st s r = ap (λ b. cond b (Some (taken k (standing_at st (p ++ s ∷ r)))) (standing_at st (p ++ s ∷ r)))
    (longer p s r)

deeper_same : (st st0 : List Mark) (p : Path) (s : Step) (k : MarkKind) → SameFrom p st st0
    → SameFrom (p ++ s ∷ []) (mark p k ∷ st) st0
deeper_same st st0 p s k h r =
    ap (λ q. standing_at (mark p k ∷ st) q) (append_assoc p (s ∷ []) r)
    ∙ below_same p k st s r ∙ h (s ∷ r) ∙ ap (λ q. standing_at st0 q) (sym (append_assoc p (s ∷ []) r))

here_same : (st st0 : List Mark) (p : Path) → SameFrom p st st0 → standing_at st p ≡ standing_at st0 (p ++ [])
here_same st st0 p h = ap (λ q. standing_at st q) (sym (append_none p)) ∙ h []

count_same : (st st0 : List Mark) (p : Path) → Sized st0 → SameFrom p st st0 → count_at st p ≡ added_at st0 p
count_same st st0 p z h = ap element_count (here_same st st0 p h ∙ ap (λ q. standing_at st0 q) (append_none p)) ∙ z p

-- a mark of the header that does not fit, after a cut from which on there are so many keys
pub record HeaderStop (e : Option ℕ) (rs : Rows) (t cut : Path) (n : ℕ) (st : List Mark) (x : Stop) : Type 0 where
  pub path : Path
  pub kind : MarkKind
  pub left : ℕ
  pub says : Says e rs t path kind
  pub header : is_header kind ≡ true
  pub unfit : fits kind (standing_at st (cut ++ path)) ≡ false
  pub is : x ≡ header_stop kind left (standing_at st (cut ++ path))
  pub counts : length (keys_of path) + left ≡ n

-- or the rows stop, after the header was gone by
pub record RowsStop (p : Path) (rs : Rows) (st : List Mark) (x : Stop) : Type 0 where
  pub now : List Mark
  pub same : (s : Step) (r : Path) → standing_at now (p ++ s ∷ r) ≡ standing_at st (p ++ s ∷ r)
  pub fitted : fits named (standing_at st p) ≡ true
  pub stopped : try_rows p rs now ≡ stops x

abbrev pub WalkStop : Option ℕ → Rows → Path → Path → ℕ → List Mark → Stop → Type 0
WalkStop e rs t cut n st x = HeaderStop e rs t cut n st x ⊎ RowsStop (cut ++ (t ++ step_into e)) rs st x

lift_rows : {p q : Path} {rs : Rows} {st : List Mark} {x : Stop} → p ≡ q → RowsStop p rs st x → RowsStop q rs st x
lift_rows {rs = rs} {st = st} {x = x} e h = subst (λ p. RowsStop p rs st x) e h

-- what is found one step further on
lift_header : {e f : Option ℕ} {rs : Rows} {t u cut : Path} {n m : ℕ} {st : List Mark} {x : Stop} (s : Step)
    → ((q : Path) (k : MarkKind) → Says e rs t q k → Says f rs u (s ∷ q) k)
    → ((q : Path) (left : ℕ) → length (keys_of q) + left ≡ n → length (keys_of (s ∷ q)) + left ≡ m)
    → HeaderStop e rs t (cut ++ s ∷ []) n st x → HeaderStop f rs u cut m st x
lift_header {cut = cut} {st = st} s onward count h = record {
  path = s ∷ h.path;
  kind = h.kind;
  left = h.left;
  says = onward h.path h.kind h.says;
  header = h.header;
  unfit = ap (λ q. fits h.kind (standing_at st q)) (sym (append_assoc cut (s ∷ []) h.path)) ∙ h.unfit;
  is = h.is ∙ ap (λ q. header_stop h.kind h.left (standing_at st q)) (append_assoc cut (s ∷ []) h.path);
  counts = count h.path h.left h.counts;
}

lift_key : {e : Option ℕ} {rs : Rows} {t cut : Path} {n : ℕ} {st : List Mark} {x : Stop} (k : List ℕ)
    → WalkStop e rs t (cut ++ key k ∷ []) n st x → WalkStop e rs (key k ∷ t) cut (suc n) st x
lift_key {n = n} k (inl h) =
    inl (lift_header (key k) (λ q k y. on y) (λ q left c. one_more (length (keys_of q)) left n c) h)
  where
    one_more : (m left n : ℕ) → m + left ≡ n → suc m + left ≡ suc n
    one_more m left n e = omega arith
lift_key {e = e} {t = t} {cut = cut} k (inr h) = inr (lift_rows (append_assoc cut (key k ∷ []) (t ++ step_into e)) h)

lift_number : {e : Option ℕ} {rs : Rows} {t cut : Path} {n : ℕ} {st : List Mark} {x : Stop} (i : ℕ)
    → WalkStop e rs t (cut ++ number i ∷ []) n st x → WalkStop e rs (number i ∷ t) cut n st x
lift_number i (inl h) = inl (lift_header (number i) (λ q k y. on y) (λ q left c. c) h)
lift_number {e = e} {t = t} {cut = cut} i (inr h) =
    inr (lift_rows (append_assoc cut (number i ∷ []) (t ++ step_into e)) h)

lift_element : {rs : Rows} {cut : Path} {n : ℕ} {st : List Mark} {x : Stop} (i : ℕ)
    → WalkStop None rs [] (cut ++ number i ∷ []) n st x → WalkStop (Some i) rs [] cut n st x
lift_element i (inl h) = inl (lift_header (number i) (λ q k y. into y) (λ q left c. c) h)
lift_element {cut = cut} i (inr h) = inr (lift_rows (append_none (cut ++ number i ∷ [])) h)

-- a mark, and then others
pub data Tried (p : Path) (k : MarkKind) (name : Option Standing → Stop) (st : List Mark)
    (f : List Mark → Outcome (List Mark)) (x : Stop) : Type 0 where
  unfit : fits k (standing_at st p) ≡ false → x ≡ name (standing_at st p) → Tried p k name st f x
  fit : fits k (standing_at st p) ≡ true → f (mark p k ∷ st) ≡ stops x → Tried p k name st f x

abbrev stop_of : Stop → Outcome (List Mark) → Stop
stop_of x (stops y) = y
stop_of x (goes_on st) = x

pub tried : (p : Path) (k : MarkKind) (name : Option Standing → Stop) (st : List Mark)
    (f : List Mark → Outcome (List Mark)) (x : Stop) → and_on (try_mark p k name st) f ≡ stops x → Tried p k name st f x
tried p k name st f x e = go (fits k (standing_at st p)) refl e
  where
    go : (b : Bool) → fits k (standing_at st p) ≡ b
        → and_on (if b then goes_on (mark p k ∷ st) else stops (name (standing_at st p))) f ≡ stops x
        → Tried p k name st f x
    go true h e = fit h e
    go false h e = unfit h (ap (stop_of x) (sym e))

stop_here : {e : Option ℕ} {rs : Rows} {t : Path} {x : Stop} (st st0 : List Mark) (cut : Path) (k : MarkKind)
    (left : ℕ) → Says e rs t [] k → is_header k ≡ true → SameFrom cut st st0 → fits k (standing_at st cut) ≡ false
    → x ≡ header_stop k left (standing_at st cut) → HeaderStop e rs t cut left st0 x
stop_here st st0 cut k left y i h u e = record {
  path = [];
  kind = k;
  left = left;
  says = y;
  header = i;
  unfit = ap (fits k) (sym (here_same st st0 cut h)) ∙ u;
  is = e ∙ ap (header_stop k left) (here_same st st0 cut h);
  counts = omega arith;
}

table_stops : (rs : Rows) (p : Path) (st st0 : List Mark) (x : Stop) → SameFrom p st st0
    → try_table p rs st ≡ stops x → WalkStop None rs [] p 0 st0 x
table_stops rs p st st0 x h e = go (tried p named (header_stop named 0) st (λ st. try_rows p rs st) x e)
  where
    go : Tried p named (header_stop named 0) st (λ st. try_rows p rs st) x → WalkStop None rs [] p 0 st0 x
    go (unfit u i) = inl (stop_here st st0 p named 0 names refl h u i)
    go (fit u f) = inr (lift_rows (sym (append_none p))
        (record {
          now = mark p named ∷ st;
          same = λ s r. below_same p named st s r ∙ h (s ∷ r);
          fitted = ap (fits named) (sym (here_same st st0 p h ∙ ap (λ q. standing_at st0 q) (append_none p))) ∙ u;
          stopped = f;
        }))

element_stops : (rs : Rows) (here : Path) (st st0 : List Mark) (x : Stop) → Sized st0 → SameFrom here st st0
    → try_element rs here st ≡ stops x → WalkStop (Some (added_at st0 here)) rs [] here 0 st0 x
element_stops rs here st st0 x z h e = go (tried here added (header_stop added 0) st follow x
    (ap (λ n. and_on (try_header here added 0 st) (λ st. try_table (here ++ number n ∷ []) rs st))
    (sym (count_same st st0 here z h)) ∙ e))
  where
    n : ℕ
    n = added_at st0 here

    follow : List Mark → Outcome (List Mark)
    follow st = try_table (here ++ number n ∷ []) rs st

    go : Tried here added (header_stop added 0) st follow x → WalkStop (Some n) rs [] here 0 st0 x
    go (unfit u i) = inl (stop_here st st0 here added 0 adds refl h u i)
    go (fit u f) = lift_element n (table_stops rs (here ++ number n ∷ []) (mark here added ∷ st) st0 x
        (deeper_same st st0 here (number n) added h) f)

-- on from a path, into the latest element where there is one, by steps that stop so from each path on
latest_stops : (rs : Rows) (go : Path → List Mark → Outcome (List Mark)) (element : Path → Option ℕ)
    (target : Path → Path) (here : Path) (left : ℕ) (st st0 : List Mark) (x : Stop)
    → ((c : Path) (st : List Mark) → SameFrom c st st0 → go c st ≡ stops x
    → WalkStop (element c) rs (target c) c left st0 x) → (n : ℕ) → SameFrom here st st0
    → try_latest go here left n st ≡ stops x
    → WalkStop (element (here ++ latest n)) rs (latest n ++ target (here ++ latest n)) here left st0 x
latest_stops rs go element target here left st st0 x ih zero h e =
    subst (λ c. WalkStop (element c) rs (target c) here left st0 x) (sym (append_none here)) (ih here st h e)
latest_stops rs go element target here left st st0 x ih (suc n) h e =
    into_it (tried here by_latest (header_stop by_latest left) st (λ st. go (here ++ number n ∷ []) st) x e)
  where
    into_it : Tried here by_latest (header_stop by_latest left) st (λ st. go (here ++ number n ∷ []) st) x
        → WalkStop (element (here ++ number n ∷ [])) rs (number n ∷ target (here ++ number n ∷ [])) here left st0 x
    into_it (unfit u i) = inl (stop_here st st0 here by_latest left goes_by refl h u i)
    into_it (fit u f) = lift_number n (ih (here ++ number n ∷ []) (mark here by_latest ∷ st)
        (deeper_same st st0 here (number n) by_latest h) f)

-- the same after a key, by the number of the elements that stand there
key_stops : (rs : Rows) (go : Path → List Mark → Outcome (List Mark)) (element : Path → Option ℕ)
    (target : Path → Path) (cut : Path) (k : List ℕ) (left : ℕ) (st st0 : List Mark) (x : Stop) → Sized st0
    → SameFrom cut st st0
    → ((c : Path) (st : List Mark) → SameFrom c st st0 → go c st ≡ stops x
    → WalkStop (element c) rs (target c) c left st0 x)
    → and_on (try_header cut passed (suc left) st)
    (λ st. try_latest go (cut ++ key k ∷ []) left (count_at st (cut ++ key k ∷ [])) st) ≡ stops x
    → WalkStop (element (cut ++ key k ∷ latest (added_at st0 (cut ++ key k ∷ [])))) rs
    (key k ∷ (latest (added_at st0 (cut ++ key k ∷ []))
    ++ target (cut ++ key k ∷ latest (added_at st0 (cut ++ key k ∷ []))))) cut (suc left) st0 x
key_stops rs go element target cut k left st st0 x z h ih e =
    on_key (tried cut passed (header_stop passed (suc left)) st follow x e)
  where
    here : Path
    here = cut ++ key k ∷ []

    n : ℕ
    n = added_at st0 here

    follow : List Mark → Outcome (List Mark)
    follow st = try_latest go here left (count_at st here) st

    past : List Mark
    past = mark cut passed ∷ st

    on_key : Tried cut passed (header_stop passed (suc left)) st follow x
        → WalkStop (element (cut ++ key k ∷ latest n)) rs (key k ∷ (latest n ++ target (cut ++ key k ∷ latest n))) cut
        (suc left) st0 x
    on_key (unfit u i) = inl (stop_here st st0 cut passed (suc left) passes refl h u i)
    on_key (fit u f) =
        let s : SameFrom here past st0 = deeper_same st st0 cut (key k) passed h in
        subst (λ c. WalkStop (element c) rs (key k ∷ (latest n ++ target c)) cut (suc left) st0 x)
        (append_assoc cut (key k ∷ []) (latest n))
        (lift_key k (latest_stops rs go element target here left past st0 x ih n s
        (ap (λ n. try_latest go here left n past) (sym (count_same past st0 here z s)) ∙ f)))

-- THE WALK, from a cut on
pub walk_stops : (a : Bool) (rs : Rows) (cut : Path) (keys : KeyTexts) (st st0 : List Mark) (x : Stop) → Sized st0
    → SameFrom cut st st0 → try_walk a rs cut keys st ≡ stops x
    → WalkStop (element_from (λ p. added_at st0 p) a cut keys) rs (target_from (λ p. added_at st0 p) a cut keys) cut
    (length keys) st0 x
walk_stops a rs cut [] st st0 x z h e = table_stops rs cut st st0 x h e
walk_stops true rs cut (k ∷ []) st st0 x z h e = go (tried cut passed (header_stop passed 1) st follow x e)
  where
    here : Path
    here = cut ++ key k ∷ []

    follow : List Mark → Outcome (List Mark)
    follow st = try_element rs here st

    go : Tried cut passed (header_stop passed 1) st follow x
        → WalkStop (Some (added_at st0 here)) rs (key k ∷ []) cut 1 st0 x
    go (unfit u i) = inl (stop_here st st0 cut passed 1 passes refl h u i)
    go (fit u f) =
        lift_key k (element_stops rs here (mark cut passed ∷ st) st0 x z (deeper_same st st0 cut (key k) passed h) f)
walk_stops false rs cut (k ∷ []) st st0 x z h e =
    subst (λ t. WalkStop None rs (key k ∷ t) cut 1 st0 x) (append_none (latest (added_at st0 (cut ++ key k ∷ []))))
    (key_stops rs (λ p st. try_table p rs st) (λ c. None) (λ c. []) cut k 0 st st0 x z h
    (λ c st h e. table_stops rs c st st0 x h e) e)
walk_stops a rs cut (k ∷ l ∷ keys) st st0 x z h e =
    key_stops rs (λ p st. try_walk a rs p (l ∷ keys) st) (λ c. element_from (λ p. added_at st0 p) a c (l ∷ keys))
    (λ c. target_from (λ p. added_at st0 p) a c (l ∷ keys)) cut k (length (l ∷ keys)) st st0 x z h
    (λ c st h e. walk_stops a rs c (l ∷ keys) st st0 x z h e) e
