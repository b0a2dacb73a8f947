-- A row stops at one of its keys, where a mark stood that does not go with it.
use Rattle.std.proofs.Common.{◌≡◌, ℕ, zero, suc, ◌<◌, Bool, true, false, List, [], ◌∷◌, ◌++◌, Option, Some, None, refl}
use Rattle.std.proofs.Common.{ap, sym, ◌∙◌, append_assoc, arith, length, take}
use Rattle.std.specs.Prelude.{◌-◌, not, if◌then◌else◌}
use Rattle.std.proofs.lemmas.Bool.{false≢true, and_from}
use Rattle.basic_toml_value.specs.Data.{Data}
use Rattle.basic_toml_grammar.specs.Sections.{Key, KeyTexts, texts, Rows}
use Rattle.basic_toml_grammar.specs.Steps.{key, Path, steps_of}
use Rattle.basic_toml_grammar.specs.Marks.{MarkKind, passed, by_latest, named, added, dotted, valued, Mark, mark}
use Rattle.basic_toml_grammar.specs.Marks.{hits, refuses}
use Rattle.basic_toml_grammar.specs.Standing.{Standing, table, array, value, fits, standing_at}
use Rattle.basic_toml_grammar.specs.NamedClash.{nth_key, last_key, first_of_several}
use Rattle.basic_toml_grammar.specs.Stops.{Stop, at_row, last_stop, Outcome, goes_on, stops, try_mark, try_row}
use Rattle.basic_toml_grammar.proofs.AmongElements.{Among}
use Rattle.basic_toml_grammar.proofs.Clash.StepTestsDecide.{paths_same}
use Rattle.basic_toml_grammar.proofs.Clash.WhatSectionsSay.{KeysSay, value_here, dots_here, deeper}
use Rattle.basic_toml_grammar.proofs.Clash.MarksAreWhatIsSaid.{here_any}
use Rattle.basic_toml_grammar.proofs.Clash.MarksFit.{Tells}
use Rattle.basic_toml_grammar.proofs.Clash.PathsAgree.{append_none}
use Rattle.basic_toml_grammar.proofs.Clash.WhatStandsWasMarked.{Shown, shown}
use Rattle.basic_toml_grammar.proofs.Naming.WhereHeadersStop.{is_header, below_same, Tried, unfit, fit, tried}
use Rattle.basic_toml_grammar.proofs.Clash.MarksTellPlaces.{RowOf, keys_row}

-- the steps of the first keys of a row
abbrev pub steps_to_key : ℕ → List Key → Path
steps_to_key m keys = steps_of (texts (take (suc m) keys))

abbrev pub keys_before : ℕ → List Key → KeyTexts
keys_before m keys = texts (take m keys)

-- the key with this number is the last
pub record AtEnd (keys : List Key) (m : ℕ) : Type 0 where
  pub last : last_key keys ≡ nth_key m keys
  pub first : first_of_several keys ≡ take 1 (keys_before m keys)
  pub count : length keys - 1 ≡ m

-- what the stop tells
abbrev pub Told : KeyTexts → List Key → ℕ → Option Standing → MarkKind → Stop → Type 0
Told before keys m s dotted x = x ≡ at_row (before ++ keys_before m keys) (nth_key m keys)
Told before keys m s k x = (x ≡ last_stop (before ++ keys_before m keys) (nth_key m keys) s) × AtEnd keys m

pub record KeyStop (p : Path) (before : KeyTexts) (keys : List Key) (v : Data) (st : List Mark) (x : Stop) : Type 0 where
  pub at : ℕ
  pub kind : MarkKind
  pub says : KeysSay v (texts keys) (steps_to_key at keys) kind
  pub unfit : fits kind (standing_at st (p ++ steps_to_key at keys)) ≡ false
  pub cleared : (l : ℕ) → l < at → fits dotted (standing_at st (p ++ steps_to_key l keys)) ≡ true
  pub told : Told before keys at (standing_at st (p ++ steps_to_key at keys)) kind x

abbrev stop_of : Stop → Outcome (List Mark) → Stop
stop_of x (stops y) = y
stop_of x (goes_on st) = x

-- one mark
record Unfit (p : Path) (k : MarkKind) (name : Option Standing → Stop) (st : List Mark) (x : Stop) : Type 0 where
  off : fits k (standing_at st p) ≡ false
  is : x ≡ name (standing_at st p)

tried_one : (p : Path) (k : MarkKind) (name : Option Standing → Stop) (st : List Mark) (x : Stop)
    → try_mark p k name st ≡ stops x → Unfit p k name st x
tried_one p k name st x e = go (fits k (standing_at st p)) refl e
  where
    go : (b : Bool) → fits k (standing_at st p) ≡ b
        → (if b then goes_on (mark p k ∷ st) else stops (name (standing_at st p))) ≡ stops x → Unfit p k name st x
    go true h e = cc
    go false h e = record { off = h; is = ap (stop_of x) (sym e) }

none_before : (l : ℕ) → l < 0 → (A : Type 0) → A
none_before l h A = absurd (omega arith)

told_on : (k : Key) (keys : List Key) (before : KeyTexts) (m : ℕ) (s t : Option Standing) (kind : MarkKind) (x : Stop)
    → is_header kind ≡ false → s ≡ t → (l : Key) (ls : List Key) → keys ≡ l ∷ ls
    → Told (before ++ k.text ∷ []) keys m s kind x → Told before (k ∷ keys) (suc m) t kind x
told_on k keys before m s t dotted x h e l ls f i =
    i ∙ ap (λ b. at_row b (nth_key m keys)) (append_assoc before (k.text ∷ []) (keys_before m keys))
told_on k keys before m s t (valued v) x h e l ls f i = (
  i.0 ∙ ap (λ b. last_stop b (nth_key m keys) s) (append_assoc before (k.text ∷ []) (keys_before m keys))
      ∙ ap (λ s. last_stop (before ++ k.text ∷ keys_before m keys) (nth_key m keys) s) e,
  record { last = whole ∙ i.1.last; first = several; count = counted },
)
  where
    whole : last_key (k ∷ keys) ≡ last_key keys
    whole = ap (λ ks. last_key (k ∷ ks)) f ∙ ap last_key (sym f)

    several : first_of_several (k ∷ keys) ≡ k.text ∷ []
    several = ap (λ ks. first_of_several (k ∷ ks)) f

    counted : length (k ∷ keys) - 1 ≡ suc m
    counted = let c : length keys - 1 ≡ m = i.1.count in
        let d : length keys ≡ suc (length ls) = ap length f in omega arith
told_on k keys before m s t passed x h e l ls f i = absurd (false≢true (sym h))
told_on k keys before m s t by_latest x h e l ls f i = absurd (false≢true (sym h))
told_on k keys before m s t named x h e l ls f i = absurd (false≢true (sym h))
told_on k keys before m s t added x h e l ls f i = absurd (false≢true (sym h))

-- a row that stops
pub key_stops : (p : Path) (before : KeyTexts) (keys : List Key) (v : Data) (st : List Mark) (x : Stop)
    → try_row p before keys v st ≡ stops x → KeyStop p before keys v st x
key_stops p before [] v st x e =
    let u : Unfit p (valued v) (last_stop before (last_key [])) st x =
    tried_one p (valued v) (last_stop before (last_key [])) st x e in
    record {
      at = 0;
      kind = valued v;
      says = value_here;
      unfit = ap (λ q. fits (valued v) (standing_at st q)) (append_none p) ∙ u.off;
      cleared = λ l h. none_before l h _;
      told = (
        u.is ∙ ap (λ b. last_stop b (last_key []) (standing_at st p)) (sym (append_none before)) ∙
            ap (λ q. last_stop (before ++ []) (last_key []) (standing_at st q)) (sym (append_none p)),
        record { last = refl; first = refl; count = refl },
      );
    }
key_stops p before (k ∷ []) v st x e =
    let u : Unfit (p ++ key k.text ∷ []) (valued v) (last_stop before k) st x =
    tried_one (p ++ key k.text ∷ []) (valued v) (last_stop before k) st x e in
    record {
      at = 0;
      kind = valued v;
      says = deeper value_here;
      unfit = u.off;
      cleared = λ l h. none_before l h _;
      told = (
        u.is ∙ ap (λ b. last_stop b k (standing_at st (p ++ key k.text ∷ []))) (sym (append_none before)),
        record { last = refl; first = refl; count = refl },
      );
    }
key_stops p before (k ∷ l ∷ ks) v st x e =
    go (λ e. key_stops here (before ++ k.text ∷ []) (l ∷ ks) v (mark here dotted ∷ st) x e)
    (tried here dotted (λ m. at_row before k) st (λ st. try_row here (before ++ k.text ∷ []) (l ∷ ks) v st) x e)
  where
    here : Path
    here = p ++ key k.text ∷ []

    same : (m : ℕ) → standing_at (mark here dotted ∷ st) (here ++ steps_to_key m (l ∷ ks))
        ≡ standing_at st (p ++ steps_to_key (suc m) (k ∷ l ∷ ks))
    same m = below_same here dotted st (key l.text) (steps_of (texts (take m ks)))
        ∙ ap (λ q. standing_at st q) (append_assoc p (key k.text ∷ []) (steps_to_key m (l ∷ ks)))

    on : KeyStop here (before ++ k.text ∷ []) (l ∷ ks) v (mark here dotted ∷ st) x
        → fits dotted (standing_at st here) ≡ true → KeyStop p before (k ∷ l ∷ ks) v st x
    on r f = record {
      at = suc r.at;
      kind = r.kind;
      says = deeper r.says;
      unfit = ap (fits r.kind) (sym (same r.at)) ∙ r.unfit;
      cleared = λ i. clear i;
      told =
          told_on k (l ∷ ks) before r.at (standing_at (mark here dotted ∷ st) (here ++ steps_to_key r.at (l ∷ ks)))
          (standing_at st (p ++ steps_to_key (suc r.at) (k ∷ l ∷ ks))) r.kind x (keys_row r.says) (same r.at) l ks refl
          r.told;
    }
      where
        clear : (i : ℕ) → i < suc r.at → fits dotted (standing_at st (p ++ steps_to_key i (k ∷ l ∷ ks))) ≡ true
        clear zero h = f
        clear (suc i) h = ap (fits dotted) (sym (same i)) ∙ r.cleared i (omega arith)

    go : (try_row here (before ++ k.text ∷ []) (l ∷ ks) v (mark here dotted ∷ st) ≡ stops x
        → KeyStop here (before ++ k.text ∷ []) (l ∷ ks) v (mark here dotted ∷ st) x)
        → Tried here dotted (λ m. at_row before k) st (λ st. try_row here (before ++ k.text ∷ []) (l ∷ ks) v st) x
        → KeyStop p before (k ∷ l ∷ ks) v st x
    go ih (unfit u i) = record {
      at = 0;
      kind = dotted;
      says = dots_here;
      unfit = u;
      cleared = λ l h. none_before l h _;
      told = i ∙ ap (λ b. at_row b k) (sym (append_none before));
    }
    go ih (fit u f) = on (ih f) u

-- which mark stood, against which of the row, and what the stop tells
pub data Reason (keys : List Key) (m : ℕ) (x : Stop) : MarkKind → MarkKind → Type 0 where
  names_it : x ≡ at_row (keys_before m keys) (nth_key m keys) → Reason keys m x named dotted
  adds_it : x ≡ at_row (keys_before m keys) (nth_key m keys) → Reason keys m x added dotted
  ends_before : {w : Data} → x ≡ at_row (keys_before m keys) (nth_key m keys) → Reason keys m x (valued w) dotted
  on_its_way : {v : Data} {k : MarkKind} → is_header k ≡ true
      → x ≡ at_row (keys_before m keys) (nth_key m keys) → AtEnd keys m → Reason keys m x k (valued v)
  repeats_it : {v : Data} {k : MarkKind} → is_header k ≡ false
      → x ≡ at_row (take 1 (keys_before m keys)) (nth_key m keys) → AtEnd keys m → Reason keys m x k (valued v)

pub record RowHit (p : Path) (rs : Rows) (st : List Mark) (x : Stop) : Type 0 where
  pub keys : List Key
  pub value : Data
  pub row : RowOf rs keys value
  pub at : ℕ
  pub kind : MarkKind
  pub says : KeysSay value (texts keys) (steps_to_key at keys) kind
  pub other : MarkKind
  pub stood : Among (mark (p ++ steps_to_key at keys) other) st
  pub reason : Reason keys at x other kind
  pub unnamed : (l : ℕ) → l < at → Among (mark (p ++ steps_to_key l keys) named) st → ⊥

-- what stands where dots fit is not named
pub not_named : (q : Path) (st : List Mark) → Tells st → fits dotted (standing_at st q) ≡ true
    → Among (mark q named) st → ⊥
not_named q st t f a =
    let r : refuses st (mark q dotted) ≡ true =
    here_any (λ x. hits x (mark q dotted)) a (and_from _ _ (paths_same q) refl) in
    false≢true (ap not (sym r) ∙ sym (t q dotted) ∙ f)

reason_of : (keys : List Key) (m : ℕ) (x : Stop) (st : List Mark) (q : Path) (k : MarkKind) (s : Option Standing)
    → is_header k ≡ false → fits k s ≡ false → Told [] keys m s k x → Shown st q s
    → (c : MarkKind) × Among (mark q c) st × Reason keys m x c k
reason_of keys m x st q passed s h f i y = absurd (false≢true (sym h))
reason_of keys m x st q by_latest s h f i y = absurd (false≢true (sym h))
reason_of keys m x st q named s h f i y = absurd (false≢true (sym h))
reason_of keys m x st q added s h f i y = absurd (false≢true (sym h))
reason_of keys m x st q dotted None h f i y = absurd (false≢true (sym f))
reason_of keys m x st q dotted (Some value) h f i y = (valued y.0, y.1, ends_before i)
reason_of keys m x st q dotted (Some (array zero)) h f i y = absurd (false≢true (sym f))
reason_of keys m x st q dotted (Some (array (suc n))) h f i y = (added, y, adds_it i)
reason_of keys m x st q dotted (Some (table p true d)) h f i y = (named, y.names refl, names_it i)
reason_of keys m x st q dotted (Some (table p false d)) h f i y = absurd (false≢true (sym f))
reason_of keys m x st q (valued v) None h f i y = absurd (false≢true (sym f))
reason_of keys m x st q (valued v) (Some value) h f i y = (valued y.0, y.1, repeats_it refl i.0 i.1)
reason_of keys m x st q (valued v) (Some (array zero)) h f i y = (by_latest, y, on_its_way refl i.0 i.1)
reason_of keys m x st q (valued v) (Some (array (suc n))) h f i y = (added, y, on_its_way refl i.0 i.1)
reason_of keys m x st q (valued v) (Some (table true n d)) h f i y = (passed, y.passes refl, on_its_way refl i.0 i.1)
reason_of keys m x st q (valued v) (Some (table false true d)) h f i y = (named, y.names refl, on_its_way refl i.0 i.1)
reason_of keys m x st q (valued v) (Some (table false false true)) h f i y =
    (dotted, y.dots refl, repeats_it refl i.0 i.1)
reason_of keys m x st q (valued v) (Some (table false false false)) h f i y = absurd (false≢true (y.some refl refl))

pub row_hit : {rs : Rows} (p : Path) (keys : List Key) (v : Data) (st : List Mark) (x : Stop) → Tells st
    → RowOf rs keys v → try_row p [] keys v st ≡ stops x → RowHit p rs st x
row_hit {rs = rs} p keys v st x t r e = go (key_stops p [] keys v st x e)
  where
    go : KeyStop p [] keys v st x → RowHit p rs st x
    go h =
        let c : (c : MarkKind) × Among (mark (p ++ steps_to_key h.at keys) c) st × Reason keys h.at x c h.kind =
        reason_of keys h.at x st (p ++ steps_to_key h.at keys) h.kind
        (standing_at st (p ++ steps_to_key h.at keys)) (keys_row h.says) h.unfit h.told
        (shown st (p ++ steps_to_key h.at keys)) in
        record {
          keys = keys;
          value = v;
          row = r;
          at = h.at;
          kind = h.kind;
          says = h.says;
          other = c.0;
          stood = c.1;
          reason = c.2;
          unnamed = λ l i. not_named (p ++ steps_to_key l keys) st t (h.cleared l i);
        }
