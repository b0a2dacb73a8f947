-- The tokens of a number that is not at fault, or of `true` and `false`: they lead through a word, and it ends in the same
-- place in each text that is the same up to the sign behind it.
use Rattle.std.proofs.Common.{◌≡◌, ◌⊎◌, inl, inr, ℕ, ◌+◌, ◌<◌, ◌≤◌, ◌==◌, Bool, true, false, cond, List, [], ◌∷◌}
use Rattle.std.proofs.Common.{refl, ap, sym, ◌∙◌, subst, length, arith, Option, Some, None, codes, eqb-true}
use Rattle.std.specs.Option.{option_or}
use Rattle.std.specs.List.{list_any}
use Rattle.std.specs.Str.{bytes_eq}
use Rattle.std.proofs.lemmas.Bool.{false≢true, or_cases}
use Rattle.std.proofs.lemmas.Slice.Eq.{bytes_eq-Decides}
use Rattle.basic_toml_tokens.specs.Text.{Text, offset_in, run, after_run, is_keylike}
use Rattle.basic_toml_tokens.specs.TokenAt as token
use Rattle.basic_toml_tokens.specs.TokenAt.{Lexeme, keylike}
use Rattle.basic_toml_numbers.specs.Numbers.{after_part, is_exponent_letter}
use Rattle.basic_toml_grammar.specs.Grammar.{is_wordlike}
use Rattle.basic_toml_grammar.specs.Reader.{char_at}
use Rattle.basic_toml_grammar.specs.NumberFaults.{without_minus, is_prefixed, takes_no_plus, plus_fault, begins_number, outside}
use Rattle.basic_toml_grammar.specs.NumberFaults.{plus_word_fault, plus_power_fault, exponent_fault}
use Rattle.basic_toml_grammar.specs.NumberFaults.{signed_part_fault, float_fault, fraction_parts_fault}
use Rattle.basic_toml_grammar.specs.NumberFaults.{after_period_fault, unmarked_fault, word_fault, number_fault}
use Rattle.basic_toml_grammar.specs.NumberTokens.{plus_rest, mark_rest, period_rest, word_rest, number_rest}
use Rattle.basic_toml_grammar.specs.NumberTokens.{IsWhole, boolean, number, signed}
use Rattle.basic_toml_grammar.proofs.Grammar.EndChangesNothing.{Parts, at_end, past}
use Rattle.basic_toml_grammar.proofs.Grammar.FrontsOfTexts.{parts_same}
use Rattle.basic_toml_grammar.proofs.Grammar.ReaderIsSound.{sign_read}
use Rattle.basic_toml_grammar.proofs.Grammar.StringsAreRead.{length_run}
use Rattle.basic_toml_grammar.proofs.Completion.TokensPass.{Led, LedBy, after, by, SoundWord, joint, run_within}
use Rattle.basic_toml_grammar.proofs.Viable.NumbersOnTheWay.{InWord, within}

-- Keylike tokens, periods and pluses lead there, and the last of them is keylike.
pub data Through : Text → Text → Type 0 where
  last : {x : ℕ × ℕ} {text : Text} → is_keylike x.1 ≡ true → Through (x ∷ text) (after_run is_keylike (x ∷ text))
  more : {x : ℕ × ℕ} {text stop : Text} → is_keylike x.1 ≡ true → Through (after_run is_keylike (x ∷ text)) stop
      → Through (x ∷ text) stop
  sign : {x : ℕ × ℕ} {text stop : Text} → is_wordlike x.1 ≡ true → is_keylike x.1 ≡ false → Through text stop
      → Through (x ∷ text) stop

abbrev pub is_word : Lexeme → Bool
is_word (keylike _) = true
is_word _ = false

pub led_through : {start front text stop : Text} {end : ℕ} → Led start end text → InWord front text
    → SoundWord start end front → Through text stop → LedBy start end is_word stop
led_through r q sound (last {x = x} k) = by r (token.word {p = x.0} {c = x.1} refl k) (sound _ q) refl
led_through r q sound (more {x = x} {text = text} k t) =
    led_through (after r (token.word {p = x.0} {c = x.1} refl k) (sound _ q)) (run_within (x ∷ text) q) sound t
led_through r q sound (sign {x = x} w k t) =
    let (l, s, g) = joint x.1 w k in
    led_through (after r (token.punctuation {p = x.0} {c = x.1} refl s) (sound _ q)) (within q w) sound t

pub within_through : {front text stop : Text} → InWord front text → Through text stop → InWord front stop
within_through q (last {x = x} {text = text} k) = run_within (x ∷ text) q
within_through q (more {x = x} {text = text} k t) = within_through (run_within (x ∷ text) q) t
within_through q (sign w k t) = within_through (within q w) t

-- some of it stands before
pub through_shorter : {text stop : Text} → Through text stop → length stop < length text
through_shorter (last {x = x} {text = text} k) =
    let there : after_run is_keylike (x ∷ text) ≡ after_run is_keylike text =
    ap (λ (b : Bool). cond b (after_run is_keylike text) (x ∷ text)) k in
    omega (arith, ap length there, length_run is_keylike text)
through_shorter (more {x = x} {text = text} k t) =
    let l = through_shorter t in omega (arith, l, length_run is_keylike (x ∷ text))
through_shorter (sign w k t) = let l = through_shorter t in omega (arith, l)

-- a word that has characters
some_first : (t : Text) (c : ℕ) (cs : List ℕ) → run is_keylike t ≡ c ∷ cs
    → (x : ℕ × ℕ) × (text : Text) × (t ≡ x ∷ text) × (is_keylike x.1 ≡ true)
some_first [] c cs e = cc
some_first (x ∷ t) c cs e = (x, t, refl, go (is_keylike x.1) e)
  where
    go : (b : Bool) → cond b (x.1 ∷ run is_keylike t) [] ≡ c ∷ cs → b ≡ true
    go true e = refl
    go false e = cc

last_word : (t : Text) (c : ℕ) (cs : List ℕ) → run is_keylike t ≡ c ∷ cs → Through t (after_run is_keylike t)
last_word t c cs e =
    let (x, text, here, k) = some_first t c cs e in
    subst (λ (t : Text). Through t (after_run is_keylike t)) (sym here) (last k)

word_on : (t stop : Text) (c : ℕ) (cs : List ℕ) → run is_keylike t ≡ c ∷ cs → Through (after_run is_keylike t) stop
    → Through t stop
word_on t stop c cs e r =
    let (x, text, here, k) = some_first t c cs e in
    subst (λ (t : Text). Through t stop) (sym here)
    (more k (subst (λ (t : Text). Through (after_run is_keylike t) stop) here r))

sign_on : (c : ℕ) (t stop : Text) (s : ℕ × Text) → char_at c t ≡ Some s → is_wordlike c ≡ true → is_keylike c ≡ false
    → Through s.1 stop → Through t stop
sign_on c t stop s e w k r =
    subst (λ (t : Text). Through t stop) (sym (sign_read c t s e)) (sign {x = (s.0, c)} w k r)

-- behind a word, an exponent that ends in it or goes on behind a plus
exponent_through : (end start at : ℕ) (t : Text) (c : ℕ) (cs : List ℕ) → run is_keylike t ≡ c ∷ cs
    → (left : List ℕ) → exponent_fault end start at left (after_run is_keylike t) ≡ None
    → Through t (mark_rest left (after_run is_keylike t))
exponent_through end start at t c cs e [] none = last_word t c cs e
exponent_through end start at t c cs e (d ∷ []) none = go (is_exponent_letter d) none
  where
    r : Text
    r = after_run is_keylike t

    word : (s : ℕ × Text) → char_at 43 r ≡ Some s → (v : List ℕ) → run is_keylike s.1 ≡ v
        → plus_word_fault (offset_in end s.1) start v ≡ None → Through t (after_run is_keylike s.1)
    word s f [] g none = cc
    word s f (d ∷ ds) g none =
        word_on t (after_run is_keylike s.1) c cs e
        (sign_on 43 r (after_run is_keylike s.1) s f refl refl (last_word s.1 d ds g))

    plus : (o : Option (ℕ × Text)) → char_at 43 r ≡ o → plus_power_fault end start o ≡ None
        → Through t (plus_rest o r)
    plus None f none = cc
    plus (Some s) f none = word s f (run is_keylike s.1) refl none

    go : (b : Bool) → cond b (plus_power_fault end start (char_at 43 r)) (Some start) ≡ None
        → Through t (plus_rest (char_at 43 r) r)
    go false none = cc
    go true none = plus (char_at 43 r) refl none
exponent_through end start at t c cs e (d ∷ f ∷ ds) none = last_word t c cs e

second : {A : Type 0} (a b : Option A) → option_or a b ≡ None → b ≡ None
second None b e = e
second (Some x) b e = cc

word_through : (end start : ℕ) (t : Text) (c : ℕ) (cs : List ℕ) → run is_keylike t ≡ c ∷ cs
    → word_fault end start (c ∷ cs) (after_run is_keylike t) ≡ None
    → Through t (word_rest (c ∷ cs) (after_run is_keylike t))
word_through end start t c cs e none = go (is_prefixed (c ∷ cs)) (list_any is_exponent_letter (c ∷ cs)) none
  where
    w : List ℕ
    w = c ∷ cs

    r : Text
    r = after_run is_keylike t

    fraction : (s : ℕ × Text) → char_at 46 r ≡ Some s → (f : List ℕ) → run is_keylike s.1 ≡ f
        → after_period_fault end start (c ∷ cs) f s.1 ≡ None
        → Through t (mark_rest (after_part f) (after_run is_keylike s.1))
    fraction s g [] h none = cc
    fraction s g (d ∷ ds) h none =
        let stop = mark_rest (after_part (d ∷ ds)) (after_run is_keylike s.1) in
        word_on t stop c cs e (sign_on 46 r stop s g refl refl
        (exponent_through end start _ s.1 d ds h (after_part (d ∷ ds))
        (second (fraction_parts_fault start (c ∷ cs) (offset_in end s.1) (d ∷ ds)) _ none)))

    plain : (o : Option (ℕ × Text)) → char_at 46 r ≡ o → unmarked_fault end start (c ∷ cs) o ≡ None
        → Through t (period_rest o r)
    plain None g none = last_word t c cs e
    plain (Some s) g none = fraction s g (run is_keylike s.1) refl none

    go : (p m : Bool) → cond p (outside (start + 2) (c ∷ cs)) (cond m (float_fault end start (c ∷ cs) r)
        (unmarked_fault end start (c ∷ cs) (char_at 46 r))) ≡ None
        → Through t (cond p r (cond m (mark_rest (after_part (without_minus (c ∷ cs))) r)
        (period_rest (char_at 46 r) r)))
    go true m none = last_word t c cs e
    go false true none =
        exponent_through end start _ t c cs e (after_part (without_minus (c ∷ cs)))
        (second (signed_part_fault false start (c ∷ cs)) _ none)
    go false false none = plain (char_at 46 r) refl none

pub number_through : {end : ℕ} {text : Text} → IsWhole end text → Through text (number_rest text)
number_through {end = end} (boolean {x = x} {text = t} e) =
    go (or_cases (bytes_eq (run is_keylike (x ∷ t)) (codes "true")) (bytes_eq (run is_keylike (x ∷ t)) (codes "false")) e)
  where
    same : (c : ℕ) (cs : List ℕ) → run is_keylike (x ∷ t) ≡ c ∷ cs → (c == 43) ≡ false
        → ((r : Text) → word_rest (c ∷ cs) r ≡ r) → Through (x ∷ t) (number_rest (x ∷ t))
    same c cs w n r =
        let first : x.1 ≡ c = by (is_keylike x.1) w in
        let rest : number_rest (x ∷ t) ≡ after_run is_keylike (x ∷ t) =
        ap (λ (b : Bool). cond b (word_rest (run is_keylike t) (after_run is_keylike t))
        (word_rest (run is_keylike (x ∷ t)) (after_run is_keylike (x ∷ t)))) (ap (λ (c : ℕ). c == 43) first ∙ n)
        ∙ ap (λ (v : List ℕ). word_rest v (after_run is_keylike (x ∷ t))) w ∙ r (after_run is_keylike (x ∷ t)) in
        subst (Through (x ∷ t)) (sym rest) (last_word (x ∷ t) c cs w)
      where
        by : (b : Bool) → cond b (x.1 ∷ run is_keylike t) [] ≡ c ∷ cs → x.1 ≡ c
        by true e = cc
        by false e = cc

    go : (bytes_eq (run is_keylike (x ∷ t)) (codes "true") ≡ true)
        ⊎ (bytes_eq (run is_keylike (x ∷ t)) (codes "false") ≡ true)
        → Through (x ∷ t) (number_rest (x ∷ t))
    go (inl h) = same 116 (codes "rue") ((bytes_eq-Decides (run is_keylike (x ∷ t)) (codes "true")).0 h) refl (λ r. refl)
    go (inr h) =
        same 102 (codes "alse") ((bytes_eq-Decides (run is_keylike (x ∷ t)) (codes "false")).0 h) refl (λ r. refl)
number_through {end = end} (number {x = x} {text = t} b none) = go (x.1 == 43) refl (run is_keylike (x ∷ t)) refl b none
  where
    go : (p : Bool) → (x.1 == 43) ≡ p → (v : List ℕ) → run is_keylike (x ∷ t) ≡ v → begins_number v ≡ true
        → number_fault end (x ∷ t) ≡ None
        → Through (x ∷ t) (cond p (word_rest (run is_keylike t) (after_run is_keylike t))
        (word_rest v (after_run is_keylike (x ∷ t))))
    go p f [] h b none = cc
    go true f (c ∷ cs) h b none =
        let (y, u, here, k) = some_first (x ∷ t) c cs h in
        let heads : x ≡ y = cc in
        let no : false ≡ true = ap is_keylike (sym (eqb-true x.1 43 f)) ∙ ap (λ (y : ℕ × ℕ). is_keylike y.1) heads ∙ k in
        absurd (false≢true no)
    go false f (c ∷ cs) h b none =
        word_through end x.0 (x ∷ t) c cs h
        (sym (ap (λ (p : Bool). cond p (plus_fault end (run is_keylike t) t)
        (cond (begins_number (run is_keylike (x ∷ t)))
        (word_fault end x.0 (run is_keylike (x ∷ t)) (after_run is_keylike (x ∷ t))) None)) f
        ∙ ap (λ (v : List ℕ). cond (begins_number v) (word_fault end x.0 v (after_run is_keylike (x ∷ t))) None) h
        ∙ ap (λ (p : Bool). cond p (word_fault end x.0 (c ∷ cs) (after_run is_keylike (x ∷ t))) None) b) ∙ none)
number_through {end = end} (signed {p = p} {text = t} none) = go (run is_keylike t) refl none
  where
    go : (v : List ℕ) → run is_keylike t ≡ v
        → cond (takes_no_plus v) (Some (offset_in end t)) (word_fault end (offset_in end t) v (after_run is_keylike t))
        ≡ None
        → Through ((p, 43) ∷ t) (word_rest v (after_run is_keylike t))
    go [] h none = cc
    go (c ∷ cs) h none =
        sign {x = (p, 43)} refl refl (word_through end (offset_in end t) t c cs h (taken (takes_no_plus (c ∷ cs)) none))
      where
        taken : (b : Bool) → cond b (Some (offset_in end t)) (word_fault end (offset_in end t) (c ∷ cs) (after_run is_keylike t)) ≡ None
            → word_fault end (offset_in end t) (c ∷ cs) (after_run is_keylike t) ≡ None
        taken true e = cc
        taken false e = e

-- In each text that is the same up to a period or a plus, the number ends there, too.
module _ (y : ℕ × ℕ) (s s' : Text) (no_key : is_keylike y.1 ≡ false) where
  abbrev Same : Text → Text → Type 0
  Same t o = Parts (y ∷ s) (y ∷ s') t o

  closes : {t o : Text} → Same t o → t ≡ y ∷ s → o ≡ y ∷ s'
  closes k e = parts_same k (at_end e refl)

  run_kept : {t o : Text} → Same t o
      → (run is_keylike o ≡ run is_keylike t) × Same (after_run is_keylike t) (after_run is_keylike o)
  run_kept (at_end e f) =
      let stops : (z : Text) → after_run is_keylike (y ∷ z) ≡ y ∷ z =
      λ z. ap (λ (b : Bool). cond b (after_run is_keylike z) (y ∷ z)) no_key in
      let none : (z : Text) → run is_keylike (y ∷ z) ≡ [] =
      λ z. ap (λ (b : Bool). cond b (y.1 ∷ run is_keylike z) []) no_key in (
        ap (run is_keylike) f ∙ none s' ∙ sym (ap (run is_keylike) e ∙ none s),
        at_end (ap (after_run is_keylike) e ∙ stops s) (ap (after_run is_keylike) f ∙ stops s'),
      )
  run_kept (past {x = x} {text = t} {other = o} k) = go (is_keylike x.1) (run_kept k)
    where
      go : (b : Bool) → (run is_keylike o ≡ run is_keylike t) × Same (after_run is_keylike t) (after_run is_keylike o)
          → (cond b (x.1 ∷ run is_keylike o) [] ≡ cond b (x.1 ∷ run is_keylike t) [])
          × Same (cond b (after_run is_keylike t) (x ∷ t)) (cond b (after_run is_keylike o) (x ∷ o))
      go true r = (ap (λ (w : List ℕ). x.1 ∷ w) r.0, r.1)
      go false r = (refl, past k)

  none_kept : {t o : Text} (n : ℕ) → Same t o → char_at n t ≡ None → char_at n o ≡ None
  none_kept n (at_end e f) h = ap (char_at n) f ∙ by (y.1 == n) (sym (ap (char_at n) e) ∙ h)
    where
      by : (b : Bool) → cond {A = Option (ℕ × Text)} b (Some (y.0, s)) None ≡ None
          → cond {A = Option (ℕ × Text)} b (Some (y.0, s')) None ≡ None
      by false e = refl
      by true e = cc
  none_kept n (past {x = x} {text = t} {other = o} k) h = by (x.1 == n) h
    where
      by : (b : Bool) → cond {A = Option (ℕ × Text)} b (Some (x.0, t)) None ≡ None
          → cond {A = Option (ℕ × Text)} b (Some (x.0, o)) None ≡ None
      by false e = refl
      by true e = cc

  -- a sign before it
  record SignKept (n : ℕ) (r : ℕ × Text) (o : Text) : Type 0 where
    rest : Text
    there : char_at n o ≡ Some (r.0, rest)
    same : Same r.1 rest

  sign_kept : {t o : Text} (n : ℕ) (r : ℕ × Text) → Same t o → char_at n t ≡ Some r → length (y ∷ s) ≤ length r.1
      → SignKept n r o
  sign_kept n r (at_end e f) h l = absurd (by (y.1 == n) (sym (ap (char_at n) e) ∙ h))
    where
      by : (b : Bool) → cond b (Some (y.0, s)) None ≡ Some r → ⊥
      by false e = cc
      by true e = let same : (y.0, s) ≡ r = cc in let rest : s ≡ r.1 = ap (λ (q : ℕ × Text). q.1) same in
          omega (arith, l, ap length rest)
  sign_kept n r (past {x = x} {text = t} {other = o} k) h l = by (x.1 == n) refl h
    where
      by : (b : Bool) → (x.1 == n) ≡ b → cond b (Some (x.0, t)) None ≡ Some r → SignKept n r (x ∷ o)
      by false g e = cc
      by true g e =
          let same : (x.0, t) ≡ r = cc in
          subst (λ (r : ℕ × Text). SignKept n r (x ∷ o)) same (record {
            rest = o;
            there = ap (λ (b : Bool). cond b (Some (x.0, o)) None) g;
            same = k;
          })

  plus_kept : {t o : Text} → Same t o → (q : Option (ℕ × Text)) → char_at 43 t ≡ q → plus_rest q t ≡ y ∷ s
      → plus_rest (char_at 43 o) o ≡ y ∷ s'
  plus_kept {o = o} k None h e = ap (λ (q : Option (ℕ × Text)). plus_rest q o) (none_kept 43 k h) ∙ closes k e
  plus_kept {o = o} k (Some r) h e =
      let m = sign_kept 43 r k h (omega (arith, ap length e, length_run is_keylike r.1)) in
      ap (λ (q : Option (ℕ × Text)). plus_rest q o) m.there ∙ closes (run_kept m.same).1 e

  mark_kept : {t o : Text} (left : List ℕ) → Same t o → mark_rest left t ≡ y ∷ s → mark_rest left o ≡ y ∷ s'
  mark_kept [] k e = closes k e
  mark_kept {t = t} (c ∷ []) k e = plus_kept k (char_at 43 t) refl e
  mark_kept (c ∷ d ∷ ds) k e = closes k e

  mark_shorter : (left : List ℕ) (t : Text) → length (mark_rest left t) ≤ length t
  mark_shorter [] t = omega arith
  mark_shorter (c ∷ []) t = by (char_at 43 t) refl
    where
      by : (q : Option (ℕ × Text)) → char_at 43 t ≡ q → length (plus_rest q t) ≤ length t
      by None h = omega arith
      by (Some r) h = omega (arith, length_run is_keylike r.1, ap length (sign_read 43 t r h))
  mark_shorter (c ∷ d ∷ ds) t = omega arith

  period_kept : {t o : Text} → Same t o → (q : Option (ℕ × Text)) → char_at 46 t ≡ q → period_rest q t ≡ y ∷ s
      → period_rest (char_at 46 o) o ≡ y ∷ s'
  period_kept {o = o} k None h e = ap (λ (q : Option (ℕ × Text)). period_rest q o) (none_kept 46 k h) ∙ closes k e
  period_kept {o = o} k (Some r) h e =
      let l = mark_shorter (after_part (run is_keylike r.1)) (after_run is_keylike r.1) in
      let m = sign_kept 46 r k h (omega (arith, ap length e, l, length_run is_keylike r.1)) in
      let n = run_kept m.same in
      ap (λ (q : Option (ℕ × Text)). period_rest q o) m.there
      ∙ ap (λ (v : List ℕ). mark_rest (after_part v) (after_run is_keylike m.rest)) n.0
      ∙ mark_kept (after_part (run is_keylike r.1)) n.1 e

  word_kept : {t o : Text} (w : List ℕ) → Same t o → word_rest w t ≡ y ∷ s → word_rest w o ≡ y ∷ s'
  word_kept {t = t} {o = o} w k e = go (is_prefixed w) (list_any is_exponent_letter w) e
    where
      go : (p m : Bool)
          → cond p t (cond m (mark_rest (after_part (without_minus w)) t) (period_rest (char_at 46 t) t)) ≡ y ∷ s
          → cond p o (cond m (mark_rest (after_part (without_minus w)) o) (period_rest (char_at 46 o) o)) ≡ y ∷ s'
      go true m e = closes k e
      go false true e = mark_kept (after_part (without_minus w)) k e
      go false false e = period_kept k (char_at 46 t) refl e

  first_kept : {t o : Text} → Same t o → word_rest (run is_keylike t) (after_run is_keylike t) ≡ y ∷ s
      → word_rest (run is_keylike o) (after_run is_keylike o) ≡ y ∷ s'
  first_kept {t = t} {o = o} k e =
      let r = run_kept k in
      ap (λ (v : List ℕ). word_rest v (after_run is_keylike o)) r.0 ∙ word_kept (run is_keylike t) r.1 e

  pub number_kept : {t o : Text} (x : ℕ × ℕ) → Same t o → number_rest (x ∷ t) ≡ y ∷ s → number_rest (x ∷ o) ≡ y ∷ s'
  number_kept {t = t} {o = o} x k e = go (x.1 == 43) e
    where
      go : (b : Bool) → cond b (word_rest (run is_keylike t) (after_run is_keylike t))
          (word_rest (run is_keylike (x ∷ t)) (after_run is_keylike (x ∷ t))) ≡ y ∷ s
          → cond b (word_rest (run is_keylike o) (after_run is_keylike o))
          (word_rest (run is_keylike (x ∷ o)) (after_run is_keylike (x ∷ o))) ≡ y ∷ s'
      go true e = first_kept k e
      go false e = first_kept (past {x = x} k) e
