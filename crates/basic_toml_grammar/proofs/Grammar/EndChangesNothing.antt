-- What is read before an offset is read the same however the text goes on there, unless what was read would go on, too.
use Rattle.std.proofs.Common.{◌≡◌, ℕ, zero, suc, ◌+◌, ◌-◌, ◌≤◌, ◌==◌, ◌||◌, Bool, true, false, cond, List}
use Rattle.std.proofs.Common.{[], ◌∷◌, length, drop, take, refl, ap, sym, ◌∙◌, subst, arith}
use Rattle.std.specs.Prelude.{not}
use Rattle.basic_toml_tokens.specs.Text.{Text, StartsWith, run, after_run, is_blank, is_keylike}
use Rattle.basic_toml_tokens.specs.Strings.{is_quote}
use Rattle.basic_toml_grammar.specs.Copies.{up_to}
use Rattle.basic_toml_grammar.specs.Grammar.{after_comment_by, after_gap_from, is_wordlike}
use Rattle.std.proofs.lemmas.Bool.{or_left, or_right, or_parts, or_from, eqb-true, false≢true}

-- The texts are the same up to where the first goes on with `here` and the second with `there`.
pub data Parts (here there : Text) : Text → Text → Type 0 where
  at_end : {text other : Text} → text ≡ here → other ≡ there → Parts here there text other
  past : {x : ℕ × ℕ} {text other : Text} → Parts here there text other → Parts here there (x ∷ text) (x ∷ other)

pub beyond : {a b here there text other : Text} → Parts a b text other → Parts here there a b
    → Parts here there text other
beyond {a = a} {here = here} {there = there} {other = other} (at_end t o) k =
    subst (λ (t : Text). Parts here there t other) (sym t) (subst (λ (o : Text). Parts here there a o) (sym o) k)
beyond (past p) k = past (beyond p k)

-- so many characters of them are the same
parts_first : {here there text other : Text} → Parts here there text other
    → (n : ℕ) × (length text ≡ n + length here) × (length other ≡ n + length there)
    × ((m : ℕ) → m ≤ n → take m other ≡ take m text)
parts_first {text = text} {other = other} (at_end t o) =
    (0, omega (arith, ap length t), omega (arith, ap length o), none)
  where
    none : (m : ℕ) → m ≤ 0 → take m other ≡ take m text
    none zero h = refl
    none (suc m) h = absurd (omega arith)
parts_first (past {x = x} {text = text} {other = other} k) =
    let (n, t, o, f) = parts_first k in (suc n, omega (arith, t), omega (arith, o), on n f)
  where
    on : (n : ℕ) → ((m : ℕ) → m ≤ n → take m other ≡ take m text) → (m : ℕ) → m ≤ suc n
        → take m (x ∷ other) ≡ take m (x ∷ text)
    on n f zero h = refl
    on n f (suc m) h = ap (λ (t : Text). x ∷ t) (f m (omega arith))

-- and so are those up to a rest
pub up_to_same : {here there text other rest rest' : Text} → Parts here there text other → Parts here there rest rest'
    → up_to rest' other ≡ up_to rest text
up_to_same {text = text} {other = other} {rest = rest} {rest' = rest'} k l =
    let (n, t, o, f) = parts_first k in
    let (m, t', o', g) = parts_first l in
    let many : length other - length rest' ≡ length text - length rest = omega (arith, t, o, t', o') in
    f (length other - length rest') (omega (arith, o, o')) ∙ ap (λ (i : ℕ). take i text) many

-- no character of a kind stands at the front
abbrev pub stops : (ℕ → Bool) → Text → Bool
stops f [] = true
stops f (x ∷ text) = not (f x.1)

-- a run that ends before `here` ends before `there`
abbrev pub Ends : (ℕ → Bool) → Text → Text → Type 0
Ends f here there = stops f here ≡ true → stops f there ≡ true

-- A blank goes on with blanks, a word with a character of words, a string with a quote.
abbrev pub joins : ℕ → Bool
joins c = is_blank c || (is_wordlike c || is_quote c)

abbrev pub Joining : (ℕ → Bool) → Type 0
Joining f = (c : ℕ) → f c ≡ true → joins c ≡ true

pub blanks_join : Joining is_blank
blanks_join c e = or_left _ _ e

pub words_join : Joining is_wordlike
words_join c e = or_right (is_blank c) _ (or_left _ _ e)

pub keys_join : Joining is_keylike
keys_join c e = words_join c (or_left _ _ e)

pub quotes_join : (d : ℕ) → is_quote d ≡ true → Joining (λ c. c == d)
quotes_join d q c e = or_right (is_blank c) _ (or_right (is_wordlike c) _ (ap is_quote (eqb-true c d e) ∙ q))

-- The two go on with the same character, or the second with one that joins nothing, or with the end.
pub data Meets (here there : Text) : Type 0 where
  same : {x : ℕ × ℕ} {t t' : Text} → here ≡ x ∷ t → there ≡ x ∷ t' → Meets here there
  apart : stops joins there ≡ true → Meets here there

pub same_ends : {x : ℕ × ℕ} {t t' here there : Text} (f : ℕ → Bool) → here ≡ x ∷ t → there ≡ x ∷ t'
    → Ends f here there
same_ends f h k = λ s. ap (stops f) k ∙ sym (ap (stops f) h) ∙ s

pub ends : {here there : Text} (f : ℕ → Bool) → Joining f → Meets here there → Ends f here there
ends f j (same h k) = same_ends f h k
ends {there = there} f j (apart a) = λ s. go there a
  where
    go : (t : Text) → stops joins t ≡ true → stops f t ≡ true
    go [] a = refl
    go (x ∷ t) a = by (f x.1) refl
      where
        by : (b : Bool) → f x.1 ≡ b → not b ≡ true
        by false e = refl
        by true e = absurd (false≢true (sym (ap not (j x.1 e)) ∙ a))

pub meets_past : {here there text other : Text} → Meets here there → Parts here there text other → Meets text other
meets_past (same h k) (at_end t o) = same (t ∙ h) (o ∙ k)
meets_past (apart a) (at_end t o) = apart (ap (stops joins) o ∙ a)
meets_past m (past k) = same refl refl

-- texts that are the same so, and meet
pub record Cut (here there text other : Text) : Type 0 where
  pub parts : Parts here there text other
  pub meets : Meets text other

-- what holds of a text that is the same up to there
pub record Kept (here there text : Text) (Holds : Text → Type 0) : Type 0 where
  pub other : Text
  pub parts : Parts here there text other
  pub holds : Holds other

pub record Carried (here there text : Text) (Holds : Text → Type 0) : Type 0 where
  pub other : Text
  pub cut : Cut here there text other
  pub holds : Holds other

pub carried : {here there a b text : Text} {Holds : Text → Type 0} → Kept a b text Holds → Cut here there a b
    → Carried here there text Holds
carried r k = record {
  other = r.other;
  cut = record { parts = beyond r.parts k.parts; meets = meets_past k.meets r.parts };
  holds = r.holds;
}

pub kept : {here there a b text : Text} {Holds : Text → Type 0} → Kept a b text Holds → Parts here there a b
    → Kept here there text Holds
kept r k = record { other = r.other; parts = beyond r.parts k; holds = r.holds }

-- where a run ends
pub after_stopped : (f : ℕ → Bool) (text : Text) → stops f text ≡ true → (after_run f text ≡ text) × (run f text ≡ [])
after_stopped f [] s = (refl, refl)
after_stopped f (x ∷ text) s = go (f x.1) s
  where
    go : (b : Bool) → not b ≡ true → (cond b (after_run f text) (x ∷ text) ≡ x ∷ text)
        × (cond b (x.1 ∷ run f text) [] ≡ [])
    go false s = (refl, refl)
    go true s = absurd (false≢true s)

-- runs
pub run_to : {here there : Text} (f : ℕ → Bool) (text : Text) → here ≡ after_run f text → Ends f here there
    → Kept here there text (λ t. (after_run f t ≡ there) × (run f t ≡ run f text))
run_to {there = there} f [] h e = record {
  other = there;
  parts = at_end (sym h) refl;
  holds = after_stopped f there (e (ap (stops f) h));
}
run_to {here = here} {there = there} f (x ∷ text) h e = go (f x.1) refl (λ h. run_to f text h e)
  where
    go : (b : Bool) → f x.1 ≡ b
        → (here ≡ after_run f text → Kept here there text (λ t. (after_run f t ≡ there) × (run f t ≡ run f text)))
        → Kept here there (x ∷ text) (λ t. (after_run f t ≡ there) × (run f t ≡ run f (x ∷ text)))
    go true g on =
        let r = on (h ∙ ap (λ b. cond b (after_run f text) (x ∷ text)) g) in
        record {
          other = x ∷ r.other;
          parts = past r.parts;
          holds = (
            ap (λ b. cond b (after_run f r.other) (x ∷ r.other)) g ∙ r.holds.0,
            ap (λ (cs : List ℕ). cond (f x.1) (x.1 ∷ cs) []) r.holds.1,
          );
        }
    go false g on =
        let here_is : here ≡ x ∷ text = h ∙ ap (λ b. cond b (after_run f text) (x ∷ text)) g in
        let s = after_stopped f there (e (ap (stops f) here_is ∙ ap not g)) in
        record {
          other = there;
          parts = at_end (sym here_is) refl;
          holds = (s.0, s.1 ∙ sym (ap (λ b. cond b (x.1 ∷ run f text) []) g));
        }

-- the first characters
pub drop_to : (n : ℕ) (text there : Text) → n ≤ length text
    → Kept (drop n text) there text (λ t. (drop n t ≡ there) × (take n t ≡ take n text))
drop_to zero text there l = record { other = there; parts = at_end refl refl; holds = (refl, refl) }
drop_to (suc n) [] there l = absurd (omega arith)
drop_to (suc n) (x ∷ text) there l =
    let r = drop_to n text there (omega arith) in
    record {
      other = x ∷ r.other;
      parts = past r.parts;
      holds = (r.holds.0, ap (λ (t : Text). x ∷ t) r.holds.1);
    }

-- a run that begins
pub begun_to : {there : Text} {c q : ℕ} {text next : Text} (f : ℕ → Bool) → StartsWith c text q next → f c ≡ true
    → Ends f (after_run f text) there
    → Kept (after_run f text) there text (λ t. (after_run f t ≡ there) × (run f t ≡ run f text)
    × ((n : Text) × StartsWith c t q n))
begun_to {there = there} {c = c} {q = q} {text = text} {next = next} f s w e =
    let on : after_run f text ≡ after_run f next =
    ap (after_run f) s ∙ ap (λ b. cond b (after_run f next) ((q, c) ∷ next)) w in
    let word : run f text ≡ c ∷ run f next = ap (run f) s ∙ ap (λ b. cond b (c ∷ run f next) []) w in
    let r = run_to f next on e in
    record {
      other = (q, c) ∷ r.other;
      parts = subst (λ (t : Text). Parts (after_run f text) there t ((q, c) ∷ r.other)) (sym s) (past r.parts);
      holds = (
        ap (λ b. cond b (after_run f r.other) ((q, c) ∷ r.other)) w ∙ r.holds.0,
        ap (λ b. cond b (c ∷ run f r.other) []) w ∙ ap (λ (cs : List ℕ). c ∷ cs) r.holds.1 ∙ sym word,
        (r.other, refl),
      );
    }

unstopped : (b : Bool) → not b ≡ true → b ≡ false
unstopped false e = refl
unstopped true e = absurd (false≢true e)

unremarked : (comment : ℕ → Bool) (t : Text) → stops (λ c. c == 35) t ≡ true → after_comment_by comment t ≡ t
unremarked comment [] s = refl
unremarked comment (x ∷ t) s =
    ap (λ b. cond b (after_run comment t) (x ∷ t)) (unstopped (x.1 == 35) s)

-- a comment
pub comment_to : {here there : Text} (comment : ℕ → Bool) (text : Text) → here ≡ after_comment_by comment text
    → Ends (λ c. c == 35) here there → Ends comment here there
    → Kept here there text (λ t. after_comment_by comment t ≡ there)
comment_to {there = there} comment [] h e g = record {
  other = there;
  parts = at_end (sym h) refl;
  holds = unremarked comment there (e (ap (stops (λ c. c == 35)) h));
}
comment_to {here = here} {there = there} comment (x ∷ text) h e g = go (x.1 == 35) refl
  where
    go : (b : Bool) → (x.1 == 35) ≡ b → Kept here there (x ∷ text) (λ t. after_comment_by comment t ≡ there)
    go true k =
        let r = run_to comment text (h ∙ ap (λ b. cond b (after_run comment text) (x ∷ text)) k) g in
        record {
          other = x ∷ r.other;
          parts = past r.parts;
          holds = ap (λ b. cond b (after_run comment r.other) (x ∷ r.other)) k ∙ r.holds.0;
        }
    go false k =
        let here_is : here ≡ x ∷ text = h ∙ ap (λ b. cond b (after_run comment text) (x ∷ text)) k in
        record {
          other = there;
          parts = at_end (sym here_is) refl;
          holds = unremarked comment there (e (ap (stops (λ c. c == 35)) here_is ∙ ap not k));
        }

-- the characters that blanks, line feeds and comments begin with, and those that go on with a comment
abbrev pub begins_gap : ℕ → Bool
begins_gap c = (is_blank c || c == 10) || c == 35

abbrev pub in_gap : (ℕ → Bool) → ℕ → Bool
in_gap comment c = c == 10 || comment c

-- a gap that ends before `here` ends before `there`
pub record Clear (comment : ℕ → Bool) (here there : Text) : Type 0 where
  pub outside : Ends begins_gap here there
  pub inside : Ends (in_gap comment) here there

pub same_clear : {comment : ℕ → Bool} {x : ℕ × ℕ} {t t' here there : Text} → here ≡ x ∷ t → there ≡ x ∷ t'
    → Clear comment here there
same_clear {comment = comment} h k =
    record { outside = same_ends begins_gap h k; inside = same_ends (in_gap comment) h k }

pub clear_past : {comment : ℕ → Bool} {here there text other : Text} → Clear comment here there
    → Parts here there text other → Clear comment text other
clear_past {comment = comment} c (at_end t o) = record {
  outside = λ s. ap (stops begins_gap) o ∙ c.outside (ap (stops begins_gap) (sym t) ∙ s);
  inside = λ s. ap (stops (in_gap comment)) o ∙ c.inside (ap (stops (in_gap comment)) (sym t) ∙ s);
}
clear_past c (past k) = same_clear refl refl

pub outside_over : (comment : ℕ → Bool) (t : Text) → stops begins_gap t ≡ true → after_gap_from comment false t ≡ t
outside_over comment [] s = refl
outside_over comment (x ∷ t) s =
    let n = or_parts (is_blank x.1 || x.1 == 10) (x.1 == 35) (unstopped (begins_gap x.1) s) in
    ap (λ a. cond a (after_gap_from comment false t) (cond (x.1 == 35) (after_gap_from comment true t) (x ∷ t))) n.0
    ∙ ap (λ b. cond b (after_gap_from comment true t) (x ∷ t)) n.1

pub inside_over : (comment : ℕ → Bool) (t : Text) → stops (in_gap comment) t ≡ true → after_gap_from comment true t ≡ t
inside_over comment [] s = refl
inside_over comment (x ∷ t) s =
    let n = or_parts (x.1 == 10) (comment x.1) (unstopped (in_gap comment x.1) s) in
    ap (λ a. cond a (after_gap_from comment false t) (cond (comment x.1) (after_gap_from comment true t) (x ∷ t))) n.0
    ∙ ap (λ b. cond b (after_gap_from comment true t) (x ∷ t)) n.1

-- what follows after a character of a gap, and one that may be
abbrev chosen : (ℕ → Bool) → ℕ × ℕ → Bool → Bool → Text → Text
chosen comment x a b t = cond a (after_gap_from comment false t) (cond b (after_gap_from comment true t) (x ∷ t))

pub gap_on : {here there rest : Text} (comment : ℕ → Bool) (inside : Bool) (text : Text)
    → here ≡ after_gap_from comment inside text
    → (stops begins_gap here ≡ true → after_gap_from comment false there ≡ rest)
    → (stops (in_gap comment) here ≡ true → after_gap_from comment true there ≡ rest)
    → Kept here there text (λ t. after_gap_from comment inside t ≡ rest)
gap_on {there = there} comment true [] h o i = record {
  other = there;
  parts = at_end (sym h) refl;
  holds = i (ap (stops (in_gap comment)) h);
}
gap_on {there = there} comment false [] h o i = record {
  other = there;
  parts = at_end (sym h) refl;
  holds = o (ap (stops begins_gap) h);
}
gap_on {here = here} {there = there} {rest = rest} comment true (x ∷ text) h o i =
    go (x.1 == 10) refl (comment x.1) refl (λ h. gap_on comment false text h o i) (λ h. gap_on comment true text h o i)
  where
    go : (a : Bool) → (x.1 == 10) ≡ a → (b : Bool) → comment x.1 ≡ b
        → (here ≡ after_gap_from comment false text → Kept here there text (λ t. after_gap_from comment false t ≡ rest))
        → (here ≡ after_gap_from comment true text → Kept here there text (λ t. after_gap_from comment true t ≡ rest))
        → Kept here there (x ∷ text) (λ t. after_gap_from comment true t ≡ rest)
    go true e b f out within =
        let r = out (h ∙ ap (λ a. chosen comment x a (comment x.1) text) e) in
        record {
          other = x ∷ r.other;
          parts = past r.parts;
          holds = ap (λ a. chosen comment x a (comment x.1) r.other) e ∙ r.holds;
        }
    go false e true f out within =
        let r = within (h ∙ ap (λ a. chosen comment x a (comment x.1) text) e ∙ ap (λ b. chosen comment x false b text) f) in
        record {
          other = x ∷ r.other;
          parts = past r.parts;
          holds = ap (λ a. chosen comment x a (comment x.1) r.other) e ∙ ap (λ b. chosen comment x false b r.other) f ∙ r.holds;
        }
    go false e false f out within =
        let here_is : here ≡ x ∷ text = h ∙ ap (λ a. chosen comment x a (comment x.1) text) e ∙
        ap (λ b. chosen comment x false b text) f in
        record {
          other = there;
          parts = at_end (sym here_is) refl;
          holds = i (ap (stops (in_gap comment)) here_is ∙ ap not (or_from (x.1 == 10) (comment x.1) e f));
        }
gap_on {here = here} {there = there} {rest = rest} comment false (x ∷ text) h o i =
    go (is_blank x.1 || x.1 == 10) refl (x.1 == 35) refl (λ h. gap_on comment false text h o i)
    (λ h. gap_on comment true text h o i)
  where
    go : (a : Bool) → (is_blank x.1 || x.1 == 10) ≡ a → (b : Bool) → (x.1 == 35) ≡ b
        → (here ≡ after_gap_from comment false text → Kept here there text (λ t. after_gap_from comment false t ≡ rest))
        → (here ≡ after_gap_from comment true text → Kept here there text (λ t. after_gap_from comment true t ≡ rest))
        → Kept here there (x ∷ text) (λ t. after_gap_from comment false t ≡ rest)
    go true e b f out within =
        let r = out (h ∙ ap (λ a. chosen comment x a (x.1 == 35) text) e) in
        record {
          other = x ∷ r.other;
          parts = past r.parts;
          holds = ap (λ a. chosen comment x a (x.1 == 35) r.other) e ∙ r.holds;
        }
    go false e true f out within =
        let r = within (h ∙ ap (λ a. chosen comment x a (x.1 == 35) text) e ∙ ap (λ b. chosen comment x false b text) f) in
        record {
          other = x ∷ r.other;
          parts = past r.parts;
          holds = ap (λ a. chosen comment x a (x.1 == 35) r.other) e ∙ ap (λ b. chosen comment x false b r.other) f ∙ r.holds;
        }
    go false e false f out within =
        let here_is : here ≡ x ∷ text = h ∙ ap (λ a. chosen comment x a (x.1 == 35) text) e ∙
        ap (λ b. chosen comment x false b text) f in
        record {
          other = there;
          parts = at_end (sym here_is) refl;
          holds = o (ap (stops begins_gap) here_is ∙
              ap not (or_from (is_blank x.1 || x.1 == 10) (x.1 == 35) e f));
        }

pub gap_to : {here there : Text} (comment : ℕ → Bool) (inside : Bool) (text : Text)
    → here ≡ after_gap_from comment inside text → Clear comment here there
    → Kept here there text (λ t. after_gap_from comment inside t ≡ there)
gap_to {there = there} comment inside text h c =
    gap_on comment inside text h (λ s. outside_over comment there (c.outside s))
    (λ s. inside_over comment there (c.inside s))

-- a sign stands after what is left out, and this after what is left out then
pub record Spaced (skip : Text → Text) (c q : ℕ) (rest text : Text) : Type 0 where
  pub next : Text
  pub sign : StartsWith c (skip text) q next
  pub on : skip next ≡ rest

module _ {here there : Text} where
  pub sign_kept : {c q : ℕ} {text rest rest' : Text} → StartsWith c text q rest → Parts here there rest rest'
      → Kept here there text (λ t. StartsWith c t q rest')
  sign_kept {c = c} {q = q} {rest' = rest'} s k = record {
    other = (q, c) ∷ rest';
    parts = subst (λ (t : Text). Parts here there t ((q, c) ∷ rest')) (sym s) (past k);
    holds = refl;
  }

  pub sign_carried : {c q : ℕ} {text rest rest' : Text} → StartsWith c text q rest → Parts here there rest rest'
      → Carried here there text (λ t. StartsWith c t q rest')
  sign_carried s k =
      let r = sign_kept s k in
      record { other = r.other; cut = record { parts = r.parts; meets = same s r.holds }; holds = r.holds }

  pub run_carried : {rest' : Text} (f : ℕ → Bool) → Joining f → (text : Text) → Cut here there (after_run f text) rest'
      → Carried here there text (λ t. (after_run f t ≡ rest') × (run f t ≡ run f text))
  run_carried f j text k = carried (run_to f text refl (ends f j k.meets)) k

  -- a run that begins
  pub begun_carried : {c q : ℕ} {text next rest' : Text} (f : ℕ → Bool) → Joining f → StartsWith c text q next
      → f c ≡ true → Cut here there (after_run f text) rest'
      → Carried here there text (λ t. (after_run f t ≡ rest') × (run f t ≡ run f text)
      × ((n : Text) × StartsWith c t q n))
  begun_carried f j s w k = carried (begun_to f s w (ends f j k.meets)) k

  pub blanks_carried : {rest' : Text} (text : Text) → Cut here there (after_run is_blank text) rest'
      → Carried here there text (λ t. after_run is_blank t ≡ rest')
  blanks_carried text k =
      let r = run_carried is_blank blanks_join text k in record { other = r.other; cut = r.cut; holds = r.holds.0 }

  pub gap_carried : {rest' : Text} (comment : ℕ → Bool) (text : Text) → Cut here there (after_gap_from comment false text) rest'
      → Clear comment (after_gap_from comment false text) rest'
      → Carried here there text (λ t. after_gap_from comment false t ≡ rest')
  gap_carried comment text k c = carried (gap_to comment false text refl c) k

-- the run stands before what is after it
pub run_dropped : (f : ℕ → Bool) (text : Text) → drop (length (run f text)) text ≡ after_run f text
run_dropped f [] = refl
run_dropped f (x ∷ text) = go (f x.1) (run_dropped f text)
  where
    go : (b : Bool) → drop (length (run f text)) text ≡ after_run f text
        → drop (length (cond b (x.1 ∷ run f text) [])) (x ∷ text) ≡ cond b (after_run f text) (x ∷ text)
    go true e = e
    go false e = refl

pub run_shorter : (f : ℕ → Bool) (text : Text) → length (run f text) ≤ length text
run_shorter f [] = omega arith
run_shorter f (x ∷ text) = go (f x.1) (run_shorter f text)
  where
    go : (b : Bool) → length (run f text) ≤ length text → length (cond b (x.1 ∷ run f text) []) ≤ length (x ∷ text)
    go true h = omega arith
    go false h = omega arith

-- texts that begin with the same characters begin with the same run, as far as these go
pub run_taken : (f : ℕ → Bool) (n : ℕ) (text other : Text) → take n other ≡ take n text → n ≤ length (run f text)
    → (n ≤ length (run f other)) × (take n (run f other) ≡ take n (run f text))
run_taken f zero text other e h = (omega arith, refl)
run_taken f (suc n) [] other e h = absurd (omega arith)
run_taken f (suc n) (x ∷ text) [] e h = cc
run_taken f (suc n) (x ∷ text) (y ∷ other) e h =
    let here : y ≡ x = cc in
    let on : take n other ≡ take n text = cc in
    subst (λ (y : ℕ × ℕ). (suc n ≤ length (run f (y ∷ other)))
    × (take (suc n) (run f (y ∷ other)) ≡ take (suc n) (run f (x ∷ text)))) (sym here)
    (go (f x.1) h (λ h. run_taken f n text other on h))
  where
    go : (b : Bool) → suc n ≤ length (cond b (x.1 ∷ run f text) [])
        → (n ≤ length (run f text) → (n ≤ length (run f other)) × (take n (run f other) ≡ take n (run f text)))
        → (suc n ≤ length (cond b (x.1 ∷ run f other) []))
        × (take (suc n) (cond b (x.1 ∷ run f other) []) ≡ take (suc n) (cond b (x.1 ∷ run f text) []))
    go true h on = let r = on (omega arith) in (omega (arith, r.0), ap (λ (cs : List ℕ). x.1 ∷ cs) r.1)
    go false h on = absurd (omega arith)
