-- The characters of a number without a fault have a value.
use Rattle.std.proofs.Common.{◌⊎◌, inl, inr, ◌≡◌, ℕ, ◌+◌, ◌==◌, ◌&&◌, ◌||◌, Bool, true, false, cond, List, [], ◌∷◌}
use Rattle.std.proofs.Common.{◌++◌, refl, ap, sym, ◌∙◌, subst, Option, Some, None, is_none}
use Rattle.std.specs.Prelude.{ℤ}
use Rattle.std.specs.Option.{option_or}
use Rattle.std.specs.List.{list_any}
use Rattle.std.specs.Str.{bytes_eq}
use Rattle.std.proofs.lemmas.List.{append-nil, append_assoc}
use Rattle.std.proofs.lemmas.Bool.{both_ways, eqb-true, ne_eqb, or_cases}
use Rattle.basic_toml_tokens.specs.Text.{Text, offset_in, run, after_run, is_keylike}
use Rattle.basic_toml_numbers.specs.Numbers.{integer_of, float_of, is_digits, is_whole, is_part, part_of, after_part}
use Rattle.basic_toml_numbers.specs.Numbers.{is_exponent_letter, is_exponent, is_tail, is_special, is_unsigned_float}
use Rattle.basic_toml_numbers.specs.Numbers.{without_sign, canonical}
use Rattle.basic_toml_grammar.specs.NumberTokens.{plus_rest, mark_rest, period_rest, word_rest}
use Rattle.basic_toml_grammar.specs.Sections.{Raw}
use Rattle.basic_toml_grammar.specs.Grammar.{is_wordlike, number_value}
use Rattle.basic_toml_grammar.specs.Reader.{char_at}
use Rattle.basic_toml_grammar.specs.NumberFaults.{leading_underscore, after_zero, is_fine, part_fault}
use Rattle.basic_toml_grammar.specs.NumberFaults.{signed_part_fault, without_minus, left_fault, plus_word_fault}
use Rattle.basic_toml_grammar.specs.NumberFaults.{plus_power_fault, near_power_fault, power_fault, exponent_fault}
use Rattle.basic_toml_grammar.specs.NumberFaults.{float_fault, fraction_parts_fault, after_period_fault, outside}
use Rattle.basic_toml_grammar.specs.NumberFaults.{whole_fault, unmarked_fault, is_prefixed, word_fault}
use Rattle.basic_toml_grammar.proofs.Grammar.ReaderIsSound.{sign_read}

-- neither of two is there
pub first_none : {A : Type 0} (a b : Option A) → option_or a b ≡ None → a ≡ None
first_none None b e = refl
first_none (Some x) b e = e

pub second_none : {A : Type 0} (a b : Option A) → option_or a b ≡ None → b ≡ None
second_none None b e = e
second_none (Some x) b e = cc

fine_from : (b : Bool) (start : ℕ) → cond b None (Some start) ≡ None → b ≡ true
fine_from true start e = refl
fine_from false start e = cc

pub nothing_left : (start : ℕ) (left : List ℕ) → left_fault start left ≡ None → left ≡ []
nothing_left start [] e = refl
nothing_left start (c ∷ cs) e = cc

-- a part that is fine
pub part_fine : (zeros_may_lead : Bool) (start at : ℕ) (cs : List ℕ) → part_fault zeros_may_lead start at cs ≡ None
    → is_fine zeros_may_lead (part_of cs) ≡ true
part_fine z start at cs e =
    let after = option_or (cond z None (after_zero at cs)) (cond (is_fine z (part_of cs)) None (Some start)) in
    fine_from _ start (second_none (cond z None (after_zero at cs)) _ (second_none (leading_underscore at cs) after e))

pub signed_fine : (zeros_may_lead : Bool) (start : ℕ) (cs : List ℕ) → signed_part_fault zeros_may_lead start cs ≡ None
    → is_fine zeros_may_lead (part_of (without_minus cs)) ≡ true
signed_fine z start [] e = cc
signed_fine z start (c ∷ cs) e = go (c == 45) e
  where
    go : (b : Bool) → cond b (part_fault z start (start + 1) cs) (part_fault z start start (c ∷ cs)) ≡ None
        → is_fine z (part_of (cond b cs (c ∷ cs))) ≡ true
    go true e = part_fine z start (start + 1) cs e
    go false e = part_fine z start start (c ∷ cs) e

whole_part : (cs : List ℕ) → after_part cs ≡ [] → part_of cs ≡ cs
whole_part [] e = refl
whole_part (c ∷ cs) e = go (is_part c) e (whole_part cs)
  where
    go : (b : Bool) → cond b (after_part cs) (c ∷ cs) ≡ [] → (after_part cs ≡ [] → part_of cs ≡ cs)
        → cond b (c ∷ part_of cs) [] ≡ c ∷ cs
    go true e h = ap (λ (t : List ℕ). c ∷ t) (h e)
    go false e h = cc

-- a part that another character ends
abbrev Cut : List ℕ → List ℕ → List ℕ → Type 0
Cut whole part after = (part_of whole ≡ part) × (after_part whole ≡ after)

cut_at : (cs : List ℕ) (c : ℕ) (ys : List ℕ) → after_part cs ≡ [] → is_part c ≡ false
    → Cut (cs ++ c ∷ ys) (part_of cs) (c ∷ ys)
cut_at [] c ys e h = (
  ap (λ (b : Bool). cond b (c ∷ part_of ys) []) h,
  ap (λ (b : Bool). cond b (after_part ys) (c ∷ ys)) h,
)
cut_at (d ∷ ds) c ys e h = go (is_part d) e (λ f. cut_at ds c ys f h)
  where
    go : (b : Bool) → cond b (after_part ds) (d ∷ ds) ≡ []
        → (after_part ds ≡ [] → Cut (ds ++ c ∷ ys) (part_of ds) (c ∷ ys))
        → (cond b (d ∷ part_of (ds ++ c ∷ ys)) [] ≡ cond b (d ∷ part_of ds) [])
        × (cond b (after_part (ds ++ c ∷ ys)) (d ∷ (ds ++ c ∷ ys)) ≡ c ∷ ys)
    go true e f = (ap (λ (t : List ℕ). d ∷ t) (f e).0, (f e).1)
    go false e f = cc

cut_on : (cs : List ℕ) (c : ℕ) (left ys : List ℕ) → after_part cs ≡ c ∷ left
    → Cut (cs ++ ys) (part_of cs) (c ∷ left ++ ys)
cut_on [] c left ys e = cc
cut_on (d ∷ ds) c left ys e = go (is_part d) e (λ f. cut_on ds c left ys f)
  where
    go : (b : Bool) → cond b (after_part ds) (d ∷ ds) ≡ c ∷ left
        → (after_part ds ≡ c ∷ left → Cut (ds ++ ys) (part_of ds) (c ∷ left ++ ys))
        → (cond b (d ∷ part_of (ds ++ ys)) [] ≡ cond b (d ∷ part_of ds) [])
        × (cond b (after_part (ds ++ ys)) (d ∷ (ds ++ ys)) ≡ c ∷ left ++ ys)
    go true e f = (ap (λ (t : List ℕ). d ∷ t) (f e).0, (f e).1)
    go false e f = (refl, ap (λ (t : List ℕ). t ++ ys) e)

-- the run of a word goes on after its keylike characters
pub run_splits : (t : Text) → run is_wordlike t ≡ run is_keylike t ++ run is_wordlike (after_run is_keylike t)
run_splits [] = refl
run_splits (x ∷ t) = go (is_keylike x.1) refl (run_splits t)
  where
    go : (b : Bool) → is_keylike x.1 ≡ b → run is_wordlike t ≡ run is_keylike t
        ++ run is_wordlike (after_run is_keylike t)
        → cond (b || (x.1 == 43 || x.1 == 46)) (x.1 ∷ run is_wordlike t) []
        ≡ cond b (x.1 ∷ run is_keylike t) [] ++ run is_wordlike (cond b (after_run is_keylike t) (x ∷ t))
    go true e h = ap (λ (w : List ℕ). x.1 ∷ w) h
    go false e h = sym (ap (λ (b : Bool). cond (b || (x.1 == 43 || x.1 == 46)) (x.1 ∷ run is_wordlike t) []) e)

run_at_sign : (c : ℕ) (t rest : Text) (p : ℕ) → char_at c t ≡ Some (p, rest) → is_wordlike c ≡ true
    → run is_wordlike t ≡ c ∷ run is_wordlike rest
run_at_sign c t rest p e h = ap (run is_wordlike) (sign_read c t (p, rest) e) ∙
    ap (λ (b : Bool). cond b (c ∷ run is_wordlike rest) []) h

-- the characters of a number behind its first word, as far as it has no fault
abbrev plus_taken : Option (ℕ × Text) → List ℕ
plus_taken None = []
plus_taken (Some s) = 43 ∷ run is_keylike s.1

abbrev mark_taken : List ℕ → Text → List ℕ
mark_taken (c ∷ []) text = plus_taken (char_at 43 text)
mark_taken _ text = []

abbrev period_taken : Option (ℕ × Text) → List ℕ
period_taken None = []
period_taken (Some s) = 46 ∷ run is_keylike s.1 ++ mark_taken (after_part (run is_keylike s.1)) (after_run is_keylike s.1)

abbrev pub word_taken : List ℕ → Text → List ℕ
word_taken word text =
    cond (is_prefixed word) [] (cond (list_any is_exponent_letter word)
    (mark_taken (after_part (without_minus word)) text) (period_taken (char_at 46 text)))

-- they stand before its end
plus_splits : (o : Option (ℕ × Text)) (t : Text) → char_at 43 t ≡ o
    → run is_wordlike t ≡ plus_taken o ++ run is_wordlike (plus_rest o t)
plus_splits None t e = refl
plus_splits (Some s) t e = run_at_sign 43 t s.1 s.0 e refl ∙ ap (λ (w : List ℕ). 43 ∷ w) (run_splits s.1)

mark_splits : (left : List ℕ) (t : Text) → run is_wordlike t ≡ mark_taken left t ++ run is_wordlike (mark_rest left t)
mark_splits [] t = refl
mark_splits (c ∷ []) t = plus_splits (char_at 43 t) t refl
mark_splits (c ∷ d ∷ ds) t = refl

period_splits : (o : Option (ℕ × Text)) (t : Text) → char_at 46 t ≡ o
    → run is_wordlike t ≡ period_taken o ++ run is_wordlike (period_rest o t)
period_splits None t e = refl
period_splits (Some s) t e =
    let f = run is_keylike s.1 in
    let r = after_run is_keylike s.1 in
    run_at_sign 46 t s.1 s.0 e refl
    ∙ ap (λ (w : List ℕ). 46 ∷ w) (run_splits s.1 ∙ ap (λ (w : List ℕ). f ++ w) (mark_splits (after_part f) r)
    ∙ sym (append_assoc f (mark_taken (after_part f) r) (run is_wordlike (mark_rest (after_part f) r))))

pub word_splits : (word : List ℕ) (t : Text)
    → run is_wordlike t ≡ word_taken word t ++ run is_wordlike (word_rest word t)
word_splits word t = go (is_prefixed word) (list_any is_exponent_letter word)
  where
    go : (p m : Bool) → run is_wordlike t
        ≡ cond p [] (cond m (mark_taken (after_part (without_minus word)) t) (period_taken (char_at 46 t)))
        ++ run is_wordlike (cond p t (cond m (mark_rest (after_part (without_minus word)) t) (period_rest (char_at 46 t) t)))
    go true m = refl
    go false true = mark_splits (after_part (without_minus word)) t
    go false false = period_splits (char_at 46 t) t refl

-- they begin with a plus or a period
abbrev Signed : List ℕ → Type 0
Signed ys = (ys ≡ []) ⊎ ((d : ℕ) × (ds : List ℕ) × (ys ≡ d ∷ ds) × ((d == 43 || d == 46) ≡ true))

plus_begins : (o : Option (ℕ × Text)) → Signed (plus_taken o)
plus_begins None = inl refl
plus_begins (Some s) = inr (43, run is_keylike s.1, refl, refl)

mark_begins : (left : List ℕ) (t : Text) → Signed (mark_taken left t)
mark_begins [] t = inl refl
mark_begins (c ∷ []) t = plus_begins (char_at 43 t)
mark_begins (c ∷ d ∷ ds) t = inl refl

period_begins : (o : Option (ℕ × Text)) → Signed (period_taken o)
period_begins None = inl refl
period_begins (Some s) = inr (46, _, refl, refl)

pub taken_begins : (word : List ℕ) (t : Text) → Signed (word_taken word t)
taken_begins word t = go (is_prefixed word) (list_any is_exponent_letter word)
  where
    go : (p m : Bool)
        → Signed (cond p [] (cond m (mark_taken (after_part (without_minus word)) t) (period_taken (char_at 46 t))))
    go true m = inl refl
    go false true = mark_begins (after_part (without_minus word)) t
    go false false = period_begins (char_at 46 t)

mark_apart : (c n : ℕ) → is_exponent_letter c ≡ true → is_exponent_letter n ≡ false → (c == n) ≡ false
mark_apart c n h k = ne_eqb c n (λ e. both_ways (is_exponent_letter n) k (rw e at h))

-- an exponent, as it stands after the parts before it
abbrev IsEnd : List ℕ → List ℕ → Type 0
IsEnd left xs = ((left ≡ []) × (xs ≡ []))
    ⊎ ((c : ℕ) × (cs : List ℕ) × (left ≡ c ∷ cs) × (is_exponent_letter c ≡ true) × (is_exponent xs ≡ true))

plus_exponent : (end start : ℕ) (c : ℕ) (o : Option (ℕ × Text)) → is_exponent_letter c ≡ true
    → plus_power_fault end start o ≡ None → is_exponent (c ∷ plus_taken o) ≡ true
plus_exponent end start c None m e = cc
plus_exponent end start c (Some s) m e = go (run is_keylike s.1) e
  where
    go : (w : List ℕ) → plus_word_fault (offset_in end s.1) start w ≡ None → is_exponent (c ∷ 43 ∷ w) ≡ true
    go [] e = cc
    go (d ∷ ds) e =
        let at = offset_in end s.1 in
        let fine : is_digits 10 (part_of (d ∷ ds)) ≡ true =
        part_fine true at at (d ∷ ds) (first_none (part_fault true at at (d ∷ ds)) _ e) in
        let whole : part_of (d ∷ ds) ≡ d ∷ ds =
        whole_part (d ∷ ds) (nothing_left start _ (second_none (part_fault true at at (d ∷ ds)) _ e)) in
        let digits : is_digits 10 (d ∷ ds) ≡ true = ap (is_digits 10) (sym whole) ∙ fine in
        ap (λ (b : Bool). b && is_digits 10 (d ∷ ds)) m ∙ digits

near_exponent : (start at c d : ℕ) (ds : List ℕ) → is_exponent_letter c ≡ true
    → near_power_fault at start (d ∷ ds) ≡ None → is_exponent (c ∷ d ∷ ds) ≡ true
near_exponent start at c d ds m e =
    let fine : is_digits 10 (part_of (without_minus (d ∷ ds))) ≡ true =
    signed_fine true at (d ∷ ds) (first_none (signed_part_fault true at (d ∷ ds)) _ e) in
    let left = nothing_left start (after_part (without_minus (d ∷ ds)))
    (second_none (signed_part_fault true at (d ∷ ds)) _ e) in
    let digits : is_digits 10 (without_minus (d ∷ ds)) ≡ true =
    ap (is_digits 10) (sym (whole_part (without_minus (d ∷ ds)) left)) ∙ fine in
    ap (λ (b : Bool). b && is_digits 10 (without_sign (d ∷ ds))) m ∙ go (d == 43) refl (d == 45) digits
  where
    go : (b : Bool) → (d == 43) ≡ b → (e : Bool) → is_digits 10 (cond e ds (d ∷ ds)) ≡ true
        → is_digits 10 (cond (b || e) ds (d ∷ ds)) ≡ true
    go false h e f = f
    go true h true f = f
    go true h false f = let z : is_digits 10 (43 ∷ ds) ≡ true = rw (eqb-true d 43 h) at f in cc

exponent_end : (end start at : ℕ) (left : List ℕ) (t : Text) → exponent_fault end start at left t ≡ None
    → IsEnd left (left ++ mark_taken left t)
exponent_end end start at [] t e = inl (refl, refl)
exponent_end end start at (c ∷ cs) t e = go (is_exponent_letter c) refl cs e
  where
    go : (b : Bool) → is_exponent_letter c ≡ b → (cs : List ℕ)
        → cond b (power_fault end start (at + 1) cs t) (Some start) ≡ None
        → IsEnd (c ∷ cs) (c ∷ cs ++ mark_taken (c ∷ cs) t)
    go false m cs e = cc
    go true m [] e = inr (c, [], refl, m, plus_exponent end start c (char_at 43 t) m e)
    go true m (d ∷ ds) e =
        inr (
          c,
          d ∷ ds,
          refl,
          m,
          ap (λ (w : List ℕ). is_exponent (c ∷ d ∷ w)) (append-nil ds) ∙ near_exponent start (at + 1) c d ds m e,
        )

-- a float has a value
float_value : (word : List ℕ) → is_unsigned_float (without_sign word) ≡ true → (v : Raw)
    × (number_value (integer_of word) (float_of word) ≡ Some v)
float_value word e = go (integer_of word) (float_of word) (ap (λ (b : Bool). cond b (Some (canonical word)) None) e)
  where
    go : (i : Option ℤ) (f : Option (List ℕ)) → f ≡ Some (canonical word) → (v : Raw) × (number_value i f ≡ Some v)
    go (Some z) f h = (Raw.integer z, refl)
    go None f h = (Raw.float (canonical word), ap (number_value None) h)

integer_value : (word : List ℕ) → is_none (integer_of word) ≡ false → (v : Raw)
    × (number_value (integer_of word) (float_of word) ≡ Some v)
integer_value word e = go (integer_of word) e
  where
    go : (i : Option ℤ) → is_none i ≡ false → (v : Raw) × (number_value i (float_of word) ≡ Some v)
    go (Some z) h = (Raw.integer z, refl)
    go None h = cc

inside_is : (start : ℕ) (word : List ℕ) → outside start word ≡ None → is_none (integer_of word) ≡ false
inside_is start word e = go (is_none (integer_of word)) e
  where
    go : (b : Bool) → cond b (Some start) None ≡ None → b ≡ false
    go true e = cc
    go false e = refl

-- a keylike word has no sign but a minus
sign_is_minus : (c : ℕ) (cs : List ℕ) → is_keylike c ≡ true → without_sign (c ∷ cs) ≡ without_minus (c ∷ cs)
sign_is_minus c cs h =
    let no_plus : (c == 43) ≡ false = ne_eqb c 43 (λ e. both_ways (is_keylike 43) refl (rw e at h)) in
    ap (λ (b : Bool). cond (b || c == 45) cs (c ∷ cs)) no_plus

without_append : (c : ℕ) (cs ys : List ℕ) → without_sign (c ∷ cs ++ ys) ≡ without_sign (c ∷ cs) ++ ys
without_append c cs ys = go (c == 43 || c == 45)
  where
    go : (b : Bool) → cond b (cs ++ ys) (c ∷ cs ++ ys) ≡ cond b cs (c ∷ cs) ++ ys
    go true = refl
    go false = refl

or_true : (b : Bool) → (b || true) ≡ true
or_true true = refl
or_true false = refl

float_from : (x : List ℕ) (part after : List ℕ) → Cut x part after → is_whole part ≡ true → is_tail after ≡ true
    → is_unsigned_float x ≡ true
float_from x part after (p, b) h k =
    ap (λ (w : Bool). is_special x || w) (ap (λ (t : List ℕ). is_whole t && is_tail (after_part x)) p ∙
    ap (λ (t : List ℕ). is_whole part && is_tail t) b
    ∙ ap (λ (w : Bool). w && is_tail after) h ∙ k) ∙ or_true (is_special x)

marks_left : (u : List ℕ) → list_any is_exponent_letter u ≡ true → after_part u ≡ [] → ⊥
marks_left [] e h = let z : false ≡ true = e in cc
marks_left (c ∷ cs) e h = go (is_part c) refl (is_exponent_letter c) refl e h (marks_left cs)
  where
    go : (p : Bool) → is_part c ≡ p → (m : Bool) → is_exponent_letter c ≡ m
        → (m || list_any is_exponent_letter cs) ≡ true → cond p (after_part cs) (c ∷ cs) ≡ []
        → (list_any is_exponent_letter cs ≡ true → after_part cs ≡ [] → ⊥) → ⊥
    go false p m n e h f = let z : c ∷ cs ≡ [] = h in cc
    go true p false n e h f = f e h
    go true p true n e h f = elim (or_cases (c == 101) (c == 69) n) [
      | inl k ↦ (let z : is_part 101 ≡ true = rw (eqb-true c 101 k) at p in let y : false ≡ true = z in cc)
      | inr k ↦ (let z : is_part 69 ≡ true = rw (eqb-true c 69 k) at p in let y : false ≡ true = z in cc)
    ]

marks_after : (w : List ℕ) → list_any is_exponent_letter w ≡ true → list_any is_exponent_letter (without_minus w) ≡ true
marks_after [] e = e
marks_after (c ∷ cs) e = go (c == 45) refl e
  where
    go : (b : Bool) → (c == 45) ≡ b → (is_exponent_letter c || list_any is_exponent_letter cs) ≡ true
        → list_any is_exponent_letter (cond b cs (c ∷ cs)) ≡ true
    go true h e = rw (eqb-true c 45 h) at e
    go false h e = e

abbrev HasValue : List ℕ → Type 0
HasValue r = (v : Raw) × (number_value (integer_of r) (float_of r) ≡ Some v)

tail_from : (c : ℕ) (cs : List ℕ) → is_exponent_letter c ≡ true → is_exponent (c ∷ cs) ≡ true → is_tail (c ∷ cs) ≡ true
tail_from c cs m e = ap (λ (b : Bool). cond b
    (is_digits 10 (part_of cs) && (bytes_eq (after_part cs) [] || is_exponent (after_part cs)))
    (is_exponent (c ∷ cs))) (mark_apart c 46 m refl) ∙ e

module _ (end start c : ℕ) (cs : List ℕ) (text : Text) (letter : is_keylike c ≡ true) where
  abbrev w : List ℕ
  w = c ∷ cs

  abbrev u : List ℕ
  u = without_minus w

  -- with nothing after the word
  alone : HasValue w → HasValue (w ++ [])
  alone h = subst HasValue (sym (append-nil w)) h

  after_sign : (ys : List ℕ) → without_sign (w ++ ys) ≡ u ++ ys
  after_sign ys = without_append c cs ys ∙ ap (λ (t : List ℕ). t ++ ys) (sign_is_minus c cs letter)

  floats : (ys : List ℕ) (part after : List ℕ) → Cut (u ++ ys) part after → is_whole part ≡ true
      → is_tail after ≡ true → HasValue (w ++ ys)
  floats ys part after k h t =
      float_value (w ++ ys) (ap is_unsigned_float (after_sign ys) ∙ float_from (u ++ ys) part after k h t)

  marked : list_any is_exponent_letter w ≡ true → float_fault end start w text ≡ None
      → HasValue (w ++ mark_taken (after_part u) text)
  marked mark e =
      let ys = mark_taken (after_part u) text in
      let fine : is_whole (part_of u) ≡ true =
      signed_fine false start w (first_none (signed_part_fault false start w) _ e) in
      elim (exponent_end end start _ (after_part u) text (second_none (signed_part_fault false start w) _ e)) [
        | inl h ↦ absurd (marks_left u (marks_after w mark) h.0)
        | inr h ↦ (floats ys (part_of u) (h.0 ∷ h.1 ++ ys) (cut_on u h.0 h.1 ys h.2) fine
            (tail_from h.0 (h.1 ++ ys) h.3 (ap (λ (t : List ℕ). is_exponent (t ++ ys)) (sym h.2) ∙ h.4)))
      ]

  unmarked : whole_fault start w ≡ None → HasValue w
  unmarked e = go (is_special u) refl e
    where
      go : (b : Bool) → is_special u ≡ b
          → cond b None (option_or (signed_part_fault false start w) (outside start w)) ≡ None → HasValue w
      go true h e = float_value w (ap is_unsigned_float (sign_is_minus c cs letter) ∙
          ap (λ (b : Bool). b || (is_whole (part_of u) && is_tail (after_part u))) h)
      go false h e = integer_value w (inside_is start w (second_none (signed_part_fault false start w) _ e))

  -- a fraction and what stands after it
  fraction_tail : (f zs : List ℕ) → is_digits 10 (part_of f) ≡ true → IsEnd (after_part f) (after_part f ++ zs)
      → is_tail (46 ∷ f ++ zs) ≡ true
  fraction_tail f zs fine (inl (none_left, over)) =
      let whole : f ++ zs ≡ f = ap (λ (t : List ℕ). f ++ t) (sym (ap (λ (t : List ℕ). t ++ zs) none_left) ∙ over) ∙
      append-nil f in
      ap (λ (t : List ℕ). is_digits 10 (part_of t) && (bytes_eq (after_part t) [] || is_exponent (after_part t))) whole
      ∙ ap (λ (b : Bool). b && (bytes_eq (after_part f) [] || is_exponent (after_part f))) fine ∙
      ap (λ (t : List ℕ). bytes_eq t [] || is_exponent t) none_left
  fraction_tail f zs fine (inr (d, l, left_is, m, exponent)) =
      let (part_is, after_is) = cut_on f d l zs left_is in
      ap (λ (t : List ℕ). is_digits 10 t &&
      (bytes_eq (after_part (f ++ zs)) [] || is_exponent (after_part (f ++ zs)))) part_is
      ∙ ap (λ (b : Bool). b && (bytes_eq (after_part (f ++ zs)) [] || is_exponent (after_part (f ++ zs)))) fine
      ∙ ap (λ (t : List ℕ). bytes_eq t [] || is_exponent t) after_is
      ∙ ap (λ (b : Bool). bytes_eq (d ∷ l ++ zs) [] || b) (ap (λ (t : List ℕ). is_exponent (t ++ zs)) (sym left_is) ∙
      exponent) ∙ or_true (bytes_eq (d ∷ l ++ zs) [])

  fractioned : (s : ℕ × Text) → after_period_fault end start w (run is_keylike s.1) s.1 ≡ None
      → HasValue (w ++ period_taken (Some s))
  fractioned s e = go (run is_keylike s.1) e
    where
      go : (f : List ℕ) → after_period_fault end start w f s.1 ≡ None
          → HasValue (w ++ (46 ∷ f ++ mark_taken (after_part f) (after_run is_keylike s.1)))
      go [] e = cc
      go (d ∷ ds) e =
          let f = d ∷ ds in
          let at = offset_in end s.1 in
          let t = after_run is_keylike s.1 in
          let zs = mark_taken (after_part f) t in
          let parts = first_none (fraction_parts_fault start w at f) _ e in
          let whole = signed_fine false start w (first_none (signed_part_fault false start w) _ parts) in
          let others = second_none (signed_part_fault false start w) _ parts in
          let none_left : after_part u ≡ [] =
          nothing_left start (after_part u) (first_none (left_fault start (after_part u)) _ others) in
          let fine : is_digits 10 (part_of f) ≡ true =
          part_fine true at at f (second_none (left_fault start (after_part u)) _ others) in
          let ends = exponent_end end start _ (after_part f) t
          (second_none (fraction_parts_fault start w at f) _ e) in
          floats (46 ∷ f ++ zs) (part_of u) (46 ∷ f ++ zs) (cut_at u 46 (f ++ zs) none_left refl) whole
          (fraction_tail f zs fine ends)

  -- a number that has no fault
  pub number_has_value : word_fault end start w text ≡ None → HasValue (w ++ word_taken w text)
  number_has_value e = go (is_prefixed w) (list_any is_exponent_letter w) refl e
    where
      with_period : (o : Option (ℕ × Text)) → unmarked_fault end start w o ≡ None → HasValue (w ++ period_taken o)
      with_period None e = alone (unmarked e)
      with_period (Some s) e = fractioned s e

      go : (p m : Bool) → list_any is_exponent_letter w ≡ m
          → cond p (outside (start + 2) w)
          (cond m (float_fault end start w text) (unmarked_fault end start w (char_at 46 text))) ≡ None
          → HasValue (w ++ cond p [] (cond m (mark_taken (after_part u) text) (period_taken (char_at 46 text))))
      go true m h e = alone (integer_value w (inside_is (start + 2) w e))
      go false true h e = marked h e
      go false false h e = with_period (char_at 46 text) e
