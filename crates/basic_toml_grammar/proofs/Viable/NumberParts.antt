-- Numbers in a text: what stands behind keylike characters, and digits, which hold no other character.
use Rattle.std.proofs.Common.{◌⊎◌, inl, inr, ◌≡◌, ℕ, ◌+◌, ◌==◌, ◌&&◌, ◌||◌, not, Bool, true, false, cond, List, [], ◌∷◌, ◌++◌}
use Rattle.std.proofs.Common.{refl, ap, sym, ◌∙◌, subst, Option, Some, None, eqb-true, codes}
use Rattle.std.specs.Option.{option_or}
use Rattle.std.specs.List.{list_any}
use Rattle.std.specs.Char.{is_digit}
use Rattle.std.specs.Str.{bytes_eq}
use Rattle.std.proofs.lemmas.Bool.{false≢true, and_parts, or_cases}
use Rattle.std.proofs.lemmas.Slice.Eq.{bytes_eq-Decides}
use Rattle.basic_toml_tokens.specs.Text.{Text, run, after_run, is_keylike}
use Rattle.basic_toml_numbers.specs.Numbers.{goes_on, is_digits, is_whole, is_part, part_of, after_part, is_special}
use Rattle.basic_toml_numbers.specs.Numbers.{is_exponent_letter}
use Rattle.basic_toml_grammar.specs.Grammar.{is_wordlike}
use Rattle.basic_toml_grammar.specs.Reader.{char_at}
use Rattle.basic_toml_grammar.specs.NumberFaults.{leading_underscore, after_zero, begins_digit, is_fine, part_fault}
use Rattle.basic_toml_grammar.specs.NumberFaults.{signed_part_fault, without_minus}

-- keylike characters alone
pub data AllKeys : List ℕ → Type 0 where
  nil : AllKeys []
  cons : {c : ℕ} {cs : List ℕ} → is_keylike c ≡ true → AllKeys cs → AllKeys (c ∷ cs)

pub run_keys : (t : Text) → AllKeys (run is_keylike t)
run_keys [] = nil
run_keys (x ∷ t) = go (is_keylike x.1) refl (run_keys t)
  where
    go : (b : Bool) → is_keylike x.1 ≡ b → AllKeys (run is_keylike t) → AllKeys (cond b (x.1 ∷ run is_keylike t) [])
    go true e k = cons e k
    go false e k = nil

pub after_part_keys : {cs : List ℕ} → AllKeys cs → AllKeys (after_part cs)
after_part_keys nil = nil
after_part_keys (cons {c = c} {cs = cs} e k) = go (is_part c) (after_part_keys k) (cons e k)
  where
    go : (b : Bool) → AllKeys (after_part cs) → AllKeys (c ∷ cs) → AllKeys (cond b (after_part cs) (c ∷ cs))
    go true x y = x
    go false x y = y

pub minus_keys : {cs : List ℕ} → AllKeys cs → AllKeys (without_minus cs)
minus_keys nil = nil
minus_keys (cons {c = c} {cs = cs} e k) = go (c == 45)
  where
    go : (b : Bool) → AllKeys (cond b cs (c ∷ cs))
    go true = k
    go false = cons e k

pub is_key : (c : ℕ) (xs ys : List ℕ) → AllKeys (xs ++ c ∷ ys) → is_keylike c ≡ true
is_key c [] ys (cons e k) = e
is_key c (x ∷ xs) ys (cons e k) = is_key c xs ys k

-- nothing of a word stands there
pub record IsOver (rest : Text) : Type 0 where
  pub word : run is_wordlike rest ≡ []
  pub no_plus : char_at 43 rest ≡ None
  pub no_period : char_at 46 rest ≡ None

-- what of a word stands behind keylike characters: nothing, or a plus or a period and more
pub data Behind : Text → Type 0 where
  over : {rest : Text} → IsOver rest → Behind rest
  plus_next : {p : ℕ} {next : Text} → Behind ((p, 43) ∷ next)
  period_next : {p : ℕ} {next : Text} → Behind ((p, 46) ∷ next)

pub behind : (t : Text) → Behind (after_run is_keylike t)
behind [] = over (record { word = refl; no_plus = refl; no_period = refl })
behind (x ∷ t) = go (is_keylike x.1) refl (behind t)
  where
    sign : is_keylike x.1 ≡ false → (a : Bool) → (x.1 == 43) ≡ a → (b : Bool) → (x.1 == 46) ≡ b → Behind (x ∷ t)
    sign e true f b g = subst (λ (n : ℕ). Behind ((x.0, n) ∷ t)) (sym (eqb-true x.1 43 f)) plus_next
    sign e false f true g = subst (λ (n : ℕ). Behind ((x.0, n) ∷ t)) (sym (eqb-true x.1 46 g)) period_next
    sign e false f false g = over (record {
      word = ap (λ (b : Bool). cond (b || (x.1 == 43 || x.1 == 46)) (x.1 ∷ run is_wordlike t) []) e
          ∙ ap (λ (b : Bool). cond (b || x.1 == 46) (x.1 ∷ run is_wordlike t) []) f
          ∙ ap (λ (b : Bool). cond b (x.1 ∷ run is_wordlike t) []) g;
      no_plus = ap (λ (b : Bool). cond b (Some (x.0, t)) None) f;
      no_period = ap (λ (b : Bool). cond b (Some (x.0, t)) None) g;
    })

    go : (b : Bool) → is_keylike x.1 ≡ b → Behind (after_run is_keylike t)
        → Behind (cond b (after_run is_keylike t) (x ∷ t))
    go true e h = h
    go false e h = sign e (x.1 == 43) refl (x.1 == 46) refl

-- a word goes on after its keylike characters
pub run_splits : (t : Text) → run is_wordlike t ≡ run is_keylike t ++ run is_wordlike (after_run is_keylike t)
run_splits [] = refl
run_splits (x ∷ t) = go (is_keylike x.1) refl (run_splits t)
  where
    go : (b : Bool) → is_keylike x.1 ≡ b
        → run is_wordlike t ≡ run is_keylike t ++ run is_wordlike (after_run is_keylike t)
        → cond (b || (x.1 == 43 || x.1 == 46)) (x.1 ∷ run is_wordlike t) []
        ≡ cond b (x.1 ∷ run is_keylike t) [] ++ run is_wordlike (cond b (after_run is_keylike t) (x ∷ t))
    go true e h = ap (λ (w : List ℕ). x.1 ∷ w) h
    go false e h = sym (ap (λ (b : Bool). cond (b || (x.1 == 43 || x.1 == 46)) (x.1 ∷ run is_wordlike t) []) e)

-- digits and underscores hold no other character
pub no_other : (radix c : ℕ) → is_digit c radix ≡ false → (c == 95) ≡ false → (must : Bool) (xs ys : List ℕ)
    → goes_on radix must (xs ++ c ∷ ys) ≡ true → ⊥
no_other radix c f g must [] ys e =
    false≢true (sym (ap (λ (b : Bool). cond b (goes_on radix false ys) ((c == 95 && not must) && goes_on radix true ys))
    f ∙ ap (λ (b : Bool). (b && not must) && goes_on radix true ys) g) ∙ e)
no_other radix c f g must (d ∷ xs) ys e =
    go (is_digit d radix) (d == 95 && not must) e (λ m e. no_other radix c f g m xs ys e)
  where
    go : (a b : Bool) → cond a (goes_on radix false (xs ++ c ∷ ys)) (b && goes_on radix true (xs ++ c ∷ ys)) ≡ true
        → ((m : Bool) → goes_on radix m (xs ++ c ∷ ys) ≡ true → ⊥) → ⊥
    go true b e on = on false e
    go false true e on = on true e
    go false false e on = false≢true e

pub digits_over : {rest : Text} (radix : ℕ) → is_digit 43 radix ≡ false → is_digit 46 radix ≡ false → (must : Bool)
    (xs : List ℕ) → Behind rest → goes_on radix must (xs ++ run is_wordlike rest) ≡ true → IsOver rest
digits_over radix f g must xs (over h) e = h
digits_over radix f g must xs (plus_next {next = next}) e =
    absurd (no_other radix 43 f refl must xs (run is_wordlike next) e)
digits_over radix f g must xs (period_next {next = next}) e =
    absurd (no_other radix 46 g refl must xs (run is_wordlike next) e)

-- the text of `inf` or `nan` holds keylike characters alone
special_keys : (xs : List ℕ) → is_special xs ≡ true → AllKeys xs
special_keys xs e = go (or_cases (bytes_eq xs (codes "inf")) (bytes_eq xs (codes "nan")) e)
  where
    go : (bytes_eq xs (codes "inf") ≡ true) ⊎ (bytes_eq xs (codes "nan") ≡ true) → AllKeys xs
    go (inl h) = subst AllKeys (sym ((bytes_eq-Decides xs (codes "inf")).0 h)) (cons refl (cons refl (cons refl nil)))
    go (inr h) = subst AllKeys (sym ((bytes_eq-Decides xs (codes "nan")).0 h)) (cons refl (cons refl (cons refl nil)))

pub special_over : {rest : Text} (xs : List ℕ) → Behind rest → is_special (xs ++ run is_wordlike rest) ≡ true
    → IsOver rest
special_over xs (over h) e = h
special_over xs (plus_next {next = next}) e =
    let no : false ≡ true = is_key 43 xs (run is_wordlike next) (special_keys (xs ++ 43 ∷ run is_wordlike next) e) in cc
special_over xs (period_next {next = next}) e =
    let no : false ≡ true = is_key 46 xs (run is_wordlike next) (special_keys (xs ++ 46 ∷ run is_wordlike next) e) in cc

-- a whole number is digits
pub whole_digits : (cs : List ℕ) → is_whole cs ≡ true → is_digits 10 cs ≡ true
whole_digits [] e = e
whole_digits (c ∷ cs) e = go (c == 48) refl e
  where
    zero : (cs : List ℕ) → bytes_eq cs [] ≡ true → is_digits 10 (48 ∷ cs) ≡ true
    zero [] e = refl
    zero (d ∷ ds) e = absurd (false≢true e)

    go : (b : Bool) → (c == 48) ≡ b → cond b (bytes_eq cs []) (is_digits 10 (c ∷ cs)) ≡ true
        → is_digits 10 (c ∷ cs) ≡ true
    go false h e = e
    go true h e = subst (λ (n : ℕ). is_digits 10 (n ∷ cs) ≡ true) (sym (eqb-true c 48 h)) (zero cs e)

-- digits are one part
pub digits_are_a_part : (must : Bool) (cs : List ℕ) → goes_on 10 must cs ≡ true
    → (part_of cs ≡ cs) × (after_part cs ≡ [])
digits_are_a_part must [] e = (refl, refl)
digits_are_a_part must (c ∷ cs) e = go (is_digit c 10) (c == 95) e (λ m e. digits_are_a_part m cs e)
  where
    go : (a b : Bool) → cond a (goes_on 10 false cs) ((b && not must) && goes_on 10 true cs) ≡ true
        → ((m : Bool) → goes_on 10 m cs ≡ true → (part_of cs ≡ cs) × (after_part cs ≡ []))
        → (cond (a || b) (c ∷ part_of cs) [] ≡ c ∷ cs) × (cond (a || b) (after_part cs) (c ∷ cs) ≡ [])
    go true b e on = let h = on false e in (ap (λ (t : List ℕ). c ∷ t) h.0, h.1)
    go false true e on =
        let h = on true (and_parts (not must) (goes_on 10 true cs) e).1 in (ap (λ (t : List ℕ). c ∷ t) h.0, h.1)
    go false false e on = absurd (false≢true e)

-- and hold no letter of an exponent
letter_is : (c : ℕ) → is_exponent_letter c ≡ true → (is_digit c 10 ≡ false) × ((c == 95) ≡ false)
letter_is c e = go (or_cases (c == 101) (c == 69) e)
  where
    go : ((c == 101) ≡ true) ⊎ ((c == 69) ≡ true) → (is_digit c 10 ≡ false) × ((c == 95) ≡ false)
    go (inl h) = subst (λ (n : ℕ). (is_digit n 10 ≡ false) × ((n == 95) ≡ false)) (sym (eqb-true c 101 h)) (refl, refl)
    go (inr h) = subst (λ (n : ℕ). (is_digit n 10 ≡ false) × ((n == 95) ≡ false)) (sym (eqb-true c 69 h)) (refl, refl)

pub digits_no_letter : (must : Bool) (cs : List ℕ) → goes_on 10 must cs ≡ true → list_any is_exponent_letter cs ≡ false
digits_no_letter must [] e = refl
digits_no_letter must (c ∷ cs) e = go (is_exponent_letter c) refl (is_digit c 10) (c == 95 && not must) e
    (λ m e. digits_no_letter m cs e)
  where
    go : (l : Bool) → is_exponent_letter c ≡ l → (a b : Bool)
        → cond a (goes_on 10 false cs) (b && goes_on 10 true cs) ≡ true
        → ((m : Bool) → goes_on 10 m cs ≡ true → list_any is_exponent_letter cs ≡ false)
        → (l || list_any is_exponent_letter cs) ≡ false
    go false h true b e on = on false e
    go false h false true e on = on true e
    go false h false false e on = absurd (false≢true e)
    go true h a b f on =
        let l = letter_is c h in absurd (no_other 10 c l.0 l.1 must [] cs e)

-- a part that is fine has no fault
lead_none : (z : Bool) (at : ℕ) (cs : List ℕ) → is_fine z (part_of cs) ≡ true → leading_underscore at cs ≡ None
lead_none z at [] e = refl
lead_none z at (c ∷ cs) e = go (c == 95) refl
  where
    no_underscore : (z : Bool) → is_fine z (part_of (95 ∷ cs)) ≡ true → ⊥
    no_underscore true e = false≢true e
    no_underscore false e = false≢true e

    go : (b : Bool) → (c == 95) ≡ b → cond b (Some at) None ≡ None
    go false h = refl
    go true h = absurd (no_underscore z (subst (λ (n : ℕ). is_fine z (part_of (n ∷ cs)) ≡ true) (eqb-true c 95 h) e))

zero_none : (at : ℕ) (cs : List ℕ) → is_whole (part_of cs) ≡ true → after_zero at cs ≡ None
zero_none at [] e = refl
zero_none at (c ∷ []) e = refl
zero_none at (c ∷ d ∷ cs) e = go (c == 48) refl
  where
    next : (a b : Bool) → bytes_eq (cond (a || b) (d ∷ part_of cs) []) [] ≡ true
        → cond a (Some (at + 1)) (cond (b && begins_digit cs) (Some (at + 2)) None) ≡ None
    next true b e = absurd (false≢true e)
    next false true e = absurd (false≢true e)
    next false false e = refl

    go : (b : Bool) → (c == 48) ≡ b
        → cond b (cond (is_digit d 10) (Some (at + 1)) (cond (d == 95 && begins_digit cs) (Some (at + 2)) None)) None
        ≡ None
    go false h = refl
    go true h =
        next (is_digit d 10) (d == 95)
        (subst (λ (n : ℕ). is_whole (part_of (n ∷ d ∷ cs)) ≡ true) (eqb-true c 48 h) e)

pub part_none : (z : Bool) (start at : ℕ) (cs : List ℕ) → is_fine z (part_of cs) ≡ true
    → part_fault z start at cs ≡ None
part_none z start at cs e =
    ap (λ (o : Option ℕ). option_or o (option_or (cond z None (after_zero at cs))
    (cond (is_fine z (part_of cs)) None (Some start)))) (lead_none z at cs e) ∙ go z e
  where
    go : (z : Bool) → is_fine z (part_of cs) ≡ true
        → option_or (cond z None (after_zero at cs)) (cond (is_fine z (part_of cs)) None (Some start)) ≡ None
    go true e = ap (λ (b : Bool). cond b None (Some start)) e
    go false e =
        ap (λ (o : Option ℕ). option_or o (cond (is_whole (part_of cs)) None (Some start))) (zero_none at cs e)
        ∙ ap (λ (b : Bool). cond b None (Some start)) e

pub signed_none : (z : Bool) (start : ℕ) (cs : List ℕ) → is_fine z (part_of (without_minus cs)) ≡ true
    → signed_part_fault z start cs ≡ None
signed_none true start [] e = absurd (false≢true e)
signed_none false start [] e = absurd (false≢true e)
signed_none z start (c ∷ cs) e = go (c == 45) e
  where
    go : (b : Bool) → is_fine z (part_of (cond b cs (c ∷ cs))) ≡ true
        → cond b (part_fault z start (start + 1) cs) (part_fault z start start (c ∷ cs)) ≡ None
    go true e = part_none z start (start + 1) cs e
    go false e = part_none z start start (c ∷ cs) e

-- parts of a longer word
pub whole_part : (cs : List ℕ) → after_part cs ≡ [] → part_of cs ≡ cs
whole_part [] e = refl
whole_part (c ∷ cs) e = go (is_part c) e (whole_part cs)
  where
    go : (b : Bool) → cond b (after_part cs) (c ∷ cs) ≡ [] → (after_part cs ≡ [] → part_of cs ≡ cs)
        → cond b (c ∷ part_of cs) [] ≡ c ∷ cs
    go true e h = ap (λ (t : List ℕ). c ∷ t) (h e)
    go false e h = cc

abbrev pub Parts : List ℕ → List ℕ → List ℕ → Type 0
Parts whole part after = (part_of whole ≡ part) × (after_part whole ≡ after)

-- where another character ends the part
pub parts_at : (cs : List ℕ) (c : ℕ) (ys : List ℕ) → after_part cs ≡ [] → is_part c ≡ false
    → Parts (cs ++ c ∷ ys) (part_of cs) (c ∷ ys)
parts_at [] c ys e h = (
  ap (λ (b : Bool). cond b (c ∷ part_of ys) []) h,
  ap (λ (b : Bool). cond b (after_part ys) (c ∷ ys)) h,
)
parts_at (d ∷ ds) c ys e h = go (is_part d) e (λ f. parts_at ds c ys f h)
  where
    go : (b : Bool) → cond b (after_part ds) (d ∷ ds) ≡ []
        → (after_part ds ≡ [] → Parts (ds ++ c ∷ ys) (part_of ds) (c ∷ ys))
        → (cond b (d ∷ part_of (ds ++ c ∷ ys)) [] ≡ cond b (d ∷ part_of ds) [])
        × (cond b (after_part (ds ++ c ∷ ys)) (d ∷ (ds ++ c ∷ ys)) ≡ c ∷ ys)
    go true e f = (ap (λ (t : List ℕ). d ∷ t) (f e).0, (f e).1)
    go false e f = cc

-- where it ends before
pub parts_before : (cs : List ℕ) (c : ℕ) (left ys : List ℕ) → after_part cs ≡ c ∷ left
    → Parts (cs ++ ys) (part_of cs) (c ∷ left ++ ys)
parts_before [] c left ys e = cc
parts_before (d ∷ ds) c left ys e = go (is_part d) e (λ f. parts_before ds c left ys f)
  where
    go : (b : Bool) → cond b (after_part ds) (d ∷ ds) ≡ c ∷ left
        → (after_part ds ≡ c ∷ left → Parts (ds ++ ys) (part_of ds) (c ∷ left ++ ys))
        → (cond b (d ∷ part_of (ds ++ ys)) [] ≡ cond b (d ∷ part_of ds) [])
        × (cond b (after_part (ds ++ ys)) (d ∷ (ds ++ ys)) ≡ c ∷ left ++ ys)
    go true e f = (ap (λ (t : List ℕ). d ∷ t) (f e).0, (f e).1)
    go false e f = (refl, ap (λ (t : List ℕ). t ++ ys) e)

-- a letter of an exponent is found in the word, and is left over by its part
pub letter_found : (cs : List ℕ) (c : ℕ) (left : List ℕ) → after_part cs ≡ c ∷ left → is_exponent_letter c ≡ true
    → list_any is_exponent_letter cs ≡ true
letter_found [] c left e h = cc
letter_found (d ∷ ds) c left e h = go (is_part d) e (λ e. letter_found ds c left e h)
  where
    or_true : (b : Bool) → (b || true) ≡ true
    or_true true = refl
    or_true false = refl

    go : (b : Bool) → cond b (after_part ds) (d ∷ ds) ≡ c ∷ left
        → (after_part ds ≡ c ∷ left → list_any is_exponent_letter ds ≡ true)
        → (is_exponent_letter d || list_any is_exponent_letter ds) ≡ true
    go true e on = ap (λ (b : Bool). is_exponent_letter d || b) (on e) ∙ or_true (is_exponent_letter d)
    go false e on =
        let same : d ≡ c = cc in
        ap (λ (n : ℕ). is_exponent_letter n || list_any is_exponent_letter ds) same
        ∙ ap (λ (b : Bool). b || list_any is_exponent_letter ds) h

pub letter_left : (cs : List ℕ) → list_any is_exponent_letter cs ≡ true → after_part cs ≡ [] → ⊥
letter_left [] e h = false≢true e
letter_left (c ∷ cs) e h = go (is_part c) refl (is_exponent_letter c) refl e h (letter_left cs)
  where
    go : (p : Bool) → is_part c ≡ p → (m : Bool) → is_exponent_letter c ≡ m
        → (m || list_any is_exponent_letter cs) ≡ true → cond p (after_part cs) (c ∷ cs) ≡ []
        → (list_any is_exponent_letter cs ≡ true → after_part cs ≡ [] → ⊥) → ⊥
    go false p m n e h f = let z : c ∷ cs ≡ [] = h in cc
    go true p false n e h f = f e h
    go true p true n e h f =
        let l = letter_is c n in
        false≢true (sym (ap (λ (b : Bool). b || c == 95) l.0 ∙ l.1) ∙ p)
