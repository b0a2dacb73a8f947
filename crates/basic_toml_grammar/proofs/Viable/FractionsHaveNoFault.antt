-- A fraction and an exponent are not at fault where a value stands.
use Rattle.std.proofs.Common.{◌≡◌, ℕ, ◌+◌, ◌==◌, ◌&&◌, ◌||◌, Bool, true, false, cond, List, [], ◌∷◌, ◌++◌}
use Rattle.std.proofs.Common.{refl, ap, sym, ◌∙◌, subst, Option, Some, None, eqb-true}
use Rattle.std.specs.Option.{option_or}
use Rattle.std.specs.Str.{bytes_eq}
use Rattle.std.proofs.lemmas.Bool.{false≢true, and_parts}
use Rattle.std.proofs.lemmas.List.{append-nil}
use Rattle.basic_toml_tokens.specs.Text.{Text, offset_in, run, after_run, is_keylike}
use Rattle.basic_toml_numbers.specs.Numbers.{is_digits, is_whole, part_of}
use Rattle.basic_toml_numbers.specs.Numbers.{after_part, is_exponent_letter, is_exponent}
use Rattle.basic_toml_numbers.specs.Numbers.{without_sign}
use Rattle.basic_toml_grammar.specs.Grammar.{is_wordlike}
use Rattle.basic_toml_grammar.specs.NumberFaults.{part_fault, without_minus, left_fault}
use Rattle.basic_toml_grammar.specs.NumberFaults.{plus_word_fault, near_power_fault, power_fault, exponent_fault}
use Rattle.basic_toml_grammar.specs.NumberFaults.{end_before, fraction_parts_fault, after_period_fault}
use Rattle.basic_toml_grammar.proofs.Viable.NumberParts.{AllKeys, cons, run_keys, after_part_keys, IsOver}
use Rattle.basic_toml_grammar.proofs.Viable.NumberParts.{Behind, over, plus_next, period_next, behind, run_splits}
use Rattle.basic_toml_grammar.proofs.Viable.NumberParts.{digits_over, whole_digits, digits_are_a_part}
use Rattle.basic_toml_grammar.proofs.Viable.NumberParts.{part_none, signed_none, Parts}
use Rattle.basic_toml_grammar.proofs.Viable.NumberParts.{parts_at, parts_before}

-- a keylike character is none that is not
pub key_not : (c n : ℕ) → is_keylike c ≡ true → is_keylike n ≡ false → (c == n) ≡ false
key_not c n e f = go (c == n) refl
  where
    go : (b : Bool) → (c == n) ≡ b → b ≡ false
    go false h = refl
    go true h = absurd (false≢true (sym f ∙ ap is_keylike (sym (eqb-true c n h)) ∙ e))

sign_is_minus : (c : ℕ) (cs : List ℕ) → is_keylike c ≡ true → without_sign (c ∷ cs) ≡ without_minus (c ∷ cs)
sign_is_minus c cs h = ap (λ (b : Bool). cond (b || c == 45) cs (c ∷ cs)) (key_not c 43 h refl)

-- the exponent of a float
plus_word_none : (at start : ℕ) (cs : List ℕ) → is_digits 10 cs ≡ true → plus_word_fault at start cs ≡ None
plus_word_none at start [] e = absurd (false≢true e)
plus_word_none at start (c ∷ cs) e =
    let h = digits_are_a_part true (c ∷ cs) e in
    ap (λ (o : Option ℕ). option_or o (left_fault start (after_part (c ∷ cs))))
    (part_none true at at (c ∷ cs) (ap (is_digits 10) h.0 ∙ e)) ∙ ap (left_fault start) h.1

near_none : (at start : ℕ) (cs : List ℕ) → is_digits 10 (without_minus cs) ≡ true
    → near_power_fault at start cs ≡ None
near_none at start cs e =
    let h = digits_are_a_part true (without_minus cs) e in
    ap (λ (o : Option ℕ). option_or o (left_fault start (after_part (without_minus cs))))
    (signed_none true at cs (ap (is_digits 10) h.0 ∙ e)) ∙ ap (left_fault start) h.1

power_none : {rest : Text} (end start at : ℕ) (left : List ℕ) → AllKeys left → Behind rest
    → is_digits 10 (without_sign (left ++ run is_wordlike rest)) ≡ true → power_fault end start at left rest ≡ None
power_none end start at [] k (over h) e =
    absurd (false≢true (sym (ap (λ (w : List ℕ). is_digits 10 (without_sign w)) h.word) ∙ e))
power_none end start at [] k period_next e = absurd (false≢true e)
power_none end start at [] k (plus_next {next = next}) e =
    let splits : is_digits 10 (run is_keylike next ++ run is_wordlike (after_run is_keylike next)) ≡ true =
    ap (is_digits 10) (sym (run_splits next)) ∙ e in
    let done = digits_over 10 refl refl true (run is_keylike next) (behind next) splits in
    plus_word_none (offset_in end next) start (run is_keylike next)
    (ap (is_digits 10) (sym (append-nil (run is_keylike next))
    ∙ ap (λ (w : List ℕ). run is_keylike next ++ w) (sym done.word)) ∙ splits)
power_none {rest = rest} end start at (d ∷ ds) (cons key k) next e =
    let done = ends (d == 43 || d == 45) e in
    let alone : is_digits 10 (without_sign (d ∷ ds)) ≡ true =
    ap (λ (w : List ℕ). is_digits 10 (without_sign (d ∷ w))) (sym (append-nil ds)
    ∙ ap (λ (w : List ℕ). ds ++ w) (sym done.word)) ∙ e in
    near_none at start (d ∷ ds) (ap (is_digits 10) (sym (sign_is_minus d ds key)) ∙ alone)
  where
    ends : (b : Bool) → is_digits 10 (cond b (ds ++ run is_wordlike rest) (d ∷ ds ++ run is_wordlike rest)) ≡ true
        → IsOver rest
    ends true e = digits_over 10 refl refl true ds next e
    ends false e = digits_over 10 refl refl true (d ∷ ds) next e

pub exponent_none : {rest : Text} (end start at c : ℕ) (left : List ℕ) → AllKeys left → Behind rest
    → is_exponent (c ∷ left ++ run is_wordlike rest) ≡ true → exponent_fault end start at (c ∷ left) rest ≡ None
exponent_none {rest = rest} end start at c left k next e =
    let h = and_parts (is_exponent_letter c) (is_digits 10 (without_sign (left ++ run is_wordlike rest))) e in
    ap (λ (b : Bool). cond b (power_fault end start (at + 1) left rest) (Some start)) h.0
    ∙ power_none end start (at + 1) left k next h.1

-- what may stand behind a period, by the digits and what is left
abbrev pub Fraction : List ℕ → List ℕ → Bool
Fraction digits left = is_digits 10 digits && (bytes_eq left [] || is_exponent left)

pub halves : (digits left : List ℕ) → Fraction digits left ≡ true
    → (is_digits 10 digits ≡ true) × ((bytes_eq left [] || is_exponent left) ≡ true)
halves digits left e = and_parts (is_digits 10 digits) (bytes_eq left [] || is_exponent left) e

pub fraction_is : {part after : List ℕ} (xs : List ℕ) → Parts xs part after → Fraction (part_of xs) (after_part xs) ≡ true
    → Fraction part after ≡ true
fraction_is {part = part} xs (p, a) e =
    ap (Fraction part) (sym a) ∙ ap (λ (p : List ℕ). Fraction p (after_part xs)) (sym p) ∙ e

-- digits with nothing left over
digits_alone : {rest : Text} (f : List ℕ) → after_part f ≡ [] → Behind rest
    → Fraction (part_of (f ++ run is_wordlike rest)) (after_part (f ++ run is_wordlike rest)) ≡ true
    → is_digits 10 (part_of f) ≡ true
digits_alone {rest = rest} f h (over o) e =
    let same : f ++ run is_wordlike rest ≡ f = ap (λ (w : List ℕ). f ++ w) o.word ∙ append-nil f in
    (halves (part_of f) (after_part f)
    (ap (λ (w : List ℕ). Fraction (part_of w) (after_part w)) (sym same) ∙ e)).0
digits_alone f h (plus_next {next = t}) e =
    absurd (false≢true (halves (part_of f) (43 ∷ run is_wordlike t)
    (fraction_is (f ++ 43 ∷ run is_wordlike t) (parts_at f 43 (run is_wordlike t) h refl) e)).1)
digits_alone f h (period_next {next = t}) e =
    absurd (false≢true (halves (part_of f) (46 ∷ run is_wordlike t)
    (fraction_is (f ++ 46 ∷ run is_wordlike t) (parts_at f 46 (run is_wordlike t) h refl) e)).1)

pub no_digits : {rest : Text} → Behind rest
    → Fraction (part_of (run is_wordlike rest)) (after_part (run is_wordlike rest)) ≡ true → ⊥
no_digits (over o) e =
    false≢true (sym (ap (λ (w : List ℕ). Fraction (part_of w) (after_part w)) o.word) ∙ e)
no_digits plus_next e = false≢true e
no_digits period_next e = false≢true e

-- a fraction, and its exponent or none
record FractionEnds (end start : ℕ) (f : List ℕ) (rest : Text) : Type 0 where
  digits : is_digits 10 (part_of f) ≡ true
  exponent : (at : ℕ) → exponent_fault end start at (after_part f) rest ≡ None

fraction_ends : {rest : Text} (end start : ℕ) (f : List ℕ) → AllKeys f → Behind rest
    → Fraction (part_of (f ++ run is_wordlike rest)) (after_part (f ++ run is_wordlike rest)) ≡ true
    → FractionEnds end start f rest
fraction_ends {rest = rest} end start f k next e = go (after_part f) refl (after_part_keys k)
  where
    go : (after : List ℕ) → after_part f ≡ after → AllKeys (after_part f) → FractionEnds end start f rest
    go [] h l = record {
      digits = digits_alone f h next e;
      exponent = λ at. ap (λ (w : List ℕ). exponent_fault end start at w rest) h;
    }
    go (a ∷ left) h l =
        let parts = halves (part_of f) (a ∷ left ++ run is_wordlike rest)
        (fraction_is (f ++ run is_wordlike rest) (parts_before f a left (run is_wordlike rest) h) e) in
        record {
          digits = parts.0;
          exponent = λ at. ap (λ (w : List ℕ). exponent_fault end start at w rest) h
              ∙ exponent_none end start at a left (tail_keys (subst AllKeys h l)) next parts.1;
        }
      where
        tail_keys : AllKeys (a ∷ left) → AllKeys left
        tail_keys (cons e k) = k

pub fraction_none : (end start : ℕ) (w : List ℕ) (s : Text) → is_whole (without_minus w) ≡ true
    → Fraction (part_of (run is_wordlike s)) (after_part (run is_wordlike s)) ≡ true
    → after_period_fault end start w (run is_keylike s) s ≡ None
fraction_none end start w s whole e =
    go (run is_keylike s) (run_keys s) (behind s)
    (ap (λ (w : List ℕ). Fraction (part_of w) (after_part w)) (sym (run_splits s)) ∙ e)
  where
    rest : Text
    rest = after_run is_keylike s

    u : List ℕ
    u = without_minus w

    digits : (part_of u ≡ u) × (after_part u ≡ [])
    digits = digits_are_a_part true u (whole_digits u whole)

    go : (f : List ℕ) → AllKeys f → Behind rest
        → Fraction (part_of (f ++ run is_wordlike rest)) (after_part (f ++ run is_wordlike rest)) ≡ true
        → after_period_fault end start w f s ≡ None
    go [] k next e = absurd (no_digits next e)
    go (d ∷ ds) k next e =
        let f : List ℕ = d ∷ ds in
        let at = offset_in end s in
        let ends = fraction_ends end start f k next e in
        let fine : fraction_parts_fault start w at f ≡ None =
        ap (λ (o : Option ℕ). option_or o (option_or (left_fault start (after_part u)) (part_fault true at at f)))
        (signed_none false start w (ap is_whole digits.0 ∙ whole))
        ∙ ap (λ (left : List ℕ). option_or (left_fault start left) (part_fault true at at f)) digits.1
        ∙ part_none true at at f ends.digits in
        ap (λ (o : Option ℕ). option_or o
        (exponent_fault end start (end_before at f (after_part f)) (after_part f) rest)) fine
        ∙ ends.exponent (end_before at f (after_part f))
