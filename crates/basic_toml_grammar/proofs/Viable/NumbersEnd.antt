-- Where a value stands, its number goes as far as its word does.
use Rattle.std.proofs.Common.{◌≡◌, ◌⊎◌, inl, inr, ℕ, ◌==◌, ◌&&◌, ◌||◌, Bool, true, false, cond, List, [], ◌∷◌, ◌++◌}
use Rattle.std.proofs.Common.{refl, ap, sym, ◌∙◌, subst, Option, Some, codes, eqb-true}
use Rattle.std.specs.List.{list_any}
use Rattle.std.specs.Str.{bytes_eq}
use Rattle.std.proofs.lemmas.Bool.{false≢true, and_parts, or_cases}
use Rattle.std.proofs.lemmas.Slice.Eq.{bytes_eq-Decides}
use Rattle.basic_toml_tokens.specs.Text.{Text, run, after_run, is_keylike}
use Rattle.basic_toml_numbers.specs.Numbers.{integer_of, float_of, is_digits, is_whole, part_of, after_part}
use Rattle.basic_toml_numbers.specs.Numbers.{is_exponent_letter, is_exponent, is_tail, is_special, without_sign}
use Rattle.basic_toml_grammar.specs.Sections.{Raw}
use Rattle.basic_toml_grammar.specs.Grammar.{is_wordlike, number_value, word_value}
use Rattle.basic_toml_grammar.specs.Reader.{char_at}
use Rattle.basic_toml_grammar.specs.NumberFaults.{without_minus, is_prefixed}
use Rattle.basic_toml_grammar.specs.NumberTokens.{mark_rest, period_rest, word_rest, number_rest}
use Rattle.basic_toml_grammar.proofs.Viable.NumberParts.{AllKeys, nil, cons, run_keys, after_part_keys, minus_keys, IsOver}
use Rattle.basic_toml_grammar.proofs.Viable.NumberParts.{Behind, over, plus_next, period_next, behind, run_splits}
use Rattle.basic_toml_grammar.proofs.Viable.NumberParts.{digits_over, special_over, whole_digits, digits_no_letter}
use Rattle.basic_toml_grammar.proofs.Viable.NumberParts.{parts_at, parts_before, letter_found, letter_left}
use Rattle.basic_toml_grammar.proofs.Viable.FractionsHaveNoFault.{key_not, Fraction, halves, fraction_is}
use Rattle.basic_toml_grammar.proofs.Viable.ValuesHaveNoFault.{Writes, with_prefix, whole, float, prefixed}
use Rattle.basic_toml_grammar.proofs.Viable.ValuesHaveNoFault.{prefixed_over, prefixed_not_whole, prefixed_no_float}
use Rattle.basic_toml_grammar.proofs.Viable.ValuesHaveNoFault.{letter_in, special_no_letter, alone, Number, number_is}
use Rattle.basic_toml_grammar.proofs.Viable.ValuesHaveNoFault.{plus_write, keys_write, decimal_whole}
use Rattle.basic_toml_grammar.proofs.Viable.UnquotedWords.{keys_over}

abbrev Over : Text → Type 0
Over text = run is_wordlike text ≡ []

-- behind an exponent
power_ends : {rest : Text} (c : ℕ) (left : List ℕ) → Behind rest
    → is_digits 10 (without_sign (left ++ run is_wordlike rest)) ≡ true → Over (mark_rest (c ∷ left) rest)
power_ends c [] (over h) e = absurd (false≢true (sym (ap (λ (w : List ℕ). is_digits 10 (without_sign w)) h.word) ∙ e))
power_ends c [] period_next e = absurd (false≢true e)
power_ends c [] (plus_next {next = next}) e =
    (digits_over 10 refl refl true (run is_keylike next) (behind next) (ap (is_digits 10) (sym (run_splits next)) ∙ e)).word
power_ends {rest = rest} c (d ∷ ds) next e = (ends (d == 43 || d == 45) e).word
  where
    ends : (b : Bool) → is_digits 10 (cond b (ds ++ run is_wordlike rest) (d ∷ ds ++ run is_wordlike rest)) ≡ true
        → IsOver rest
    ends true e = digits_over 10 refl refl true ds next e
    ends false e = digits_over 10 refl refl true (d ∷ ds) next e

exponent_ends : {rest : Text} (c : ℕ) (left : List ℕ) → Behind rest → is_exponent (c ∷ left ++ run is_wordlike rest) ≡ true
    → Over (mark_rest (c ∷ left) rest)
exponent_ends {rest = rest} c left next e =
    power_ends c left next (and_parts (is_exponent_letter c) (is_digits 10 (without_sign (left ++ run is_wordlike rest))) e).1

-- behind a fraction
digits_end : {rest : Text} (f : List ℕ) → after_part f ≡ [] → Behind rest
    → Fraction (part_of (f ++ run is_wordlike rest)) (after_part (f ++ run is_wordlike rest)) ≡ true → Over rest
digits_end f h (over o) e = o.word
digits_end f h (plus_next {next = t}) e =
    absurd (false≢true (halves (part_of f) (43 ∷ run is_wordlike t)
    (fraction_is (f ++ 43 ∷ run is_wordlike t) (parts_at f 43 (run is_wordlike t) h refl) e)).1)
digits_end f h (period_next {next = t}) e =
    absurd (false≢true (halves (part_of f) (46 ∷ run is_wordlike t)
    (fraction_is (f ++ 46 ∷ run is_wordlike t) (parts_at f 46 (run is_wordlike t) h refl) e)).1)

fraction_ends : {rest : Text} (f : List ℕ) → Behind rest
    → Fraction (part_of (f ++ run is_wordlike rest)) (after_part (f ++ run is_wordlike rest)) ≡ true
    → Over (mark_rest (after_part f) rest)
fraction_ends {rest = rest} f next e = go (after_part f) refl
  where
    go : (after : List ℕ) → after_part f ≡ after → Over (mark_rest after rest)
    go [] h = digits_end f h next e
    go (a ∷ left) h =
        exponent_ends a left next (halves (part_of f) (a ∷ left ++ run is_wordlike rest)
        (fraction_is (f ++ run is_wordlike rest) (parts_before f a left (run is_wordlike rest) h) e)).1

-- digits that a period may follow
period_ends : {rest : Text} (u : List ℕ) → Behind rest → after_part u ≡ []
    → is_tail (after_part (u ++ run is_wordlike rest)) ≡ true → Over (period_rest (char_at 46 rest) rest)
period_ends u (over o) l t =
    absurd (false≢true (sym (ap (λ (x : List ℕ). is_tail (after_part x)) (alone u o) ∙ ap is_tail l) ∙ t))
period_ends u (plus_next {next = n}) l t =
    absurd (false≢true (sym (ap is_tail (parts_at u 43 (run is_wordlike n) l refl).1) ∙ t))
period_ends u (period_next {next = n}) l t =
    let p = parts_at u 46 (run is_wordlike n) l refl in
    fraction_ends (run is_keylike n) (behind n)
    (ap (λ (w : List ℕ). Fraction (part_of w) (after_part w)) (sym (run_splits n)) ∙ ap is_tail (sym p.1) ∙ t)

module _ {rest : Text} (w : List ℕ) (next : Behind rest) where
  abbrev u : List ℕ
  u = without_minus w

  abbrev ws : List ℕ
  ws = run is_wordlike rest

  chosen : (b : Bool) → is_prefixed w ≡ false → list_any is_exponent_letter u ≡ b
      → Over (cond b (mark_rest (after_part u) rest) (period_rest (char_at 46 rest) rest)) → Over (word_rest w rest)
  chosen b p l e =
      ap (λ (b : Bool). run is_wordlike (cond b rest (cond (list_any is_exponent_letter w)
      (mark_rest (after_part u) rest) (period_rest (char_at 46 rest) rest)))) p
      ∙ ap (λ (b : Bool). run is_wordlike (cond b (mark_rest (after_part u) rest)
      (period_rest (char_at 46 rest) rest))) (letter_in w ∙ l) ∙ e

  no_period : IsOver rest → Over (period_rest (char_at 46 rest) rest)
  no_period o = ap (λ (s : Option (ℕ × Text)). run is_wordlike (period_rest s rest)) o.no_period ∙ o.word

  parts_end : is_prefixed w ≡ false → is_tail (after_part (u ++ ws)) ≡ true → AllKeys (after_part u)
      → Over (word_rest w rest)
  parts_end p t k = go (after_part u) refl k
    where
      no_letter : (b : Bool) → list_any is_exponent_letter u ≡ b → after_part u ≡ [] → b ≡ false
      no_letter false e l = refl
      no_letter true e l = absurd (letter_left u e l)

      go : (left : List ℕ) → after_part u ≡ left → AllKeys left → Over (word_rest w rest)
      go [] l k = chosen false p (no_letter (list_any is_exponent_letter u) refl l) (period_ends u next l t)
      go (a ∷ left) l (cons key k) =
          let b = parts_before u a left ws l in
          let exponent : is_exponent (a ∷ left ++ ws) ≡ true =
          ap (λ (b : Bool). cond b (is_digits 10 (part_of (left ++ ws)) && (bytes_eq (after_part (left ++ ws)) []
          || is_exponent (after_part (left ++ ws)))) (is_exponent (a ∷ left ++ ws))) (sym (key_not a 46 key refl))
          ∙ (ap is_tail (sym b.1) ∙ t) in
          let letter = (and_parts (is_exponent_letter a) _ exponent).0 in
          chosen true p (letter_found u a left l letter)
          (ap (λ (x : List ℕ). run is_wordlike (mark_rest x rest)) l ∙ exponent_ends a left next exponent)

  word_ends : AllKeys w → Writes w ws → Over (word_rest w rest)
  word_ends keys (with_prefix p e) =
      let o = prefixed_over (prefixed w p) next e in
      ap (λ (b : Bool). run is_wordlike (cond b rest (cond (list_any is_exponent_letter w)
      (mark_rest (after_part u) rest) (period_rest (char_at 46 rest) rest)))) p ∙ o.word
  word_ends keys (whole e i) = go (is_prefixed w) refl
    where
      go : (b : Bool) → is_prefixed w ≡ b → Over (word_rest w rest)
      go true p = absurd (prefixed_not_whole ws (prefixed w p) e)
      go false p =
          let o = digits_over 10 refl refl true u next (whole_digits (u ++ ws) e) in
          let h : is_whole u ≡ true = ap is_whole (sym (alone u o)) ∙ e in
          chosen false p (digits_no_letter true u (whole_digits u h)) (no_period o)
  word_ends keys (float e) = go (is_prefixed w) refl
    where
      either : is_prefixed w ≡ false
          → (is_special (u ++ ws) ≡ true) ⊎ ((is_whole (part_of (u ++ ws)) && is_tail (after_part (u ++ ws))) ≡ true)
          → Over (word_rest w rest)
      either p (inl s) =
          let o = special_over u next s in
          let h : is_special u ≡ true = ap is_special (sym (alone u o)) ∙ s in
          chosen false p (special_no_letter u h) (no_period o)
      either p (inr h) =
          let b = and_parts (is_whole (part_of (u ++ ws))) (is_tail (after_part (u ++ ws))) h in
          parts_end p b.1 (after_part_keys (minus_keys keys))

      go : (b : Bool) → is_prefixed w ≡ b → Over (word_rest w rest)
      go true p = absurd (prefixed_no_float ws (prefixed w p) e)
      go false p =
          either p (or_cases (is_special (u ++ ws)) (is_whole (part_of (u ++ ws)) && is_tail (after_part (u ++ ws))) e)

-- a word with a value
boolean_ends : (x : ℕ × ℕ) (t : Text) (w : List ℕ) → AllKeys w → ((r : Text) → word_rest w r ≡ r)
    → (x.1 == 43) ≡ false → run is_wordlike (x ∷ t) ≡ w → Over (number_rest (x ∷ t))
boolean_ends x t w keys same n e =
    let all = run_splits (x ∷ t) in
    let o = keys_over (run is_keylike (x ∷ t)) (behind (x ∷ t)) (subst AllKeys (sym e ∙ all) keys) in
    let word : run is_keylike (x ∷ t) ≡ w = sym (alone (run is_keylike (x ∷ t)) o) ∙ sym all ∙ e in
    ap (λ (b : Bool). run is_wordlike (cond b (word_rest (run is_keylike t) (after_run is_keylike t))
    (word_rest (run is_keylike (x ∷ t)) (after_run is_keylike (x ∷ t))))) n
    ∙ ap (λ (v : List ℕ). run is_wordlike (word_rest v (after_run is_keylike (x ∷ t)))) word
    ∙ ap (run is_wordlike) (same (after_run is_keylike (x ∷ t))) ∙ o.word

pub number_ends : {v : Raw} (x : ℕ × ℕ) (t : Text) → is_wordlike x.1 ≡ true
    → word_value (run is_wordlike (x ∷ t)) ≡ Some v → Over (number_rest (x ∷ t))
number_ends {v = v} x t w e =
    go (bytes_eq all (codes "true")) refl (bytes_eq all (codes "false")) refl e
  where
    all : List ℕ
    all = run is_wordlike (x ∷ t)

    front : all ≡ x.1 ∷ run is_wordlike t
    front = ap (λ (b : Bool). cond b (x.1 ∷ run is_wordlike t) []) w

    split : all ≡ x.1 ∷ run is_keylike t ++ run is_wordlike (after_run is_keylike t)
    split = front ∙ ap (λ (cs : List ℕ). x.1 ∷ cs) (run_splits t)

    no_plus : (c : ℕ) (cs : List ℕ) → all ≡ c ∷ cs → (c == 43) ≡ false → (x.1 == 43) ≡ false
    no_plus c cs h n =
        let same : x.1 ∷ run is_wordlike t ≡ c ∷ cs = sym front ∙ h in
        let first : x.1 ≡ c = cc in
        ap (λ (c : ℕ). c == 43) first ∙ n

    -- no value begins with a period
    period : Number (46 ∷ run is_wordlike t) → ⊥
    period (inl h) = false≢true (decimal_whole false (46 ∷ run is_wordlike t) h)
    period (inr h) = false≢true h

    key : (b : Bool) → is_keylike x.1 ≡ b → (x.1 == 43) ≡ false → Number all
        → Over (word_rest (cond b (x.1 ∷ run is_keylike t) []) (cond b (after_run is_keylike t) (x ∷ t)))
    key true h f n =
        word_ends (x.1 ∷ run is_keylike t) (behind t) (cons h (run_keys t))
        (keys_write x.1 (run is_keylike t) h (behind t) (subst Number split n))
    key false h f n = by (x.1 == 46) refl
      where
        by : (b : Bool) → (x.1 == 46) ≡ b → Over (word_rest [] (x ∷ t))
        by true g = absurd (period (subst (λ (c : ℕ). Number (c ∷ run is_wordlike t)) (eqb-true x.1 46 g)
            (subst Number front n)))
        by false g =
            absurd (false≢true (sym (ap (λ (b : Bool). b || (x.1 == 43 || x.1 == 46)) h
            ∙ ap (λ (b : Bool). b || x.1 == 46) f ∙ g) ∙ w))

    number : Number all → (b : Bool) → (x.1 == 43) ≡ b
        → Over (cond b (word_rest (run is_keylike t) (after_run is_keylike t))
        (word_rest (run is_keylike (x ∷ t)) (after_run is_keylike (x ∷ t))))
    number n true h =
        word_ends (run is_keylike t) (behind t) (run_keys t)
        (plus_write (run is_keylike t) (run_keys t) (behind t)
        (subst Number (split ∙ ap (λ (c : ℕ). c ∷ run is_keylike t ++ run is_wordlike (after_run is_keylike t))
        (eqb-true x.1 43 h)) n)).1
    number n false h = key (is_keylike x.1) refl h n

    go : (a : Bool) → bytes_eq all (codes "true") ≡ a → (b : Bool) → bytes_eq all (codes "false") ≡ b
        → cond a (Some (Raw.boolean true)) (cond b (Some (Raw.boolean false))
        (number_value (integer_of all) (float_of all))) ≡ Some v
        → Over (number_rest (x ∷ t))
    go true h b i e =
        let same = (bytes_eq-Decides all (codes "true")).0 h in
        boolean_ends x t (codes "true") (cons refl (cons refl (cons refl (cons refl nil)))) (λ r. refl)
        (no_plus 116 (codes "rue") same refl) same
    go false h true i e =
        let same = (bytes_eq-Decides all (codes "false")).0 i in
        boolean_ends x t (codes "false") (cons refl (cons refl (cons refl (cons refl (cons refl nil))))) (λ r. refl)
        (no_plus 102 (codes "alse") same refl) same
    go false h false i e = number (number_is all e) (x.1 == 43) refl
