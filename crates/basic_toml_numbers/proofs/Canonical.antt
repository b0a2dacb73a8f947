-- A float's text in canonical form is a float again, and its own canonical form.
use Rattle.std.proofs.Common.{◌≡◌, ℕ, zero, suc, ◌<◌, ◌≤◌, Bool, true, false, not, ◌&&◌, ◌||◌, ◌==◌, if◌then◌else◌}
use Rattle.std.proofs.Common.{List, [], ◌∷◌, codes, refl, sym, ap, ◌∙◌, ◌⊎◌, inl, inr, IsTrue, arith}
use Rattle.std.specs.Char.{is_digit}
use Rattle.std.specs.List.{list_all}
use Rattle.std.specs.Str.{bytes_eq, IsAscii}
use Rattle.std.proofs.lemmas.Bool.{cases_Bool, eqb-true, and_parts, or_cases}
use Rattle.std.proofs.lemmas.Bool.Decides.{nat_tests}
use Rattle.std.proofs.Math.Bool.{or-true}
use Rattle.std.proofs.lemmas.Slice.Eq.{bytes_eq-Decides}
use Rattle.basic_toml_numbers.specs.Numbers.{plus, minus, period, underscore, is_sign, is_exponent_letter, goes_on}
use Rattle.basic_toml_numbers.specs.Numbers.{is_digits, is_whole, without_sign, is_part, part_of, after_part}
use Rattle.basic_toml_numbers.specs.Numbers.{is_exponent, is_tail, is_special, is_unsigned_float, canonical}
use Rattle.basic_toml_numbers.specs.Numbers.{is_canonical, stays}

digit_range : (c : ℕ) → is_digit c 10 ≡ true → (48 ≤ c) × (c ≤ 57)
digit_range c is = grind (arith, nat_tests)

pub canonical-keeps : (c : ℕ) (cs : List ℕ) → (c == plus || c == underscore) ≡ false → (c == 101) ≡ false
    → canonical (c ∷ cs) ≡ c ∷ canonical cs
canonical-keeps c cs stays same = rw (stays, same) refl

pub canonical-drops : (c : ℕ) (cs : List ℕ) → (c == plus || c == underscore) ≡ true → canonical (c ∷ cs) ≡ canonical cs
canonical-drops c cs goes = rw goes refl

canonical-digit : (c : ℕ) (cs : List ℕ) → is_digit c 10 ≡ true → canonical (c ∷ cs) ≡ c ∷ canonical cs
canonical-digit c cs is =
    let range = digit_range c is in
    canonical-keeps c cs (grind (arith, nat_tests)) (grind (arith, nat_tests))

-- after the canonical form nothing changes any more
pub canonical-canonical : (cs : List ℕ) → canonical (canonical cs) ≡ canonical cs
canonical-canonical [] = refl
canonical-canonical (c ∷ cs) =
    elim (cases_Bool (c == plus || c == underscore)) [
      | inl goes ↦ rw (canonical-drops c cs goes) (canonical-canonical cs)
      | inr stays ↦ elim (cases_Bool (c == 101)) [
        | inl letter ↦ rw (stays, letter) (ap (λ l. 69 ∷ l) (canonical-canonical cs))
        | inr same ↦ rw (canonical-keeps c cs stays same, canonical-keeps c (canonical cs) stays same)
            (ap (λ l. c ∷ l) (canonical-canonical cs))
      ]
    ]

-- where every byte stays, the text is its own canonical form
pub canonical_of_staying : (cs : List ℕ) → IsTrue (list_all stays cs) → canonical cs ≡ cs
canonical_of_staying [] all = refl
canonical_of_staying (c ∷ cs) all =
    let parts = and_parts (stays c) (list_all stays cs) all in
    canonical-keeps c cs (grind (arith, parts.0, nat_tests)) (grind (arith, parts.0, nat_tests))
    ∙ ap (λ rest. c ∷ rest) (canonical_of_staying cs parts.1)

-- what a test by cases says of its cases
run_cases : (digit line must_follow more ends : Bool)
    → (if digit then more else ((line && not must_follow) && ends)) ≡ true → ((digit ≡ true) × (more ≡ true))
    ⊎ ((line ≡ true) × (must_follow ≡ false) × (ends ≡ true))
run_cases true line must_follow more ends is = inl (refl, is)
run_cases false true false more ends is = inr (refl, refl, is)
run_cases false true true more ends is = absurd (cc)
run_cases false false must_follow more ends is = absurd (cc)

goes_on_cases : (must_follow : Bool) (c : ℕ) (cs : List ℕ) → goes_on 10 must_follow (c ∷ cs) ≡ true
    → ((is_digit c 10 ≡ true) × (goes_on 10 false cs ≡ true))
    ⊎ (((c == underscore) ≡ true) × (must_follow ≡ false) × (goes_on 10 true cs ≡ true))
goes_on_cases must_follow c cs is =
    run_cases (is_digit c 10) (c == underscore) must_follow (goes_on 10 false cs) (goes_on 10 true cs) is

weaker : (cs : List ℕ) → goes_on 10 true cs ≡ true → goes_on 10 false cs ≡ true
weaker [] is = refl
weaker (c ∷ cs) is = elim (goes_on_cases true c cs is) [
  | inl digit ↦ rw digit.0 digit.1
  | inr line ↦
      absurd (cc line.1)
]

underscore_drops : (c : ℕ) (cs : List ℕ) → (c == underscore) ≡ true → canonical (c ∷ cs) ≡ canonical cs
underscore_drops c cs is = canonical-drops c cs (grind (arith, nat_tests))

goes_on-canonical : (must_follow : Bool) (cs : List ℕ) → goes_on 10 must_follow cs ≡ true
    → goes_on 10 must_follow (canonical cs) ≡ true
goes_on-canonical must_follow [] is = is
goes_on-canonical true (c ∷ cs) is =
    elim (goes_on_cases true c cs is) [
      | inl digit ↦ rw (canonical-digit c cs digit.0, digit.0) (goes_on-canonical false cs digit.1)
      | inr line ↦ absurd (cc line.1)
    ]
goes_on-canonical false (c ∷ cs) is =
    elim (goes_on_cases false c cs is) [
      | inl digit ↦ rw (canonical-digit c cs digit.0, digit.0) (goes_on-canonical false cs digit.1)
      | inr line ↦ rw (underscore_drops c cs line.0) (weaker (canonical cs) (goes_on-canonical true cs line.2))
    ]

-- what begins with a digit begins with no sign
first_digit : (c : ℕ) (cs : List ℕ) → is_digits 10 (c ∷ cs) ≡ true → is_digit c 10 ≡ true
first_digit c cs is = elim (goes_on_cases true c cs is) [ inl digit ↦ digit.0 | inr line ↦ absurd (cc line.1) ]

digit_no_sign : (c : ℕ) → is_digit c 10 ≡ true → is_sign c ≡ false
digit_no_sign c is = let range = digit_range c is in grind (arith, nat_tests)

unsigned-digit : (c : ℕ) (cs : List ℕ) → is_digit c 10 ≡ true → without_sign (canonical (c ∷ cs)) ≡ canonical (c ∷ cs)
unsigned-digit c cs is = rw (canonical-digit c cs is, digit_no_sign c is) refl

unsigned-digits : (cs : List ℕ) → is_digits 10 cs ≡ true → without_sign (canonical cs) ≡ canonical cs
unsigned-digits [] is = refl
unsigned-digits (c ∷ cs) is = unsigned-digit c cs (first_digit c cs is)

is_whole-canonical : (cs : List ℕ) → is_whole cs ≡ true → is_whole (canonical cs) ≡ true
is_whole-canonical [] is = is
is_whole-canonical (c ∷ cs) is =
    elim (cases_Bool (c == 48)) [
      | inl zero_is ↦ rw (eqb-true c 48 zero_is, (bytes_eq-Decides cs []).0 (rw zero_is at is)) refl
      | inr other ↦
          let digits = rw other at is in
          let digit = first_digit c cs digits in
          rw (canonical-digit c cs digit, other)
          (rw (canonical-digit c cs digit) at (goes_on-canonical true (c ∷ cs) digits))
    ]

-- a text that does not begin with a plus
abbrev may_stop : List ℕ → Bool
may_stop [] = true
may_stop (c ∷ cs) = not (c == plus)

part_cases : (c : ℕ) → (is_digit c 10 ≡ true) ⊎ ((c ≡ underscore) ⊎ (is_part c ≡ false))
part_cases c =
    elim (cases_Bool (is_digit c 10)) [
      | inl digit ↦ inl digit
      | inr fails ↦ elim (cases_Bool (c == underscore)) [
        | inl line ↦ inr (inl (grind (arith, nat_tests)))
        | inr differs ↦ inr (inr (rw (fails, differs) refl))
      ]
    ]

stopped-canonical : (c : ℕ) (cs : List ℕ) → is_part c ≡ false → not (c == plus) ≡ true
    → (part_of (canonical (c ∷ cs)) ≡ canonical (part_of (c ∷ cs)))
    × (after_part (canonical (c ∷ cs)) ≡ canonical (after_part (c ∷ cs)))
stopped-canonical c cs ends stays =
    let kept : (c == plus || c == underscore) ≡ false = grind (arith, nat_tests) in
    elim (cases_Bool (c == 101)) [
      | inl letter ↦ rw (eqb-true c 101 letter) (refl, refl)
      | inr same ↦ rw (canonical-keeps c cs kept same, ends) (refl, sym (canonical-keeps c cs kept same))
    ]

parts-canonical : (cs : List ℕ) → may_stop (after_part cs) ≡ true → (part_of (canonical cs) ≡ canonical (part_of cs))
    × (after_part (canonical cs) ≡ canonical (after_part cs))
parts-canonical [] stops = (refl, refl)
parts-canonical (c ∷ cs) stops =
    elim (part_cases c) [
      | inl digit ↦
          let inner = parts-canonical cs (rw digit at stops) in
          rw (canonical-digit c cs digit, digit, canonical-digit c (part_of cs) digit)
          (ap (λ l. c ∷ l) inner.0, inner.1)
      | inr (inl line) ↦ rw line (parts-canonical cs (rw line at stops))
      | inr (inr ends) ↦ stopped-canonical c cs ends (rw ends at stops)
    ]

-- an exponent

exponent_letter_cases : (c : ℕ) → is_exponent_letter c ≡ true → (c ≡ 101) ⊎ (c ≡ 69)
exponent_letter_cases c is =
    elim (cases_Bool (c == 101)) [ inl small ↦ inl (eqb-true c 101 small) | inr other ↦ inr (grind (arith, nat_tests)) ]

power-canonical : (cs : List ℕ) → is_digits 10 (without_sign cs) ≡ true
    → is_digits 10 (without_sign (canonical cs)) ≡ true
power-canonical [] is = is
power-canonical (c ∷ cs) is =
    elim (cases_Bool (c == plus)) [
      | inl plus_is ↦
          let c_is = eqb-true c 43 plus_is in
          let digits : is_digits 10 cs ≡ true = rw c_is at is in
          rw (c_is, unsigned-digits cs digits) (goes_on-canonical true cs digits)
      | inr no_plus ↦ elim (cases_Bool (c == minus)) [
        | inl minus_is ↦
            let c_is = eqb-true c 45 minus_is in
            let digits : is_digits 10 cs ≡ true = rw c_is at is in
            rw c_is (goes_on-canonical true cs digits)
        | inr no_minus ↦
            let digits : is_digits 10 (c ∷ cs) ≡ true = rw (no_plus, no_minus) at is in
            rw (unsigned-digits (c ∷ cs) digits) (goes_on-canonical true (c ∷ cs) digits)
      ]
    ]

is_exponent-canonical : (cs : List ℕ) → is_exponent cs ≡ true → is_exponent (canonical cs) ≡ true
is_exponent-canonical [] is = is
is_exponent-canonical (c ∷ cs) is =
    let parts = and_parts (is_exponent_letter c) (is_digits 10 (without_sign cs)) is in
    elim (exponent_letter_cases c parts.0) [
      | inl small ↦ rw small (power-canonical cs parts.1)
      | inr large ↦
          rw large (power-canonical cs parts.1)
    ]

exponent_stops : (cs : List ℕ) → is_exponent cs ≡ true → may_stop cs ≡ true
exponent_stops [] is = refl
exponent_stops (c ∷ cs) is =
    let parts = and_parts (is_exponent_letter c) (is_digits 10 (without_sign cs)) is in
    elim (exponent_letter_cases c parts.0) [ inl small ↦ rw small refl | inr large ↦ rw large refl ]

exponent_is_tail : (cs : List ℕ) → is_exponent cs ≡ true → is_tail cs ≡ true
exponent_is_tail [] is = is
exponent_is_tail (c ∷ cs) is =
    let parts = and_parts (is_exponent_letter c) (is_digits 10 (without_sign cs)) is in
    elim (exponent_letter_cases c parts.0) [
      | inl small ↦ rw small (rw small at is)
      | inr large ↦
          rw large (rw large at is)
    ]

-- a fraction, an exponent, or both

abbrev is_end : List ℕ → Bool
is_end cs = bytes_eq cs [] || is_exponent cs

end_stops : (cs : List ℕ) → is_end cs ≡ true → may_stop cs ≡ true
end_stops cs is = elim (or_cases (bytes_eq cs []) (is_exponent cs) is) [
  | inl none ↦
      rw ((bytes_eq-Decides cs []).0 none) refl
  | inr exponent ↦ exponent_stops cs exponent
]

is_end-canonical : (cs : List ℕ) → is_end cs ≡ true → is_end (canonical cs) ≡ true
is_end-canonical cs is =
    elim (or_cases (bytes_eq cs []) (is_exponent cs) is) [
      | inl none ↦ rw ((bytes_eq-Decides cs []).0 none) refl
      | inr exponent ↦ rw (is_exponent-canonical cs exponent, or-true) refl
    ]

is_tail-canonical : (cs : List ℕ) → is_tail cs ≡ true → (is_tail (canonical cs) ≡ true) × (may_stop cs ≡ true)
is_tail-canonical [] is = absurd (cc)
is_tail-canonical (c ∷ cs) is =
    elim (cases_Bool (c == period)) [
      | inl dot ↦
          let parts = and_parts (is_digits 10 (part_of cs)) (is_end (after_part cs)) (rw dot at is) in
          let inner = parts-canonical cs (end_stops (after_part cs) parts.1) in
          let c_is = eqb-true c 46 dot in (
            rw (c_is, inner.0, inner.1, goes_on-canonical true (part_of cs) parts.0)
                (is_end-canonical (after_part cs) parts.1),
            rw c_is refl,
          )
      | inr other ↦
          let exponent = rw other at is in (
            exponent_is_tail (canonical (c ∷ cs)) (is_exponent-canonical (c ∷ cs) exponent),
            exponent_stops (c ∷ cs) exponent,
          )
    ]

-- the whole

special_cases : (cs : List ℕ) → is_special cs ≡ true → (cs ≡ codes "inf") ⊎ (cs ≡ codes "nan")
special_cases cs is =
    elim (or_cases (bytes_eq cs (codes "inf")) (bytes_eq cs (codes "nan")) is) [
      | inl infinite ↦ inl ((bytes_eq-Decides cs (codes "inf")).0 infinite)
      | inr none ↦ inr ((bytes_eq-Decides cs (codes "nan")).0 none)
    ]

abbrev is_number : List ℕ → Bool
is_number cs = is_whole (part_of cs) && is_tail (after_part cs)

is_unsigned_float-canonical : (cs : List ℕ) → is_unsigned_float cs ≡ true → is_unsigned_float (canonical cs) ≡ true
is_unsigned_float-canonical cs is =
    elim (or_cases (is_special cs) (is_number cs) is) [
      | inl special ↦ elim (special_cases cs special) [ inl infinite ↦ rw infinite refl | inr none ↦ rw none refl ]
      | inr number ↦
          let parts = and_parts (is_whole (part_of cs)) (is_tail (after_part cs)) number in
          let tail = is_tail-canonical (after_part cs) parts.1 in
          let inner = parts-canonical cs tail.1 in
          rw (inner.0, inner.1, is_whole-canonical (part_of cs) parts.0, tail.0, or-true) refl
    ]

whole_digit : (c : ℕ) (cs : List ℕ) → is_whole (part_of (c ∷ cs)) ≡ true → is_digit c 10 ≡ true
whole_digit c cs is =
    elim (part_cases c) [
      | inl digit ↦ digit
      | inr (inl line) ↦ absurd (cc (rw line at is))
      | inr (inr ends) ↦ absurd (cc (rw ends at is))
    ]

special-canonical : (cs : List ℕ) → (cs ≡ codes "inf") ⊎ (cs ≡ codes "nan") → without_sign (canonical cs) ≡ canonical cs
special-canonical cs (inl infinite) = rw infinite refl
special-canonical cs (inr none) = rw none refl

unsigned-canonical : (cs : List ℕ) → is_unsigned_float cs ≡ true → without_sign (canonical cs) ≡ canonical cs
unsigned-canonical [] is = refl
unsigned-canonical (c ∷ cs) is =
    elim (or_cases (is_special (c ∷ cs)) (is_number (c ∷ cs)) is) [
      | inl special ↦ special-canonical (c ∷ cs) (special_cases (c ∷ cs) special)
      | inr number ↦ unsigned-digit c cs
          (whole_digit c cs (and_parts (is_whole (part_of (c ∷ cs))) (is_tail (after_part (c ∷ cs))) number).0)
    ]

without_sign-canonical : (cs : List ℕ) → is_unsigned_float (without_sign cs) ≡ true
    → without_sign (canonical cs) ≡ canonical (without_sign cs)
without_sign-canonical [] is = refl
without_sign-canonical (c ∷ cs) is =
    elim (cases_Bool (c == plus)) [
      | inl plus_is ↦ let c_is = eqb-true c 43 plus_is in rw c_is (unsigned-canonical cs (rw c_is at is))
      | inr no_plus ↦ elim (cases_Bool (c == minus)) [
        | inl minus_is ↦ rw (eqb-true c 45 minus_is) refl
        | inr no_minus ↦
            let none : without_sign (c ∷ cs) ≡ c ∷ cs = rw (no_plus, no_minus) refl in
            unsigned-canonical (c ∷ cs) (rw (no_plus, no_minus) at is) ∙ ap canonical (sym none)
      ]
    ]

pub is_canonical-canonical : (cs : List ℕ) → is_unsigned_float (without_sign cs) ≡ true
    → IsTrue (is_canonical (canonical cs))
is_canonical-canonical cs is =
    rw (without_sign-canonical cs is, is_unsigned_float-canonical (without_sign cs) is)
    ((bytes_eq-Decides (canonical (canonical cs)) (canonical cs)).1 (canonical-canonical cs))

-- a float's text is ASCII

pub is_ascii-cons : (c : ℕ) (cs : List ℕ) → c < 128 → IsAscii cs → IsAscii (c ∷ cs)
is_ascii-cons c cs small more zero = small
is_ascii-cons c cs small more (suc i) = more i

is_ascii-goes_on : (must_follow : Bool) (cs : List ℕ) → goes_on 10 must_follow cs ≡ true → IsAscii cs
is_ascii-goes_on must_follow [] is = λ i. omega arith
is_ascii-goes_on must_follow (c ∷ cs) is =
    elim (goes_on_cases must_follow c cs is) [
      | inl digit ↦ let range = digit_range c digit.0 in
          is_ascii-cons c cs (omega arith) (is_ascii-goes_on false cs digit.1)
      | inr line ↦ let c_is = eqb-true c 95 line.0 in is_ascii-cons c cs (omega arith) (is_ascii-goes_on true cs line.2)
    ]

is_ascii-parts : (cs : List ℕ) → IsAscii (part_of cs) → IsAscii (after_part cs) → IsAscii cs
is_ascii-parts [] front back = back
is_ascii-parts (c ∷ cs) front back =
    elim (part_cases c) [
      | inl digit ↦ let range = digit_range c digit in
          is_ascii-cons c cs (omega arith) (is_ascii-parts cs (λ i. (rw digit at front) (suc i)) (rw digit at back))
      | inr (inl line) ↦ is_ascii-cons c cs (omega arith)
          (is_ascii-parts cs (λ i. (rw line at front) (suc i)) (rw line at back))
      | inr (inr ends) ↦ rw ends at back
    ]

is_ascii-whole : (cs : List ℕ) → is_whole cs ≡ true → IsAscii cs
is_ascii-whole [] is = λ i. omega arith
is_ascii-whole (c ∷ cs) is =
    elim (cases_Bool (c == 48)) [
      | inl zero_is ↦ let c_is = eqb-true c 48 zero_is in
          is_ascii-cons c cs (omega arith) (rw ((bytes_eq-Decides cs []).0 (rw zero_is at is)) (λ i. omega arith))
      | inr other ↦ is_ascii-goes_on true (c ∷ cs) (rw other at is)
    ]

is_ascii-without_sign : (cs : List ℕ) → IsAscii (without_sign cs) → IsAscii cs
is_ascii-without_sign [] is = is
is_ascii-without_sign (c ∷ cs) is =
    elim (cases_Bool (is_sign c)) [
      | inl sign ↦ is_ascii-cons c cs (grind (arith, nat_tests)) (rw sign at is)
      | inr other ↦ rw other at is
    ]

is_ascii-exponent : (cs : List ℕ) → is_exponent cs ≡ true → IsAscii cs
is_ascii-exponent [] is = λ i. omega arith
is_ascii-exponent (c ∷ cs) is =
    let parts = and_parts (is_exponent_letter c) (is_digits 10 (without_sign cs)) is in
    let more = is_ascii-without_sign cs (is_ascii-goes_on true (without_sign cs) parts.1) in
    elim (exponent_letter_cases c parts.0) [
      | inl small ↦ is_ascii-cons c cs (omega arith) more
      | inr large ↦
          is_ascii-cons c cs (omega arith) more
    ]

is_ascii-end : (cs : List ℕ) → is_end cs ≡ true → IsAscii cs
is_ascii-end cs is = elim (or_cases (bytes_eq cs []) (is_exponent cs) is) [
  | inl none ↦
      rw ((bytes_eq-Decides cs []).0 none) (λ i. omega arith)
  | inr exponent ↦ is_ascii-exponent cs exponent
]

is_ascii-tail : (cs : List ℕ) → is_tail cs ≡ true → IsAscii cs
is_ascii-tail [] is = absurd (cc)
is_ascii-tail (c ∷ cs) is =
    elim (cases_Bool (c == period)) [
      | inl dot ↦
          let parts = and_parts (is_digits 10 (part_of cs)) (is_end (after_part cs)) (rw dot at is) in
          let c_is = eqb-true c 46 dot in
          is_ascii-cons c cs (omega arith)
          (is_ascii-parts cs (is_ascii-goes_on true (part_of cs) parts.0) (is_ascii-end (after_part cs) parts.1))
      | inr other ↦ is_ascii-exponent (c ∷ cs) (rw other at is)
    ]

three_ascii : (a b c : ℕ) → a < 128 → b < 128 → c < 128 → IsAscii (a ∷ b ∷ c ∷ [])
three_ascii a b c first second third =
    is_ascii-cons a (b ∷ c ∷ []) first (is_ascii-cons b (c ∷ []) second (is_ascii-cons c [] third (λ i. omega arith)))

is_ascii-special : (cs : List ℕ) → (cs ≡ codes "inf") ⊎ (cs ≡ codes "nan") → IsAscii cs
is_ascii-special cs (inl infinite) = rw infinite (three_ascii 105 110 102 (omega arith) (omega arith) (omega arith))
is_ascii-special cs (inr none) = rw none (three_ascii 110 97 110 (omega arith) (omega arith) (omega arith))

pub is_ascii-float : (cs : List ℕ) → is_unsigned_float (without_sign cs) ≡ true → IsAscii cs
is_ascii-float cs is =
    let word = without_sign cs in
    is_ascii-without_sign cs (elim (or_cases (is_special word) (is_number word) is) [
      | inl special ↦ is_ascii-special word (special_cases word special)
      | inr number ↦ let parts = and_parts (is_whole (part_of word)) (is_tail (after_part word)) number in
          is_ascii-parts word (is_ascii-whole (part_of word) parts.0) (is_ascii-tail (after_part word) parts.1)
    ])
