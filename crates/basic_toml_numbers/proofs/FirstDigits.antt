-- A text that begins with decimal digits, and the integer that these write.
use Rattle.std.proofs.Common.{◌≡◌, ◌<◌, ◌+◌, ◌*◌, ◌-◌, ◌^◌, ◌==◌, inl, inr, ℕ, true, false, not, List, [], ◌∷◌, length}
use Rattle.std.proofs.Common.{filter, take, get_or, refl, ap, ◌∙◌, sym, arith, Some, None, pos, Option, zero, suc, min}
use Rattle.std.proofs.Common.{ℤ, ◌≤◌}
use Rattle.std.specs.List.{list_all, prefix_len}
use Rattle.std.specs.Option.{option_map}
use Rattle.std.specs.Char.{digit_value, is_ascii_digit}
use Rattle.std.specs.Int.{IsInRange}
use Rattle.std.specs.Str.Parse.{digits_value}
use Rattle.std.proofs.lemmas.Bool.{and_parts, both_ways, cases_Bool, cases_lt, eqb-true, lt-ltb}
use Rattle.std.proofs.lemmas.Option.{none-some}
use Rattle.std.proofs.lemmas.Bool.Decides.{nat_tests}
use Rattle.std.proofs.lemmas.List.Folds.{list_all_more}
use Rattle.std.proofs.lemmas.List.Sums.{prefix_len-le-length, prefix_len_passes}
use Rattle.std.proofs.lemmas.Int.Digits.{digits_value_more}
use Rattle.std.proofs.lemmas.Str.{digit_value_digit}
use Rattle.basic_toml_numbers.specs.Numbers.{plus, minus, underscore, is_decimal, goes_on, decimal, signed, integer_of}
use Rattle.basic_toml_numbers.specs.Numbers.{first_count, first_digits}

pub in_range : (c : ℕ) → is_ascii_digit c ≡ true → IsInRange 48 57 c
in_range c is = grind (arith, nat_tests)

-- a byte that is a digit, and its value
pub digit_of : (c : ℕ) → IsInRange 48 57 c → digit_value c ≡ c - 48
digit_of c is = omega (arith, digit_value_digit c is)

pub digit_is : (c : ℕ) → IsInRange 48 57 c → is_decimal c ≡ true
digit_is c is = lt-ltb (digit_value c) 10 (omega (arith, digit_of c is, is))

-- one digit more
pub more_digits : (text : List ℕ) (count : ℕ) → count < length text → IsInRange 48 57 (get_or text count 0)
    → list_all is_decimal (take count text) ≡ true → list_all is_decimal (take (count + 1) text) ≡ true
more_digits text count within is all =
    list_all_more is_decimal text count 0 within ∙ rw (all, digit_is (get_or text count 0) is) refl

pub more_value : (text : List ℕ) (count value : ℕ) → count < length text → IsInRange 48 57 (get_or text count 0)
    → value ≡ digits_value 10 (take count text)
    → value * 10 + (get_or text count 0 - 48) ≡ digits_value 10 (take (count + 1) text)
more_value text count value within is so =
    omega (arith, so, digits_value_more 10 text count within, digit_of (get_or text count 0) is)

decimal_is_no_line : (c : ℕ) → is_decimal c ≡ true → (c == underscore) ≡ false
decimal_is_no_line c is = grind (arith, nat_tests)

-- digits go on, and no underscore stands among them
digits_go_on : (cs : List ℕ) → list_all is_decimal cs ≡ true → goes_on 10 false cs ≡ true
digits_go_on [] all = refl
digits_go_on (c ∷ cs) all =
    let parts = and_parts (is_decimal c) (list_all is_decimal cs) all in
    rw parts.0 (digits_go_on cs parts.1)

digits_alone : (cs : List ℕ) → list_all is_decimal cs ≡ true → filter (λ c. not (c == underscore)) cs ≡ cs
digits_alone [] all = refl
digits_alone (c ∷ cs) all =
    let parts = and_parts (is_decimal c) (list_all is_decimal cs) all in
    rw (decimal_is_no_line c parts.0) (ap (λ ds. c ∷ ds) (digits_alone cs parts.1))

signed_small : (n : ℕ) → n < 2 ^ 63 → signed false n ≡ Some (pos n)
signed_small n small = rw (lt-ltb n (2 ^ 63) small) refl

-- a decimal of digits that begin with no zero
decimal_of_digits : (cs : List ℕ) (value : ℕ) → list_all is_decimal cs ≡ true → 0 < length cs → (get_or cs 0 0 == 48) ≡ false
    → value ≡ digits_value 10 cs → value < 2 ^ 63 → decimal false cs ≡ Some (pos value)
decimal_of_digits [] value all some other is small = absurd (omega (arith, some))
decimal_of_digits (c ∷ cs) value all some other is small =
    let parts = and_parts (is_decimal c) (list_all is_decimal cs) all in
    rw (other, parts.0, digits_go_on cs parts.1, digits_alone (c ∷ cs) all)
    (ap (signed false) (sym is) ∙ signed_small value small)

as_decimal : (c : ℕ) (cs : List ℕ) → (c == plus) ≡ false → (c == minus) ≡ false → (c == 48) ≡ false
    → integer_of (c ∷ cs) ≡ decimal false (c ∷ cs)
as_decimal c cs no_plus no_minus other = rw (no_plus, no_minus, other) refl

-- the integer of digits that begin with no zero, but for zero alone
pub digits_are_integer : (cs : List ℕ) (value : ℕ) → list_all is_decimal cs ≡ true → 0 < length cs
    → (get_or cs 0 0 ≡ 48 → length cs ≡ 1) → value ≡ digits_value 10 cs → value < 2 ^ 63
    → integer_of cs ≡ Some (pos value)
digits_are_integer [] value all some alone is small = absurd (omega (arith, some))
digits_are_integer (c ∷ []) value all some alone is small =
    let digit = (and_parts (is_decimal c) true all).0 in
    let no_plus : (c == plus) ≡ false = grind (arith, nat_tests) in
    let no_minus : (c == minus) ≡ false = grind (arith, nat_tests) in
    elim (cases_Bool (c == 48)) [
      | inl naught ↦
          rw (no_plus, no_minus, naught)
          (ap (λ n. Some (pos n)) (sym (is ∙ ap (λ d. digits_value 10 (d ∷ [])) (eqb-true c 48 naught))))
      | inr other ↦
          as_decimal c [] no_plus no_minus other ∙ decimal_of_digits (c ∷ []) value all some other is small
    ]
digits_are_integer (c ∷ d ∷ cs) value all some alone is small =
    let digit = (and_parts (is_decimal c) (list_all is_decimal (d ∷ cs)) all).0 in
    let no_plus : (c == plus) ≡ false = grind (arith, nat_tests) in
    let no_minus : (c == minus) ≡ false = grind (arith, nat_tests) in
    elim (cases_Bool (c == 48)) [
      | inl naught ↦ absurd (omega (arith, alone (eqb-true c 48 naught)))
      | inr other ↦
          as_decimal c (d ∷ cs) no_plus no_minus other ∙ decimal_of_digits (c ∷ d ∷ cs) value all some other is small
    ]

-- digits of which the first is a zero, and not the only one
pub leading_zero : (cs : List ℕ) → list_all is_decimal cs ≡ true → 1 < length cs → get_or cs 0 0 ≡ 48
    → integer_of cs ≡ None
leading_zero [] all more naught = absurd (omega (arith, more))
leading_zero (c ∷ []) all more naught = absurd (omega (arith, more))
leading_zero (c ∷ d ∷ cs) all more naught =
    let digit = (and_parts (is_decimal d) (list_all is_decimal cs)
    (and_parts (is_decimal c) (list_all is_decimal (d ∷ cs)) all).1).0 in
    let no_x : (d == 120) ≡ false = grind (arith, nat_tests) in
    let no_o : (d == 111) ≡ false = grind (arith, nat_tests) in
    let no_b : (d == 98) ≡ false = grind (arith, nat_tests) in
    ap (λ (n : ℕ). integer_of (n ∷ d ∷ cs)) naught ∙ rw (no_x, no_o, no_b) refl

other_byte : (c : ℕ) → is_ascii_digit c ≡ false → is_decimal c ≡ false
other_byte c is = grind (arith, nat_tests)

-- how many digits there are
digits_pass : (cs : List ℕ) (count : ℕ) → count ≤ length cs → list_all is_decimal (take count cs) ≡ true
    → count ≤ prefix_len is_decimal cs
digits_pass cs zero within all = omega arith
digits_pass [] (suc n) within all = absurd (omega (arith, within))
digits_pass (c ∷ cs) (suc n) within all =
    let parts = and_parts (is_decimal c) (list_all is_decimal (take n cs)) all in
    let more = digits_pass cs n (omega (arith, within)) parts.1 in
    rw parts.0 (omega (arith, more))

pub count_of_all : (cs : List ℕ) (count most : ℕ) → most ≡ min (length cs) 18 → most ≤ count → count ≤ most
    → list_all is_decimal (take count cs) ≡ true → first_count cs ≡ count
count_of_all cs count most is past within all =
    let front = digits_pass cs count (omega (arith, is, within)) all in
    omega (arith, is, past, within, front, prefix_len-le-length is_decimal cs)

pub count_before_other : (cs : List ℕ) (count most : ℕ) → most ≡ min (length cs) 18 → count < most
    → list_all is_decimal (take count cs) ≡ true → is_ascii_digit (get_or cs count 0) ≡ false → first_count cs ≡ count
count_before_other cs count most is within all other =
    let front = digits_pass cs count (omega (arith, is, within)) all in
    let no_more : prefix_len is_decimal cs ≤ count =
    elim (cases_lt count (prefix_len is_decimal cs)) [
      | inl longer ↦
          absurd (both_ways (is_decimal (get_or cs count 0)) (other_byte (get_or cs count 0) other)
          (prefix_len_passes is_decimal cs count 0 longer))
      | inr shorter ↦ omega (arith, shorter)
    ] in
    omega (arith, is, within, front, no_more)

-- what first digits are
pub record AreFirst (text : List ℕ) (number : ℤ) (count : ℕ) : Type 0 where
  pub digits : list_all is_decimal (take count text) ≡ true
  pub some : 0 < count
  pub within : count ≤ length text
  pub integer : integer_of (take count text) ≡ Some number

-- as many as begin the text are all digits
digits_before : (cs : List ℕ) (count : ℕ) → count ≤ prefix_len is_decimal cs
    → list_all is_decimal (take count cs) ≡ true
digits_before cs zero fits = refl
digits_before [] (suc n) fits = refl
digits_before (c ∷ cs) (suc n) fits =
    elim (cases_Bool (is_decimal c)) [
      | inl e ↦
          let first : 1 + prefix_len is_decimal cs ≡ prefix_len is_decimal (c ∷ cs) = rw e refl in
          rw e (digits_before cs n (omega (arith, fits, first)))
      | inr e ↦
          let first : 0 ≡ prefix_len is_decimal (c ∷ cs) = rw e refl in
          absurd (omega (arith, fits, first))
    ]

abbrev unwrap_or : ℤ × ℕ → Option (ℤ × ℕ) → ℤ × ℕ
unwrap_or other None = other
unwrap_or other (Some found) = found

pub are_first : (text : List ℕ) (number : ℤ) (count : ℕ) → Some (number, count) ≡ first_digits text
    → AreFirst text number count
are_first text number count is = go (integer_of (take (first_count text) text)) refl is
  where
    shown : (z : ℤ) (n : ℕ) → number ≡ z → count ≡ n → n ≡ first_count text
        → integer_of (take n text) ≡ Some z → AreFirst text number count
    shown z n same as_many first integer = record {
      digits = digits_before text count (omega (arith, as_many, first));
      some = elim (cases_lt 0 n) [
        | inl there ↦ omega (arith, as_many, there)
        | inr none ↦
            let naught : 0 ≡ n = omega (arith, none) in
            absurd (none-some z (ap (λ (i : ℕ). integer_of (take i text)) naught ∙ integer))
      ];
      within = omega (arith, as_many, first, prefix_len-le-length is_decimal text);
      integer = ap (λ (i : ℕ). integer_of (take i text)) as_many ∙ integer ∙ ap (λ z. Some z) (sym same);
    }

    go : (found : Option ℤ) → integer_of (take (first_count text) text) ≡ found
        → ◌≡◌ {A = Option (ℤ × ℕ)} (Some (number, count)) (option_map (λ z. (z, first_count text)) found)
        → AreFirst text number count
    go None e told = let found : ℤ × ℕ = (number, count) in absurd (none-some found (sym told))
    go (Some z) e told =
        let found : ℤ × ℕ = (number, count) in
        let other : ℤ × ℕ = (z, first_count text) in
        let same : found ≡ other = ap (unwrap_or found) told in
        shown z (first_count text) (ap (λ p. p.0) same) (ap (λ p. p.1) same) refl e
