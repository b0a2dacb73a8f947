-- An integer in decimal is read as itself.
use Rattle.std.proofs.Common.{◌≡◌, ℕ, zero, suc, ◌+◌, ◌<◌, ◌^◌, Bool, true, false, not, ◌==◌, nat_lt, List, [], ◌∷◌}
use Rattle.std.proofs.Common.{length, filter, get_or, refl, ap, ◌∙◌, arith, rules, ℤ, pos, negsuc, Some}
use Rattle.std.specs.Char.{is_digit}
use Rattle.std.specs.Fmt.{decimal, signed_decimal}
use Rattle.std.specs.List.{list_all}
use Rattle.std.specs.Str.Parse.{digits_value}
use Rattle.std.proofs.lemmas.Bool.{and_parts, ne_eqb, cond-false}
use Rattle.std.proofs.lemmas.Bool.Decides.{nat_tests}
use Rattle.std.proofs.lemmas.Fmt.{decimal_digit, digits_decimal, digits_value-decimal, decimal_nonempty, first_decimal}
use Rattle.std.proofs.lemmas.Str.Parse.{IsNumeralModel, numerals_by_value}
use Rattle.basic_toml_numbers.specs.Numbers as numbers

-- in i64
abbrev pub fits : ℤ → Bool
fits (pos n) = nat_lt n (2 ^ 63)
fits (negsuc n) = nat_lt n (2 ^ 63)

pub below_63 : (n : ℕ) → nat_lt n (2 ^ 63) ≡ true → n + 1 < 2 ^ 64
below_63 n h = grind (arith, nat_tests)

abbrev is_decimal_digit : ℕ → Bool
is_decimal_digit c = is_digit c 10

own : IsNumeralModel (λ ds. list_all is_decimal_digit ds ≡ true) (digits_value 10)
own = numerals_by_value _ (search rules)

-- digits without underscores go on as digits, and stay all
no_underscore : (c : ℕ) → is_decimal_digit c ≡ true → (c == 95) ≡ false
no_underscore c h = grind (arith, nat_tests)

digits_go_on : (ds : List ℕ) → list_all is_decimal_digit ds ≡ true → numbers.goes_on 10 false ds ≡ true
digits_go_on [] h = refl
digits_go_on (c ∷ ds) h =
    let p : (is_decimal_digit c ≡ true) × (list_all is_decimal_digit ds ≡ true) = and_parts _ _ h in
    rw p.0 (digits_go_on ds p.1)

digits_stay : (ds : List ℕ) → list_all is_decimal_digit ds ≡ true → filter (λ c. not (c == 95)) ds ≡ ds
digits_stay [] h = refl
digits_stay (c ∷ ds) h =
    let p : (is_decimal_digit c ≡ true) × (list_all is_decimal_digit ds ≡ true) = and_parts _ _ h in
    rw (no_underscore c p.0) (ap (λ (t : List ℕ). c ∷ t) (digits_stay ds p.1))

-- with no leading zero
digits_are_whole : (c : ℕ) (ds : List ℕ) → list_all is_decimal_digit (c ∷ ds) ≡ true → 48 < c
    → numbers.is_whole (c ∷ ds) ≡ true
digits_are_whole c ds h first =
    let other : (c == 48) ≡ false = ne_eqb c 48 (λ e. omega arith) in
    let p : (is_decimal_digit c ≡ true) × (list_all is_decimal_digit ds ≡ true) = and_parts _ _ h in
    rw (other, p.0) (digits_go_on ds p.1)

-- what the digits of a number are
record Digits (n : ℕ) (text : List ℕ) : Type 0 where
  are : list_all is_decimal_digit text ≡ true
  value : digits_value 10 text ≡ n
  filled : 0 < length text
  first : 0 < n → 48 < get_or text 0 0

pub decimal_digits : (n : ℕ) → n < 2 ^ 64 → list_all is_decimal_digit (decimal n) ≡ true
decimal_digits n small = digits_decimal own n small

digits_of : (n : ℕ) → n < 2 ^ 64 → Digits n (decimal n)
digits_of n small = record {
  are = decimal_digits n small;
  value = digits_value-decimal own n small;
  filled = decimal_nonempty n small;
  first = λ more. first_decimal n more small;
}

digits_read : (n : ℕ) (text : List ℕ) → Digits n text → 0 < n → (negative : Bool)
    → numbers.decimal negative text ≡ numbers.signed negative n
digits_read n [] d more negative = absurd (omega (arith, d.filled))
digits_read n (c ∷ ds) d more negative =
    rw (digits_are_whole c ds d.are (d.first more), digits_stay (c ∷ ds) d.are, d.value) refl

-- a first digit is no sign, and here no zero
unsigned : (n : ℕ) (text : List ℕ) → Digits n text → 0 < n → numbers.integer_of text ≡ numbers.signed false n
unsigned n [] d more = absurd (omega (arith, d.filled))
unsigned n (c ∷ ds) d more =
    let first : 48 < c = d.first more in
    let no_plus : (c == 43) ≡ false = ne_eqb c 43 (λ e. omega arith) in
    let no_minus : (c == 45) ≡ false = ne_eqb c 45 (λ e. omega arith) in
    let no_zero : (c == 48) ≡ false = ne_eqb c 48 (λ e. omega arith) in
    rw (no_plus, no_minus) (cond-false (c == 48) _ _ no_zero ∙ digits_read n (c ∷ ds) d more false)

pub integer_read_back : (z : ℤ) → fits z ≡ true → numbers.integer_of (signed_decimal z) ≡ Some z
integer_read_back (pos zero) h = rw (decimal_digit 0 (omega arith)) refl
integer_read_back (pos (suc n)) h =
    unsigned (suc n) (decimal (suc n)) (digits_of (suc n) (omega (arith, below_63 (suc n) h))) (omega arith) ∙ rw h refl
integer_read_back (negsuc n) h =
    digits_read (suc n) (decimal (suc n)) (digits_of (suc n) (omega (arith, below_63 n h))) (omega arith) true
    ∙ rw h refl
