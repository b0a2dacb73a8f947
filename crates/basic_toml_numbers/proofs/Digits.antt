-- The digits that a loop has read, and the number so far.
use Rattle.std.proofs.Common.{◌≡◌, ℕ, ◌+◌, ◌*◌, ◌^◌, ◌-◌, ◌<◌, ◌≤◌, min, Bool, true, false, not, ◌&&◌, ◌==◌}
use Rattle.std.proofs.Common.{if◌then◌else◌, List, [], ◌∷◌, length, drop, get_or, filter, Option, Some, None, refl}
use Rattle.std.proofs.Common.{◌∙◌, ◌⊎◌, inl, inr, arith, ap, sym}
use Rattle.std.proofs.lemmas.List.{at_drop_more, at_drop_all}
use Rattle.std.proofs.lemmas.Bool.Decides.{nat_tests}
use Rattle.std.proofs.lemmas.Grind.{pow_more}
use Rattle.std.proofs.Math.Nat.{min-eq_left, min-eq_right, le-mul_of_pos_right, pow-le-pow_right}
use Rattle.std.proofs.lemmas.Bool.{cases_Bool, cases_lt, lt-ltb}
use Rattle.std.specs.Char.{is_digit, digit_value}
use Rattle.std.specs.Str.Parse.{digits_value_after}
use Rattle.basic_toml_numbers.specs.Numbers.{underscore, goes_on}

-- the greatest u64
abbrev pub most : ℕ
most = 2 ^ 64 - 1

-- one digit more, stopping at the greatest u64
abbrev pub with_digit : ℕ → ℕ → ℕ → ℕ
with_digit radix value c = min (min (value * radix) most + digit_value c) most

-- what the loop answers where it has read `value` and these are left
abbrev pub read_from : ℕ → Bool → ℕ → List ℕ → Option ℕ
read_from radix must_follow value [] = if must_follow then None else Some value
read_from radix must_follow value (c ∷ cs) =
    if is_digit c radix then read_from radix false (with_digit radix value c) cs
    else if c == underscore && not must_follow then read_from radix true value cs else None

abbrev pub without_underscores : List ℕ → List ℕ
without_underscores cs = filter (λ c. not (c == underscore)) cs

-- stopping early and late stop at the same
capped_below : (r v d top : ℕ) → v ≤ top → min (min (min v top * r) top + d) top ≡ min (v * r + d) top
capped_below r v d top below = rw (min-eq_left below) (omega arith)

capped_above : (r v d top : ℕ) → 0 < r → top ≤ v → min (min (min v top * r) top + d) top ≡ min (v * r + d) top
capped_above r v d top positive above =
    rw (min-eq_right above) (omega
    (arith, le-mul_of_pos_right {m = r} top positive, le-mul_of_pos_right {m = r} v positive))

capped : (r v d top : ℕ) → 0 < r → min (min (min v top * r) top + d) top ≡ min (v * r + d) top
capped r v d top positive =
    elim (cases_lt v top) [
      | inl below ↦ capped_below r v d top (omega arith)
      | inr above ↦
          capped_above r v d top positive above
    ]

pub with_digit-min : (radix value c : ℕ) → 0 < radix
    → with_digit radix (min value most) c ≡ min (value * radix + digit_value c) most
with_digit-min radix value c positive = capped radix value (digit_value c) most positive

-- a byte that is no underscore, or stands where a digit has to follow
pub no_run : (c : ℕ) (must_follow : Bool) → (c ≡ 95 → ⊥) ⊎ ((c ≡ 95) × (must_follow ≡ true))
    → (c == underscore && not must_follow) ≡ false
no_run c must_follow (inl differs) = grind (arith, nat_tests)
no_run c must_follow (inr (is, follow)) = grind (arith, nat_tests)

-- the next byte is no digit and no underscore between digits
pub read_from-stops : (radix : ℕ) (must_follow : Bool) (value : ℕ) (cs : List ℕ) (i : ℕ) → i < length cs
    → is_digit (get_or cs i 0) radix ≡ false → (get_or cs i 0 == underscore && not must_follow) ≡ false
    → read_from radix must_follow value (drop i cs) ≡ None
read_from-stops radix must_follow value cs i within no_digit no_underscore =
    at_drop_more (read_from radix must_follow value) cs i 0 within ∙ rw (no_digit, no_underscore)

pub read_from-ends : (radix : ℕ) (must_follow : Bool) (value : ℕ) (cs : List ℕ) (i : ℕ) → length cs ≤ i
    → read_from radix must_follow value (drop i cs) ≡ (if must_follow then None else Some value)
read_from-ends radix must_follow value cs i past = at_drop_all (read_from radix must_follow value) cs i past

-- an underscore is a digit in no radix up to 36
no_underscore : (radix c : ℕ) → radix ≤ 36 → is_digit c radix ≡ true → (c == underscore) ≡ false
no_underscore radix c small is = grind (arith, nat_tests)

pub read_from-is : (radix : ℕ) (must_follow : Bool) (value : ℕ) (cs : List ℕ) → 0 < radix → radix ≤ 36 →
    read_from radix must_follow (min value most) cs
    ≡ (if goes_on radix must_follow cs then Some
    (min (digits_value_after radix value (without_underscores cs)) most) else None)
read_from-is radix true value [] positive small = refl
read_from-is radix false value [] positive small = refl
read_from-is radix true value (c ∷ cs) positive small =
    elim (cases_Bool (is_digit c radix)) [
      | inl is ↦ rw (is, no_underscore radix c small is, with_digit-min radix value c positive)
          (read_from-is radix false (value * radix + digit_value c) cs positive small)
      | inr fails ↦ rw fails (elim (cases_Bool (c == underscore)) [
        | inl line ↦ rw line refl
        | inr differs ↦
            rw differs refl
      ])
    ]
read_from-is radix false value (c ∷ cs) positive small =
    elim (cases_Bool (is_digit c radix)) [
      | inl is ↦ rw (is, no_underscore radix c small is, with_digit-min radix value c positive)
          (read_from-is radix false (value * radix + digit_value c) cs positive small)
      | inr fails ↦ rw fails (elim (cases_Bool (c == underscore)) [
        | inl line ↦
            rw line (read_from-is radix true value cs positive small)
        | inr differs ↦ rw differs refl
      ])
    ]

-- decimal digits alone, of which up to 19 write less than 2 ^ 64
pub decimal_grows : (number digit k : ℕ) → number < 10 ^ k → digit < 10 → number * 10 + digit < 10 ^ (k + 1)
decimal_grows number digit k small below = omega (arith, pow_more 10 k)

pub decimal_fits : (number digit k : ℕ) → k < 19 → number < 10 ^ k → digit < 10 → number * 10 + digit < 2 ^ 64
decimal_fits number digit k few small below =
    omega (
      arith,
      decimal_grows number digit k small below,
      pow-le-pow_right {n = 10} (omega arith) {i = k + 1} {j = 19} (omega arith),
    )

pub digit_read : (value : ℕ) (cs : List ℕ) (i digit : ℕ) → i < length cs → i < 19 → value < 10 ^ i
    → digit_value (get_or cs i 0) < 10 → digit ≡ digit_value (get_or cs i 0) → digit < 10
    → read_from 10 (i == 0) value (drop i cs) ≡ read_from 10 true 0 cs
    → read_from 10 (i + 1 == 0) (value * 10 + digit) (drop (i + 1) cs) ≡ read_from 10 true 0 cs
digit_read value cs i digit within few small decimal is below so =
    let fits : value * 10 + digit < 2 ^ 64 = decimal_fits value digit i few small below in
    let yes : is_digit (get_or cs i 0) 10 ≡ true = lt-ltb (digit_value (get_or cs i 0)) 10 decimal in
    let later : (i + 1 == 0) ≡ false = grind (arith, nat_tests) in
    let whole : min (value * 10) most ≡ value * 10 = min-eq_left (omega (arith, fits)) in
    let kept : with_digit 10 value (get_or cs i 0) ≡ value * 10 + digit =
    ap (λ (d : ℕ). min (min (value * 10) most + d) most) (sym is) ∙ ap (λ (n : ℕ). min (n + digit) most) whole ∙
    min-eq_left (omega (arith, fits)) in
    let front : read_from 10 (i == 0) value (drop i cs)
    ≡ read_from 10 false (with_digit 10 value (get_or cs i 0)) (drop (i + 1) cs) =
    at_drop_more (read_from 10 (i == 0) value) cs i 0 within ∙ rw yes in
    ap (λ (b : Bool). read_from 10 b (value * 10 + digit) (drop (i + 1) cs)) later ∙
    ap (λ (n : ℕ). read_from 10 false n (drop (i + 1) cs)) (sym kept) ∙ sym front ∙ so

pub other_stops : (value : ℕ) (cs : List ℕ) (i : ℕ) → i < length cs → is_digit (get_or cs i 0) 10 ≡ false
    → (get_or cs i 0 == underscore) ≡ false → read_from 10 (i == 0) value (drop i cs) ≡ read_from 10 true 0 cs
    → None ≡ (if goes_on 10 true cs then Some (min (digits_value_after 10 0 (without_underscores cs)) most) else None)
other_stops value cs i within no_digit differs so =
    sym (read_from-stops 10 (i == 0) value cs i within no_digit
    (ap (λ (b : Bool). b && not (i == 0)) differs)) ∙ so ∙ read_from-is 10 true 0 cs (omega arith) (omega arith)

pub all_digits : (value : ℕ) (cs : List ℕ) (i : ℕ) → length cs ≤ i → 0 < length cs
    → read_from 10 (i == 0) value (drop i cs) ≡ read_from 10 true 0 cs
    → Some value
    ≡ (if goes_on 10 true cs then Some (min (digits_value_after 10 0 (without_underscores cs)) most) else None)
all_digits value cs i past some so =
    let later : (i == 0) ≡ false = grind (arith, nat_tests) in
    sym (read_from-ends 10 (i == 0) value cs i past ∙ ap (λ (b : Bool). if b then None else Some value) later) ∙
    so ∙ read_from-is 10 true 0 cs (omega arith) (omega arith)
