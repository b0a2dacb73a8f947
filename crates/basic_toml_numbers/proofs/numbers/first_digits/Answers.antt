use Rattle.std.proofs.Common.{◌≡◌, ◌<◌, ◌≤◌, ◌+◌, ◌*◌, ◌^◌, ℕ, List, take, get_or, length, ap, sym, ◌∙◌, arith, Some}
use Rattle.std.proofs.Common.{w64}
use Rattle.std.proofs.Math.Nat.{pow-le-pow_right}
use Rattle.std.proofs.lemmas.Int.{to_z_pos}
use Rattle.std.proofs.lemmas.List.{get_or-take, length-take}
use Rattle.std.specs.Option.{option_map}
use Rattle.basic_toml_numbers.specs.Numbers.{integer_of, first_count, first_digits}
use Rattle.basic_toml_numbers.proofs.Digits.{decimal_fits, decimal_grows}
use Rattle.basic_toml_numbers.proofs.FirstDigits.{in_range, more_digits, more_value, digits_are_integer, leading_zero}
use Rattle.basic_toml_numbers.proofs.FirstDigits.{count_before_other, count_of_all}
use Rattle.basic_toml_numbers.proofs.numbers.first_digits.Goals as goal
use Rattle.basic_toml_numbers.proofs.numbers.first_digits.Goals.{else-count-gt1-via-then-count-gt1+else-text-eq48}
use Rattle.basic_toml_numbers.proofs.numbers.first_digits.Goals.{else-count-gt1-via-else-count-gt1}
use Rattle.basic_toml_numbers.proofs.numbers.first_digits.Goals.{then-loop-count-test+else-is_ascii_digit}
use Rattle.basic_toml_numbers.proofs.numbers.first_digits.Goals.{else-loop-count-test}

pub overflow_mul-value : goal.overflow_mul-value
overflow_mul-value c =
    omega (
      arith,
      decimal_fits c.loop-count.value 0 c.loop-count.count (omega (arith, c.min-most.ensures, c.loop-count-test.true))
          c.loop-count.invariant.small (omega arith),
    )

pub overflow_add-value : goal.overflow_add-value
overflow_add-value c =
    let digit = in_range (get_or c.args.text.now c.loop-count.count 0) (sym c.if-is_ascii_digit.ensures.value) in
    omega (
      arith,
      decimal_fits c.loop-count.value c.from.result c.loop-count.count
          (omega (arith, c.min-most.ensures, c.loop-count-test.true)) c.loop-count.invariant.small
          (omega (arith, c.from.ensures, digit)),
    )

pub loop-count-preserved : goal.loop-count-preserved
loop-count-preserved c =
    let text = c.args.text.now in
    let count = c.loop-count.count in
    let within : count < length text = omega (arith, c.min-most.ensures, c.loop-count-test.true) in
    let digit = in_range (get_or text count 0) (sym c.if-is_ascii_digit.ensures.value) in record {
      within = omega (arith, c.loop-count-test.true);
      digits = more_digits text count within digit c.loop-count.invariant.digits;
      value =
          ap (λ (d : ℕ). c.loop-count.value * 10 + d) c.from.ensures
          ∙ more_value text count c.loop-count.value within digit c.loop-count.invariant.value;
      small =
          decimal_grows c.loop-count.value c.from.result count c.loop-count.invariant.small
          (omega (arith, c.from.ensures, digit));
    }

small : (value count : ℕ) → value < 10 ^ count → count ≤ 18 → value < 2 ^ 63
small value count below few = omega (
  arith,
  below,
  pow-le-pow_right {n = 10} (omega arith) {i = count} {j = 18} few,
)

pub overflow_cast-result : goal.overflow_cast-result
overflow_cast-result c =
    omega (
      arith,
      small c.loop-count.value c.loop-count.count c.loop-count.invariant.small
          (omega (arith, c.min-most.ensures, c.loop-count.invariant.within)),
    )

-- what the answer is, by how many digits are count_before_other
answer_by_count : (text : List ℕ) (count : ℕ) → first_count text ≡ count
    → first_digits text ≡ option_map (λ number. (number, count)) (integer_of (take count text))
answer_by_count text count e = ap (λ (n : ℕ). option_map (λ number. (number, n)) (integer_of (take n text))) e

pub returns-then-count-eq0 : goal.returns-then-count-eq0
returns-then-count-eq0 c =
    let text = c.args.text.now in
    let count : first_count text ≡ c.loop-count.count = elim c.loop-count-test.branch [
      | then-loop-count-test+else-is_ascii_digit w ↦
          count_before_other text c.loop-count.count c.min-most.result c.min-most.ensures w.loop-count-test.true
          c.loop-count.invariant.digits (sym w.is_ascii_digit.ensures.value ∙ w.if-is_ascii_digit.false)
      | else-loop-count-test w ↦
          count_of_all text c.loop-count.count c.min-most.result c.min-most.ensures
          (omega (arith, w.loop-count-test.false)) c.loop-count.invariant.within c.loop-count.invariant.digits
    ] in
    sym (answer_by_count text 0 (count ∙ c.if-count-eq0.true))

pub returns-then-text-eq48 : goal.returns-then-text-eq48
returns-then-text-eq48 c =
    let text = c.args.text.now in
    let count : first_count text ≡ c.loop-count.count = elim c.loop-count-test.branch [
      | then-loop-count-test+else-is_ascii_digit w ↦
          count_before_other text c.loop-count.count c.min-most.result c.min-most.ensures w.loop-count-test.true
          c.loop-count.invariant.digits (sym w.is_ascii_digit.ensures.value ∙ w.if-is_ascii_digit.false)
      | else-loop-count-test w ↦
          count_of_all text c.loop-count.count c.min-most.result c.min-most.ensures
          (omega (arith, w.loop-count-test.false)) c.loop-count.invariant.within c.loop-count.invariant.digits
    ] in
    let within : c.loop-count.count ≤ length text = omega (arith, c.min-most.ensures, c.loop-count.invariant.within) in
    let none = leading_zero (take c.loop-count.count text) c.loop-count.invariant.digits
    (omega (arith, length-take c.loop-count.count text, within, c.if-count-gt1.true))
    (get_or-take c.loop-count.count text 0 0 (omega (arith, c.if-count-gt1.true)) ∙ c.if-text-eq48.true) in
    sym (answer_by_count text c.loop-count.count count ∙ ap (option_map (λ number. (number, c.loop-count.count))) none)

pub returns : goal.returns
returns c =
    let text = c.args.text.now in
    let count = c.loop-count.count in
    let within : count ≤ length text = omega (arith, c.min-most.ensures, c.loop-count.invariant.within) in
    let few = small c.loop-count.value count c.loop-count.invariant.small
    (omega (arith, c.min-most.ensures, c.loop-count.invariant.within)) in
    let long : length (take count text) ≡ count = omega (arith, length-take count text, within) in
    let number = digits_are_integer (take count text) c.loop-count.value c.loop-count.invariant.digits
    (omega (arith, long, c.if-count-eq0.false))
    (λ naught. elim c.else-count-gt1.branch [
      | else-count-gt1-via-then-count-gt1+else-text-eq48 w ↦
          absurd (w.if-text-eq48.false (sym (get_or-take count text 0 0 (omega (arith, w.if-count-gt1.true))) ∙ naught))
      | else-count-gt1-via-else-count-gt1 w ↦ omega (arith, long, w.if-count-gt1.false, c.if-count-eq0.false)
    ])
    c.loop-count.invariant.value few
    ∙ ap (λ z. Some z) (sym (to_z_pos w64 c.loop-count.value few)) in
    let seen : first_count text ≡ count = elim c.loop-count-test.branch [
      | then-loop-count-test+else-is_ascii_digit w ↦
          count_before_other text c.loop-count.count c.min-most.result c.min-most.ensures w.loop-count-test.true
          c.loop-count.invariant.digits (sym w.is_ascii_digit.ensures.value ∙ w.if-is_ascii_digit.false)
      | else-loop-count-test w ↦
          count_of_all text c.loop-count.count c.min-most.result c.min-most.ensures
          (omega (arith, w.loop-count-test.false)) c.loop-count.invariant.within c.loop-count.invariant.digits
    ] in
    sym (answer_by_count text count seen ∙ ap (option_map (λ number. (number, count))) number)
