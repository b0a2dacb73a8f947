use Rattle.std.proofs.Common.{◌≡◌, ◌==◌, false, get_or, arith}
use Rattle.std.specs.Char.{is_digit}
use Rattle.std.proofs.lemmas.Bool.Decides.{nat_tests}
use Rattle.std.proofs.lemmas.Grind.{common_steps}
use Rattle.basic_toml_numbers.specs.Numbers.{underscore}
use Rattle.basic_toml_numbers.proofs.Digits.{decimal_grows, decimal_fits, digit_read, other_stops, all_digits}
use Rattle.basic_toml_numbers.proofs.numbers.decimal_value.Goals as goal

pub overflow_mul-value : goal.overflow_mul-value
overflow_mul-value c = omega (
  arith,
  decimal_fits c.loop-byte.value 0 c.loop-byte.byte-index (omega arith) c.loop-byte.invariant.1
      (omega arith),
)

pub overflow_add-value : goal.overflow_add-value
overflow_add-value c = omega (
  arith,
  decimal_fits c.loop-byte.value c.in-Some.digit c.loop-byte.byte-index (omega arith)
      c.loop-byte.invariant.1 (omega (arith, c.in-Some.ensures.value)),
)

pub loop-byte-preserved : goal.loop-byte-preserved
loop-byte-preserved c = (
  digit_read c.loop-byte.value c.args.digits.now c.loop-byte.byte-index c.in-Some.digit c.loop-byte-test.true
      (omega arith) c.loop-byte.invariant.1 c.in-Some.ensures.value.0 c.in-Some.ensures.value.1
      (omega (arith, c.in-Some.ensures.value))
      c.loop-byte.invariant.0,
  decimal_grows c.loop-byte.value c.in-Some.digit c.loop-byte.byte-index c.loop-byte.invariant.1
      (omega (arith, c.in-Some.ensures.value)),
)

pub returns-in-None-2 : goal.returns-in-None-2
returns-in-None-2 c =
    let no_digit : is_digit (get_or c.args.digits.now c.loop-byte.byte-index 0) 10 ≡ false =
    grind (arith, common_steps) in
    let differs : (get_or c.args.digits.now c.loop-byte.byte-index 0 == underscore) ≡ false =
    grind (arith, nat_tests) in
    other_stops c.loop-byte.value c.args.digits.now c.loop-byte.byte-index c.loop-byte-test.true no_digit differs
    c.loop-byte.invariant.0

pub returns : goal.returns
returns c =
    all_digits c.loop-byte.value c.args.digits.now c.loop-byte.byte-index c.loop-byte-test.false
    (grind (arith, nat_tests, c.is_empty.ensures, c.if-is_empty.false))
    c.loop-byte.invariant.0
