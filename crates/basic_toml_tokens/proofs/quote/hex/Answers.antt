use Rattle.std.proofs.Common.{◌≡◌, ◌-◌, ◌+◌, suc, sym, ap, ◌∙◌, arith, ◌*◌}
use Rattle.basic_toml_tokens.specs.Text.{text_at}
use Rattle.basic_toml_tokens.specs.BodyFront.{hex_front}
use Rattle.basic_toml_tokens.proofs.HexDigitsAreRead.{hex_digit, hex_other, hex_fits, hex_grows}
use Rattle.basic_toml_tokens.proofs.quote.hex.Goals as goal

pub returns-in_default-to_digit : goal.returns-in_default-to_digit
returns-in_default-to_digit c =
    let more : c.args.digits - c.loop.counter ≡ suc (c.args.digits - (c.loop.counter + 1)) = omega arith in (
      sym c.loop.invariant.read ∙
          hex_other c.args.start c.args.letter c.loop.number _ _ c.loop.next c.in-Some.c
          (text_at c.args.text.now c.loop.next) (text_at c.args.text.now c.in-Some.after) more c.in-Some.ensures.text
          c.in_default-to_digit.ensures.value,
      record { boundary = c.in-Some.ensures.boundary; forward = omega (arith, c.in-Some.ensures.later) },
    )

pub overflow_mul-number : goal.overflow_mul-number
overflow_mul-number c = omega
    (arith, hex_fits c.loop.number 0 c.loop.counter (omega arith) c.loop.invariant.small (omega arith))

pub overflow_add-number : goal.overflow_add-number
overflow_add-number c = omega (
  arith,
  hex_fits c.loop.number c.in-Some-to_digit.digit c.loop.counter (omega arith) c.loop.invariant.small
      (omega (arith, c.in-Some-to_digit.ensures.value)),
)

pub loop-preserved : goal.loop-preserved
loop-preserved c =
    let more : c.args.digits - c.loop.counter ≡ suc (c.args.digits - (c.loop.counter + 1)) = omega arith in
    let (small, is) = c.in-Some-to_digit.ensures.value in
    record {
      read = ap (λ u. hex_front c.args.start c.args.letter (c.loop.number * 16 + u)
          (c.args.digits - (c.loop.counter + 1)) (text_at c.args.text.now c.in-Some.after)) is
          ∙ sym (hex_digit c.args.start c.args.letter c.loop.number _ _ c.loop.next c.in-Some.c
          (text_at c.args.text.now c.loop.next) (text_at c.args.text.now c.in-Some.after) more
          c.in-Some.ensures.text small) ∙ c.loop.invariant.read;
      small = hex_grows c.loop.number c.in-Some-to_digit.digit c.loop.counter c.loop.invariant.small (omega arith);
      boundary = c.in-Some.ensures.boundary;
      forward = omega (arith, c.in-Some.ensures.later);
    }
