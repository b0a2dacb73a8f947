use Rattle.std.proofs.Common.{◌≡◌, ◌∙◌, ◌&&◌, not, ◌==◌, true, false, get_or, sym, arith}
use Rattle.std.specs.Char.{is_digit}
use Rattle.std.proofs.lemmas.Grind.{common_steps}
use Rattle.basic_toml_numbers.specs.Numbers.{underscore}
use Rattle.basic_toml_numbers.proofs.Digits.{no_run, read_from-is, read_from-stops, read_from-ends}
use Rattle.basic_toml_numbers.proofs.numbers.value_of.Goals as goal

pub returns-then-must_follow-2 : goal.returns-then-must_follow-2
returns-then-must_follow-2 c =
    let ends = read_from-ends c.args.radix c.loop-byte.must_follow c.loop-byte.value c.args.digits.now
    c.loop-byte.byte-index c.loop-byte-test.false in
    sym (rw c.if-must_follow-2.true at ends) ∙ rw c.if-must_follow-2.true at c.loop-byte.invariant ∙
    read_from-is c.args.radix true 0 c.args.digits.now (omega arith) (omega arith)

pub returns : goal.returns
returns c =
    let ends = read_from-ends c.args.radix c.loop-byte.must_follow c.loop-byte.value c.args.digits.now
    c.loop-byte.byte-index c.loop-byte-test.false in
    sym (rw c.if-must_follow-2.false at ends) ∙ rw c.if-must_follow-2.false at c.loop-byte.invariant ∙
    read_from-is c.args.radix true 0 c.args.digits.now (omega arith) (omega arith)

pub returns-then-byte-ne95 : goal.returns-then-byte-ne95
returns-then-byte-ne95 c =
    let no_digit : is_digit (get_or c.args.digits.now c.loop-byte.byte-index 0) c.args.radix ≡ false =
    grind (arith, common_steps) in
    let no_underscore : (get_or c.args.digits.now c.loop-byte.byte-index 0 == underscore && not
    c.loop-byte.must_follow) ≡ false = no_run _ _ c.then-byte-ne95.either in
    sym (read_from-stops c.args.radix c.loop-byte.must_follow c.loop-byte.value c.args.digits.now
    c.loop-byte.byte-index c.loop-byte-test.true no_digit no_underscore) ∙ c.loop-byte.invariant ∙
    read_from-is c.args.radix true 0 c.args.digits.now (omega arith) (omega arith)
