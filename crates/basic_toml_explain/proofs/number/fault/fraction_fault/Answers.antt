use Rattle.std.proofs.Common.{◌≡◌, ◌+◌, ◌-◌, ℕ, List, [], length, subst, sym, arith, ap, ◌∙◌}
use Rattle.basic_toml_tokens.specs.Text.{run, after_run, is_keylike}
use Rattle.basic_toml_tokens.specs.Reading.{Reading, text_of}
use Rattle.basic_toml_numbers.specs.Numbers.{after_part}
use Rattle.basic_toml_grammar.specs.NumberTokens.{mark_rest}
use Rattle.basic_toml_grammar.specs.NumberFaults as spec
use Rattle.basic_toml_explain.specs.NumberFault.{behind_left, behind_fraction, Finds}
use Rattle.basic_toml_explain.specs.Cursor.{IsStopped, Accepts}
use Rattle.basic_toml_explain.proofs.NumberFaultIsFound.{no_fraction, none_behind_period, fraction_stops, from_exponent, none_from}
use Rattle.basic_toml_explain.proofs.TakenTokenStands.{after_same, failed}
use Rattle.basic_toml_explain.proofs.RefusedBehind.{stopped_at}
use Rattle.basic_toml_explain.proofs.number.fault.fraction_fault.Goals as goal

pub returns-in_err-fraction : goal.returns-in_err-fraction
returns-in_err-fraction c =
    let old = c.args.cursor.now in
    let fault = c.in_err-fraction.field-0.0 in
    let refused = subst (λ (r : Reading). IsStopped (text_of r) fault) c.current-at.ensures.same c.in_err-fraction.ensures
    in
    failed (Finds (spec.after_period_fault (length old.text) c.args.start c.args.word.now
    (run is_keylike (text_of old)) (text_of old)) (behind_fraction (spec.without_minus c.args.word.now) (text_of old))
    (mark_rest (after_part (run is_keylike (text_of old))) (after_run is_keylike (text_of old))) old
    c.keylike.new.self) c.from_residual.result fault c.from_residual.ensures.1 (stopped_at fault refused)

pub returns-in_default : goal.returns-in_default
returns-in_default c =
    let old = c.args.cursor.now in
    let missing = subst (λ (r : Reading). (run is_keylike (text_of r) ≡ []) × Accepts (text_of r))
    c.current-at.ensures.same (rw c.in_default.is at c.in_ok-fraction.ensures) in (
      no_fraction old c.args.start c.current-at.result c.args.word.now c.current-at.ensures.utf8 c.requires.boundary
          c.current-at.ensures.offset missing.0,
      none_behind_period (text_of old) (spec.without_minus c.args.word.now) missing.0 missing.1,
      λ none. cc,
    )

pub returns-then-is_some : goal.returns-then-is_some
returns-then-is_some c =
    let old = c.args.cursor.now in
    let mid = c.keylike.new.self in
    let w = c.in-Some.fraction.now in
    let (b, same) = after_same c.current-at.new.self old mid w c.current-at.ensures.same
    (rw c.in-Some.is at c.in_ok-fraction.ensures) in
    let parts = c.fraction_parts_fault-fault.ensures ∙
    ap (λ (n : ℕ). spec.fraction_parts_fault c.args.start c.args.word.now n c.as_bytes-fraction.result.now)
    c.current-at.ensures.offset
    ∙ ap (spec.fraction_parts_fault c.args.start c.args.word.now old.offset) c.as_bytes-fraction.ensures.value in
    fraction_stops old mid c.args.start c.args.word.now w c.current-end.ensures.utf8 b same c.current-end.new.self
    c.fraction_parts_fault-fault.result parts (sym c.is_some.ensures ∙ c.if-is_some.true)

pub returns : goal.returns
returns c =
    let old = c.args.cursor.now in
    let mid = c.keylike.new.self in
    let w = c.in-Some.fraction.now in
    let at = c.current-end.result - length c.split_part.result.1.now in
    let (b, same) = after_same c.current-at.new.self old mid w c.current-at.ensures.same
    (rw c.in-Some.is at c.in_ok-fraction.ensures) in
    let value = c.as_bytes-fraction.ensures.value in
    let parts = c.fraction_parts_fault-fault.ensures ∙
    ap (λ (n : ℕ). spec.fraction_parts_fault c.args.start c.args.word.now n c.as_bytes-fraction.result.now)
    c.current-at.ensures.offset
    ∙ ap (spec.fraction_parts_fault c.args.start c.args.word.now old.offset) value in
    let left : c.split_part.result.1.now ≡ after_part w = c.split_part.ensures.rest ∙ ap after_part value in
    let at_is : at ≡ old.offset + (length w - length (after_part w)) =
    omega (
      arith,
      c.current-end.ensures.offset,
      b.offset,
      ap length left,
      c.split_part.ensures.lengths,
      ap length value,
    ) in
    let found = subst (λ (r : Reading). Finds
    (spec.exponent_fault (length r.text) c.args.start at c.split_part.result.1.now (text_of r))
    (behind_left c.split_part.result.1.now (text_of r)) (mark_rest c.split_part.result.1.now (text_of r)) r
    c.exponent_fault.new.cursor c.exponent_fault.result)
    c.current-end.ensures.same c.exponent_fault.ensures in
    from_exponent old mid c.args.start c.args.word.now w c.current-end.ensures.utf8 b same c.exponent_fault.new.cursor
    at c.exponent_fault.result at_is
    (sym parts ∙ none_from c.fraction_parts_fault-fault.result (sym c.is_some.ensures ∙ c.if-is_some.false))
    (subst (λ (l : List ℕ). Finds (spec.exponent_fault (length mid.text) c.args.start at l (text_of mid))
    (behind_left l (text_of mid)) (mark_rest l (text_of mid)) mid c.exponent_fault.new.cursor c.exponent_fault.result) left found)
