use Rattle.std.proofs.Common.{◌≡◌, ◌+◌, ◌-◌, ℕ, List, length, subst, sym, ap, ◌∙◌}
use Rattle.basic_toml_tokens.specs.Reading.{text_of}
use Rattle.basic_toml_numbers.specs.Numbers.{after_part}
use Rattle.basic_toml_grammar.specs.NumberTokens.{mark_rest}
use Rattle.basic_toml_grammar.specs.NumberFaults as spec
use Rattle.basic_toml_explain.specs.NumberFault.{behind_left, Finds}
use Rattle.basic_toml_explain.proofs.NumberFaultIsFound.{none_from}
use Rattle.basic_toml_explain.proofs.TokensBehind.{float_stops, float_goes_on}
use Rattle.basic_toml_explain.proofs.number.fault.float_fault.Goals as goal

pub returns-then-is_some : goal.returns-then-is_some
returns-then-is_some c =
    float_stops (length c.args.cursor.now.text) c.args.start c.args.word.now c.args.cursor.now
    c.signed_part_fault-fault.result c.signed_part_fault-fault.ensures
    (sym c.is_some.ensures ∙ c.if-is_some.true)

pub returns : goal.returns
returns c =
    let old = c.args.cursor.now in
    let w = c.args.word.now in
    let fine = sym c.signed_part_fault-fault.ensures ∙
    none_from c.signed_part_fault-fault.result (sym c.is_some.ensures ∙ c.if-is_some.false) in
    let left : c.split_part.result.1.now ≡ after_part (spec.without_minus w) =
    c.split_part.ensures.rest ∙ ap after_part c.without_minus.ensures in
    let found = subst (λ (l : List ℕ). Finds
    (spec.exponent_fault (length old.text) c.args.start (c.args.start + (length w - length l)) l (text_of old))
    (behind_left l (text_of old)) (mark_rest l (text_of old)) old c.exponent_fault.new.cursor c.exponent_fault.result)
    left c.exponent_fault.ensures in
    float_goes_on c.args.start w old c.exponent_fault.new.cursor c.exponent_fault.result fine found
