use Rattle.std.proofs.Common.{Bool, false, Ok, subst, sym, ap, ◌∙◌}
use Rattle.std.specs.List.{list_any}
use Rattle.basic_toml_tokens.specs.Reading.{text_of}
use Rattle.basic_toml_numbers.specs.Numbers as numbers
use Rattle.basic_toml_grammar.specs.NumberFaults as spec
use Rattle.basic_toml_grammar.specs.NumberTokens.{behind_word}
use Rattle.basic_toml_explain.specs.Cursor.{EatsPunctuation}
use Rattle.basic_toml_explain.specs.NumberFault.{NoneRefused, Looks}
use Rattle.basic_toml_explain.proofs.NumberFaultIsFound.{eaten, none_marked, minus_stopped, minus_alone, minus_free}
use Rattle.basic_toml_explain.proofs.NumberFaultIsFound.{minus_refused, word_looked}
use Rattle.basic_toml_explain.proofs.RefusedBehind.{none_refused}
use Rattle.basic_toml_explain.proofs.TakenTokenStands.{failed}
use Rattle.basic_toml_explain.proofs.TokensBehind.{behind_prefixed}
use Rattle.basic_toml_explain.proofs.number.fault.look_behind.Goals as goal

pub returns-then-is_prefixed : goal.returns-then-is_prefixed
returns-then-is_prefixed c =
    let w = c.args.word.now in
    let prefix = ap spec.is_prefixed (sym c.as_bytes-text.ensures.value) ∙ sym c.is_prefixed.ensures ∙
    c.if-is_prefixed.true in
    subst NoneRefused (sym (behind_prefixed w w (text_of c.args.cursor.now) prefix)) none_refused

pub returns-then-has_mark : goal.returns-then-has_mark
returns-then-has_mark c =
    let w = c.args.word.now in
    let value = c.as_bytes-text.ensures.value in
    let no_prefix = ap spec.is_prefixed (sym value) ∙ sym c.is_prefixed.ensures ∙ c.if-is_prefixed.false in
    let mark = ap (list_any numbers.is_exponent_letter) (sym value) ∙ sym c.has_mark.ensures ∙ c.if-has_mark.true in
    none_marked w c.requires.takes no_prefix (text_of c.args.cursor.now) mark

pub returns-in_err-eat : goal.returns-in_err-eat
returns-in_err-eat c =
    let old = c.args.cursor.now in
    let w = c.args.word.now in
    let fault = c.in_err-eat.field-0.0 in
    let value = c.as_bytes-text.ensures.value in
    let no_prefix = ap spec.is_prefixed (sym value) ∙ sym c.is_prefixed.ensures ∙ c.if-is_prefixed.false in
    let no_mark = ap (list_any numbers.is_exponent_letter) (sym value) ∙ sym c.has_mark.ensures ∙ c.if-has_mark.false in
    failed (Looks (behind_word w w (text_of old))) c.from_residual.result fault c.from_residual.ensures.1
    (minus_stopped w c.requires.takes no_prefix no_mark c.requires.some (text_of old) fault c.in_err-eat.ensures)

pub returns-then-not-branch : goal.returns-then-not-branch
returns-then-not-branch c =
    let old = c.args.cursor.now in
    let w = c.args.word.now in
    let value = c.as_bytes-text.ensures.value in
    let no_prefix = ap spec.is_prefixed (sym value) ∙ sym c.is_prefixed.ensures ∙ c.if-is_prefixed.false in
    let no_mark = ap (list_any numbers.is_exponent_letter) (sym value) ∙ sym c.has_mark.ensures ∙ c.if-has_mark.false in
    let eats : EatsPunctuation 46 old c.eat.new.self (Ok false) =
    subst (λ (b : Bool). EatsPunctuation 46 old c.eat.new.self (Ok b)) c.if-not-branch.true c.in_ok-eat.ensures in
    minus_alone w c.requires.takes no_prefix no_mark c.requires.some old c.eat.new.self eats

pub returns-in_err-keylike : goal.returns-in_err-keylike
returns-in_err-keylike c =
    let old = c.args.cursor.now in
    let w = c.args.word.now in
    let fault = c.in_err-keylike.field-0.0 in
    let value = c.as_bytes-text.ensures.value in
    let no_prefix = ap spec.is_prefixed (sym value) ∙ sym c.is_prefixed.ensures ∙ c.if-is_prefixed.false in
    let no_mark = ap (list_any numbers.is_exponent_letter) (sym value) ∙ sym c.has_mark.ensures ∙ c.if-has_mark.false in
    let eats = eaten 46 old c.eat.new.self c.in_ok-eat.field-0 c.in_ok-eat.ensures c.if-not-branch.false in
    failed (Looks (behind_word w w (text_of old))) c.from_residual-in_err-keylike.result fault
    c.from_residual-in_err-keylike.ensures.1
    (minus_refused w c.requires.takes no_prefix no_mark c.requires.some old c.eat.new.self fault eats
    c.in_err-keylike.ensures)

pub returns : goal.returns
returns c =
    let old = c.args.cursor.now in
    let w = c.args.word.now in
    let value = c.as_bytes-text.ensures.value in
    let no_prefix = ap spec.is_prefixed (sym value) ∙ sym c.is_prefixed.ensures ∙ c.if-is_prefixed.false in
    let no_mark = ap (list_any numbers.is_exponent_letter) (sym value) ∙ sym c.has_mark.ensures ∙ c.if-has_mark.false in
    let eats = eaten 46 old c.eat.new.self c.in_ok-eat.field-0 c.in_ok-eat.ensures c.if-not-branch.false in
    minus_free w c.requires.takes no_prefix no_mark c.requires.some old c.eat.new.self eats
    (word_looked c.eat.new.self c.keylike.new.self c.in_ok-keylike.field-0 c.in_ok-keylike.ensures)
