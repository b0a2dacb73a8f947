use Rattle.std.proofs.Common.{◌≡◌, ◌-◌, ◌∷◌, Ok, Some, None, false, length, subst, sym, ap, ◌∙◌}
use Rattle.basic_toml_tokens.specs.Text.{offset_in}
use Rattle.basic_toml_tokens.specs.Reading.{Reading, text_of}
use Rattle.basic_toml_numbers.specs.Numbers as numbers
use Rattle.basic_toml_grammar.specs.NumberTokens.{plus_rest}
use Rattle.basic_toml_grammar.specs.NumberFaults as spec
use Rattle.basic_toml_grammar.specs.NumberTokens.{behind_sign}
use Rattle.basic_toml_explain.specs.NumberFault.{Finds}
use Rattle.basic_toml_grammar.specs.Reader.{char_at}
use Rattle.basic_toml_explain.specs.Cursor.{EatsPunctuation}
use Rattle.basic_toml_explain.proofs.RefusedBehind.{stopped_at}
use Rattle.basic_toml_explain.proofs.TakenTokenStands.{failed}
use Rattle.basic_toml_explain.proofs.NumberFaultIsFound.{eaten, plus_found, behind_plus, stopped_behind_plus, no_plus}
use Rattle.basic_toml_explain.proofs.number.fault.plus_power_fault.Goals as goal

pub returns-in_err-eat : goal.returns-in_err-eat
returns-in_err-eat c =
    let old = c.args.cursor.now in
    failed (Finds
    (spec.plus_power_fault (length old.text) c.args.start (char_at numbers.plus (text_of old)))
    (text_of old ∷ behind_sign (char_at numbers.plus (text_of old)))
    (plus_rest (char_at numbers.plus (text_of old)) (text_of old)) old c.eat.new.self)
    c.from_residual.result c.in_err-eat.field-0.0 c.from_residual.ensures.1
    (stopped_at c.in_err-eat.field-0.0 c.in_err-eat.ensures)

pub returns-then-not-branch : goal.returns-then-not-branch
returns-then-not-branch c =
    let old = c.args.cursor.now in
    let eats : EatsPunctuation 43 old c.eat.new.self (Ok false) =
    subst (λ b. EatsPunctuation 43 old c.eat.new.self (Ok b)) c.if-not-branch.true c.in_ok-eat.ensures in (
      sym (ap (spec.plus_power_fault (length old.text) c.args.start) eats.0),
      no_plus old c.eat.new.self eats,
      λ none. let no : Some c.args.start ≡ None = none in cc,
    )

pub returns-in_err-word : goal.returns-in_err-word
returns-in_err-word c =
    let old = c.args.cursor.now in
    let eats = eaten 43 old c.eat.new.self c.in_ok-eat.field-0 c.in_ok-eat.ensures c.if-not-branch.false in
    failed (Finds
    (spec.plus_power_fault (length old.text) c.args.start (char_at numbers.plus (text_of old)))
    (text_of old ∷ behind_sign (char_at numbers.plus (text_of old)))
    (plus_rest (char_at numbers.plus (text_of old)) (text_of old)) old c.keylike.new.self)
    c.from_residual-in_err-word.result c.in_err-word.field-0.0 c.from_residual-in_err-word.ensures.1
    (stopped_behind_plus old c.eat.new.self c.in_err-word.field-0.0 eats c.in_err-word.ensures)

pub returns-in_default : goal.returns-in_default
returns-in_default c =
    let old = c.args.cursor.now in
    let mid = c.eat.new.self in
    let eats = eaten 43 old mid c.in_ok-eat.field-0 c.in_ok-eat.ensures c.if-not-branch.false in
    let missing = rw c.in_default.is at c.in_ok-word.ensures in (
      sym (ap (spec.plus_power_fault (length old.text) c.args.start) eats.0 ∙
          ap (spec.plus_word_fault (offset_in (length old.text) (text_of mid)) c.args.start) missing.0),
      behind_plus old mid eats missing.1,
      λ none. let no : Some c.args.start ≡ None = none in cc,
    )

pub returns : goal.returns
returns c =
    let old = c.args.cursor.now in
    let w = c.in-Some.word.now in
    let at = c.current.result - length w in
    let eats = eaten 43 old c.eat.new.self c.in_ok-eat.field-0 c.in_ok-eat.ensures c.if-not-branch.false in
    let taken = rw c.in-Some.is at c.in_ok-word.ensures in
    subst (λ (new : Reading). Finds
    (spec.plus_power_fault (length old.text) c.args.start (char_at numbers.plus (text_of old)))
    (text_of old ∷ behind_sign (char_at numbers.plus (text_of old)))
    (plus_rest (char_at numbers.plus (text_of old)) (text_of old)) old new (Ok c.plus_word_fault.result))
    (sym c.current.ensures.same)
    (plus_found old c.eat.new.self c.keylike.new.self w c.args.start at c.plus_word_fault.result eats
    c.current.ensures.utf8 taken.0 taken.1
    (ap (λ n. n - length w) c.current.ensures.offset) (c.plus_word_fault.ensures ∙
    ap (spec.plus_word_fault at c.args.start) c.as_bytes.ensures.value))
