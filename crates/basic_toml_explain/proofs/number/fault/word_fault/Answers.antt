use Rattle.std.proofs.Common.{◌≡◌, ◌+◌, ◌-◌, ℕ, Bool, false, refl, List, Ok, length, subst, sym, ap, ◌∙◌}
use Rattle.std.specs.List.{list_any}
use Rattle.basic_toml_tokens.specs.Text.{run, after_run, is_keylike}
use Rattle.basic_toml_tokens.specs.Reading.{Reading, text_of}
use Rattle.basic_toml_numbers.specs.Numbers as numbers
use Rattle.basic_toml_grammar.specs.NumberTokens.{mark_rest, word_rest}
use Rattle.basic_toml_grammar.specs.NumberFaults as spec
use Rattle.basic_toml_grammar.specs.NumberTokens.{behind_word}
use Rattle.basic_toml_explain.specs.NumberFault.{behind_fraction, Finds}
use Rattle.basic_toml_explain.specs.Cursor.{IsStopped, EatsPunctuation}
use Rattle.basic_toml_explain.proofs.NumberFaultIsFound.{eaten, word_found, word_some, prefixed_found, plain_stopped, plain_found}
use Rattle.basic_toml_explain.proofs.TakenTokenStands.{failed}
use Rattle.basic_toml_explain.proofs.number.fault.word_fault.Goals as goal

pub returns-then-branch : goal.returns-then-branch
returns-then-branch c =
    let old = c.args.cursor.now in
    let mid = c.eat.new.self in
    let w = c.args.word.now in
    let value = c.as_bytes-text.ensures.value in
    let no_prefix = ap spec.is_prefixed (sym value) ∙ sym c.is_prefixed.ensures ∙ c.if-is_prefixed.false in
    let no_mark = ap (list_any numbers.is_exponent_letter) (sym value) ∙ sym c.has_mark.ensures ∙ c.if-has_mark.false in
    let eats = eaten 46 old mid c.in_ok-eat.field-0
    (subst (λ (r : Reading). EatsPunctuation 46 r mid (Ok c.in_ok-eat.field-0)) c.current.ensures.same
    c.in_ok-eat.ensures) c.if-branch.true in
    let rest = mark_rest (numbers.after_part (run is_keylike (text_of mid))) (after_run is_keylike (text_of mid)) in
    let start : c.current.result - length w ≡ old.offset - length w = ap (λ n. n - length w) c.current.ensures.offset in
    let behind = behind_fraction (spec.without_minus w) (text_of mid) in
    word_found old mid c.fraction_fault.new.cursor (old.offset - length w) w c.fraction_fault.result
    (word_some c.requires) no_prefix no_mark eats
    (subst (λ (n : ℕ). Finds
    (spec.after_period_fault (length mid.text) n w (run is_keylike (text_of mid)) (text_of mid)) behind rest mid
    c.fraction_fault.new.cursor c.fraction_fault.result) start
    (subst (λ (v : List ℕ). Finds
    (spec.after_period_fault (length mid.text) (c.current.result - length w) v (run is_keylike (text_of mid))
    (text_of mid)) (behind_fraction (spec.without_minus v) (text_of mid)) rest mid c.fraction_fault.new.cursor
    c.fraction_fault.result) value c.fraction_fault.ensures))

pub returns-then-is_prefixed : goal.returns-then-is_prefixed
returns-then-is_prefixed c =
    let old = c.args.cursor.now in
    let w = c.args.word.now in
    let value = c.as_bytes-text.ensures.value in
    let prefix = ap spec.is_prefixed (sym value) ∙ sym c.is_prefixed.ensures ∙ c.if-is_prefixed.true in
    let start : c.current.result - length w ≡ old.offset - length w = ap (λ n. n - length w) c.current.ensures.offset in
    prefixed_found old c.current.new.self (old.offset - length w) w c.outside.result c.requires prefix
    c.current.ensures.same (c.outside.ensures ∙ ap (λ (n : ℕ). spec.outside (n + 2) w) start)

pub returns-in_err-eat : goal.returns-in_err-eat
returns-in_err-eat c =
    let old = c.args.cursor.now in
    let w = c.args.word.now in
    let fault = c.in_err-eat.field-0.0 in
    let value = c.as_bytes-text.ensures.value in
    let no_prefix = ap spec.is_prefixed (sym value) ∙ sym c.is_prefixed.ensures ∙ c.if-is_prefixed.false in
    let no_mark = ap (list_any numbers.is_exponent_letter) (sym value) ∙ sym c.has_mark.ensures ∙ c.if-has_mark.false in
    failed (Finds (spec.word_fault (length old.text) (old.offset - length w) w (text_of old))
    (behind_word w (spec.without_minus w) (text_of old)) (word_rest w (text_of old)) old c.eat.new.self)
    c.from_residual.result fault c.from_residual.ensures.1
    (plain_stopped w (text_of old) fault (word_some c.requires) no_prefix no_mark
    (subst (λ (r : Reading). IsStopped (text_of r) fault) c.current.ensures.same c.in_err-eat.ensures))

pub returns : goal.returns
returns c =
    let old = c.args.cursor.now in
    let w = c.args.word.now in
    let value = c.as_bytes-text.ensures.value in
    let no_prefix = ap spec.is_prefixed (sym value) ∙ sym c.is_prefixed.ensures ∙ c.if-is_prefixed.false in
    let no_mark = ap (list_any numbers.is_exponent_letter) (sym value) ∙ sym c.has_mark.ensures ∙ c.if-has_mark.false in
    let start : c.current.result - length w ≡ old.offset - length w = ap (λ n. n - length w) c.current.ensures.offset in
    let eats : EatsPunctuation 46 old c.eat.new.self (Ok false) =
    subst (λ (b : Bool). EatsPunctuation 46 old c.eat.new.self (Ok b)) c.if-branch.false
    (subst (λ (r : Reading). EatsPunctuation 46 r c.eat.new.self (Ok c.in_ok-eat.field-0)) c.current.ensures.same
    c.in_ok-eat.ensures) in
    plain_found old c.eat.new.self c.eat.new.self (old.offset - length w) w c.whole_fault.result c.requires no_prefix
    no_mark eats refl (c.whole_fault.ensures ∙ ap (λ (n : ℕ). spec.whole_fault n w) start)
