use Rattle.std.proofs.Common.{◌≡◌, ◌-◌, ℕ, List, [], Some, false, true, length, subst, sym, ap, ◌∙◌}
use Rattle.basic_toml_tokens.specs.Text.{text_at, run, offset_in, is_keylike}
use Rattle.basic_toml_tokens.specs.Reading.{Reading, text_of}
use Rattle.basic_toml_grammar.specs.Grammar.{is_wordlike}
use Rattle.basic_toml_grammar.specs.NumberFaults as faults
use Rattle.basic_toml_explain.specs.Cursor.{IsStopped, Accepts}
use Rattle.basic_toml_explain.specs.Number.{invalid}
use Rattle.basic_toml_explain.specs.NumberFault.{NoneRefused}
use Rattle.basic_toml_explain.proofs.NumberFaultIsFound.{word_some}
use Rattle.basic_toml_explain.proofs.RefusedBehind.{none_refused, none_and}
use Rattle.basic_toml_explain.proofs.TakenTokenStands.{offset_here, after_same, front_is}
use Rattle.basic_toml_explain.proofs.PlusWordIsNone.{plus_fault_is, plus_alone, plus_refused, plus_takes, plus_free}
use Rattle.basic_toml_explain.proofs.PlusWordIsNone.{plus_behind, plus_none, plus_stop}
use Rattle.basic_toml_explain.proofs.number.plus_error.Goals as goal

pub returns-in-Ok-None : goal.returns-in-Ok-None
returns-in-Ok-None c =
    let old = c.args.cursor.now in
    let end = length old.text in
    let missing = subst (λ (r : Reading). (run is_keylike (text_of r) ≡ []) × Accepts (text_of r))
    c.current-at.ensures.same (rw c.in-Ok-None.field-0-is at c.in-Ok-None.ensures) in
    let offset : offset_in end (text_of old) ≡ c.current-at.result =
    offset_here old.text old.offset c.current-at.ensures.utf8 c.requires.boundary ∙
    sym c.current-at.ensures.offset in
    let fault_is = plus_fault_is c.args.start old c.requires.sign end ∙
    ap (λ (w : List ℕ). faults.plus_fault end w (text_of old)) missing.0 ∙ ap (λ (n : ℕ). Some n) offset in
    rw c.at-in-Ok-None.ensures (invalid fault_is (subst NoneRefused
    (sym (plus_alone c.args.start old c.requires.sign missing.0)) (none_and missing.1 none_refused)))

pub returns-in-Err : goal.returns-in-Err
returns-in-Err c =
    let fault = c.in-Err.error in
    plus_refused c.args.start c.args.cursor.now c.requires.sign c.args.wanted.now fault
    (subst (λ (r : Reading). IsStopped (text_of r) fault) c.current-at.ensures.same c.in-Err.ensures)

pub look_behind-requires-clause-takes : goal.look_behind-requires-clause-takes
look_behind-requires-clause-takes c =
    ap faults.takes_no_plus (sym c.as_bytes.ensures.value) ∙ sym c.takes_no_plus.ensures ∙ c.if-takes_no_plus.true

pub look_behind-requires-clause-some : goal.look_behind-requires-clause-some
look_behind-requires-clause-some c =
    let mid = c.keylike.new.self in
    let after = after_same c.current-at.new.self c.args.cursor.now mid c.in-Ok-Some.word.now c.current-at.ensures.same
    (rw c.in-Ok-Some.field-0-is at c.in-Ok-Some.ensures) in
    word_some after.0

-- the word itself is at fault, where no token behind it is refused
pub returns-in-Ok : goal.returns-in-Ok
returns-in-Ok c =
    let old = c.args.cursor.now in
    let end = length old.text in
    let mid = c.keylike.new.self in
    let w = c.in-Ok-Some.word.now in
    let (b, same) = after_same c.current-at.new.self old mid w c.current-at.ensures.same
    (rw c.in-Ok-Some.field-0-is at c.in-Ok-Some.ensures) in
    let takes : faults.takes_no_plus w ≡ true = ap faults.takes_no_plus (sym c.as_bytes.ensures.value) ∙
    sym c.takes_no_plus.ensures ∙ c.if-takes_no_plus.true in
    let offset : offset_in end (text_of old) ≡ c.current-at.result =
    offset_here old.text old.offset c.current-at.ensures.utf8 c.requires.boundary ∙
    sym c.current-at.ensures.offset in
    let fault_is = plus_takes c.args.start old c.requires.sign w mid b same end takes ∙ ap (λ (n : ℕ). Some n) offset in
    rw c.at.ensures
    (invalid fault_is (plus_free c.args.start old c.requires.sign w mid b same c.in-Ok.ensures))

pub returns-in-Err-look_behind : goal.returns-in-Err-look_behind
returns-in-Err-look_behind c =
    let old = c.args.cursor.now in
    let mid = c.keylike.new.self in
    let w = c.in-Ok-Some.word.now in
    let (b, same) = after_same c.current-at.new.self old mid w c.current-at.ensures.same
    (rw c.in-Ok-Some.field-0-is at c.in-Ok-Some.ensures) in
    let takes : faults.takes_no_plus w ≡ true = ap faults.takes_no_plus (sym c.as_bytes.ensures.value) ∙
    sym c.takes_no_plus.ensures ∙ c.if-takes_no_plus.true in
    plus_behind c.args.start old c.requires.sign w mid b same c.args.wanted.now c.in-Err-look_behind.error takes
    c.in-Err-look_behind.ensures

pub number_error-requires-clause-no_value : goal.number_error-requires-clause-no_value
number_error-requires-clause-no_value c =
    let old = c.args.cursor.now in
    let mid = c.keylike.new.self in
    let w = c.in-Ok-Some.word.now in
    let (b, same) = after_same c.current-at.new.self old mid w c.current-at.ensures.same
    (rw c.in-Ok-Some.field-0-is at c.in-Ok-Some.ensures) in
    let takes : faults.takes_no_plus w ≡ false = ap faults.takes_no_plus (sym c.as_bytes.ensures.value) ∙
    sym c.takes_no_plus.ensures ∙ c.if-takes_no_plus.false in
    plus_none c.args.start old c.requires.sign w mid (run is_wordlike (text_at mid.text (mid.offset - length w))) b
    same takes (ap (run is_wordlike) (front_is old mid w b same)) c.requires.no_value

pub returns-else-takes_no_plus : goal.returns-else-takes_no_plus
returns-else-takes_no_plus c =
    let old = c.args.cursor.now in
    let mid = c.keylike.new.self in
    let w = c.in-Ok-Some.word.now in
    let (b, same) = after_same c.current-at.new.self old mid w c.current-at.ensures.same
    (rw c.in-Ok-Some.field-0-is at c.in-Ok-Some.ensures) in
    let takes : faults.takes_no_plus w ≡ false = ap faults.takes_no_plus (sym c.as_bytes.ensures.value) ∙
    sym c.takes_no_plus.ensures ∙ c.if-takes_no_plus.false in
    plus_stop c.args.start old c.requires.sign w mid b same c.args.wanted.now c.number_error.result takes
    c.number_error.ensures
