use Rattle.std.proofs.Common.{◌≡◌, ℕ, ◌∷◌, Some, length, subst, sym, ap, ◌∙◌}
use Rattle.basic_toml_tokens.specs.Text.{Text, text_at, run}
use Rattle.basic_toml_tokens.specs.Reading.{Reading, text_of}
use Rattle.basic_toml_grammar.specs.Grammar.{is_wordlike, word_value}
use Rattle.basic_toml_grammar.specs.Reader.{word_at}
use Rattle.basic_toml_grammar.specs.NumberFaults.{number_fault}
use Rattle.basic_toml_explain.specs.Cursor.{IsStopped}
use Rattle.basic_toml_grammar.specs.NumberTokens.{behind_number, number_rest}
use Rattle.basic_toml_explain.specs.Number.{LacksValue, IsNumberStop, IsWordStop, number}
use Rattle.basic_toml_explain.proofs.WordStopIsDue.{word_stopped}
use Rattle.basic_toml_explain.proofs.TakenTokenStands.{failed, takes_word, after_here, front_is}
use Rattle.basic_toml_explain.proofs.PlusWordIsNone.{plus_taken, plus_whole, plus_front, plus_length, word_value_none}
use Rattle.basic_toml_explain.proofs.number.number.Goals as goal

pub returns-in_err-token : goal.returns-in_err-token
returns-in_err-token c =
    let old = c.args.cursor.now in
    let fault = c.in_err-token.field-0.0 in
    let taken = subst (λ (r : Reading). IsStopped (text_of r) fault) c.current-start.ensures.same
    c.in_err-token.ensures in
    failed (LacksValue c.args.wanted.now old) c.from_residual.result fault c.from_residual.ensures.1
    (word_stopped old c.args.wanted.now fault taken c.requires.some)

pub word_error-requires-clause-after : goal.word_error-requires-clause-after
word_error-requires-clause-after c =
    let taken = rw c.in-Some.is at c.in_ok-token.ensures in
    let after = takes_word c.current-start.new.self c.next.new.self c.in-Some.field-0-0 c.in-Some.token
    (Some c.in-Word.word) taken c.in-Word.ensures in
    after_here c.current-start.new.self.offset c.in-Word.word.now c.next.new.self after.0

pub word_error-requires-clause-no_value : goal.word_error-requires-clause-no_value
word_error-requires-clause-no_value c =
    let w = c.in-Word.word.now in
    let new = c.next.new.self in
    let taken = rw c.in-Some.is at c.in_ok-token.ensures in
    let after = takes_word c.current-start.new.self new c.in-Some.field-0-0 c.in-Some.token (Some c.in-Word.word)
    taken c.in-Word.ensures in
    let front = front_is c.current-start.new.self new w after.0 after.1 ∙ ap text_of c.current-start.ensures.same in
    ap (λ (t : Text). word_value (run is_wordlike t)) front ∙ word_value_none (text_of c.args.cursor.now) c.requires.none

pub plus_error-requires-clause-sign : goal.plus_error-requires-clause-sign
plus_error-requires-clause-sign c =
    let taken = rw c.in-Some.is at c.in_ok-token.ensures in
    let new = c.next.new.self in
    let offset : c.current-start.new.self.offset ≡ c.current-start.result =
    ap (λ (r : Reading). r.offset) c.current-start.ensures.same ∙ sym c.current-start.ensures.offset in
    subst (λ (n : ℕ). text_at new.text n ≡ (n, 43) ∷ text_of new) offset
    (plus_taken c.current-start.new.self new c.in-Some.field-0-0 c.in-Some.token taken c.in-Plus.ensures)

pub plus_error-requires-clause-no_value : goal.plus_error-requires-clause-no_value
plus_error-requires-clause-no_value c =
    let taken = rw c.in-Some.is at c.in_ok-token.ensures in
    ap word_at (plus_front c.args.cursor.now c.current-start.new.self c.next.new.self c.in-Some.field-0-0
    c.in-Some.token c.current-start.result taken c.current-start.ensures.same c.current-start.ensures.offset)
    ∙ c.requires.none

pub returns-in-Word : goal.returns-in-Word
returns-in-Word c =
    let old = c.args.cursor.now in
    let fault = c.word_error.result in
    let w = c.in-Word.word.now in
    let new = c.next.new.self in
    let taken = rw c.in-Some.is at c.in_ok-token.ensures in
    let after = takes_word c.current-start.new.self new c.in-Some.field-0-0 c.in-Some.token (Some c.in-Word.word)
    taken c.in-Word.ensures in
    let front = front_is c.current-start.new.self new w after.0 after.1 ∙ ap text_of c.current-start.ensures.same in
    let long : length new.text ≡ length old.text =
    ap length (after.1 ∙ ap (λ (r : Reading). r.text) c.current-start.ensures.same) in
    subst (λ (n : ℕ). IsWordStop n c.args.wanted.now (text_of old) fault) long
    (subst (λ (t : Text). IsWordStop (length new.text) c.args.wanted.now t fault) front c.word_error.ensures)

pub returns-in-Plus : goal.returns-in-Plus
returns-in-Plus c =
    let old = c.args.cursor.now in
    let new = c.next.new.self in
    let fault = c.plus_error.result in
    let taken = rw c.in-Some.is at c.in_ok-token.ensures in
    let front = plus_front old c.current-start.new.self new c.in-Some.field-0-0 c.in-Some.token
    c.current-start.result taken c.current-start.ensures.same c.current-start.ensures.offset in
    let long = plus_length old c.current-start.new.self new c.in-Some.field-0-0 c.in-Some.token taken
    c.current-start.ensures.same in
    let stop = subst (λ (n : ℕ). IsNumberStop n c.args.wanted.now (number_fault n (text_of old))
    (behind_number (text_of old)) (number_rest (text_of old)) fault) long
    (subst (λ (t : Text). IsNumberStop (length new.text) c.args.wanted.now (number_fault (length new.text) t)
    (behind_number t) (number_rest t) fault) front c.plus_error.ensures) in
    number (plus_whole old c.current-start.new.self new c.in-Some.field-0-0 c.in-Some.token c.current-start.result taken
    c.in-Plus.ensures c.current-start.ensures.same c.current-start.ensures.offset) stop
