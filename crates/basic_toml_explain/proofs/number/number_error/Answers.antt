use Rattle.std.proofs.Common.{◌-◌, length, refl, sym, ap, ◌∙◌}
use Rattle.basic_toml_tokens.specs.Text.{run, is_keylike}
use Rattle.basic_toml_tokens.specs.Reading.{text_of}
use Rattle.basic_toml_grammar.specs.NumberFaults as faults
use Rattle.basic_toml_grammar.specs.NumberTokens.{behind_word, word_rest}
use Rattle.basic_toml_explain.specs.Number.{invalid}
use Rattle.basic_toml_explain.proofs.WordStopIsDue.{after_apart, rest_apart, goes_further, joint_stop, number_refused}
use Rattle.basic_toml_explain.proofs.number.number_error.Goals as goal

pub joint_error-requires-clause-some : goal.joint_error-requires-clause-some
joint_error-requires-clause-some c =
    let old = c.args.cursor.now in
    let w = c.args.word.now in
    let found = rw c.in-Ok-None.field-0-is at c.in-Ok-None.ensures in
    goes_further (old.offset - length w) (length old.text) w old (text_of c.word_fault.new.cursor) c.requires.after
    c.requires.no_value found.0 (found.2 refl).rest_is

pub joint_error-requires-clause-no_word : goal.joint_error-requires-clause-no_word
joint_error-requires-clause-no_word c =
    let old = c.args.cursor.now in
    let w = c.args.word.now in
    let found = rw c.in-Ok-None.field-0-is at c.in-Ok-None.ensures in
    ap (run is_keylike) (found.2 refl).rest_is ∙ rest_apart w (text_of old) (after_apart c.requires.after)

pub returns-in-Ok-Some : goal.returns-in-Ok-Some
returns-in-Ok-Some c = let found = rw c.in-Ok-Some.field-0-is at c.in-Ok-Some.ensures in
    rw c.at.ensures (invalid (sym found.0) found.1)

pub returns-in-Ok-None : goal.returns-in-Ok-None
returns-in-Ok-None c =
    let old = c.args.cursor.now in
    let w = c.args.word.now in
    let start = old.offset - length w in
    let found = rw c.in-Ok-None.field-0-is at c.in-Ok-None.ensures in
    joint_stop c.word_fault.new.cursor (length old.text) c.args.wanted.now
    (faults.word_fault (length old.text) start w (text_of old)) (behind_word w (faults.without_minus w) (text_of old))
    (word_rest w (text_of old)) c.joint_error.result (sym found.0) (found.2 refl).rest_is c.joint_error.ensures

-- a token is refused behind it
pub returns-in-Err : goal.returns-in-Err
returns-in-Err c =
    let old = c.args.cursor.now in
    let w = c.args.word.now in
    number_refused (old.offset - length w) w old c.args.wanted.now c.in-Err.error c.requires.after c.requires.no_value
    c.in-Err.ensures
