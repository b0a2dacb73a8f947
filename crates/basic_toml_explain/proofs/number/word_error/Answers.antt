use Rattle.std.proofs.Common.{◌-◌, List, Option, ℕ, length, sym, ap, ◌∙◌, subst}
use Rattle.basic_toml_tokens.specs.Text.{Text, text_at}
use Rattle.basic_toml_tokens.specs.Reading.{text_of}
use Rattle.basic_toml_grammar.specs.Faults as kinds
use Rattle.basic_toml_grammar.specs.GrammarFaults.{fault_at, is_unquoted}
use Rattle.basic_toml_grammar.specs.NumberFaults as faults
use Rattle.basic_toml_grammar.specs.NumberTokens.{behind_word, behind_number, word_rest, number_rest}
use Rattle.basic_toml_explain.specs.Number.{IsNumberStop, IsWordStop, number, unquoted}
use Rattle.basic_toml_explain.proofs.WordStopIsDue.{after_apart, joint_stop, boolean_further, unquoted_is}
use Rattle.basic_toml_explain.proofs.WordStopIsDue.{number_fault_is, no_number_fault, behind_number_is, boolean_no_number, offset_of_word}
use Rattle.basic_toml_explain.proofs.WordStopIsDue.{number_rest_is, boolean_rest, whole_boolean, whole_number}
use Rattle.basic_toml_explain.proofs.number.word_error.Goals as goal

pub joint_error-requires-clause-some : goal.joint_error-requires-clause-some
joint_error-requires-clause-some c =
    let old = c.args.cursor.now in
    let w = c.args.word.now in
    boolean_further (old.offset - length w) w old c.requires.after c.requires.no_value (sym c.is_boolean.ensures ∙
    c.if-is_boolean.true)

pub joint_error-requires-clause-no_word : goal.joint_error-requires-clause-no_word
joint_error-requires-clause-no_word c = after_apart c.requires.after

pub returns-then-is_boolean : goal.returns-then-is_boolean
returns-then-is_boolean c =
    let old = c.args.cursor.now in
    let w = c.args.word.now in
    let start = old.offset - length w in
    let front = text_at old.text start in
    let end = length old.text in
    let is = sym c.is_boolean.ensures ∙ c.if-is_boolean.true in
    number (λ none. whole_boolean start end w old c.requires.after is)
    (joint_stop old end c.args.wanted.now (faults.number_fault end front) (behind_number front) (number_rest front)
    c.joint_error.result (no_number_fault start end w old c.requires.after (boolean_no_number w is))
    (sym (number_rest_is start end w old c.requires.after ∙ boolean_rest w (text_of old) is)) c.joint_error.ensures)

pub returns-then-not-begins_number : goal.returns-then-not-begins_number
returns-then-not-begins_number c =
    let old = c.args.cursor.now in
    let w = c.args.word.now in
    let start = old.offset - length w in
    let b = c.requires.after in
    let no_boolean = sym c.is_boolean.ensures ∙ c.if-is_boolean.false in
    let offset = ap (λ n. n - length w) c.current.ensures.offset ∙
    sym (offset_of_word start (length old.text) w old b) in
    subst (IsWordStop (length old.text) c.args.wanted.now (text_at old.text start))
    (sym (c.at.ensures ∙ ap (fault_at kinds.unquoted_string) offset))
    (unquoted (ap is_unquoted b.is ∙ unquoted_is w b.some.0 b.some.1 b.some.2 no_boolean
    (sym c.begins_number.ensures ∙ c.if-not-begins_number.true)))

pub returns : goal.returns
returns c =
    let old = c.args.cursor.now in
    let w = c.args.word.now in
    let start = old.offset - length w in
    let front = text_at old.text start in
    let end = length old.text in
    let begins = sym c.begins_number.ensures ∙ c.if-not-begins_number.false in
    number (whole_number start end w old c.requires.after begins)
    (subst (λ (t : Text). IsNumberStop end c.args.wanted.now (faults.number_fault end front) (behind_number front) t
    c.number_error.result) (sym (number_rest_is start end w old c.requires.after))
    (subst (λ (ts : List Text). IsNumberStop end c.args.wanted.now (faults.number_fault end front) ts
    (word_rest w (text_of old)) c.number_error.result) (sym (behind_number_is start end w old c.requires.after))
    (subst (λ (o : Option ℕ). IsNumberStop end c.args.wanted.now o (behind_word w (faults.without_minus w) (text_of old))
    (word_rest w (text_of old)) c.number_error.result) (sym (number_fault_is start end w old c.requires.after begins))
    c.number_error.ensures)))
