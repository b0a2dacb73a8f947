use Rattle.basic_toml_read.proofs.Common.{[], append-nil, Some, ◌≡◌, length, sym, ap, Err, refl, arith, rules, ◌∙◌}
use Rattle.basic_toml_read.proofs.Common.{text_at, HoleInElements, HoleInFieldsOn, HoleInRow, hole_behind, elements_of}
use Rattle.basic_toml_read.proofs.Common.{fields_of, fields_on_of, Lines, no_lines, lines_of, elements_view, Elements}
use Rattle.basic_toml_read.proofs.Common.{Raw, in_elements, in_fields, in_row}
use Rattle.basic_toml_grammar.proofs.Nesting.WithinTheLimit as within
use Rattle.basic_toml_read.proofs.values.Gathered.+values.Goals as goal
use Rattle.basic_toml_grammar.specs.Holes.{HoleInFields}
use Rattle.basic_toml_grammar.specs.DeepStops.{keys, this_brace, this_bracket, this_element, this_field, elements}
use Rattle.basic_toml_grammar.specs.DeepStops.{fields}
use Rattle.basic_toml_read.proofs.StandsIn.{same_deep, stays_in, is_err, at_deep, key_stops_on, moved_in, stop_in_whole}
use Rattle.basic_toml_read.proofs.StandsIn.{then_in}
use Rattle.basic_toml_read.proofs.LeftAfter.{sign_missing, sign_there}
use Rattle.basic_toml_read.proofs.GoesOn.{after, after_from, after_none, found_from}
use Rattle.basic_toml_read.proofs.EnoughSteps.{elements_is, fields_is}
use Rattle.basic_toml_read.proofs.LinesGathered.{lines_start}
use Rattle.basic_toml_read.proofs.ElementsGathered.{elements_missing, elements_more, elements_close}
use Rattle.basic_toml_read.proofs.FieldsGathered.{fields_missing, fields_more, fields_close}
use Rattle.basic_toml_read.proofs.NothingTooDeep.{its_row, its_value, row_keys}
use Rattle.basic_toml_read.proofs.AfterKeys.{keys_missed, no_equals, row_there, value_stop}
use Rattle.basic_toml_read.proofs.InBrackets.{added_to, array_answered, inline_answered}
use Rattle.basic_toml_read.proofs.ViewsSeen.{array_of, lines_none}
use Rattle.basic_toml_read.proofs.ScalarValues.{string_answered, word_answered}

-- elements
pub elements-loop-end-init : goal.elements-loop-end-init
elements-loop-end-init t c =
    let told = after_none (elements_of (text_at c.args.text.now c.args.start)) in
    let pushed = append-nil c.args.self.now.elements.items in
    search (rules, same_deep, stays_in)

pub elements-loop-end-preserved : goal.elements-loop-end-preserved
elements-loop-end-preserved t c =
    elements_more c.loop-end.invariant c.in_default.ensures c.in_ok-valued.ensures.read c.after_gap-after.ensures
    c.push.new.self c.in_ok-push.ensures.items c.after_gap-at.ensures c.in-Some-after_punctuation.ensures

pub elements-returns-in-Some-clause-read : goal.elements-returns-in-Some-clause-read
unfolding after
elements-returns-in-Some-clause-read t c =
    let s = c.loop-end.invariant in
    let bytes = c.args.text.now in
    let is = s.told
    ∙ after_from _ (elements_is (text_at bytes c.loop-end.at) ∙ found_from _ _ (sign_there c.in-Some.ensures.0))
    ∙ ap (λ (es : Elements). Some (es, text_at bytes c.in-Some.end))
    (sym (s.seen []) ∙ ap elements_view (append-nil s.got)) in
    search rules

pub elements-returns-in_err-valued : goal.elements-returns-in_err-valued
elements-returns-in_err-valued t c =
    let i = c.loop-end.invariant in
    let bytes = c.args.text.now in
    let e = c.in_err-valued.ensures in
    rw (is_err c.from_residual.ensures.1) (stop_in_whole _ _ _ _ _ e
    (elements_missing i c.in_default.ensures _ e.read) (λ p d. i.deep.leads p (this_element d))
    (λ none p d. its_value none (i.deep.backs p d)) (then_in
    (λ h at. HoleInElements.in_element (sign_missing 93 (text_at bytes c.loop-end.at) c.in_default.ensures))
    (λ at d. refl) i.holes))

pub elements-returns-in_default-after_punctuation : goal.elements-returns-in_default-after_punctuation
elements-returns-in_default-after_punctuation t c =
    elements_close c.loop-end.invariant c.in_default.ensures c.in_ok-valued.ensures.read c.after_gap-after.ensures
    c.push.new.self c.in_ok-push.ensures.items c.in_default-after_punctuation.ensures c.closed.result
    c.closed.ensures.read

-- the rows of an inline table
pub fields-loop-after-init : goal.fields-loop-after-init
unfolding lines_start
fields-loop-after-init t c =
    let here = text_at c.args.text.now c.args.start in
    let none = sign_missing 125 here c.in_default.ensures in
    record {
      got = no_lines;
      lines = lines_start c.args.level c.args.self.now;
      told = fields_is here ∙ found_from _ _ none ∙ after_none (fields_on_of here);
      boundary = c.requires.1.1.0;
      forward = omega arith;
      deep = same_deep;
      holes = record { on = λ h at d. HoleInFields.fields none d; same = λ at d. refl };
    }

pub fields-loop-after-preserved : goal.fields-loop-after-preserved
fields-loop-after-preserved t c =
    fields_more c.loop-after.invariant c.in_ok-row.ensures.read c.after_blanks-after.ensures c.after_blanks-at.ensures
    c.in-Some-after_punctuation.ensures

pub fields-returns-in-Some-clause-read : goal.fields-returns-in-Some-clause-read
fields-returns-in-Some-clause-read t c = record {
  added = no_lines;
  is = fields_is (text_at c.args.text.now c.args.start) ∙ found_from _ _ (sign_there c.in-Some.ensures.0);
  pushed = sym (lines_none (lines_of c.args.self.now));
  elements = refl;
  limit = omega arith;
  boundary = c.in-Some.ensures.1;
  later = omega (arith, c.in-Some.ensures.2);
}

pub fields-returns-in_err-row : goal.fields-returns-in_err-row
fields-returns-in_err-row t c =
    let i = c.loop-after.invariant in
    let e = c.in_err-row.ensures in
    rw (is_err c.from_residual.ensures.1) (stop_in_whole _ _ _ _ _ e (fields_missing i _ e.read)
    (λ p d. i.deep.leads p (this_field d)) (λ none p d. its_row none (i.deep.backs p d))
    (then_in (λ h at. HoleInFieldsOn.in_row) (λ at d. refl) i.holes))

pub fields-returns-in_default-after_punctuation : goal.fields-returns-in_default-after_punctuation
fields-returns-in_default-after_punctuation t c =
    fields_close c.loop-after.invariant c.in_ok-row.ensures.read c.after_blanks-after.ensures
    c.in_default-after_punctuation.ensures c.closed.result c.closed.ensures.read

-- a row
pub row-returns-in_err-last : goal.row-returns-in_err-last
row-returns-in_err-last t c =
    let here = text_at c.args.text.now c.args.at in
    let stop = c.in_err-last.field-0.0 in
    let e = c.in_err-last.ensures in
    rw (is_err c.from_residual.ensures.1) (record {
      read = keys_missed c.args.level here stop.why e.read;
      inside = e.inside;
      deep = at_deep stop.why stop.at _ e.read (λ p d. keys d) (λ none p d. row_keys none d) e.deep;
      hole = key_stops_on here (in_row here (hole_behind c.args.end)) (λ there d. HoleInRow.in_keys d) stop.why
          (text_at c.args.text.now stop.at) e.hole;
    })

pub row-returns-in_default : goal.row-returns-in_default
row-returns-in_default t c = no_equals c.in_ok-last.ensures.read c.in_default.ensures (hole_behind c.args.end)

pub row-returns-in_err-valued : goal.row-returns-in_err-valued
row-returns-in_err-valued t c =
    rw (is_err c.from_residual-in_err-valued.ensures.1)
    (value_stop c.in_ok-last.ensures.read c.after_blanks.ensures c.in-Some.ensures _ (hole_behind c.args.end)
    c.in_err-valued.ensures)

pub row-returns-clause-read : goal.row-returns-clause-read
row-returns-clause-read t c =
    row_there c.in_ok-last.ensures.read c.after_blanks.ensures c.in-Some.ensures c.in_ok-valued.ensures.read
    c.push.new.self c.in_ok-push.ensures.items

-- a value
pub value-returns-in-Some : goal.value-returns-in-Some
value-returns-in-Some t c =
    array_answered c.args.text.now c.args.at c.in-Some.next c.args.level (hole_behind c.args.end) c.args.self.now
    c.array.new.self c.in-Some.ensures c.array.result c.array.ensures

pub value-returns-in-Some-after_punctuation : goal.value-returns-in-Some-after_punctuation
value-returns-in-Some-after_punctuation t c =
    inline_answered c.args.text.now c.args.at c.in-Some-after_punctuation.next c.args.level (hole_behind c.args.end)
    c.args.self.now c.inline.new.self c.in_default.ensures c.in-Some-after_punctuation.ensures c.inline.result
    c.inline.ensures

pub value-returns-then-begins_string : goal.value-returns-then-begins_string
value-returns-then-begins_string t c =
    let begins = c.if-begins_string.ensures in
    let r = c.string_value_at in
    let here = text_at c.args.text.now c.args.at in
    string_answered c.args.text.now c.args.at c.args.level c.args.end c.args.self.now
    (sign_missing 91 here c.in_default.ensures) (sign_missing 123 here c.in_default-after_punctuation.ensures) r.result
    begins.2 begins.3 r.ensures.read r.ensures.inside

pub value-returns : goal.value-returns
value-returns t c =
    let r = c.word_at in
    let here = text_at c.args.text.now c.args.at in
    word_answered c.args.text.now c.args.at c.args.level c.args.end c.args.self.now
    (sign_missing 91 here c.in_default.ensures) (sign_missing 123 here c.in_default-after_punctuation.ensures) r.result
    c.if-begins_string.ensures r.ensures.read r.ensures.wanted r.ensures.inside

-- an array
pub array-returns-in_err-raise-clause-deep : goal.array-returns-in_err-raise-clause-deep
array-returns-in_err-raise-clause-deep t c =
    let e = c.in_err-raise.ensures in
    rw (is_err c.from_residual.ensures.1 ∙ ap (λ s. Err s) e.1) (this_bracket e.0)

pub array-returns-in_err-end : goal.array-returns-in_err-end
array-returns-in_err-end t c =
    let left = c.after_gap.ensures in
    rw (is_err c.from_residual-in_err-end.ensures.1) (stop_in_whole _ _ _ _ _ c.in_err-end.ensures (search rules)
    (λ p d. elements c.in_ok-raise.ensures (rw left.left at d))
    (λ none p d. rw left.left (within.in_array c.in_ok-raise.ensures d)) (moved_in in_elements left.left))

pub array-returns-clause-read : goal.array-returns-clause-read
array-returns-clause-read t c =
    let r = c.in_ok-end.ensures.read in
    let left = c.after_gap.ensures in
    let taken = c.in_ok-taken in
    let old = c.args.self.now.elements in
    let counted : c.len-from.result ≡ length old.items = omega (arith, c.len-from.ensures, old.ok.0) in
    let added = added_to old.items r.added counted r.pushed in
    let seen = array_of taken.field-0 ∙ ap (λ l. Raw.array (elements_view l)) (taken.ensures.0 ∙ added.0) in
    let is = ap elements_of (sym left.left) ∙ r.is in
    search rules

-- an inline table
pub inline-returns-in_err-raise-clause-deep : goal.inline-returns-in_err-raise-clause-deep
inline-returns-in_err-raise-clause-deep t c =
    let e = c.in_err-raise.ensures in
    rw (is_err c.from_residual.ensures.1 ∙ ap (λ s. Err s) e.1) (this_brace e.0)

pub inline-returns-in_err-end : goal.inline-returns-in_err-end
inline-returns-in_err-end t c =
    let left = c.after_blanks.ensures in
    rw (is_err c.from_residual-in_err-end.ensures.1) (stop_in_whole _ _ _ _ _ c.in_err-end.ensures (search rules)
    (λ p d. fields c.in_ok-raise.ensures (rw left.left at d))
    (λ none p d. rw left.left (within.in_inline c.in_ok-raise.ensures d)) (moved_in in_fields left.left))

pub inline-returns-clause-read : goal.inline-returns-clause-read
inline-returns-clause-read t c =
    let r = c.in_ok-end.ensures.read in
    let left = c.after_blanks.ensures in
    let taken = c.in_ok-value.ensures in
    let old = c.args.self.now in
    let parents = added_to {n = c.len-parents.result} old.parents.items r.added.parents
    (omega (arith, c.len-parents.ensures, old.parents.ok.0)) (ap (λ (l : Lines). l.parents) r.pushed) in
    let rows = added_to {n = c.len-from.result} old.rows.items r.added.rows
    (omega (arith, c.len-from.ensures, old.rows.ok.0)) (ap (λ (l : Lines). l.rows) r.pushed) in
    let is = ap fields_of (sym left.left) ∙ r.is in
    search rules
