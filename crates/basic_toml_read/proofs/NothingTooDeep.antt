-- Where what is read first is missing, only that is too deep.
use Rattle.basic_toml_read.proofs.Common.{◌≡◌, ◌≤◌, ◌+◌, ◌*◌, ℕ, suc, Bool, List, length, ap, sym, ◌∙◌, arith, None}
use Rattle.basic_toml_read.proofs.Common.{nesting_limit, Text, is_comment, after_blanks, Key, Raw, Rows, IsRow, IsRows}
use Rattle.basic_toml_read.proofs.Common.{IsHeader, EndsLine, DeepKeys, DeepRow, DeepValue, DeepElements, DeepFields}
use Rattle.basic_toml_read.proofs.Common.{DeepRows, DeepHeader, DeepStop, char_at, line_end_at, keys_of, value_of}
use Rattle.basic_toml_read.proofs.Common.{row_of, rows_of, header_of, value_found, row_found, rows_found, header_found}
use Rattle.basic_toml_grammar.specs.DeepStops as deep
use Rattle.basic_toml_grammar.proofs.Nesting.WithinTheLimit as within
use Rattle.basic_toml_grammar.specs.DeepStops.{DeepSections}
use Rattle.basic_toml_grammar.proofs.Grammar.ReaderIsComplete.{keys_found}
use Rattle.basic_toml_grammar.proofs.Grammar.GrammarIsUnambiguous.{header_same, ends_same}

-- what is not found does not stand there
row_absent : {text mid : Text} {q : ℕ} {ks : List Key} {v : Raw} → row_of text ≡ None
    → IsRow is_comment text ks q v mid → ⊥
unfolding row_of
row_absent {text = text} n w = cc (n, row_found (4 * length text + 1) w (omega arith))

rows_absent : {text rest : Text} {rs : Rows} → rows_of text ≡ None → IsRows is_comment text rs rest → ⊥
unfolding rows_of
rows_absent {text = text} n rs = cc (n, rows_found (4 * length text + 3) rs (omega arith))

header_absent : {text rest : Text} {q : ℕ} {ks : List Key} {a : Bool} → header_of text ≡ None
    → IsHeader text q ks a rest → ⊥
unfolding header_of
header_absent {text = text} n w = cc (n, header_found (suc (length text)) w (omega arith))

-- a row
pub row_keys : {l p : ℕ} {text : Text} → keys_of text ≡ None → DeepRow nesting_limit l text p
    → DeepKeys nesting_limit l text p
unfolding keys_of
row_keys n (deep.keys d) = d
row_keys {text = text} n (deep.value ks h s d) =
    cc (n, keys_found (suc (length text)) ks (ap (char_at 46) s) (omega arith))

-- an element
pub its_value : {l p : ℕ} {text : Text} → value_of text ≡ None → DeepElements nesting_limit l text p
    → DeepValue nesting_limit l text p
unfolding value_of
its_value n (deep.this_element d) = d
its_value {text = text} n (deep.later_element v h s d) = cc (n, value_found (4 * length text + 1) v (omega arith))

-- a row of an inline table
pub its_row : {l p : ℕ} {text : Text} → row_of text ≡ None → DeepFields nesting_limit l text p
    → DeepRow nesting_limit l text p
its_row n (deep.this_field d) = d
its_row n (deep.later_field w h s d) = absurd (row_absent n w)

-- a row in a line of its own
pub line_row : {l p : ℕ} {text : Text} → line_end_at text ≡ None → row_of (after_blanks text) ≡ None
    → DeepRows nesting_limit l text p → DeepRow nesting_limit l (after_blanks text) p
line_row e n (deep.this_row d) = d
line_row e n (deep.after_empty f d) = absurd (within.no_end e f)
line_row e n (deep.later_row w h f d) = absurd (row_absent n w)

-- sections
pub its_header : {p : ℕ} {text : Text} → header_of (after_blanks text) ≡ None → DeepSections nesting_limit text p
    → DeepHeader nesting_limit (after_blanks text) p
its_header n (deep.this_section (deep.header d)) = d
its_header n (deep.this_section (deep.rows w h e d)) = absurd (header_absent n w)
its_header n (deep.later_section w e rs h d) = absurd (header_absent n w)

pub after_header : {p q : ℕ} {ks : List Key} {a : Bool} {text mid : Text} → IsHeader (after_blanks text) q ks a mid
    → length ks + 1 ≤ nesting_limit → line_end_at mid ≡ None → DeepSections nesting_limit text p → ⊥
after_header w h n (deep.this_section (deep.header d)) = within.header_within w h d
after_header w h n (deep.this_section (deep.rows x g e d)) =
    within.no_end (ap line_end_at (sym (header_same w x).3) ∙ n) e
after_header w h n (deep.later_section x e rs g d) =
    within.no_end (ap line_end_at (sym (header_same w x).3) ∙ n) e

pub its_rows : {p q : ℕ} {ks : List Key} {a : Bool} {text mid next : Text} → IsHeader (after_blanks text) q ks a mid
    → length ks + 1 ≤ nesting_limit → EndsLine is_comment mid next → rows_of next ≡ None
    → DeepSections nesting_limit text p
    → DeepRows nesting_limit (length ks + 1) next p
its_rows w h e n (deep.this_section d) = within.past_header w h e d
its_rows {next = next} w h e n (deep.later_section x f rs g d) =
    let m = ends_same is_comment (rw (header_same w x).3 at e) f in
    absurd (rows_absent (ap rows_of (sym m) ∙ n) rs)

pub root_rows : {p : ℕ} {text : Text} → rows_of text ≡ None → DeepStop nesting_limit text p
    → DeepRows nesting_limit 1 text p
root_rows n (deep.root d) = d
root_rows n (deep.headed rs h d) = absurd (rows_absent n rs)
