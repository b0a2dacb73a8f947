-- What stands at the front of a text does not depend on the bound on the steps, where it is large enough. So it is told
-- by what stands at the front of shorter texts.
use Rattle.basic_toml_read.proofs.Common.{◌≡◌, ℕ, suc, ◌+◌, ◌*◌, ◌<◌, ◌≤◌, true, false, [], ◌∷◌, length, refl, ap, ◌∙◌}
use Rattle.basic_toml_read.proofs.Common.{arith, List, Option, Some, option_or, Text, after_blanks, Key, Raw, Elements}
use Rattle.basic_toml_read.proofs.Common.{Rows, no_elements, element, no_rows, row, and_then, with_root, char_at}
use Rattle.basic_toml_read.proofs.Common.{key_at, if_found, Assigned, word_at, string_value_at, line_end_at}
use Rattle.basic_toml_read.proofs.Common.{section_list_of, keys_of, value_of, elements_of, fields_of, fields_on_of}
use Rattle.basic_toml_read.proofs.Common.{row_of, rows_of, header_of, sections_of, sign_read, key_read, keys_read}
use Rattle.basic_toml_read.proofs.Common.{value_read, row_read, line_end_read, rows_read, header_read, gap, value_found}
use Rattle.basic_toml_read.proofs.Common.{row_found, rows_found, header_found, sections_from}
use Rattle.std.proofs.Common.{add-one, add-suc}
use Rattle.basic_toml_grammar.specs.Reader.{keys_at, Valued, value_at, elements_at, fields_at, fields_on_at, row_at}
use Rattle.basic_toml_grammar.specs.Reader.{rows_at, header_at, sections_at}
use Rattle.basic_toml_grammar.proofs.Grammar.ReaderIsSound.{elements_read, fields_on_read, sections_read}
use Rattle.basic_toml_grammar.proofs.Grammar.ReaderIsComplete.{key_shorter, keys_shorter, blanks_length}
use Rattle.basic_toml_grammar.proofs.Grammar.ReaderIsComplete.{shorter_after_blanks, gap_length, shorter_after_gap}
use Rattle.basic_toml_grammar.proofs.Grammar.ReaderIsComplete.{value_shorter, row_shorter, ends_shorter, line_shorter}
use Rattle.basic_toml_grammar.proofs.Grammar.ReaderIsComplete.{header_shorter, rows_shorter, elements_found}
use Rattle.basic_toml_grammar.proofs.Grammar.ReaderIsComplete.{fields_on_found, sections_found}
use Rattle.basic_toml_grammar.proofs.Grammar.StringsAreRead.{sign_length}
use Rattle.basic_toml_read.proofs.GoesOn.{then_alike, found_alike, same_found, then_from}

sign_shorter : (c : ℕ) (text : Text) (s : ℕ × Text) → char_at c text ≡ Some s → length text ≡ suc (length s.1)
sign_shorter c text s e = sign_length (sign_read c text s e)

sign_after_blanks : (c : ℕ) (text : Text) (s : ℕ × Text) → char_at c (after_blanks text) ≡ Some s
    → length s.1 < length text
sign_after_blanks c text s e = shorter_after_blanks text (sign_read c (after_blanks text) s e)

-- what stands at the front, by what stands after it
abbrev pub keys_by : (Text → Option (List Key × Text)) → Text → Option (List Key × Text)
keys_by more text = and_then (key_at text) (λ k.
    if_found (char_at 46 (after_blanks k.1))
    (λ s. and_then (more (after_blanks s.1)) (λ keys. Some (k.0 ∷ keys.0, keys.1))) (Some (k.0 ∷ [], k.1)))

-- after a value in an array, after a row of an inline table, and after one in a line
abbrev pub after_value : (Text → Option (Elements × Text)) → Valued → Option (Elements × Text)
after_value more v = if_found (char_at 44 (gap v.rest))
    (λ s. and_then (more (gap s.1)) (λ r. Some (element v.offset v.value r.0, r.1)))
    (and_then (char_at 93 (gap v.rest)) (λ s. Some (element v.offset v.value no_elements, s.1)))

abbrev pub after_field : (Text → Option (Rows × Text)) → Assigned → Option (Rows × Text)
after_field more r = if_found (char_at 44 (after_blanks r.rest))
    (λ s. and_then (more (after_blanks s.1)) (λ rows. Some (row r.keys r.offset r.value rows.0, rows.1)))
    (and_then (char_at 125 (after_blanks r.rest)) (λ s. Some (row r.keys r.offset r.value no_rows, s.1)))

abbrev pub after_row : (Text → Option (Rows × Text)) → Assigned → Option (Rows × Text)
after_row more r = and_then (line_end_at r.rest)
    (λ next. and_then (more next) (λ rows. Some (row r.keys r.offset r.value rows.0, rows.1)))

-- a step of keys
keys_step : (n : ℕ) (more : Text → Option (List Key × Text)) (text : Text)
    → ((t : Text) → length t < length text → keys_at n t ≡ more t) → keys_at (suc n) text ≡ keys_by more text
keys_step n more text h =
    then_alike (key_at text) _ _ (λ key e. found_alike (char_at 46 (after_blanks key.1)) _ _ _ _
    (λ s f. then_from _ (h (after_blanks s.1)
    (omega (arith, key_shorter (key_read text key e), sign_after_blanks 46 key.1 s f, blanks_length s.1)))) (λ _. refl))

-- two bounds that are large enough find the same
abbrev Enough : {A : Type 0} → (ℕ → Text → Option A) → ℕ → Type 0
Enough at k = (n m : ℕ) (text : Text) → 4 * length text + k ≤ n → 4 * length text + k ≤ m → at n text ≡ at m text

keys_enough : (n m : ℕ) (text : Text) → length text < n → length text < m → keys_at n text ≡ keys_at m text
keys_enough (suc n) (suc m) text h k =
    keys_step n (keys_at m) text (λ t l. keys_enough n m t (omega arith) (omega arith))
keys_enough _ _ text h k = absurd (omega arith)

header_enough : (n m : ℕ) (text : Text) → length text < n → length text < m → header_at n text ≡ header_at m text
header_enough n m text h k =
    same_found _ _ (λ r e. header_found m (header_read n text r e) k) (λ r e. header_found n (header_read m text r e) h)

value_enough : Enough value_at 1
value_enough n m text h k =
    same_found _ _ (λ v e. value_found m (value_read n text v e) k) (λ v e. value_found n (value_read m text v e) h)

row_enough : Enough row_at 1
row_enough n m text h k =
    same_found _ _ (λ r e. row_found m (row_read n text r e) k) (λ r e. row_found n (row_read m text r e) h)

elements_enough : Enough elements_at 2
elements_enough n m text h k = same_found _ _ (λ r e. elements_found m (elements_read n text r e) k)
    (λ r e. elements_found n (elements_read m text r e) h)

fields_on_enough : Enough fields_on_at 2
fields_on_enough n m text h k = same_found _ _ (λ r e. fields_on_found m (fields_on_read n text r e) k)
    (λ r e. fields_on_found n (fields_on_read m text r e) h)

fields_enough : Enough fields_at 3
fields_enough (suc n) (suc m) text h k =
    ap (if_found (char_at 125 text) _) (fields_on_enough n m text (omega arith) (omega arith))
fields_enough _ _ text h k = absurd (omega arith)

rows_enough : Enough rows_at 3
rows_enough n m text h k =
    same_found _ _ (λ r e. rows_found m (rows_read n text r e) k) (λ r e. rows_found n (rows_read m text r e) h)

sections_enough : Enough sections_at 3
sections_enough n m text h k = same_found _ _ (λ r e. sections_found m (sections_read n text r e) k)
    (λ r e. sections_found n (sections_read m text r e) h)

-- and what stands at the front is told by itself
pub keys_is : (text : Text) → keys_of text ≡ keys_by keys_of text
unfolding keys_of
keys_is text =
    keys_step (length text) keys_of text
    (λ t l. keys_enough (length text) (suc (length t)) t (omega arith) (omega arith))

pub value_is : (text : Text)
    → value_of text ≡ if_found (char_at 91 text) (λ s. and_then (elements_of (gap s.1))
    (λ r. Some (record { offset = s.0; value = Raw.array r.0; rest = r.1 })))
    (if_found (char_at 123 text) (λ s. and_then (fields_of (after_blanks s.1))
    (λ r. Some (record { offset = s.0; value = Raw.inline r.0; rest = r.1 })))
    (option_or (word_at text) (string_value_at text)))
unfolding value_of elements_of fields_of
value_is text =
    rw add-one (found_alike (char_at 91 text) _ _ _ _ (λ s e. then_from _ (elements_enough _ _ (gap s.1)
    (omega (arith, sign_shorter 91 text s e, gap_length s.1)) (omega arith)))
    (λ _. found_alike (char_at 123 text) _ _ _ _ (λ s e. then_from _ (fields_enough _ _ (after_blanks s.1)
    (omega (arith, sign_shorter 123 text s e, blanks_length s.1)) (omega arith))) (λ _. refl)))

pub elements_is : (text : Text) → elements_of text
    ≡ if_found (char_at 93 text) (λ s. Some (no_elements, s.1)) (and_then (value_of text) (after_value elements_of))
unfolding elements_of value_of
elements_is text =
    rw (add-suc (4 * length text) 1) (found_alike (char_at 93 text) _ _ _ _ (λ _ _. refl) (λ _.
    then_alike (value_of text) _ _ (λ v e. found_alike (char_at 44 (gap v.rest)) _ _ _ _
    (λ s f. let less = shorter_after_gap v.rest (sign_read 44 (gap v.rest) s f) in
    let least = value_shorter (value_read _ text v e) in
    then_from _ (elements_enough _ _ (gap s.1) (omega (arith, gap_length s.1)) (omega arith))) (λ _. refl))))

pub fields_is : (text : Text)
    → fields_of text ≡ if_found (char_at 125 text) (λ s. Some (no_rows, s.1)) (fields_on_of text)
unfolding fields_of fields_on_of
fields_is text = rw (add-suc (4 * length text) 2) refl

pub fields_on_is : (text : Text) → fields_on_of text ≡ and_then (row_of text) (after_field fields_on_of)
unfolding fields_on_of row_of
fields_on_is text =
    rw (add-suc (4 * length text) 1) (then_alike (row_of text) _ _ (λ r e.
    found_alike (char_at 44 (after_blanks r.rest)) _ _ _ _ (λ s f. then_from _ (fields_on_enough _ _ (after_blanks s.1)
    (omega (arith, row_shorter (row_read _ text r e), sign_after_blanks 44 r.rest s f, blanks_length s.1))
    (omega arith))) (λ _. refl)))

pub row_is : (text : Text)
    → row_of text ≡ and_then (keys_of text) (λ keys. and_then (char_at 61 (after_blanks keys.1)) (λ s.
    and_then (value_of (after_blanks s.1))
    (λ v. Some (record { keys = keys.0; offset = v.offset; value = v.value; rest = v.rest }))))
unfolding row_of keys_of value_of
row_is text =
    let n = 4 * length text in
    rw add-one (then_alike (keys_at (suc n) text) _ _ (λ ks e. then_alike (char_at 61 (after_blanks ks.1)) _ _ (λ s f.
    then_from _ (value_enough n _ (after_blanks s.1)
    (omega (arith, keys_shorter (keys_read (suc n) text ks e), sign_after_blanks 61 ks.1 s f, blanks_length s.1))
    (omega arith))))
    ∙ then_from _ (keys_enough (suc n) (suc (length text)) text (omega arith) (omega arith)))

pub rows_is : (x : ℕ × ℕ) (text : Text)
    → rows_of (x ∷ text) ≡ if_found (char_at 91 (after_blanks (x ∷ text))) (λ s. Some (no_rows, x ∷ text))
    (if_found (line_end_at (x ∷ text)) (λ next. rows_of next)
    (and_then (row_of (after_blanks (x ∷ text))) (after_row rows_of)))
unfolding rows_of row_of
rows_is x text =
    let n = 4 * length (x ∷ text) + 2 in
    let front = after_blanks (x ∷ text) in
    let blanks = blanks_length (x ∷ text) in
    rw (add-suc (4 * length (x ∷ text)) 2) (found_alike (char_at 91 front) _ _ _ _ (λ _ _. refl) (λ _.
    found_alike (line_end_at (x ∷ text)) _ _ _ _
    (λ next e. rows_enough n _ next (omega (arith, line_shorter (line_end_read (x ∷ text) next e))) (omega arith))
    (λ _. then_alike (row_at (suc n) front) _ _ (λ v e. then_alike (line_end_at v.rest) _ _
    (λ next f. let less = ends_shorter (line_end_read v.rest next f) in
    then_from _ (rows_enough n _ next (omega (arith, row_shorter (row_read (suc n) front v e))) (omega arith))))
    ∙ then_from _ (row_enough (suc n) _ front (omega arith) (omega arith)))))

pub header_is : (text : Text)
    → header_of text ≡ and_then (char_at 91 text) (λ s. if_found (char_at 91 s.1)
    (λ t. and_then (keys_of (after_blanks t.1))
    (λ keys. and_then (char_at 93 (after_blanks keys.1)) (λ close. and_then (char_at 93 close.1) (λ last.
    Some (record { offset = s.0; keys = keys.0; is_array = true; rest = last.1 })))))
    (and_then (keys_of (after_blanks s.1)) (λ keys. and_then (char_at 93 (after_blanks keys.1)) (λ close.
    Some (record { offset = s.0; keys = keys.0; is_array = false; rest = close.1 })))))
unfolding header_of keys_of
header_is text =
    let n = suc (length text) in
    then_alike (char_at 91 text) _ _ (λ s e. found_alike (char_at 91 s.1) _ _ _ _
    (λ t f. then_from _ (keys_enough n (suc (length (after_blanks t.1))) (after_blanks t.1)
    (omega (arith, sign_shorter 91 text s e, sign_shorter 91 s.1 t f, blanks_length t.1)) (omega arith)))
    (λ _. then_from _ (keys_enough n (suc (length (after_blanks s.1))) (after_blanks s.1)
    (omega (arith, sign_shorter 91 text s e, blanks_length s.1)) (omega arith))))

pub sections_is : (x : ℕ × ℕ) (text : Text)
    → sections_of (x ∷ text) ≡ and_then (header_of (after_blanks (x ∷ text))) sections_from
unfolding sections_of header_of rows_of
sections_is x text =
    let n = 4 * length (x ∷ text) + 2 in
    let front = after_blanks (x ∷ text) in
    let blanks = blanks_length (x ∷ text) in
    rw (add-suc (4 * length (x ∷ text)) 2) (then_alike (header_at (suc n) front) _ _ (λ head e.
    then_alike (line_end_at head.rest) _ _ (λ next f.
    let less : length next < length (x ∷ text) =
    omega (arith, header_shorter (header_read (suc n) front head e), ends_shorter (line_end_read head.rest next f)) in
    then_alike (rows_at (suc n) next) _ _ (λ rs g. then_from _ (sections_enough n _ rs.1
    (omega (arith, rows_shorter (rows_read (suc n) next rs g))) (omega arith)))
    ∙ then_from _ (rows_enough (suc n) (4 * length next + 3) next (omega arith) (omega arith))))
    ∙ then_from _ (header_enough (suc n) (suc (length front)) front (omega arith) (omega arith)))

pub list_is : (text : Text)
    → section_list_of text ≡ and_then (rows_of text)
    (λ rows. and_then (sections_of rows.1) (λ headed. Some (with_root rows.0 headed)))
unfolding rows_of sections_of
list_is text =
    then_alike (rows_at (4 * length text + 4) text) _ _ (λ rows e. then_from _ (sections_enough _ _ rows.1
    (omega (arith, rows_shorter (rows_read (4 * length text + 4) text rows e))) (omega arith)))
    ∙ then_from _ (rows_enough _ _ text (omega arith) (omega arith))
