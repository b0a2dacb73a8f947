-- The grammar, computed: of each kind of thing, what stands at the front of a text and the rest after it, or none. Own.
-- A first argument bounds the steps.
use Rattle.std.specs.Prelude.{ℕ, zero, suc, ◌+◌, ◌*◌, Bool, true, false, ◌==◌, nat_lt, if◌then◌else◌, List, [], ◌∷◌}
use Rattle.std.specs.Prelude.{◌++◌, length, drop, encode_utf8_all, Option, Some, None}
use Rattle.std.specs.Option.{option_or}
use Rattle.basic_toml_tokens.specs.Ascii as ascii
use Rattle.basic_toml_tokens.specs.Text.{Text, folded, run, after_run, is_keylike, is_comment, after_blanks}
use Rattle.basic_toml_tokens.specs.Strings.{Quotes, is_quote, count_of, after_feed}
use Rattle.basic_toml_tokens.specs.BodyFront.{Front, front_of}
use Rattle.basic_toml_grammar.specs.Sections.{Key, Raw, Elements, no_elements, element, Rows, no_rows, row, Section}
use Rattle.basic_toml_grammar.specs.Copies.{up_to, needs_copy}
use Rattle.basic_toml_grammar.specs.Entering.{and_then}
use Rattle.basic_toml_grammar.specs.Grammar.{is_wordlike, word_value, word_offset, after_comment_by, after_gap}
use Rattle.basic_toml_grammar.specs.Grammar.{with_root}

-- a character, by its offset
abbrev pub char_at : ℕ → Text → Option (ℕ × Text)
char_at c [] = None
char_at c (x ∷ text) = if x.1 == c then Some (x.0, text) else None

-- the body of a string that begins at `start`, with the characters that it stands for
abbrev pub goes_on : Front → (Text → Option (List ℕ × Text)) → Option (List ℕ × Text)
goes_on (Front.more chars rest) body = and_then (body rest) (λ r. Some (chars ++ r.0, r.1))
goes_on (Front.closed tail rest) body = Some (tail, rest)
goes_on (Front.broken error rest) body = None

abbrev pub body_at : ℕ → Quotes → ℕ → Text → Option (List ℕ × Text)
body_at zero k start text = None
body_at (suc n) k start text = goes_on (front_of k start text) (λ rest. body_at n k start rest)

abbrev pub Quoted : Type 0
Quoted = record { offset : ℕ; multiline : Bool; value : List ℕ; rest : Text }

abbrev pub body_of_string : ℕ → Quotes → ℕ → Text → Option Quoted
body_of_string n k p text = and_then (body_at n k p text)
    (λ body. Some (record { offset = p; multiline = k.multiline; value = body.0; rest = body.1 }))

abbrev pub string_at : Text → Option Quoted
string_at [] = None
string_at (x ∷ text) =
    if is_quote x.1 then
    (if nat_lt (count_of x.1 (x ∷ text)) 3 then body_of_string (suc (length text))
    (record { delimiter = x.1; multiline = false }) x.0 text
    else body_of_string (suc (length text)) (record { delimiter = x.1; multiline = true }) x.0
    (after_feed (drop 2 text)))
    else None

abbrev pub bare_key_at : Text → Option (Key × Text)
bare_key_at [] = None
bare_key_at (x ∷ text) =
    if is_keylike x.1 then Some
    (record { offset = x.0; text = run is_keylike (x ∷ text) }, after_run is_keylike (x ∷ text)) else None

abbrev pub quoted_key : Quoted → Option (Key × Text)
quoted_key s = if s.multiline then None else Some (record { offset = s.offset; text = encode_utf8_all s.value }, s.rest)

abbrev pub key_at : Text → Option (Key × Text)
key_at text = option_or (bare_key_at text) (and_then (string_at text) quoted_key)

-- what is found goes on, or else this
abbrev pub if_found : {A B : Type 0} → Option A → (A → Option B) → Option B → Option B
if_found None f other = other
if_found (Some x) f other = f x

abbrev pub keys_at : ℕ → Text → Option (List Key × Text)
keys_at zero text = None
keys_at (suc n) text = and_then (key_at text) (λ k.
    if_found (char_at ascii.period (after_blanks k.1))
    (λ s. and_then (keys_at n (after_blanks s.1)) (λ keys. Some (k.0 ∷ keys.0, keys.1)))
    (Some (k.0 ∷ [], k.1)))

-- a value with its offset, and a row
abbrev pub Valued : Type 0
Valued = record { offset : ℕ; value : Raw; rest : Text }

abbrev pub Assigned : Type 0
Assigned = record { keys : List Key; offset : ℕ; value : Raw; rest : Text }

abbrev pub word_at : Text → Option Valued
word_at [] = None
word_at (x ∷ text) = and_then (word_value (run is_wordlike (x ∷ text)))
    (λ v. Some (record { offset = word_offset v x.0 (x ∷ text); value = v; rest = after_run is_wordlike (x ∷ text) }))

abbrev pub string_value_at : Text → Option Valued
string_value_at text = and_then (string_at text) (λ s. Some (record {
  offset = s.offset;
  value = Raw.string (encode_utf8_all s.value) (needs_copy s.multiline (up_to s.rest text));
  rest = s.rest;
}))

abbrev mutual
  pub value_at : ℕ → Text → Option Valued
  value_at zero text = None
  value_at (suc n) text =
      if_found (char_at ascii.left_bracket text)
      (λ s. and_then (elements_at n (after_gap is_comment s.1))
      (λ r. Some (record { offset = s.0; value = Raw.array r.0; rest = r.1 })))
      (if_found (char_at ascii.left_brace text)
      (λ s. and_then (fields_at n (after_blanks s.1))
      (λ r. Some (record { offset = s.0; value = Raw.inline r.0; rest = r.1 })))
      (option_or (word_at text) (string_value_at text)))

  pub elements_at : ℕ → Text → Option (Elements × Text)
  elements_at zero text = None
  elements_at (suc n) text =
      if_found (char_at ascii.right_bracket text) (λ s. Some (no_elements, s.1))
      (and_then (value_at n text) (λ v.
      if_found (char_at ascii.comma (after_gap is_comment v.rest))
      (λ s. and_then (elements_at n (after_gap is_comment s.1)) (λ r. Some (element v.offset v.value r.0, r.1)))
      (and_then (char_at ascii.right_bracket (after_gap is_comment v.rest))
      (λ s. Some (element v.offset v.value no_elements, s.1)))))

  pub fields_at : ℕ → Text → Option (Rows × Text)
  fields_at zero text = None
  fields_at (suc n) text = if_found (char_at ascii.right_brace text) (λ s. Some (no_rows, s.1)) (fields_on_at n text)

  pub fields_on_at : ℕ → Text → Option (Rows × Text)
  fields_on_at zero text = None
  fields_on_at (suc n) text = and_then (row_at n text) (λ r.
      if_found (char_at ascii.comma (after_blanks r.rest))
      (λ s. and_then (fields_on_at n (after_blanks s.1)) (λ rows. Some (row r.keys r.offset r.value rows.0, rows.1)))
      (and_then (char_at ascii.right_brace (after_blanks r.rest))
      (λ s. Some (row r.keys r.offset r.value no_rows, s.1))))

  pub row_at : ℕ → Text → Option Assigned
  row_at zero text = None
  row_at (suc n) text = and_then (keys_at (suc n) text)
      (λ keys. and_then (char_at ascii.equals (after_blanks keys.1)) (λ s.
      and_then (value_at n (after_blanks s.1))
      (λ v. Some (record { keys = keys.0; offset = v.offset; value = v.value; rest = v.rest }))))

-- after the end of a line
abbrev pub end_of : Text → Option Text
end_of [] = Some []
end_of (x ∷ text) = if x.1 == ascii.line_feed then Some text else None

abbrev pub line_end_at : Text → Option Text
line_end_at text = end_of (after_comment_by is_comment (after_blanks text))

abbrev pub rows_at : ℕ → Text → Option (Rows × Text)
rows_at zero text = None
rows_at (suc n) [] = Some (no_rows, [])
rows_at (suc n) (x ∷ text) =
    if_found (char_at ascii.left_bracket (after_blanks (x ∷ text))) (λ s. Some (no_rows, x ∷ text))
    (if_found (line_end_at (x ∷ text)) (λ next. rows_at n next)
    (and_then (row_at (suc n) (after_blanks (x ∷ text))) (λ r. and_then (line_end_at r.rest) (λ next.
    and_then (rows_at n next) (λ rows. Some (row r.keys r.offset r.value rows.0, rows.1))))))

abbrev pub Headed : Type 0
Headed = record { offset : ℕ; keys : List Key; is_array : Bool; rest : Text }

abbrev pub header_at : ℕ → Text → Option Headed
header_at n text = and_then (char_at ascii.left_bracket text) (λ s.
    if_found (char_at ascii.left_bracket s.1)
    (λ t. and_then (keys_at n (after_blanks t.1))
    (λ keys. and_then (char_at ascii.right_bracket (after_blanks keys.1))
    (λ close. and_then (char_at ascii.right_bracket close.1) (λ last.
    Some (record { offset = s.0; keys = keys.0; is_array = true; rest = last.1 })))))
    (and_then (keys_at n (after_blanks s.1))
    (λ keys. and_then (char_at ascii.right_bracket (after_blanks keys.1)) (λ close.
    Some (record { offset = s.0; keys = keys.0; is_array = false; rest = close.1 })))))

abbrev pub sections_at : ℕ → Text → Option (List Section)
sections_at zero text = None
sections_at (suc n) [] = Some []
sections_at (suc n) (x ∷ text) =
    and_then (header_at (suc n) (after_blanks (x ∷ text))) (λ h. and_then (line_end_at h.rest) (λ next.
    and_then (rows_at (suc n) next) (λ rows. and_then (sections_at n rows.1) (λ sections.
    Some (record { at = h.offset; header = h.keys; is_array = h.is_array; rows = rows.0 } ∷ sections)))))

abbrev pub sections_within : ℕ → Text → Option (List Section)
sections_within n text =
    and_then (rows_at n text) (λ rows. and_then (sections_at n rows.1) (λ headed. Some (with_root rows.0 headed)))

-- the section list of a text, and of the bytes of a text
abbrev pub section_list_of : Text → Option (List Section)
section_list_of text = sections_within (4 * length text + 4) text

abbrev pub sections_of_bytes : List ℕ → Option (List Section)
sections_of_bytes bytes = section_list_of (folded bytes)
