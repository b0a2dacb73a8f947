-- What a hole is filled with, and what the text then means that goes on from there as shortly as it can.
use Rattle.std.proofs.Common.{◌⊎◌, inl, inr, refl, ◌≡◌, ℕ, suc, Bool, true, false, cond, List, [], ◌∷◌, Option, Some, None}
use Rattle.std.proofs.lemmas.Bool.{or_left, or_right, or_cases}
use Rattle.basic_toml_tokens.specs.Text.{Text, is_keylike, is_comment}
use Rattle.basic_toml_tokens.specs.Strings.{is_quote}
use Rattle.basic_toml_grammar.specs.Sections.{Key, Raw, Elements, no_elements, element, Rows, no_rows, row, Section}
use Rattle.basic_toml_grammar.specs.Grammar.{is_wordlike, with_root}
use Rattle.basic_toml_grammar.proofs.Grammar.GrammarCarried.{element_seen}
use Rattle.basic_toml_grammar.specs.Holes as holes
use Rattle.basic_toml_grammar.specs.Holes.{Hole, begins_key, begins_value, HoleInKeys, HoleInValue, HoleInElements}
use Rattle.basic_toml_grammar.specs.Holes.{HoleInFields}
use Rattle.basic_toml_grammar.specs.Holes.{HoleInFieldsOn, HoleInRow, HoleInRows, HoleInHeader, HoleInSections}
use Rattle.basic_toml_grammar.specs.Holes.{HoleInText}

-- a key, an empty array or inline table, or a sign, by the first character; or the end
pub data Filler : Hole → Option ℕ → Type 0 where
  key : {c : ℕ} → begins_key c ≡ true → Filler Hole.key (Some c)
  empty_array : Filler Hole.value (Some 91)
  empty_table : Filler Hole.value (Some 123)
  equals : Filler Hole.after_keys (Some 61)
  header_end : Filler Hole.after_header_keys (Some 93)
  second_end : Filler Hole.second_bracket (Some 93)
  array_end : Filler Hole.after_element (Some 93)
  table_end : Filler Hole.after_field (Some 125)
  another : Filler Hole.after_field (Some 44)
  line_end : Filler Hole.after_line None

-- each is seen
pub filler_seen : {h : Hole} {c : ℕ} → Filler h (Some c) → is_comment c ≡ true
filler_seen (key {c = c} e) = element_seen c (or_left _ _ (begins (or_cases (is_keylike c) (is_quote c) e)))
  where
    begins : (is_keylike c ≡ true) ⊎ (is_quote c ≡ true) → begins_value c ≡ true
    begins (inl k) = or_left _ _ (or_left _ _ (or_left _ _ k))
    begins (inr q) = or_left _ _ (or_right (is_wordlike c) _ q)
filler_seen empty_array = refl
filler_seen empty_table = refl
filler_seen equals = refl
filler_seen header_end = refl
filler_seen second_end = refl
filler_seen array_end = refl
filler_seen table_end = refl
filler_seen another = refl

-- At an offset: the key, what is after it, and the value. A quoted key is empty.
abbrev pub key_filled : {h : Hole} {s : Option ℕ} → ℕ → Filler h s → Key
key_filled p (key {c = c} e) = record { offset = p; text = cond (is_keylike c) (c ∷ []) [] }
key_filled p _ = record { offset = p; text = [] }

abbrev pub after_filled : {h : Hole} {s : Option ℕ} → ℕ → Filler h s → ℕ
after_filled p (key {c = c} e) = cond (is_keylike c) (suc p) (suc (suc p))
after_filled p _ = p

abbrev pub value_filled : {h : Hole} {s : Option ℕ} → Filler h s → Raw
value_filled empty_table = Raw.inline no_rows
value_filled _ = Raw.array no_elements

-- after a comma, one row more
abbrev pub rows_filled : {h : Hole} {s : Option ℕ} → ℕ → Filler h s → Rows
rows_filled p another = row (record { offset = suc p; text = 107 ∷ [] } ∷ []) (suc (suc (suc p)))
    (Raw.array no_elements) no_rows
rows_filled p _ = no_rows

-- with the filler at an offset
abbrev pub fill_keys : {h : Hole} {text at : Text} → HoleInKeys text h at → Key → List Key
fill_keys holes.this_key k = k ∷ []
fill_keys (holes.later_key {k = j} x s d) k = j ∷ fill_keys d k

module _ (p : ℕ) where
  abbrev mutual
    pub fill_value : {h : Hole} {s : Option ℕ} {text at : Text} → HoleInValue text h at → Filler h s → ℕ × Raw
    fill_value holes.this_value x = (p, value_filled x)
    fill_value (holes.array {q = q} s d) x = (q, Raw.array (fill_elements d x))
    fill_value (holes.inline {q = q} s d) x = (q, Raw.inline (fill_fields d x))

    pub fill_elements : {h : Hole} {s : Option ℕ} {text at : Text} → HoleInElements text h at → Filler h s → Elements
    fill_elements (holes.in_element m d) x = element (fill_value d x).0 (fill_value d x).1 no_elements
    fill_elements (holes.after_this {q = q} {v = v} w) x = element q v no_elements
    fill_elements (holes.later_element {q = q} {v = v} w s d) x = element q v (fill_elements d x)

    pub fill_fields : {h : Hole} {s : Option ℕ} {text at : Text} → HoleInFields text h at → Filler h s → Rows
    fill_fields (holes.fields m d) x = fill_fields_on d x

    pub fill_fields_on : {h : Hole} {s : Option ℕ} {text at : Text} → HoleInFieldsOn text h at → Filler h s → Rows
    fill_fields_on (holes.in_row d) x = row (fill_row_keys d x) (fill_row_value d x).0 (fill_row_value d x).1 no_rows
    fill_fields_on (holes.after_row {keys = keys} {q = q} {v = v} w) x = row keys q v (rows_filled p x)
    fill_fields_on (holes.later_row {keys = keys} {q = q} {v = v} w s d) x = row keys q v (fill_fields_on d x)

    pub fill_row_keys : {h : Hole} {s : Option ℕ} {text at : Text} → HoleInRow text h at → Filler h s → List Key
    fill_row_keys (holes.in_keys d) x = fill_keys d (key_filled p x)
    fill_row_keys (holes.after_keys {keys = keys} ks) x = keys
    fill_row_keys (holes.in_value {keys = keys} ks s d) x = keys

    pub fill_row_value : {h : Hole} {s : Option ℕ} {text at : Text} → HoleInRow text h at → Filler h s → ℕ × Raw
    fill_row_value (holes.in_keys d) x = (suc (after_filled p x), Raw.array no_elements)
    fill_row_value (holes.after_keys ks) x = (suc p, Raw.array no_elements)
    fill_row_value (holes.in_value ks s d) x = fill_value d x

  abbrev pub fill_rows : {h : Hole} {s : Option ℕ} {text at : Text} → HoleInRows text h at → Filler h s → Rows
  fill_rows (holes.this_row b c m d) x = row (fill_row_keys d x) (fill_row_value d x).0 (fill_row_value d x).1 no_rows
  fill_rows (holes.after_comment s) x = no_rows
  fill_rows (holes.after_row {keys = keys} {q = q} {v = v} w) x = row keys q v no_rows
  fill_rows (holes.after_empty e d) x = fill_rows d x
  fill_rows (holes.later_row {keys = keys} {q = q} {v = v} w e d) x = row keys q v (fill_rows d x)

  -- a section that ends with its header
  abbrev pub fill_header : {h : Hole} {s : Option ℕ} {text at : Text} → HoleInHeader text h at → Filler h s → Section
  fill_header (holes.table_keys {q = q} s m d) x =
      record { at = q; header = fill_keys d (key_filled p x); is_array = false; rows = no_rows }
  fill_header (holes.table_end {keys = keys} {q = q} s ks) x =
      record { at = q; header = keys; is_array = false; rows = no_rows }
  fill_header (holes.array_keys {q = q} s t d) x =
      record { at = q; header = fill_keys d (key_filled p x); is_array = true; rows = no_rows }
  fill_header (holes.array_end {keys = keys} {q = q} s t ks) x =
      record { at = q; header = keys; is_array = true; rows = no_rows }
  fill_header (holes.array_last {keys = keys} {q = q} s t ks e) x =
      record { at = q; header = keys; is_array = true; rows = no_rows }

  abbrev pub fill_sections : {h : Hole} {s : Option ℕ} {text at : Text} → HoleInSections text h at → Filler h s
      → List Section
  fill_sections (holes.in_header d) x = fill_header d x ∷ []
  fill_sections (holes.after_header {keys = keys} {is_array = a} {q = q} w) x =
      record { at = q; header = keys; is_array = a; rows = no_rows } ∷ []
  fill_sections (holes.in_rows {keys = keys} {is_array = a} {q = q} w e d) x =
      record { at = q; header = keys; is_array = a; rows = fill_rows d x } ∷ []
  fill_sections (holes.later_section {keys = keys} {is_array = a} {rows = rows} {q = q} w e rs d) x =
      record { at = q; header = keys; is_array = a; rows = rows } ∷ fill_sections d x

  abbrev pub fill_text : {h : Hole} {s : Option ℕ} {text at : Text} → HoleInText text h at → Filler h s → List Section
  fill_text (holes.root d) x = with_root (fill_rows d x) []
  fill_text (holes.headed {rows = rows} rs d) x = with_root rows (fill_sections d x)

-- the hole stands after a gap of an array, which may end in a comment
abbrev mutual
  pub value_gap : {h : Hole} {text at : Text} → HoleInValue text h at → Bool
  value_gap holes.this_value = false
  value_gap (holes.array s d) = elements_gap d
  value_gap (holes.inline s d) = fields_gap d

  pub elements_gap : {h : Hole} {text at : Text} → HoleInElements text h at → Bool
  elements_gap (holes.in_element m holes.this_value) = true
  elements_gap (holes.in_element m (holes.array s d)) = elements_gap d
  elements_gap (holes.in_element m (holes.inline s d)) = fields_gap d
  elements_gap (holes.after_this w) = true
  elements_gap (holes.later_element w s d) = elements_gap d

  pub fields_gap : {h : Hole} {text at : Text} → HoleInFields text h at → Bool
  fields_gap (holes.fields m d) = fields_on_gap d

  pub fields_on_gap : {h : Hole} {text at : Text} → HoleInFieldsOn text h at → Bool
  fields_on_gap (holes.in_row d) = row_gap d
  fields_on_gap (holes.after_row w) = false
  fields_on_gap (holes.later_row w s d) = fields_on_gap d

  pub row_gap : {h : Hole} {text at : Text} → HoleInRow text h at → Bool
  row_gap (holes.in_keys d) = false
  row_gap (holes.after_keys ks) = false
  row_gap (holes.in_value ks s d) = value_gap d

abbrev pub rows_gap : {h : Hole} {text at : Text} → HoleInRows text h at → Bool
rows_gap (holes.this_row b c m d) = row_gap d
rows_gap (holes.after_comment s) = false
rows_gap (holes.after_row w) = false
rows_gap (holes.after_empty e d) = rows_gap d
rows_gap (holes.later_row w e d) = rows_gap d

abbrev pub sections_gap : {h : Hole} {text at : Text} → HoleInSections text h at → Bool
sections_gap (holes.in_header d) = false
sections_gap (holes.after_header w) = false
sections_gap (holes.in_rows w e d) = rows_gap d
sections_gap (holes.later_section w e rs d) = sections_gap d

abbrev pub text_gap : {h : Hole} {text at : Text} → HoleInText text h at → Bool
text_gap (holes.root d) = rows_gap d
text_gap (holes.headed rs d) = sections_gap d
