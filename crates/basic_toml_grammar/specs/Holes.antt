-- Holes, own: an offset inside a text, with what the grammar has to go on with there. All before it is of the grammar,
-- and what stands there or after it is free. `HoleInX text hole at` says that a reading of an X at the front of `text`
-- stands before `hole`, at `at`. The reader goes by this form; it is that of `DeepStops`, without levels.
use Rattle.std.specs.Prelude.{◌≡◌, ℕ, Bool, true, ◌||◌, ◌==◌, List, ◌∷◌, None}
use Rattle.basic_toml_tokens.specs.Ascii as ascii
use Rattle.basic_toml_tokens.specs.Text.{Text, StartsWith, is_keylike, is_comment, after_blanks}
use Rattle.basic_toml_tokens.specs.Strings.{is_quote}
use Rattle.basic_toml_grammar.specs.Sections.{Key, Raw, Rows}
use Rattle.basic_toml_grammar.specs.Grammar.{IsKey, IsKeys, after_gap, after_comment_by, is_wordlike, IsValue, IsRow}
use Rattle.basic_toml_grammar.specs.Grammar.{EndsLine, IsRows, IsHeader}
use Rattle.basic_toml_grammar.specs.Reader.{char_at, line_end_at}

-- What has to come: a key; a value; what follows the keys of a row, or those of a header; the second of two closing
-- brackets; what follows an element, or a row of an inline table; the end of a line, after all else in it.
pub data Hole : Type 0 where
  key : Hole
  value : Hole
  after_keys : Hole
  after_header_keys : Hole
  second_bracket : Hole
  after_element : Hole
  after_field : Hole
  after_line : Hole

-- in keys
pub data HoleInKeys : Text → Hole → Text → Type 0 where
  this_key : {text : Text} → HoleInKeys text Hole.key text
  later_key : {h : Hole} {q : ℕ} {k : Key} {text mid next at : Text} → IsKey text k mid
      → StartsWith ascii.period (after_blanks mid) q next → HoleInKeys (after_blanks next) h at → HoleInKeys text h at

mutual
  -- in a value
  pub data HoleInValue : Text → Hole → Text → Type 0 where
    this_value : {text : Text} → HoleInValue text Hole.value text
    array : {h : Hole} {q : ℕ} {text next at : Text} → StartsWith ascii.left_bracket text q next
        → HoleInElements (after_gap is_comment next) h at → HoleInValue text h at
    inline : {h : Hole} {q : ℕ} {text next at : Text} → StartsWith ascii.left_brace text q next
        → HoleInFields (after_blanks next) h at → HoleInValue text h at

  -- in the values of an array, up to its closing bracket
  pub data HoleInElements : Text → Hole → Text → Type 0 where
    -- no closing bracket stands there
    in_element : {h : Hole} {text at : Text} → char_at ascii.right_bracket text ≡ None → HoleInValue text h at
        → HoleInElements text h at
    after_this : {q : ℕ} {v : Raw} {text mid : Text} → IsValue is_comment text q v mid
        → HoleInElements text Hole.after_element (after_gap is_comment mid)
    later_element : {h : Hole} {q r : ℕ} {v : Raw} {text mid next at : Text} → IsValue is_comment text q v mid
        → StartsWith ascii.comma (after_gap is_comment mid) r next → HoleInElements (after_gap is_comment next) h at
        → HoleInElements text h at

  -- in the rows of an inline table, up to its closing brace
  pub data HoleInFields : Text → Hole → Text → Type 0 where
    -- no closing brace stands there
    fields : {h : Hole} {text at : Text} → char_at ascii.right_brace text ≡ None → HoleInFieldsOn text h at
        → HoleInFields text h at

  -- one row or more
  pub data HoleInFieldsOn : Text → Hole → Text → Type 0 where
    in_row : {h : Hole} {text at : Text} → HoleInRow text h at → HoleInFieldsOn text h at
    after_row : {keys : List Key} {q : ℕ} {v : Raw} {text mid : Text} → IsRow is_comment text keys q v mid
        → HoleInFieldsOn text Hole.after_field (after_blanks mid)
    later_row : {keys : List Key} {h : Hole} {q r : ℕ} {v : Raw} {text mid next at : Text}
        → IsRow is_comment text keys q v mid → StartsWith ascii.comma (after_blanks mid) r next
        → HoleInFieldsOn (after_blanks next) h at → HoleInFieldsOn text h at

  -- in a row
  pub data HoleInRow : Text → Hole → Text → Type 0 where
    in_keys : {h : Hole} {text at : Text} → HoleInKeys text h at → HoleInRow text h at
    after_keys : {keys : List Key} {text mid : Text} → IsKeys text keys mid
        → HoleInRow text Hole.after_keys (after_blanks mid)
    in_value : {keys : List Key} {h : Hole} {q : ℕ} {text mid next at : Text} → IsKeys text keys mid
        → StartsWith ascii.equals (after_blanks mid) q next → HoleInValue (after_blanks next) h at
        → HoleInRow text h at

-- a key, or a value, begins with this character
abbrev pub begins_key : ℕ → Bool
begins_key c = is_keylike c || is_quote c

abbrev pub begins_value : ℕ → Bool
begins_value c = (is_wordlike c || is_quote c) || (c == ascii.left_bracket || c == ascii.left_brace)

-- the characters that may stand in a hole
abbrev pub fits : Hole → ℕ → Bool
fits Hole.key c = begins_key c
fits Hole.value c = begins_value c
fits Hole.after_keys c = c == ascii.equals || c == ascii.period
fits Hole.after_header_keys c = c == ascii.right_bracket || c == ascii.period
fits Hole.second_bracket c = c == ascii.right_bracket
fits Hole.after_element c = c == ascii.comma || c == ascii.right_bracket
fits Hole.after_field c = c == ascii.comma || c == ascii.right_brace
fits Hole.after_line c = c == ascii.line_feed

-- such a character stands at the front
pub record Fits (h : Hole) (text : Text) : Type 0 where
  pub offset : ℕ
  pub char : ℕ
  pub rest : Text
  pub starts : StartsWith char text offset rest
  pub fit : fits h char ≡ true

-- in lines with rows
pub data HoleInRows : Text → Hole → Text → Type 0 where
  -- no header stands there, no comment, and the line does not end
  this_row : {h : Hole} {text at : Text} → char_at ascii.left_bracket (after_blanks text) ≡ None
      → char_at ascii.hash (after_blanks text) ≡ None → line_end_at text ≡ None
      → HoleInRow (after_blanks text) h at → HoleInRows text h at
  -- a line with a comment alone
  after_comment : {q : ℕ} {text next : Text} → StartsWith ascii.hash (after_blanks text) q next
      → HoleInRows text Hole.after_line (after_comment_by is_comment (after_blanks text))
  after_row : {keys : List Key} {q : ℕ} {v : Raw} {text mid : Text} → IsRow is_comment (after_blanks text) keys q v mid
      → HoleInRows text Hole.after_line (after_comment_by is_comment (after_blanks mid))
  after_empty : {c : ℕ × ℕ} {h : Hole} {text next at : Text} → EndsLine is_comment (c ∷ text) next
      → HoleInRows next h at → HoleInRows (c ∷ text) h at
  later_row : {keys : List Key} {h : Hole} {q : ℕ} {v : Raw} {text mid next at : Text}
      → IsRow is_comment (after_blanks text) keys q v mid → EndsLine is_comment mid next → HoleInRows next h at
      → HoleInRows text h at

-- in a header
pub data HoleInHeader : Text → Hole → Text → Type 0 where
  -- no second bracket stands there
  table_keys : {h : Hole} {q : ℕ} {text next at : Text} → StartsWith ascii.left_bracket text q next
      → char_at ascii.left_bracket next ≡ None → HoleInKeys (after_blanks next) h at → HoleInHeader text h at
  table_end : {keys : List Key} {q : ℕ} {text next mid : Text} → StartsWith ascii.left_bracket text q next
      → IsKeys (after_blanks next) keys mid → HoleInHeader text Hole.after_header_keys (after_blanks mid)
  array_keys : {h : Hole} {q r : ℕ} {text next inner at : Text} → StartsWith ascii.left_bracket text q next
      → StartsWith ascii.left_bracket next r inner → HoleInKeys (after_blanks inner) h at → HoleInHeader text h at
  array_end : {keys : List Key} {q r : ℕ} {text next inner mid : Text} → StartsWith ascii.left_bracket text q next
      → StartsWith ascii.left_bracket next r inner → IsKeys (after_blanks inner) keys mid
      → HoleInHeader text Hole.after_header_keys (after_blanks mid)
  array_last : {keys : List Key} {q r s : ℕ} {text next inner mid last : Text}
      → StartsWith ascii.left_bracket text q next → StartsWith ascii.left_bracket next r inner
      → IsKeys (after_blanks inner) keys mid → StartsWith ascii.right_bracket (after_blanks mid) s last
      → HoleInHeader text Hole.second_bracket last

-- in headed sections
pub data HoleInSections : Text → Hole → Text → Type 0 where
  in_header : {h : Hole} {text at : Text} → HoleInHeader (after_blanks text) h at → HoleInSections text h at
  after_header : {keys : List Key} {is_array : Bool} {q : ℕ} {text mid : Text}
      → IsHeader (after_blanks text) q keys is_array mid
      → HoleInSections text Hole.after_line (after_comment_by is_comment (after_blanks mid))
  in_rows : {keys : List Key} {is_array : Bool} {h : Hole} {q : ℕ} {text mid next at : Text}
      → IsHeader (after_blanks text) q keys is_array mid → EndsLine is_comment mid next → HoleInRows next h at
      → HoleInSections text h at
  later_section : {keys : List Key} {is_array : Bool} {rows : Rows} {h : Hole} {q : ℕ} {text mid next rest at : Text}
      → IsHeader (after_blanks text) q keys is_array mid → EndsLine is_comment mid next
      → IsRows is_comment next rows rest → HoleInSections rest h at → HoleInSections text h at

-- in a text
pub data HoleInText : Text → Hole → Text → Type 0 where
  root : {h : Hole} {text at : Text} → HoleInRows text h at → HoleInText text h at
  headed : {rows : Rows} {h : Hole} {text rest at : Text} → IsRows is_comment text rows rest
      → HoleInSections rest h at → HoleInText text h at

-- What has to come behind the value that is wanted in a hole: `behind`, where that value ends the reading with it. Where
-- no value is wanted, it says nothing.
abbrev mutual
  pub behind_value : {text at : Text} {h : Hole} → Hole → HoleInValue text h at → Hole
  behind_value behind this_value = behind
  behind_value behind (array s d) = behind_in_elements d
  behind_value behind (inline s d) = behind_in_fields d

  pub behind_in_elements : {text at : Text} {h : Hole} → HoleInElements text h at → Hole
  behind_in_elements (in_element none d) = behind_value Hole.after_element d
  behind_in_elements (after_this v) = Hole.after_element
  behind_in_elements (later_element v s d) = behind_in_elements d

  pub behind_in_fields : {text at : Text} {h : Hole} → HoleInFields text h at → Hole
  behind_in_fields (fields none d) = behind_in_fields_on d

  pub behind_in_fields_on : {text at : Text} {h : Hole} → HoleInFieldsOn text h at → Hole
  behind_in_fields_on (in_row d) = behind_in_row Hole.after_field d
  behind_in_fields_on (after_row r) = Hole.after_field
  behind_in_fields_on (later_row r s d) = behind_in_fields_on d

  pub behind_in_row : {text at : Text} {h : Hole} → Hole → HoleInRow text h at → Hole
  behind_in_row behind (in_keys d) = behind
  behind_in_row behind (after_keys ks) = behind
  behind_in_row behind (in_value ks s d) = behind_value behind d

abbrev pub behind_in_rows : {text at : Text} {h : Hole} → HoleInRows text h at → Hole
behind_in_rows (this_row bracket hash end d) = behind_in_row Hole.after_line d
behind_in_rows (after_comment s) = Hole.after_line
behind_in_rows (after_row r) = Hole.after_line
behind_in_rows (after_empty e d) = behind_in_rows d
behind_in_rows (later_row r e d) = behind_in_rows d

abbrev pub behind_in_sections : {text at : Text} {h : Hole} → HoleInSections text h at → Hole
behind_in_sections (in_header d) = Hole.after_line
behind_in_sections (after_header is) = Hole.after_line
behind_in_sections (in_rows is e d) = behind_in_rows d
behind_in_sections (later_section is e rows d) = behind_in_sections d

abbrev pub behind_in_text : {text at : Text} {h : Hole} → HoleInText text h at → Hole
behind_in_text (root d) = behind_in_rows d
behind_in_text (headed rows d) = behind_in_sections d
