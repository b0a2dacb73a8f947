-- Grammar, TOML v0.5.0 without dates and times, with arrays that may mix kinds of values: a text is a document of a
-- list of sections. Each fact goes from a text to the rest after what it speaks of.
--   document: lines with a line feed between each two; a line holds a row, a header, or neither, then blanks and a
--     comment
--   header: keys between `[` and `]`, or between `[[` and `]]`
--   row: keys, `=`, a value
--   keys: keys with periods between them; key: keylike characters, or a one-line string
--   value: a string, an integer, a float, `true`, `false`, an array, an inline table
--   array: values between `[` and `]` with commas between them, one more allowed at the end, and blanks, line feeds and
--     comments around
--   inline table: rows between `{` and `}` with commas between them and blanks around
-- `comment` tells which characters a comment may hold: `Text.is_comment`, but for the law about the old rules.
use Rattle.std.specs.Prelude.{◌≡◌, ℕ, ◌+◌, position, Bool, true, false, ◌||◌, ◌==◌, if◌then◌else◌, ℤ, List, [], ◌∷◌}
use Rattle.std.specs.Prelude.{codes, encode_utf8_all, Option, Some, None}
use Rattle.std.specs.Str.{bytes_eq}
use Rattle.basic_toml_tokens.specs.Ascii as ascii
use Rattle.basic_toml_tokens.specs.Text.{Text, StartsWith, run, after_run, is_blank, is_keylike, is_comment}
use Rattle.basic_toml_tokens.specs.Text.{after_blanks}
use Rattle.basic_toml_tokens.specs.Strings.{IsString}
use Rattle.basic_toml_numbers.specs.Numbers.{integer_of, float_of}
use Rattle.basic_toml_grammar.specs.Sections.{Key, Raw, Elements, no_elements, element, Rows, no_rows, row, Section}
use Rattle.basic_toml_grammar.specs.Copies.{up_to, needs_copy}

pub data IsKey : Text → Key → Text → Type 0 where
  bare : {p c : ℕ} {text next : Text} → StartsWith c text p next → is_keylike c ≡ true
      → IsKey text (record { offset = p; text = run is_keylike text }) (after_run is_keylike text)
  quoted : {p : ℕ} {value : List ℕ} {text rest : Text} → IsString text p false value rest
      → IsKey text (record { offset = p; text = encode_utf8_all value }) rest

pub data IsKeys : Text → List Key → Text → Type 0 where
  one : {text rest : Text} {k : Key} → IsKey text k rest → IsKeys text (k ∷ []) rest
  more : {p : ℕ} {text mid next rest : Text} {k : Key} {keys : List Key} → IsKey text k mid
      → StartsWith ascii.period (after_blanks mid) p next
      → IsKeys (after_blanks next) keys rest → IsKeys text (k ∷ keys) rest

-- a character of numbers and words; the longest run of them is read as one, since none of them may stand after a value
abbrev pub is_wordlike : ℕ → Bool
is_wordlike c = is_keylike c || (c == ascii.plus || c == ascii.period)

abbrev pub number_value : Option ℤ → Option (List ℕ) → Option Raw
number_value (Some z) t = Some (Raw.integer z)
number_value None (Some t) = Some (Raw.float t)
number_value None None = None

-- the value that a word writes
abbrev pub word_value : List ℕ → Option Raw
word_value word =
    if bytes_eq word (codes "true") then Some (Raw.boolean true) else if bytes_eq word (codes "false") then Some
    (Raw.boolean false)
    else number_value (integer_of word) (float_of word)

-- how many characters of a word stand before what is after its first period, or 0
abbrev pub to_period : Option ℕ → ℕ
to_period None = 0
to_period (Some i) = i + 1

-- a float with a fraction has the offset of the character after the period (own)
abbrev pub word_offset : Raw → ℕ → Text → ℕ
word_offset (Raw.float _) p text = p + to_period (position (λ c. c == ascii.period) (run is_wordlike text))
word_offset _ p text = p

-- after a comment, if one stands there
abbrev pub after_comment_by : (ℕ → Bool) → Text → Text
after_comment_by comment [] = []
after_comment_by comment (x ∷ text) = if x.1 == ascii.hash then after_run comment text else x ∷ text

-- after the longest run of blanks, line feeds and comments; `inside` says that a comment has begun
abbrev pub after_gap_from : (ℕ → Bool) → Bool → Text → Text
after_gap_from comment inside [] = []
after_gap_from comment true (x ∷ text) =
    if x.1 == ascii.line_feed then after_gap_from comment false text else if comment x.1 then after_gap_from comment
    true text else x ∷ text
after_gap_from comment false (x ∷ text) =
    if is_blank x.1 || x.1 == ascii.line_feed then after_gap_from comment false text
    else if x.1 == ascii.hash then after_gap_from comment true text else x ∷ text

module _ (comment : ℕ → Bool) where
  abbrev pub after_gap : Text → Text
  after_gap text = after_gap_from comment false text

  mutual
    -- a value, and its offset
    pub data IsValue : Text → ℕ → Raw → Text → Type 0 where
      word : {p c : ℕ} {v : Raw} {text next : Text} → StartsWith c text p next → is_wordlike c ≡ true
          → word_value (run is_wordlike text) ≡ Some v
          → IsValue text (word_offset v p text) v (after_run is_wordlike text)
      string : {p : ℕ} {m : Bool} {value : List ℕ} {text rest : Text} → IsString text p m value rest
          → IsValue text p (Raw.string (encode_utf8_all value) (needs_copy m (up_to rest text))) rest
      array : {p : ℕ} {elements : Elements} {text next rest : Text} → StartsWith ascii.left_bracket text p next
          → IsElements (after_gap next) elements rest
          → IsValue text p (Raw.array elements) rest
      inline : {p : ℕ} {rows : Rows} {text next rest : Text} → StartsWith ascii.left_brace text p next
          → IsFields (after_blanks next) rows rest
          → IsValue text p (Raw.inline rows) rest

    -- the values of an array up to its closing bracket
    pub data IsElements : Text → Elements → Text → Type 0 where
      close : {p : ℕ} {text rest : Text} → StartsWith ascii.right_bracket text p rest → IsElements text no_elements rest
      last : {p q : ℕ} {v : Raw} {text mid rest : Text} → IsValue text p v mid
          → StartsWith ascii.right_bracket (after_gap mid) q rest
          → IsElements text (element p v no_elements) rest
      and_more : {p q : ℕ} {v : Raw} {elements : Elements} {text mid next rest : Text} → IsValue text p v mid
          → StartsWith ascii.comma (after_gap mid) q next
          → IsElements (after_gap next) elements rest → IsElements text (element p v elements) rest

    -- the rows of an inline table up to its closing brace
    pub data IsFields : Text → Rows → Text → Type 0 where
      none : {p : ℕ} {text rest : Text} → StartsWith ascii.right_brace text p rest → IsFields text no_rows rest
      some : {rows : Rows} {text rest : Text} → IsFieldsOn text rows rest → IsFields text rows rest

    -- one row or more
    pub data IsFieldsOn : Text → Rows → Text → Type 0 where
      last_row : {keys : List Key} {p q : ℕ} {v : Raw} {text mid rest : Text} → IsRow text keys p v mid
          → StartsWith ascii.right_brace (after_blanks mid) q rest
          → IsFieldsOn text (row keys p v no_rows) rest
      more_rows : {keys : List Key} {p q : ℕ} {v : Raw} {rows : Rows} {text mid next rest : Text}
          → IsRow text keys p v mid
          → StartsWith ascii.comma (after_blanks mid) q next → IsFieldsOn (after_blanks next) rows rest
          → IsFieldsOn text (row keys p v rows) rest

    pub data IsRow : Text → List Key → ℕ → Raw → Text → Type 0 where
      assigned : {keys : List Key} {p q : ℕ} {v : Raw} {text mid next rest : Text} → IsKeys text keys mid
          → StartsWith ascii.equals (after_blanks mid) q next
          → IsValue (after_blanks next) p v rest → IsRow text keys p v rest

  -- the line ends here, after blanks and a comment
  pub data EndsLine : Text → Text → Type 0 where
    at_feed : {p : ℕ} {text rest : Text}
        → StartsWith ascii.line_feed (after_comment_by comment (after_blanks text)) p rest → EndsLine text rest
    at_end : {text : Text} → after_comment_by comment (after_blanks text) ≡ [] → EndsLine text []

  -- lines with rows, up to the end or to a line with a header
  pub data IsRows : Text → Rows → Text → Type 0 where
    over : IsRows [] no_rows []
    header_next : {p : ℕ} {text next : Text} → StartsWith ascii.left_bracket (after_blanks text) p next
        → IsRows text no_rows text
    empty_line : {c : ℕ × ℕ} {rows : Rows} {text next rest : Text} → EndsLine (c ∷ text) next → IsRows next rows rest
        → IsRows (c ∷ text) rows rest
    row_line : {keys : List Key} {p : ℕ} {v : Raw} {rows : Rows} {text mid next rest : Text}
        → IsRow (after_blanks text) keys p v mid
        → EndsLine mid next → IsRows next rows rest → IsRows text (row keys p v rows) rest

-- keys between brackets, and the offset of the first bracket
pub data IsHeader : Text → ℕ → List Key → Bool → Text → Type 0 where
  table : {p q : ℕ} {keys : List Key} {text next mid rest : Text} → StartsWith ascii.left_bracket text p next
      → IsKeys (after_blanks next) keys mid
      → StartsWith ascii.right_bracket (after_blanks mid) q rest → IsHeader text p keys false rest
  array_of_tables : {p q r s : ℕ} {keys : List Key} {text next inner mid last rest : Text}
      → StartsWith ascii.left_bracket text p next → StartsWith ascii.left_bracket next q inner
      → IsKeys (after_blanks inner) keys mid → StartsWith ascii.right_bracket (after_blanks mid) r last
      → StartsWith ascii.right_bracket last s rest → IsHeader text p keys true rest

-- headed sections up to the end
pub data IsSections (comment : ℕ → Bool) : Text → List Section → Type 0 where
  no_more : IsSections comment [] []
  section : {p : ℕ} {keys : List Key} {is_array : Bool} {rows : Rows} {sections : List Section}
      {text mid next rest : Text}
      → IsHeader (after_blanks text) p keys is_array mid → EndsLine comment mid next → IsRows comment next rows rest
      → IsSections comment rest sections
      → IsSections comment text (record { at = p; header = keys; is_array = is_array; rows = rows } ∷ sections)

-- the root section stands in the list only where it has rows
abbrev pub with_root : Rows → List Section → List Section
with_root no_rows sections = sections
with_root (row keys p v rows) sections = record { at = 0; header = []; is_array = false; rows = row keys p v rows }
    ∷ sections

pub record IsSectionListBy (comment : ℕ → Bool) (text : Text) (sections : List Section) : Type 0 where
  pub rows : Rows
  pub headed : List Section
  pub rest : Text
  pub root : IsRows comment text rows rest
  pub others : IsSections comment rest headed
  pub all : sections ≡ with_root rows headed

abbrev pub IsSectionList : Text → List Section → Type 0
IsSectionList text sections = IsSectionListBy is_comment text sections
