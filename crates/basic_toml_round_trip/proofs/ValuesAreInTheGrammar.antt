-- Values of rows, as the layout writes them, are in the grammar.
use Rattle.std.proofs.Common.{◌≡◌, ℕ, ◌==◌, ◌&&◌, ◌||◌, not, Bool, true, false, List, [], ◌∷◌, ◌++◌, codes, refl, ap, sym}
use Rattle.std.proofs.Common.{◌∙◌, subst, encode_utf8_all}
use Rattle.std.specs.Str.{chars, IsUtf8}
use Rattle.std.specs.Fmt.{signed_decimal}
use Rattle.std.proofs.lemmas.Bool.{and_parts, not-true, or_parts}
use Rattle.std.proofs.lemmas.Str.{encodes-chars}
use Rattle.basic_toml_tokens.specs.Text.{Text, is_blank, is_comment, after_blanks}
use Rattle.basic_toml_tokens.specs.Strings.{IsString}
use Rattle.basic_toml_value.specs.Data as d
use Rattle.basic_toml_value.specs.Data.{Data, Items, no_items, item, Members, no_members, member}
use Rattle.basic_toml_layout.specs.Layout.{row_start}
use Rattle.basic_toml_layout.specs.Texts.{quoted}
use Rattle.basic_toml_grammar.specs.Sections as s
use Rattle.basic_toml_grammar.specs.Sections.{Key, KeyTexts, Raw, Rows, row}
use Rattle.basic_toml_grammar.specs.Grammar as g
use Rattle.basic_toml_grammar.specs.Grammar.{is_wordlike, after_gap, IsValue, IsElements, IsFields, IsFieldsOn}
use Rattle.basic_toml_grammar.specs.Grammar.{IsRow, assigned, one}
use Rattle.basic_toml_round_trip.proofs.LaidOut.{IsInRow, AreInRow, AreFields}
use Rattle.basic_toml_round_trip.proofs.SectionsOfTable.{raw_offset, raw, raw_items, raw_fields, one_key}
use Rattle.basic_toml_round_trip.proofs.CharactersInFront.{onto, onto-append, no_copy, stops, no_blanks}
use Rattle.basic_toml_round_trip.proofs.CharactersOfLayout.{key_chars, value_chars, items_chars, more_chars}
use Rattle.basic_toml_round_trip.proofs.CharactersOfLayout.{fields_chars, more_fields_chars}
use Rattle.basic_toml_round_trip.proofs.KeysAreInTheGrammar.{key_stands, key_front}
use Rattle.basic_toml_round_trip.proofs.QuotedIsAString.{no_quote, quoted_is_string}
use Rattle.basic_toml_round_trip.proofs.WordsAreValues.{IsWord, is_gap, word_front, word_stands, float_offset}
use Rattle.basic_toml_round_trip.proofs.WordsAreValues.{integer_is_word}
use Rattle.basic_toml_round_trip.proofs.FloatsAreWords.{float_is_word}

-- what may stand after a value
abbrev pub ends_value : Text → Bool
ends_value rest = stops is_wordlike rest && no_quote rest

true_is_word : IsWord (codes "true") (Raw.boolean true)
true_is_word = record { value = refl; all = refl }

false_is_word : IsWord (codes "false") (Raw.boolean false)
false_is_word = record { value = refl; all = refl }

-- a value begins with no blank, line feed or `#`
pub value_front : (x : Data) (rest : Text) → IsInRow x → stops is_gap (onto (value_chars x) rest) ≡ true
value_front (d.integer z) rest h = word_front (signed_decimal z) (Raw.integer z) rest (integer_is_word z h)
value_front (d.float t) rest h = word_front t (Raw.float t) rest (float_is_word t h)
value_front (d.boolean true) rest h = refl
value_front (d.boolean false) rest h = refl
value_front (d.string t) rest h = refl
value_front (d.array xs) rest h = refl
value_front (d.table ms) rest h = refl

-- no blank stands where no gap does
gapless : (text : Text) → stops is_gap text ≡ true → after_blanks text ≡ text
gapless [] e = refl
gapless (x ∷ text) e =
    let p : ((is_blank x.1 || x.1 == 10) ≡ false) × ((x.1 == 35) ≡ false) = or_parts _ _ (not-true (is_gap x.1) e) in
    no_blanks (x ∷ text) (ap not (or_parts _ _ p.0).0)

pub no_gap : (text : Text) → stops is_gap text ≡ true → after_gap is_comment text ≡ text
no_gap [] e = refl
no_gap (x ∷ text) e =
    let p : ((is_blank x.1 || x.1 == 10) ≡ false) × ((x.1 == 35) ≡ false) = or_parts _ _ (not-true (is_gap x.1) e) in
    rw (p.0, p.1) refl

-- the elements of an array after one, and its closing bracket
abbrev others : Items → Text → Text
others xs rest = onto (more_chars xs) ((0, 93) ∷ rest)

others_end : (xs : Items) (rest : Text) → ends_value (others xs rest) ≡ true
others_end no_items rest = refl
others_end (item x xs) rest = refl

-- an element and those after it
abbrev Begins : Text → Data → Items → Text → Type 0
Begins text x xs rest = IsElements is_comment text (s.element (raw_offset (raw x)) (raw x) (raw_items xs)) rest

-- also after the opening bracket, or after a comma
past_gap : (x : Data) (xs : Items) (rest : Text) → IsInRow x
    → Begins (onto (value_chars x) (others xs rest)) x xs rest
    → Begins (after_gap is_comment (onto (value_chars x ++ more_chars xs) ((0, 93) ∷ rest))) x xs rest
past_gap x xs rest h elements =
    subst (λ t. Begins (after_gap is_comment t) x xs rest)
    (sym (onto-append (value_chars x) (more_chars xs) ((0, 93) ∷ rest)))
    (subst (λ t. Begins t x xs rest)
    (sym (no_gap (onto (value_chars x) (others xs rest)) (value_front x (others xs rest) h)))
    elements)

-- a row, of which the value is in the grammar
pub row_with : (k : List ℕ) {p : ℕ} {v : Raw} (value mid : Text) → IsUtf8 k → stops is_gap value ≡ true
    → IsValue is_comment value p v mid
    → IsRow is_comment (onto (key_chars k) ((0, 32) ∷ (0, 61) ∷ (0, 32) ∷ value)) (one_key k) p v mid
row_with k {p = p} {v = v} value mid u front stands =
    assigned (one (key_stands k ((0, 32) ∷ (0, 61) ∷ (0, 32) ∷ value) u refl)) refl
    (subst (λ t. IsValue is_comment t p v mid) (sym (gapless value front)) stands)

-- the rows of an inline table after one, and its closing brace
abbrev after_field : Members → Text → Text
after_field ms rest = onto (more_fields_chars ms) ((0, 125) ∷ rest)

field_end : (ms : Members) (rest : Text) → ends_value (after_field ms rest) ≡ true
field_end no_members rest = refl
field_end (member k x ms) rest = refl

-- a row and those after it
abbrev field_text : List ℕ → Data → Members → Text → Text
field_text k x ms rest =
    onto (key_chars k) ((0, 32) ∷ (0, 61) ∷ (0, 32) ∷ onto (value_chars x) (after_field ms rest))

-- also after the opening brace, or after a comma
past_blank : (k : List ℕ) (x : Data) (ms : Members) {rows : Rows} (rest : Text)
    → IsFieldsOn is_comment (field_text k x ms rest) rows rest
    → IsFieldsOn is_comment
    (after_blanks (onto (row_start (chars k) ++ (value_chars x ++ more_fields_chars ms)) ((0, 125) ∷ rest))) rows rest
past_blank k x ms {rows = rows} rest fields =
    let text : onto (row_start (chars k) ++ (value_chars x ++ more_fields_chars ms)) ((0, 125) ∷ rest)
    ≡ field_text k x ms rest = simp onto-append in
    subst (λ t. IsFieldsOn is_comment t rows rest)
    (sym (ap after_blanks text ∙ no_blanks (field_text k x ms rest) (key_front k _))) fields

pub string_stands : (cs : List ℕ) (rest : Text) {m : Bool} {value : List ℕ} → IsString (onto cs rest) 0 m value rest
    → IsValue is_comment (onto cs rest) 0 (Raw.string (encode_utf8_all value) false) rest
string_stands cs rest {m = m} {value = value} s =
    subst (λ copied. IsValue is_comment (onto cs rest) 0 (Raw.string (encode_utf8_all value) copied) rest)
    (no_copy m cs rest) (g.string s)

mutual
  pub value_stands : (x : Data) (rest : Text) → IsInRow x → ends_value rest ≡ true
      → IsValue is_comment (onto (value_chars x) rest) (raw_offset (raw x)) (raw x) rest
  value_stands (d.integer z) rest h e =
      word_stands (signed_decimal z) (Raw.integer z) rest (integer_is_word z h) (and_parts _ _ e).0 refl
  value_stands (d.float t) rest h e =
      let w : IsWord t (Raw.float t) = float_is_word t h in
      let ends : stops is_wordlike rest ≡ true = (and_parts _ _ e).0 in
      word_stands t (Raw.float t) rest w ends (float_offset t rest w.all ends)
  value_stands (d.boolean true) rest h e =
      word_stands (codes "true") (Raw.boolean true) rest true_is_word (and_parts _ _ e).0 refl
  value_stands (d.boolean false) rest h e =
      word_stands (codes "false") (Raw.boolean false) rest false_is_word (and_parts _ _ e).0 refl
  value_stands (d.string t) rest h e =
      subst (λ v. IsValue is_comment (onto (quoted (chars t)) rest) 0 (Raw.string v false) rest) (encodes-chars t h)
      (string_stands (quoted (chars t)) rest (quoted_is_string (chars t) rest (and_parts _ _ e).1))
  value_stands (d.array xs) rest h e =
      subst (λ t. IsValue is_comment ((0, 91) ∷ t) 0 (Raw.array (raw_items xs)) rest)
      (sym (onto-append (items_chars xs) (93 ∷ []) rest)) (g.array refl (items_stand xs rest h))
  value_stands (d.table ms) rest h e =
      subst (λ t. IsValue is_comment ((0, 123) ∷ t) 0 (Raw.inline (raw_fields ms)) rest)
      (sym (onto-append (fields_chars ms) (125 ∷ []) rest)) (g.inline refl (fields_stand ms [] rest h))

  -- after the opening bracket
  items_stand : (xs : Items) (rest : Text) → AreInRow xs
      → IsElements is_comment (after_gap is_comment (onto (items_chars xs) ((0, 93) ∷ rest))) (raw_items xs) rest
  items_stand no_items rest h = g.close refl
  items_stand (item x xs) rest h =
      past_gap x xs rest h.0 (others_stand xs rest h.1 (value_stands x (others xs rest) h.0 (others_end xs rest)))

  -- from a value on
  others_stand : (xs : Items) {text : Text} {p : ℕ} {v : Raw} (rest : Text) → AreInRow xs
      → IsValue is_comment text p v (others xs rest) → IsElements is_comment text (s.element p v (raw_items xs)) rest
  others_stand no_items rest h v = g.last v refl
  others_stand (item x xs) rest h v =
      g.and_more v refl
      (past_gap x xs rest h.0 (others_stand xs rest h.1 (value_stands x (others xs rest) h.0 (others_end xs rest))))

  -- after the opening brace
  fields_stand : (ms : Members) (seen : KeyTexts) (rest : Text) → AreFields seen ms
      → IsFields is_comment (after_blanks (onto (fields_chars ms) ((0, 125) ∷ rest))) (raw_fields ms) rest
  fields_stand no_members seen rest h = g.none refl
  fields_stand (member k x ms) seen rest h =
      g.some
      (past_blank k x ms rest
      (fields_go_on ms (k ∷ seen) rest h.1.1
      (row_with k (onto (value_chars x) (after_field ms rest)) (after_field ms rest) h.0.1
      (value_front x (after_field ms rest) h.1.0)
      (value_stands x (after_field ms rest) h.1.0 (field_end ms rest)))))

  -- from a row on
  fields_go_on : (ms : Members) (seen : KeyTexts) {text : Text} {keys : List Key} {p : ℕ} {v : Raw} (rest : Text)
      → AreFields seen ms → IsRow is_comment text keys p v (after_field ms rest)
      → IsFieldsOn is_comment text (row keys p v (raw_fields ms)) rest
  fields_go_on no_members seen rest h r = g.last_row r refl
  fields_go_on (member k x ms) seen rest h r =
      g.more_rows r refl
      (past_blank k x ms rest
      (fields_go_on ms (k ∷ seen) rest h.1.1
      (row_with k (onto (value_chars x) (after_field ms rest)) (after_field ms rest) h.0.1
      (value_front x (after_field ms rest) h.1.0)
      (value_stands x (after_field ms rest) h.1.0 (field_end ms rest)))))
