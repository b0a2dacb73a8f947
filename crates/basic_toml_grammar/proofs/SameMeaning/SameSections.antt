-- Texts of the same characters have section lists that are the same but for offsets.
use Rattle.std.proofs.Common.{◌≡◌, ℕ, zero, suc, ◌+◌, ◌*◌, ◌==◌, Bool, true, false, List, [], ◌∷◌, ◌++◌, length}
use Rattle.std.proofs.Common.{refl, ap, Option, Some, None, encode_utf8_all}
use Rattle.std.specs.Prelude.{ℤ, nat_lt}
use Rattle.basic_toml_tokens.specs.Text.{Text, run, after_run, is_blank, is_keylike, is_comment}
use Rattle.basic_toml_tokens.specs.Strings.{is_quote, count_of}
use Rattle.basic_toml_tokens.specs.Strings as strings
use Rattle.basic_toml_tokens.specs.BodyFront as front
use Rattle.basic_toml_grammar.specs.Sections.{Key, texts, Raw, Elements, no_elements, element, Rows, no_rows, row}
use Rattle.basic_toml_grammar.specs.Sections.{Section}
use Rattle.basic_toml_grammar.specs.Entering.{and_then}
use Rattle.basic_toml_grammar.specs.Grammar.{is_wordlike, word_value, word_offset, with_root}
use Rattle.basic_toml_grammar.specs.Reader.{goes_on, body_at, Quoted, body_of_string, string_at, bare_key_at}
use Rattle.basic_toml_grammar.specs.Reader.{quoted_key, key_at, keys_at, Valued, Assigned, word_at, string_value_at}
use Rattle.basic_toml_grammar.specs.Reader.{value_at, elements_at, fields_at, fields_on_at, row_at, end_of}
use Rattle.basic_toml_grammar.specs.Reader.{line_end_at, rows_at, Headed, header_at, sections_at, section_list_of}
use Rattle.basic_toml_grammar.proofs.SameMeaning.SameChars.{SameChars, none, more, run_same, length_same}
use Rattle.basic_toml_grammar.proofs.SameMeaning.SameChars.{after_run_same, drop_same, after_feed_same}
use Rattle.basic_toml_grammar.proofs.SameMeaning.SameChars.{after_comment_same, after_gap_same, Both, neither, both}
use Rattle.basic_toml_grammar.proofs.SameMeaning.SameChars.{both_then, both_or_else, both_or, both_if, After, Anywhere}
use Rattle.basic_toml_grammar.proofs.SameMeaning.SameChars.{sign_same, SameFront, both_go_on, both_close, both_break}
use Rattle.basic_toml_grammar.proofs.SameMeaning.SameChars.{front_same}

-- the same but for offsets, and for what asks for a copy
mutual
  pub data SameRaw : Raw → Raw → Type 0 where
    same_integer : {z : ℤ} → SameRaw (Raw.integer z) (Raw.integer z)
    same_float : {t : List ℕ} → SameRaw (Raw.float t) (Raw.float t)
    same_boolean : {b : Bool} → SameRaw (Raw.boolean b) (Raw.boolean b)
    same_string : {t : List ℕ} {c d : Bool} → SameRaw (Raw.string t c) (Raw.string t d)
    same_array : {es fs : Elements} → SameElements es fs → SameRaw (Raw.array es) (Raw.array fs)
    same_inline : {rs qs : Rows} → SameRows rs qs → SameRaw (Raw.inline rs) (Raw.inline qs)

  pub data SameElements : Elements → Elements → Type 0 where
    no_more_elements : SameElements no_elements no_elements
    one_element : {p q : ℕ} {v w : Raw} {es fs : Elements} → SameRaw v w → SameElements es fs
        → SameElements (element p v es) (element q w fs)

  pub data SameRows : Rows → Rows → Type 0 where
    no_more_rows : SameRows no_rows no_rows
    one_row : {ks ls : List Key} {p q : ℕ} {v w : Raw} {rs qs : Rows} → texts ks ≡ texts ls → SameRaw v w
        → SameRows rs qs → SameRows (row ks p v rs) (row ls q w qs)

pub record SameSection (s t : Section) : Type 0 where
  pub header : texts s.header ≡ texts t.header
  pub is_array : s.is_array ≡ t.is_array
  pub rows : SameRows s.rows t.rows

pub data SameSections : List Section → List Section → Type 0 where
  no_more_sections : SameSections [] []
  one_section : {s t : Section} {ss ts : List Section} → SameSection s t → SameSections ss ts
      → SameSections (s ∷ ss) (t ∷ ts)

mutual
  pub itself : (v : Raw) → SameRaw v v
  itself (Raw.integer z) = same_integer
  itself (Raw.float t) = same_float
  itself (Raw.boolean b) = same_boolean
  itself (Raw.string t _) = same_string
  itself (Raw.array es) = same_array (elements_itself es)
  itself (Raw.inline rs) = same_inline (rows_itself rs)

  elements_itself : (es : Elements) → SameElements es es
  elements_itself no_elements = no_more_elements
  elements_itself (element p v es) = one_element (itself v) (elements_itself es)

  rows_itself : (rs : Rows) → SameRows rs rs
  rows_itself no_rows = no_more_rows
  rows_itself (row ks p v rs) = one_row refl (itself v) (rows_itself rs)

-- strings
abbrev Equal : List ℕ → List ℕ → Type 0
Equal xs ys = xs ≡ ys

record SameQuoted (s t : Quoted) : Type 0 where
  multiline : s.multiline ≡ t.multiline
  value : s.value ≡ t.value
  rest : SameChars s.rest t.rest

body_same : (n : ℕ) (k : strings.Quotes) (p q : ℕ) {text other : Text} → SameChars text other
    → Both (After Equal) (body_at n k p text) (body_at n k q other)
body_same zero k p q h = neither
body_same (suc n) k p q {text = text} {other = other} h = go (front_same k p q h) (λ t u h. body_same n k p q h)
  where
    go : {x y : front.Front} → SameFront x y
        → ((t u : Text) → SameChars t u → Both (After Equal) (body_at n k p t) (body_at n k q u))
        → Both (After Equal) (goes_on x (λ rest. body_at n k p rest)) (goes_on y (λ rest. body_at n k q rest))
    go (both_go_on {chars = chars} {text = t} {other = u} h) ih =
        both_then (After Equal) (After Equal) (ih t u h) (λ a b r. both (ap (λ v. chars ++ v) r.0, r.1))
    go (both_close h) ih = both (refl, h)
    go both_break ih = neither

quoted_same : (n : ℕ) (k : strings.Quotes) (p q : ℕ) {text other : Text} → SameChars text other
    → Both SameQuoted (body_of_string n k p text) (body_of_string n k q other)
quoted_same n k p q h = both_then (After Equal) SameQuoted (body_same n k p q h)
    (λ a b r. both (record { multiline = refl; value = r.0; rest = r.1 }))

string_same : {text other : Text} → SameChars text other → Both SameQuoted (string_at text) (string_at other)
string_same none = neither
string_same (more {p = p} {q = q} {c = c} {text = text} {other = other} h) =
    both_if SameQuoted (is_quote c) (rw (← (ap length (run_same (λ d. d == c) whole)), ← (length_same h))
    (both_if SameQuoted (nat_lt (count_of c ((p, c) ∷ text)) 3)
    (quoted_same (suc (length text)) (record { delimiter = c; multiline = false }) p q h)
    (quoted_same (suc (length text)) (record { delimiter = c; multiline = true }) p q
    (after_feed_same (drop_same 2 h))))) neither
  where
    whole : SameChars ((p, c) ∷ text) ((q, c) ∷ other)
    whole = more h

-- keys
abbrev SameKey : Key → Key → Type 0
SameKey k l = k.text ≡ l.text

abbrev SameKeys : List Key → List Key → Type 0
SameKeys ks ls = texts ks ≡ texts ls

bare_key_same : {text other : Text} → SameChars text other → Both (After SameKey) (bare_key_at text) (bare_key_at other)
bare_key_same none = neither
bare_key_same (more {p = p} {q = q} {c = c} h) =
    both_if (After SameKey) (is_keylike c)
    (both (
      run_same is_keylike (more {p = p} {q = q} {c = c} h),
      after_run_same is_keylike (more {p = p} {q = q} {c = c} h),
    )) neither

key_same : {text other : Text} → SameChars text other → Both (After SameKey) (key_at text) (key_at other)
key_same h = both_or (After SameKey) (bare_key_same h) (both_then SameQuoted (After SameKey) (string_same h) one_line)
  where
    one_line : (s t : Quoted) → SameQuoted s t → Both (After SameKey) (quoted_key s) (quoted_key t)
    one_line s t r = rw (← r.multiline)
        (both_if (After SameKey) s.multiline neither (both (ap encode_utf8_all r.value, r.rest)))

keys_same : (n : ℕ) {text other : Text} → SameChars text other
    → Both (After SameKeys) (keys_at n text) (keys_at n other)
keys_same zero h = neither
keys_same (suc n) h = both_then (After SameKey) (After SameKeys) (key_same h) (λ k l r.
    both_or_else (After Anywhere) (After SameKeys) (sign_same 46 (after_run_same is_blank r.1))
    (λ s t e. both_then (After SameKeys) (After SameKeys) (keys_same n (after_run_same is_blank e.1))
    (λ ks ls f. both ((λ i. r.0 i ∷ f.0 i), f.1)))
    (both (ap (λ t. t ∷ []) r.0, r.1)))

-- values
record SameValued (v w : Valued) : Type 0 where
  value : SameRaw v.value w.value
  rest : SameChars v.rest w.rest

record SameAssigned (r q : Assigned) : Type 0 where
  keys : texts r.keys ≡ texts q.keys
  value : SameRaw r.value q.value
  rest : SameChars r.rest q.rest

word_same : {text other : Text} → SameChars text other → Both SameValued (word_at text) (word_at other)
word_same none = neither
word_same (more {p = p} {q = q} {c = c} {text = text} {other = other} h) =
    rw (← (run_same is_wordlike whole)) (go (word_value (run is_wordlike ((p, c) ∷ text))))
  where
    whole : SameChars ((p, c) ∷ text) ((q, c) ∷ other)
    whole = more h

    go : (o : Option Raw) → Both SameValued
        (and_then o (λ v. Some (record {
          offset = word_offset v p ((p, c) ∷ text);
          value = v;
          rest =
              after_run is_wordlike ((p, c) ∷ text);
        })))
        (and_then o (λ v. Some (record {
          offset = word_offset v q ((q, c) ∷ other);
          value = v;
          rest =
              after_run is_wordlike ((q, c) ∷ other);
        })))
    go None = neither
    go (Some v) = both (record { value = itself v; rest = after_run_same is_wordlike whole })

string_value_same : {text other : Text} → SameChars text other
    → Both SameValued (string_value_at text) (string_value_at other)
string_value_same h = both_then SameQuoted SameValued (string_same h)
    (λ s t r. both (record { value = string_of s t r.value; rest = r.rest }))
  where
    string_of : {c d : Bool} (s t : Quoted) → s.value ≡ t.value
        → SameRaw (Raw.string (encode_utf8_all s.value) c) (Raw.string (encode_utf8_all t.value) d)
    string_of s t e = rw (← e) same_string

mutual
  value_same : (n : ℕ) {text other : Text} → SameChars text other → Both SameValued (value_at n text) (value_at n other)
  value_same zero h = neither
  value_same (suc n) h =
      both_or_else (After Anywhere) SameValued (sign_same 91 h)
      (λ s t e. both_then (After SameElements) SameValued (elements_same n (after_gap_same is_comment false e.1))
      (λ x y r. both (record { value = same_array r.0; rest = r.1 })))
      (both_or_else (After Anywhere) SameValued (sign_same 123 h)
      (λ s t e. both_then (After SameRows) SameValued (fields_same n (after_run_same is_blank e.1))
      (λ x y r. both (record { value = same_inline r.0; rest = r.1 })))
      (both_or SameValued (word_same h) (string_value_same h)))

  elements_same : (n : ℕ) {text other : Text} → SameChars text other
      → Both (After SameElements) (elements_at n text) (elements_at n other)
  elements_same zero h = neither
  elements_same (suc n) h =
      both_or_else (After Anywhere) (After SameElements) (sign_same 93 h) (λ s t e. both (no_more_elements, e.1))
      (both_then SameValued (After SameElements) (value_same n h) (λ v w x.
      both_or_else (After Anywhere) (After SameElements) (sign_same 44 (after_gap_same is_comment false x.rest))
      (λ s t e. both_then (After SameElements) (After SameElements)
      (elements_same n (after_gap_same is_comment false e.1)) (λ y z r. both (one_element x.value r.0, r.1)))
      (both_then (After Anywhere) (After SameElements) (sign_same 93 (after_gap_same is_comment false x.rest))
      (λ s t e. both (one_element x.value no_more_elements, e.1)))))

  fields_same : (n : ℕ) {text other : Text} → SameChars text other
      → Both (After SameRows) (fields_at n text) (fields_at n other)
  fields_same zero h = neither
  fields_same (suc n) h = both_or_else (After Anywhere) (After SameRows) (sign_same 125 h)
      (λ s t e. both (no_more_rows, e.1)) (fields_on_same n h)

  fields_on_same : (n : ℕ) {text other : Text} → SameChars text other
      → Both (After SameRows) (fields_on_at n text) (fields_on_at n other)
  fields_on_same zero h = neither
  fields_on_same (suc n) h = both_then SameAssigned (After SameRows) (row_same n h) (λ r q x.
      both_or_else (After Anywhere) (After SameRows) (sign_same 44 (after_run_same is_blank x.rest))
      (λ s t e. both_then (After SameRows) (After SameRows) (fields_on_same n (after_run_same is_blank e.1))
      (λ y z f. both (one_row x.keys x.value f.0, f.1)))
      (both_then (After Anywhere) (After SameRows) (sign_same 125 (after_run_same is_blank x.rest))
      (λ s t e. both (one_row x.keys x.value no_more_rows, e.1))))

  row_same : (n : ℕ) {text other : Text} → SameChars text other → Both SameAssigned (row_at n text) (row_at n other)
  row_same zero h = neither
  row_same (suc n) h = both_then (After SameKeys) SameAssigned (keys_same (suc n) h) (λ ks ls k.
      both_then (After Anywhere) SameAssigned (sign_same 61 (after_run_same is_blank k.1)) (λ s t e.
      both_then SameValued SameAssigned (value_same n (after_run_same is_blank e.1))
      (λ v w x. both (record { keys = k.0; value = x.value; rest = x.rest }))))

-- lines
end_same : {text other : Text} → SameChars text other → Both SameChars (end_of text) (end_of other)
end_same none = both none
end_same (more {c = c} h) = both_if SameChars (c == 10) (both h) neither

line_end_same : {text other : Text} → SameChars text other → Both SameChars (line_end_at text) (line_end_at other)
line_end_same h = end_same (after_comment_same is_comment (after_run_same is_blank h))

rows_same : (n : ℕ) {text other : Text} → SameChars text other
    → Both (After SameRows) (rows_at n text) (rows_at n other)
rows_same zero h = neither
rows_same (suc n) none = both (no_more_rows, none)
rows_same (suc n) (more {p = p} {q = q} {c = c} {text = text} {other = other} h) =
    both_or_else (After Anywhere) (After SameRows) (sign_same 91 (after_run_same is_blank whole))
    (λ s t e. both (no_more_rows, whole))
    (both_or_else SameChars (After SameRows) (line_end_same whole) (λ t u e. rows_same n e)
    (both_then SameAssigned (After SameRows) (row_same (suc n) (after_run_same is_blank whole)) (λ r s x.
    both_then SameChars (After SameRows) (line_end_same x.rest) (λ t u e.
    both_then (After SameRows) (After SameRows) (rows_same n e) (λ y z f. both (one_row x.keys x.value f.0, f.1))))))
  where
    whole : SameChars ((p, c) ∷ text) ((q, c) ∷ other)
    whole = more h

record SameHeaded (h i : Headed) : Type 0 where
  keys : texts h.keys ≡ texts i.keys
  is_array : h.is_array ≡ i.is_array
  rest : SameChars h.rest i.rest

header_same : (n : ℕ) {text other : Text} → SameChars text other
    → Both SameHeaded (header_at n text) (header_at n other)
header_same n h = both_then (After Anywhere) SameHeaded (sign_same 91 h) (λ s t e.
    both_or_else (After Anywhere) SameHeaded (sign_same 91 e.1)
    (λ u v f. both_then (After SameKeys) SameHeaded (keys_same n (after_run_same is_blank f.1)) (λ ks ls k.
    both_then (After Anywhere) SameHeaded (sign_same 93 (after_run_same is_blank k.1)) (λ w x g.
    both_then (After Anywhere) SameHeaded (sign_same 93 g.1)
    (λ y z i. both (record { keys = k.0; is_array = refl; rest = i.1 })))))
    (both_then (After SameKeys) SameHeaded (keys_same n (after_run_same is_blank e.1)) (λ ks ls k.
    both_then (After Anywhere) SameHeaded (sign_same 93 (after_run_same is_blank k.1))
    (λ w x g. both (record { keys = k.0; is_array = refl; rest = g.1 })))))

sections_same : (n : ℕ) {text other : Text} → SameChars text other
    → Both SameSections (sections_at n text) (sections_at n other)
sections_same zero h = neither
sections_same (suc n) none = both no_more_sections
sections_same (suc n) (more {p = p} {q = q} {c = c} {text = text} {other = other} h) =
    both_then SameHeaded SameSections (header_same (suc n) (after_run_same is_blank whole)) (λ i j x.
    both_then SameChars SameSections (line_end_same x.rest) (λ t u e.
    both_then (After SameRows) SameSections (rows_same (suc n) e) (λ r s y.
    both_then SameSections SameSections (sections_same n y.1)
    (λ ss ts f. both (one_section (record { header = x.keys; is_array = x.is_array; rows = y.0 }) f)))))
  where
    whole : SameChars ((p, c) ∷ text) ((q, c) ∷ other)
    whole = more h

pub root_same : {rs qs : Rows} {ss ts : List Section} → SameRows rs qs → SameSections ss ts
    → SameSections (with_root rs ss) (with_root qs ts)
root_same no_more_rows h = h
root_same (one_row k v rs) h = one_section (record { header = refl; is_array = refl; rows = one_row k v rs }) h

-- the section lists of texts of the same characters
pub lists_same : {text other : Text} → SameChars text other
    → Both SameSections (section_list_of text) (section_list_of other)
lists_same {text = text} {other = other} h = rw (← (length_same h)) (
    both_then (After SameRows) SameSections (rows_same n h) (λ r s x.
    both_then SameSections SameSections (sections_same n x.1) (λ ss ts f. both (root_same x.0 f))))
  where
    n : ℕ
    n = 4 * length text + 4
