-- What is read is in the grammar.
use Rattle.std.proofs.Common.{◌≡◌, ◌⊎◌, inl, inr, ℕ, zero, suc, ◌+◌, ◌*◌, ◌==◌, Bool, true, false, cond, List, []}
use Rattle.std.proofs.Common.{◌∷◌, length, refl, ap, sym, ◌∙◌, subst, Option, Some, None}
use Rattle.std.specs.Prelude.{encode_utf8_all}
use Rattle.std.specs.Option.{option_or}
use Rattle.std.proofs.lemmas.Bool.{eqb-true}
use Rattle.basic_toml_tokens.specs.Text.{Text, StartsWith, run, after_run, is_keylike, is_comment, after_blanks}
use Rattle.basic_toml_tokens.specs.Strings.{IsString}
use Rattle.basic_toml_grammar.specs.Sections.{Key, Raw, Elements, no_elements, element, Rows, no_rows, row, Section}
use Rattle.basic_toml_grammar.specs.Copies.{up_to, needs_copy}
use Rattle.basic_toml_grammar.specs.Entering.{and_then}
use Rattle.basic_toml_grammar.specs.Grammar.{IsKey, bare, quoted, IsKeys, one, more, is_wordlike, word_value}
use Rattle.basic_toml_grammar.specs.Grammar.{word_offset, after_comment_by, after_gap, IsValue, word, string, array}
use Rattle.basic_toml_grammar.specs.Grammar.{inline, IsElements, close, last, and_more, IsFields, none, some}
use Rattle.basic_toml_grammar.specs.Grammar.{IsFieldsOn, last_row, more_rows, IsRow, assigned, EndsLine, at_feed}
use Rattle.basic_toml_grammar.specs.Grammar.{at_end, IsRows, over, header_next, empty_line, row_line, IsHeader}
use Rattle.basic_toml_grammar.specs.Grammar.{table, array_of_tables, IsSections, no_more, section, with_root}
use Rattle.basic_toml_grammar.specs.Grammar.{IsSectionList}
use Rattle.basic_toml_grammar.specs.Reader.{char_at, Quoted, string_at, bare_key_at, quoted_key, key_at, if_found}
use Rattle.basic_toml_grammar.specs.Reader.{keys_at, Valued, Assigned, word_at, string_value_at, value_at}
use Rattle.basic_toml_grammar.specs.Reader.{elements_at, fields_at, fields_on_at, row_at, end_of, line_end_at}
use Rattle.basic_toml_grammar.specs.Reader.{rows_at, Headed, header_at, sections_at, section_list_of}
use Rattle.basic_toml_grammar.proofs.Grammar.StringsAreRead.{then_some, string_read}

pub found_some : {A B : Type 0} (o : Option A) (f : A → Option B) (other : Option B) (y : B)
    → if_found o f other ≡ Some y
    → ((x : A) × (o ≡ Some x) × (f x ≡ Some y)) ⊎ (other ≡ Some y)
found_some None f other y e = inr e
found_some (Some x) f other y e = inl (x, refl, e)

pub or_some : {A : Type 0} (a b : Option A) (y : A) → option_or a b ≡ Some y → (a ≡ Some y) ⊎ (b ≡ Some y)
or_some None b y e = inr e
or_some (Some x) b y e = inl e

pub sign_read : (c : ℕ) (text : Text) (r : ℕ × Text) → char_at c text ≡ Some r → StartsWith c text r.0 r.1
sign_read c [] r e = cc
sign_read c (x ∷ text) r e = go (x.1 == c) refl e
  where
    go : (b : Bool) → (x.1 == c) ≡ b → cond b (Some (x.0, text)) None ≡ Some r → StartsWith c (x ∷ text) r.0 r.1
    go true h e =
        let there : (x.0, text) ≡ r = cc in
        subst (λ (r : ℕ × Text). StartsWith c (x ∷ text) r.0 r.1) there
        (ap (λ (c : ℕ). (x.0, c) ∷ text) (eqb-true x.1 c h))
    go false h e = cc

bare_read : (text : Text) (r : Key × Text) → bare_key_at text ≡ Some r → IsKey text r.0 r.1
bare_read [] r e = cc
bare_read (x ∷ text) r e = go (is_keylike x.1) refl e
  where
    this : Key × Text
    this = (record { offset = x.0; text = run is_keylike (x ∷ text) }, after_run is_keylike (x ∷ text))

    go : (b : Bool) → is_keylike x.1 ≡ b → cond b (Some this) None ≡ Some r → IsKey (x ∷ text) r.0 r.1
    go true h e = let there : this ≡ r = cc in subst (λ (r : Key × Text). IsKey (x ∷ text) r.0 r.1) there (bare refl h)
    go false h e = cc

quoted_read : (text : Text) (s : Quoted) (r : Key × Text) → string_at text ≡ Some s → quoted_key s ≡ Some r
    → IsKey text r.0 r.1
quoted_read text s r e f = go s.multiline (string_read text s e) f
  where
    this : Key × Text
    this = (record { offset = s.offset; text = encode_utf8_all s.value }, s.rest)

    go : (m : Bool) → IsString text s.offset m s.value s.rest → cond m None (Some this) ≡ Some r → IsKey text r.0 r.1
    go true i e = cc
    go false i e = let there : this ≡ r = cc in subst (λ (r : Key × Text). IsKey text r.0 r.1) there (quoted i)

pub key_read : (text : Text) (r : Key × Text) → key_at text ≡ Some r → IsKey text r.0 r.1
key_read text r e = elim (or_some (bare_key_at text) (and_then (string_at text) quoted_key) r e) [
  | inl h ↦ bare_read text r h
  | inr h ↦ (let (s, s_is, f) = then_some (string_at text) quoted_key r h in quoted_read text s r s_is f)
]

pub keys_read : (n : ℕ) (text : Text) (r : List Key × Text) → keys_at n text ≡ Some r → IsKeys text r.0 r.1
keys_read zero text r e = cc
keys_read (suc n) text r e =
    let (k, k_is, f) = then_some (key_at text)
    (λ k. if_found (char_at 46 (after_blanks k.1))
    (λ s. and_then (keys_at n (after_blanks s.1)) (λ keys. Some (k.0 ∷ keys.0, keys.1))) (Some (k.0 ∷ [], k.1))) r
    e in
    elim (found_some (char_at 46 (after_blanks k.1))
    (λ s. and_then (keys_at n (after_blanks s.1)) (λ keys. Some (k.0 ∷ keys.0, keys.1))) (Some (k.0 ∷ [], k.1)) r
    f) [
      | inl h ↦ (let (s, s_is, g) = h in
          let (keys, keys_is, same) =
          then_some (keys_at n (after_blanks s.1)) (λ keys. Some (k.0 ∷ keys.0, keys.1)) r g in
          let there : (k.0 ∷ keys.0, keys.1) ≡ r = cc in
          subst (λ (r : List Key × Text). IsKeys text r.0 r.1) there
          (more (key_read text k k_is) (sign_read 46 (after_blanks k.1) s s_is)
          (keys_read n (after_blanks s.1) keys keys_is)))
      | inr h ↦ (let there : (k.0 ∷ [], k.1) ≡ r = cc in
          subst (λ (r : List Key × Text). IsKeys text r.0 r.1) there (one (key_read text k k_is)))
    ]

abbrev Is : Text → Valued → Type 0
Is text v = IsValue is_comment text v.offset v.value v.rest

abbrev gap : Text → Text
gap text = after_gap is_comment text

word_read : (text : Text) (v : Valued) → word_at text ≡ Some v → Is text v
word_read [] v e = cc
word_read (x ∷ text) v e =
    let (w, w_is, f) = then_some (word_value (run is_wordlike (x ∷ text)))
    (λ v. Some (record { offset = word_offset v x.0 (x ∷ text); value = v; rest = after_run is_wordlike (x ∷ text) }))
    v e in
    let there : record { offset = word_offset w x.0 (x ∷ text); value = w; rest = after_run is_wordlike (x ∷ text) }
    ≡ v = cc in
    subst (λ (v : Valued). Is (x ∷ text) v) there (word refl (wordlike w w_is) w_is)
  where
    wordlike : (w : Raw) → word_value (run is_wordlike (x ∷ text)) ≡ Some w → is_wordlike x.1 ≡ true
    wordlike w e = go (is_wordlike x.1) refl e
      where
        go : (b : Bool) → is_wordlike x.1 ≡ b → word_value (cond b (x.1 ∷ run is_wordlike text) []) ≡ Some w → b ≡ true
        go true h f = refl
        go false h f = cc

string_value_read : (text : Text) (v : Valued) → string_value_at text ≡ Some v → Is text v
string_value_read text v e =
    let (s, s_is, f) = then_some (string_at text) (λ s. Some (record {
      offset = s.offset;
      value = Raw.string (encode_utf8_all s.value) (needs_copy s.multiline (up_to s.rest text));
      rest = s.rest;
    })) v e in
    let there : record {
      offset = s.offset;
      value = Raw.string (encode_utf8_all s.value) (needs_copy s.multiline (up_to s.rest text));
      rest = s.rest;
    } ≡ v = cc in
    subst (λ (v : Valued). Is text v) there (string (string_read text s s_is))

mutual
  pub value_read : (n : ℕ) (text : Text) (v : Valued) → value_at n text ≡ Some v → Is text v
  value_read zero text v e = cc
  value_read (suc n) text v e =
      elim (found_some (char_at 91 text)
      (λ s. and_then (elements_at n (gap s.1))
      (λ r. Some (record { offset = s.0; value = Raw.array r.0; rest = r.1 }))) _ v e) [
        | inl h ↦ (let (s, s_is, f) = h in
            let (r, r_is, g) = then_some (elements_at n (gap s.1))
            (λ r. Some (record { offset = s.0; value = Raw.array r.0; rest = r.1 })) v f in
            let there : record { offset = s.0; value = Raw.array r.0; rest = r.1 } ≡ v = cc in
            subst (λ (v : Valued). Is text v) there
            (array (sign_read 91 text s s_is) (elements_read n (gap s.1) r r_is)))
        | inr h ↦ (elim (found_some (char_at 123 text)
            (λ s. and_then (fields_at n (after_blanks s.1))
            (λ r. Some (record { offset = s.0; value = Raw.inline r.0; rest = r.1 }))) _ v h) [
              | inl h ↦ (let (s, s_is, f) = h in
                  let (r, r_is, g) = then_some (fields_at n (after_blanks s.1))
                  (λ r. Some (record { offset = s.0; value = Raw.inline r.0; rest = r.1 })) v f in
                  let there : record { offset = s.0; value = Raw.inline r.0; rest = r.1 } ≡ v = cc in
                  subst (λ (v : Valued). Is text v) there
                  (inline (sign_read 123 text s s_is) (fields_read n (after_blanks s.1) r r_is)))
              | inr h ↦ (elim (or_some (word_at text) (string_value_at text) v h) [
                | inl h ↦ word_read text v h
                | inr h ↦
                    string_value_read text v h
              ])
            ])
      ]

  pub elements_read : (n : ℕ) (text : Text) (r : Elements × Text) → elements_at n text ≡ Some r
      → IsElements is_comment text r.0 r.1
  elements_read zero text r e = cc
  elements_read (suc n) text r e =
      elim (found_some (char_at 93 text) (λ s. Some (no_elements, s.1)) _ r e) [
        | inl h ↦ (let (s, s_is, f) = h in
            let there : (no_elements, s.1) ≡ r = cc in
            subst (λ (r : Elements × Text). IsElements is_comment text r.0 r.1) there
            (close (sign_read 93 text s s_is)))
        | inr h ↦ (let (v, v_is, f) = then_some (value_at n text) (λ v. if_found (char_at 44 (gap v.rest))
            (λ s. and_then (elements_at n (gap s.1)) (λ r. Some (element v.offset v.value r.0, r.1)))
            (and_then (char_at 93 (gap v.rest)) (λ s. Some (element v.offset v.value no_elements, s.1)))) r h in
            elim (found_some (char_at 44 (gap v.rest))
            (λ s. and_then (elements_at n (gap s.1)) (λ r. Some (element v.offset v.value r.0, r.1))) _ r f) [
              | inl h ↦ (let (s, s_is, g) = h in
                  let (q, q_is, same) = then_some (elements_at n (gap s.1))
                  (λ r. Some (element v.offset v.value r.0, r.1)) r g in
                  let there : (element v.offset v.value q.0, q.1) ≡ r = cc in
                  subst (λ (r : Elements × Text). IsElements is_comment text r.0 r.1) there
                  (and_more (value_read n text v v_is) (sign_read 44 (gap v.rest) s s_is)
                  (elements_read n (gap s.1) q q_is)))
              | inr h ↦ (let (s, s_is, same) =
                  then_some (char_at 93 (gap v.rest)) (λ s. Some (element v.offset v.value no_elements, s.1)) r h in
                  let there : (element v.offset v.value no_elements, s.1) ≡ r = cc in
                  subst (λ (r : Elements × Text). IsElements is_comment text r.0 r.1) there
                  (last (value_read n text v v_is) (sign_read 93 (gap v.rest) s s_is)))
            ])
      ]

  pub fields_read : (n : ℕ) (text : Text) (r : Rows × Text) → fields_at n text ≡ Some r
      → IsFields is_comment text r.0 r.1
  fields_read zero text r e = cc
  fields_read (suc n) text r e =
      elim (found_some (char_at 125 text) (λ s. Some (no_rows, s.1)) (fields_on_at n text) r e) [
        | inl h ↦ (let (s, s_is, f) = h in
            let there : (no_rows, s.1) ≡ r = cc in
            subst (λ (r : Rows × Text). IsFields is_comment text r.0 r.1) there (none (sign_read 125 text s s_is)))
        | inr h ↦ some (fields_on_read n text r h)
      ]

  pub fields_on_read : (n : ℕ) (text : Text) (r : Rows × Text) → fields_on_at n text ≡ Some r
      → IsFieldsOn is_comment text r.0 r.1
  fields_on_read zero text r e = cc
  fields_on_read (suc n) text r e =
      let (v, v_is, f) = then_some (row_at n text) (λ v. if_found (char_at 44 (after_blanks v.rest))
      (λ s. and_then (fields_on_at n (after_blanks s.1)) (λ rows. Some (row v.keys v.offset v.value rows.0, rows.1)))
      (and_then (char_at 125 (after_blanks v.rest)) (λ s. Some (row v.keys v.offset v.value no_rows, s.1)))) r e in
      elim (found_some (char_at 44 (after_blanks v.rest))
      (λ s. and_then (fields_on_at n (after_blanks s.1))
      (λ rows. Some (row v.keys v.offset v.value rows.0, rows.1))) _ r f) [
        | inl h ↦ (let (s, s_is, g) = h in
            let (q, q_is, same) = then_some (fields_on_at n (after_blanks s.1))
            (λ rows. Some (row v.keys v.offset v.value rows.0, rows.1)) r g in
            let there : (row v.keys v.offset v.value q.0, q.1) ≡ r = cc in
            subst (λ (r : Rows × Text). IsFieldsOn is_comment text r.0 r.1) there
            (more_rows (row_read n text v v_is) (sign_read 44 (after_blanks v.rest) s s_is)
            (fields_on_read n (after_blanks s.1) q q_is)))
        | inr h ↦ (let (s, s_is, same) =
            then_some (char_at 125 (after_blanks v.rest)) (λ s. Some (row v.keys v.offset v.value no_rows, s.1)) r h in
            let there : (row v.keys v.offset v.value no_rows, s.1) ≡ r = cc in
            subst (λ (r : Rows × Text). IsFieldsOn is_comment text r.0 r.1) there
            (last_row (row_read n text v v_is) (sign_read 125 (after_blanks v.rest) s s_is)))
      ]

  pub row_read : (n : ℕ) (text : Text) (r : Assigned) → row_at n text ≡ Some r
      → IsRow is_comment text r.keys r.offset r.value r.rest
  row_read zero text r e = cc
  row_read (suc n) text r e =
      let (keys, keys_is, f) =
      then_some (keys_at (suc n) text) (λ keys. and_then (char_at 61 (after_blanks keys.1)) (λ s.
      and_then (value_at n (after_blanks s.1))
      (λ v. Some (record { keys = keys.0; offset = v.offset; value = v.value; rest = v.rest })))) r e in
      let (s, s_is, g) = then_some (char_at 61 (after_blanks keys.1)) (λ s.
      and_then (value_at n (after_blanks s.1))
      (λ v. Some (record { keys = keys.0; offset = v.offset; value = v.value; rest = v.rest }))) r f in
      let (v, v_is, same) = then_some (value_at n (after_blanks s.1))
      (λ v. Some (record { keys = keys.0; offset = v.offset; value = v.value; rest = v.rest })) r g in
      let there : record { keys = keys.0; offset = v.offset; value = v.value; rest = v.rest } ≡ r = cc in
      subst (λ (r : Assigned). IsRow is_comment text r.keys r.offset r.value r.rest) there
      (assigned (keys_read (suc n) text keys keys_is) (sign_read 61 (after_blanks keys.1) s s_is)
      (value_read n (after_blanks s.1) v v_is))

pub line_end_read : (text next : Text) → line_end_at text ≡ Some next → EndsLine is_comment text next
line_end_read text next e = go (after_comment_by is_comment (after_blanks text)) refl e
  where
    go : (t : Text) → after_comment_by is_comment (after_blanks text) ≡ t → end_of t ≡ Some next
        → EndsLine is_comment text next
    go [] h e = let there : [] ≡ next = cc in subst (λ t. EndsLine is_comment text t) there (at_end h)
    go (x ∷ t) h e = feed (x.1 == 10) refl e
      where
        feed : (b : Bool) → (x.1 == 10) ≡ b → cond b (Some t) None ≡ Some next → EndsLine is_comment text next
        feed true f e =
            let there : t ≡ next = cc in
            subst (λ t. EndsLine is_comment text t) there
            (at_feed (h ∙ ap (λ (c : ℕ). (x.0, c) ∷ t) (eqb-true x.1 10 f)))
        feed false f e = cc

pub rows_read : (n : ℕ) (text : Text) (r : Rows × Text) → rows_at n text ≡ Some r → IsRows is_comment text r.0 r.1
rows_read zero text r e = cc
rows_read (suc n) [] r e = let there : (no_rows, []) ≡ r = cc in
    subst (λ (r : Rows × Text). IsRows is_comment [] r.0 r.1) there over
rows_read (suc n) (x ∷ text) r e =
    elim (found_some (char_at 91 (after_blanks (x ∷ text))) (λ s. Some (no_rows, x ∷ text)) _ r e) [
      | inl h ↦ (let (s, s_is, f) = h in
          let there : (no_rows, x ∷ text) ≡ r = cc in
          subst (λ (r : Rows × Text). IsRows is_comment (x ∷ text) r.0 r.1) there
          (header_next (sign_read 91 (after_blanks (x ∷ text)) s s_is)))
      | inr h ↦ (elim (found_some (line_end_at (x ∷ text)) (λ next. rows_at n next) _ r h) [
        | inl h ↦ (let (next, next_is, f) = h in
            empty_line (line_end_read (x ∷ text) next next_is) (rows_read n next r f))
        | inr h ↦ (let (v, v_is, f) =
            then_some (row_at (suc n) (after_blanks (x ∷ text))) (λ v. and_then (line_end_at v.rest) (λ next.
            and_then (rows_at n next) (λ rows. Some (row v.keys v.offset v.value rows.0, rows.1)))) r h in
            let (next, next_is, g) =
            then_some (line_end_at v.rest)
            (λ next. and_then (rows_at n next) (λ rows. Some (row v.keys v.offset v.value rows.0, rows.1))) r f in
            let (rows, rows_is, same) =
            then_some (rows_at n next) (λ rows. Some (row v.keys v.offset v.value rows.0, rows.1)) r g in
            let there : (row v.keys v.offset v.value rows.0, rows.1) ≡ r = cc in
            subst (λ (r : Rows × Text). IsRows is_comment (x ∷ text) r.0 r.1) there
            (row_line (row_read (suc n) (after_blanks (x ∷ text)) v v_is) (line_end_read v.rest next next_is)
            (rows_read n next rows rows_is)))
      ])
    ]

pub header_read : (n : ℕ) (text : Text) (h : Headed) → header_at n text ≡ Some h
    → IsHeader text h.offset h.keys h.is_array h.rest
header_read n text h e =
    let (s, s_is, f) = then_some (char_at 91 text) on h e in
    elim (found_some (char_at 91 s.1) (double s) (single s) h f) [
      | inl r ↦ (let (t, t_is, g) = r in
          let (keys, keys_is, i) =
          then_some (keys_at n (after_blanks t.1))
          (λ keys. and_then (char_at 93 (after_blanks keys.1)) (λ close. and_then (char_at 93 close.1) (λ last.
          Some (record { offset = s.0; keys = keys.0; is_array = true; rest = last.1 })))) h g in
          let (c, c_is, j) = then_some (char_at 93 (after_blanks keys.1))
          (λ close. and_then (char_at 93 close.1) (λ last.
          Some (record { offset = s.0; keys = keys.0; is_array = true; rest = last.1 }))) h i in
          let (d, d_is, same) = then_some (char_at 93 c.1)
          (λ last. Some (record { offset = s.0; keys = keys.0; is_array = true; rest = last.1 })) h j in
          let there : record { offset = s.0; keys = keys.0; is_array = true; rest = d.1 } ≡ h = cc in
          subst (λ (h : Headed). IsHeader text h.offset h.keys h.is_array h.rest) there
          (array_of_tables (sign_read 91 text s s_is) (sign_read 91 s.1 t t_is)
          (keys_read n (after_blanks t.1) keys keys_is) (sign_read 93 (after_blanks keys.1) c c_is)
          (sign_read 93 c.1 d d_is)))
      | inr r ↦ (let (keys, keys_is, i) =
          then_some (keys_at n (after_blanks s.1)) (λ keys. and_then (char_at 93 (after_blanks keys.1)) (λ close.
          Some (record { offset = s.0; keys = keys.0; is_array = false; rest = close.1 }))) h r in
          let (c, c_is, same) = then_some (char_at 93 (after_blanks keys.1))
          (λ close. Some (record { offset = s.0; keys = keys.0; is_array = false; rest = close.1 })) h i in
          let there : record { offset = s.0; keys = keys.0; is_array = false; rest = c.1 } ≡ h = cc in
          subst (λ (h : Headed). IsHeader text h.offset h.keys h.is_array h.rest) there
          (table (sign_read 91 text s s_is) (keys_read n (after_blanks s.1) keys keys_is)
          (sign_read 93 (after_blanks keys.1) c c_is)))
    ]
  where
    double : ℕ × Text → ℕ × Text → Option Headed
    double s t = and_then (keys_at n (after_blanks t.1))
        (λ keys. and_then (char_at 93 (after_blanks keys.1)) (λ close. and_then (char_at 93 close.1) (λ last.
        Some (record { offset = s.0; keys = keys.0; is_array = true; rest = last.1 }))))

    single : ℕ × Text → Option Headed
    single s = and_then (keys_at n (after_blanks s.1)) (λ keys. and_then (char_at 93 (after_blanks keys.1)) (λ close.
        Some (record { offset = s.0; keys = keys.0; is_array = false; rest = close.1 })))

    on : ℕ × Text → Option Headed
    on s = if_found (char_at 91 s.1) (double s) (single s)

pub sections_read : (n : ℕ) (text : Text) (sections : List Section) → sections_at n text ≡ Some sections
    → IsSections is_comment text sections
sections_read zero text sections e = cc
sections_read (suc n) [] sections e = let there : [] ≡ sections = cc in
    subst (λ ss. IsSections is_comment [] ss) there no_more
sections_read (suc n) (x ∷ text) sections e =
    let (h, h_is, f) = then_some (header_at (suc n) (after_blanks (x ∷ text)))
    (λ h. and_then (line_end_at h.rest) (λ next.
    and_then (rows_at (suc n) next) (λ rows. and_then (sections_at n rows.1) (λ sections.
    Some (record { at = h.offset; header = h.keys; is_array = h.is_array; rows = rows.0 } ∷ sections))))) sections e in
    let (next, next_is, g) = then_some (line_end_at h.rest) (λ next.
    and_then (rows_at (suc n) next) (λ rows. and_then (sections_at n rows.1) (λ sections.
    Some (record { at = h.offset; header = h.keys; is_array = h.is_array; rows = rows.0 } ∷ sections)))) sections f in
    let (rows, rows_is, i) = then_some (rows_at (suc n) next) (λ rows. and_then (sections_at n rows.1) (λ sections.
    Some (record { at = h.offset; header = h.keys; is_array = h.is_array; rows = rows.0 } ∷ sections))) sections g in
    let (rest, rest_is, same) = then_some (sections_at n rows.1) (λ sections.
    Some (record { at = h.offset; header = h.keys; is_array = h.is_array; rows = rows.0 } ∷ sections)) sections i in
    let there : record { at = h.offset; header = h.keys; is_array = h.is_array; rows = rows.0 } ∷ rest ≡ sections =
    cc in
    subst (λ ss. IsSections is_comment (x ∷ text) ss) there
    (section (header_read (suc n) (after_blanks (x ∷ text)) h h_is) (line_end_read h.rest next next_is)
    (rows_read (suc n) next rows rows_is) (sections_read n rows.1 rest rest_is))

-- what is read is the section list
pub list_read : (text : Text) (sections : List Section) → section_list_of text ≡ Some sections
    → IsSectionList text sections
list_read text sections e =
    let (rows, rows_is, f) =
    then_some (rows_at n text)
    (λ rows. and_then (sections_at n rows.1) (λ headed. Some (with_root rows.0 headed))) sections e in
    let (headed, headed_is, same) =
    then_some (sections_at n rows.1) (λ headed. Some (with_root rows.0 headed)) sections f in
    let there : with_root rows.0 headed ≡ sections = cc in
    record {
      rows = rows.0;
      headed = headed;
      rest = rows.1;
      root = rows_read n text rows rows_is;
      others =
          sections_read n rows.1 headed headed_is;
      all = sym there;
    }
  where
    n : ℕ
    n = 4 * length text + 4
