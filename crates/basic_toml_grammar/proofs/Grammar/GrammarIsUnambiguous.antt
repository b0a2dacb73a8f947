-- The grammar gives a text at most one section list.
use Rattle.std.proofs.Common.{◌≡◌, ℕ, ◌==◌, Bool, true, false, cond, List, [], ◌∷◌, Some, refl, ap, sym, ◌∙◌, subst}
use Rattle.std.proofs.Common.{inl, inr, arith, eqb-true}
use Rattle.std.specs.Prelude.{◌⊎◌, encode_utf8_all}
use Rattle.std.proofs.lemmas.Bool.{false≢true, or_cases, or_left, or_right}
use Rattle.basic_toml_tokens.specs.Text.{Text, StartsWith, run, after_run, is_keylike, after_blanks}
use Rattle.basic_toml_tokens.specs.Strings.{IsString, Opens, one_line, multiline, is_quote}
use Rattle.basic_toml_tokens.proofs.TokenIsUnique.{string_same}
use Rattle.basic_toml_grammar.specs.Sections.{Key, Raw, Elements, no_elements, element, Rows, no_rows, row, Section}
use Rattle.basic_toml_grammar.specs.Copies.{up_to, needs_copy}
use Rattle.basic_toml_grammar.specs.Grammar.{IsKey, bare, quoted, IsKeys, one, more, is_wordlike, word_offset}
use Rattle.basic_toml_grammar.specs.Grammar.{after_comment_by, after_gap, IsValue, word, string, array, inline}
use Rattle.basic_toml_grammar.specs.Grammar.{IsElements, close, last, and_more, IsFields, none, some, IsFieldsOn}
use Rattle.basic_toml_grammar.specs.Grammar.{last_row, more_rows, IsRow, assigned, EndsLine, at_feed, at_end, IsRows}
use Rattle.basic_toml_grammar.specs.Grammar.{over, header_next, empty_line, row_line, IsHeader, table}
use Rattle.basic_toml_grammar.specs.Grammar.{array_of_tables, IsSections, no_more, section, with_root}
use Rattle.basic_toml_grammar.specs.Grammar.{IsSectionListBy}
use Rattle.basic_toml_grammar.specs.Holes.{begins_key, begins_value}

-- one sign stands at the front
pub sign_same : {c d p q : ℕ} {text r r' : Text} → StartsWith c text p r → StartsWith d text q r' → (p ≡ q) × (c ≡ d)
    × (r ≡ r')
sign_same {c = c} {d = d} {p = p} {q = q} {r = r} {r' = r'} s t =
    let h : (p, c) ∷ r ≡ (q, d) ∷ r' = sym s ∙ t in
    let x : ℕ × ℕ = (p, c) in
    let y : ℕ × ℕ = (q, d) in
    let firsts : x ≡ y = cc in
    let rests : r ≡ r' = cc in
    (ap (λ (x : ℕ × ℕ). x.0) firsts, ap (λ (x : ℕ × ℕ). x.1) firsts, rests)

pub no_sign : {c p : ℕ} {text r : Text} → text ≡ [] → StartsWith c text p r → ⊥
no_sign {c = c} {p = p} {r = r} e s = let h : [] ≡ (p, c) ∷ r = sym e ∙ s in cc

-- a text has a first character of a kind
pub record Heads (f : ℕ → Bool) (text : Text) : Type 0 where
  pub offset : ℕ
  pub char : ℕ
  pub next : Text
  pub sign : StartsWith char text offset next
  pub kind : f char ≡ true

pub heads_not : {f : ℕ → Bool} {c p : ℕ} {text r : Text} → Heads f text → StartsWith c text p r → f c ≡ false → ⊥
heads_not {f = f} h s e = false≢true (sym e ∙ ap f (sym (sign_same h.sign s).1) ∙ h.kind)

-- two kinds that no character shares
heads_apart : {f g : ℕ → Bool} {text : Text} → ((c : ℕ) → f c ≡ true → g c ≡ true → ⊥) → Heads f text → Heads g text → ⊥
heads_apart {g = g} a h k = a h.char h.kind (ap g (sign_same h.sign k.sign).1 ∙ k.kind)

-- no quote is keylike or wordlike
quote_is : (c : ℕ) → is_quote c ≡ true → (c ≡ 34) ⊎ (c ≡ 39)
quote_is c e = go (or_cases _ _ e)
  where
    go : ((c == 34) ≡ true) ⊎ ((c == 39) ≡ true) → (c ≡ 34) ⊎ (c ≡ 39)
    go (inl h) = inl (eqb-true c 34 h)
    go (inr h) = inr (eqb-true c 39 h)

pub word_quote : (c : ℕ) → is_wordlike c ≡ true → is_quote c ≡ true → ⊥
word_quote c e q = go (quote_is c q)
  where
    go : (c ≡ 34) ⊎ (c ≡ 39) → ⊥
    go (inl h) = let f : is_wordlike 34 ≡ true = ap is_wordlike (sym h) ∙ e in false≢true f
    go (inr h) = let f : is_wordlike 39 ≡ true = ap is_wordlike (sym h) ∙ e in false≢true f

pub key_quote : (c : ℕ) → is_keylike c ≡ true → is_quote c ≡ true → ⊥
key_quote c e q = word_quote c (or_left _ _ e) q

pub string_heads : {text rest : Text} {p : ℕ} {m : Bool} {v : List ℕ} → IsString text p m v rest → Heads is_quote text
string_heads s = go s.opens
  where
    go : {text body : Text} {p : ℕ} {k : Rattle.basic_toml_tokens.specs.Strings.Quotes} → Opens text p k body
        → Heads is_quote text
    go (one_line {p = p} {d = d} {next = next} e q n) = record { offset = p; char = d; next = next; sign = e; kind = q }
    go (multiline {p = p} {d = d} {next = next} e q n) =
        record { offset = p; char = d; next = next; sign = e; kind = q }

string_offset : {text r r' : Text} {p p' : ℕ} {m m' : Bool} {v v' : List ℕ} → IsString text p m v r
    → IsString text p' m' v' r' → p ≡ p'
string_offset s t = go s.opens t.opens
  where
    go : {text b b' : Text} {p p' : ℕ} {k k' : Rattle.basic_toml_tokens.specs.Strings.Quotes} → Opens text p k b
        → Opens text p' k' b' → p ≡ p'
    go (one_line e q n) (one_line f r m) = (sign_same e f).0
    go (one_line e q n) (multiline f r m) = (sign_same e f).0
    go (multiline e q n) (one_line f r m) = (sign_same e f).0
    go (multiline e q n) (multiline f r m) = (sign_same e f).0

pub key_heads : {text rest : Text} {k : Key} → IsKey text k rest → Heads begins_key text
key_heads (bare {p = p} {c = c} {next = next} e w) =
    record { offset = p; char = c; next = next; sign = e; kind = or_left _ _ w }
key_heads (quoted s) = let h = string_heads s in
    record { offset = h.offset; char = h.char; next = h.next; sign = h.sign; kind = or_right _ _ h.kind }

pub key_same : {text r r' : Text} {k k' : Key} → IsKey text k r → IsKey text k' r' → (k ≡ k') × (r ≡ r')
key_same {text = text} (bare e w) (bare f x) =
    (ap (λ p. record { offset = p; text = run is_keylike text }) (sign_same e f).0, refl)
key_same (bare {p = p} {c = c} {next = next} e w) (quoted s) =
    absurd (heads_apart key_quote (record { offset = p; char = c; next = next; sign = e; kind = w }) (string_heads s))
key_same (quoted s) (bare {p = p} {c = c} {next = next} e w) =
    absurd (heads_apart key_quote (record { offset = p; char = c; next = next; sign = e; kind = w }) (string_heads s))
key_same (quoted {p = p} {value = v} s) (quoted {p = q} {value = w} t) =
    let h = string_same s t in (
      ap (λ p. record { offset = p; text = encode_utf8_all v }) (string_offset s t) ∙
          ap (λ v. record { offset = q; text = encode_utf8_all v }) h.0,
      h.2,
    )

-- keys up to a sign that is no period
pub keys_same : {c d p q : ℕ} {text r r' n n' : Text} {ks ks' : List Key} → IsKeys text ks r → IsKeys text ks' r'
    → StartsWith c (after_blanks r) p n → (c ≡ 46 → ⊥) → StartsWith d (after_blanks r') q n' → (d ≡ 46 → ⊥)
    → (ks ≡ ks') × (r ≡ r')
keys_same (one k) (one l) s a t b = let h = key_same k l in (ap (λ k. k ∷ []) h.0, h.1)
keys_same (one k) (more l e ks) s a t b = absurd (a (sign_same s (ap after_blanks (key_same k l).1 ∙ e)).1)
keys_same (more k e ks) (one l) s a t b = absurd (b (sign_same t (ap after_blanks (sym (key_same k l).1) ∙ e)).1)
keys_same (more {next = n} {rest = r₁} {k = k} {keys = ks} x e xs) (more {next = n'} {k = l} {keys = ls} y f ys) s a t
    b =
    let h = key_same x y in
    let m : n ≡ n' = (sign_same (sym (ap after_blanks h.1) ∙ e) f).2 in
    let r = keys_same (subst (λ m. IsKeys (after_blanks m) ks r₁) m xs) ys s a t b in
    (ap (λ k. k ∷ ks) h.0 ∙ ap (λ ks. l ∷ ks) r.0, r.1)

pub keys_heads : {text rest : Text} {ks : List Key} → IsKeys text ks rest → Heads begins_key text
keys_heads (one k) = key_heads k
keys_heads (more k e ks) = key_heads k

pub word_sign : (f : ℕ → Bool) {c d p q : ℕ} {text r r' : Text} → StartsWith c text p r → f c ≡ true
    → StartsWith d text q r' → f d ≡ false → ⊥
word_sign f {c = c} {p = p} {r = r} s w t e =
    heads_not {f = f} (record { offset = p; char = c; next = r; sign = s; kind = w }) t e

module _ (comment : ℕ → Bool) where
  pub value_heads : {text rest : Text} {p : ℕ} {v : Raw} → IsValue comment text p v rest → Heads begins_value text
  value_heads (word {p = p} {c = c} {next = next} e w x) =
      record { offset = p; char = c; next = next; sign = e; kind = or_left _ _ (or_left _ _ w) }
  value_heads (string s) = let h = string_heads s in
      record {
        offset = h.offset;
        char = h.char;
        next = h.next;
        sign = h.sign;
        kind =
            or_left _ _ (or_right _ _ h.kind);
      }
  value_heads (array {p = p} {next = next} e es) = record { offset = p; char = 91; next = next; sign = e; kind = refl }
  value_heads (inline {p = p} {next = next} e rs) =
      record { offset = p; char = 123; next = next; sign = e; kind = refl }

  pub row_heads : {text rest : Text} {ks : List Key} {p : ℕ} {v : Raw} → IsRow comment text ks p v rest
      → Heads begins_key text
  row_heads (assigned ks e v) = keys_heads ks

  pub fields_heads : {text rest : Text} {rs : Rows} → IsFieldsOn comment text rs rest → Heads begins_key text
  fields_heads (last_row r e) = row_heads r
  fields_heads (more_rows r e rs) = row_heads r

  mutual
    pub value_same : {text r r' : Text} {p p' : ℕ} {v v' : Raw} → IsValue comment text p v r
        → IsValue comment text p' v' r' → (p ≡ p') × (v ≡ v') × (r ≡ r')
    value_same {text = text} (word {p = p} {v = v} e w x) (word {p = q} {v = u} f y z) =
        let h : Some v ≡ Some u = sym x ∙ z in
        let same : v ≡ u = cc in
        (ap (λ p. word_offset v p text) (sign_same e f).0 ∙ ap (λ v. word_offset v q text) same, same, refl)
    value_same (word {p = p} {c = c} {next = n} e w x) (string s) =
        absurd (heads_apart word_quote (record { offset = p; char = c; next = n; sign = e; kind = w }) (string_heads s))
    value_same (word e w x) (array f es) = absurd (word_sign is_wordlike e w f refl)
    value_same (word e w x) (inline f rs) = absurd (word_sign is_wordlike e w f refl)
    value_same (string s) (word {p = p} {c = c} {next = n} e w x) =
        absurd (heads_apart word_quote (record { offset = p; char = c; next = n; sign = e; kind = w }) (string_heads s))
    value_same {text = text} (string {m = m} {value = x} {rest = r₁} s) (string {m = n} {value = y} t) =
        let h = string_same s t in (
          string_offset s t,
          ap (λ v. Raw.string (encode_utf8_all v) (needs_copy m (up_to r₁ text))) h.0
              ∙ ap (λ m. Raw.string (encode_utf8_all y) (needs_copy m (up_to r₁ text))) h.1
              ∙ ap (λ r. Raw.string (encode_utf8_all y) (needs_copy n (up_to r text))) h.2,
          h.2,
        )
    value_same (string s) (array f es) = absurd (heads_not (string_heads s) f refl)
    value_same (string s) (inline f rs) = absurd (heads_not (string_heads s) f refl)
    value_same (array f es) (word e w x) = absurd (word_sign is_wordlike e w f refl)
    value_same (array f es) (string s) = absurd (heads_not (string_heads s) f refl)
    value_same (array {elements = es} {next = n} {rest = r₁} e xs) (array {next = n'} f ys) =
        let h = sign_same e f in
        let k = elements_same (subst (λ n. IsElements comment (after_gap comment n) es r₁) h.2 xs) ys in
        (h.0, ap Raw.array k.0, k.1)
    value_same (array e es) (inline f rs) = absurd (word_sign (λ c. c == 91) e refl f refl)
    value_same (inline f rs) (word e w x) = absurd (word_sign is_wordlike e w f refl)
    value_same (inline f rs) (string s) = absurd (heads_not (string_heads s) f refl)
    value_same (inline f rs) (array e es) = absurd (word_sign (λ c. c == 91) e refl f refl)
    value_same (inline {rows = rs} {rest = r₁} e xs) (inline f ys) =
        let h = sign_same e f in
        let k = fields_same (subst (λ n. IsFields comment (after_blanks n) rs r₁) h.2 xs) ys in
        (h.0, ap Raw.inline k.0, k.1)

    elements_same : {text r r' : Text} {es es' : Elements} → IsElements comment text es r
        → IsElements comment text es' r' → (es ≡ es') × (r ≡ r')
    elements_same (close e) (close f) = (refl, (sign_same e f).2)
    elements_same (close e) (last v f) = absurd (heads_not (value_heads v) e refl)
    elements_same (close e) (and_more v f es) = absurd (heads_not (value_heads v) e refl)
    elements_same (last v f) (close e) = absurd (heads_not (value_heads v) e refl)
    elements_same (last {v = v} x e) (last {p = q} y f) =
        let h = value_same x y in (
          ap (λ p. element p v no_elements) h.0 ∙
              ap (λ v. element q v no_elements) h.1,
          (sign_same (sym (ap (after_gap comment) h.2) ∙ e) f).2,
        )
    elements_same (last x e) (and_more y f es) =
        absurd (word_sign (λ c. c == 93) e refl (ap (after_gap comment) (value_same x y).2 ∙ f) refl)
    elements_same (and_more v f es) (close e) = absurd (heads_not (value_heads v) e refl)
    elements_same (and_more x e es) (last y f) =
        absurd (word_sign (λ c. c == 44) e refl (ap (after_gap comment) (value_same x y).2 ∙ f) refl)
    elements_same (and_more {v = v} {elements = es} {next = n} {rest = r₁} x e xs) (and_more {p = q} {v = u} f g ys) =
        let h = value_same x f in
        let m = (sign_same (sym (ap (after_gap comment) h.2) ∙ e) g).2 in
        let k = elements_same (subst (λ n. IsElements comment (after_gap comment n) es r₁) m xs) ys in
        (ap (λ p. element p v es) h.0 ∙ ap (λ v. element q v es) h.1 ∙ ap (λ es. element q u es) k.0, k.1)

    fields_same : {text r r' : Text} {rs rs' : Rows} → IsFields comment text rs r → IsFields comment text rs' r'
        → (rs ≡ rs') × (r ≡ r')
    fields_same (none e) (none f) = (refl, (sign_same e f).2)
    fields_same (none e) (some rs) = absurd (heads_not (fields_heads rs) e refl)
    fields_same (some rs) (none e) = absurd (heads_not (fields_heads rs) e refl)
    fields_same (some xs) (some ys) = fields_on_same xs ys

    fields_on_same : {text r r' : Text} {rs rs' : Rows} → IsFieldsOn comment text rs r
        → IsFieldsOn comment text rs' r' → (rs ≡ rs') × (r ≡ r')
    fields_on_same (last_row {keys = ks} {p = p} {v = v} x e) (last_row {keys = ls} {p = q} y f) =
        let h = row_same x y in (
          ap (λ ks. row ks p v no_rows) h.0 ∙ ap (λ p. row ls p v no_rows) h.1 ∙
              ap (λ v. row ls q v no_rows) h.2,
          (sign_same (sym (ap after_blanks h.3) ∙ e) f).2,
        )
    fields_on_same (last_row x e) (more_rows y f rs) =
        absurd (word_sign (λ c. c == 125) e refl (ap after_blanks (row_same x y).3 ∙ f) refl)
    fields_on_same (more_rows x e rs) (last_row y f) =
        absurd (word_sign (λ c. c == 44) e refl (ap after_blanks (row_same x y).3 ∙ f) refl)
    fields_on_same (more_rows {keys = ks} {p = p} {v = v} {rows = rs} {rest = r₁} x e xs)
        (more_rows {keys = ls} {p = q} {v = u} y f ys) =
        let h = row_same x y in
        let m = (sign_same (sym (ap after_blanks h.3) ∙ e) f).2 in
        let k = fields_on_same (subst (λ n. IsFieldsOn comment (after_blanks n) rs r₁) m xs) ys in (
          ap (λ ks. row ks p v rs) h.0 ∙ ap (λ p. row ls p v rs) h.1 ∙ ap (λ v. row ls q v rs) h.2 ∙
              ap (λ rs. row ls q u rs) k.0,
          k.1,
        )

    pub row_same : {text r r' : Text} {ks ks' : List Key} {p p' : ℕ} {v v' : Raw} → IsRow comment text ks p v r
        → IsRow comment text ks' p' v' r'
        → (ks ≡ ks') × (p ≡ p') × (v ≡ v') × (r ≡ r')
    row_same (assigned {p = p} {v = v} {rest = r₁} ks e x) (assigned ls f y) =
        let h = keys_same ks ls e (λ e. omega arith) f (λ e. omega arith) in
        let m = (sign_same (sym (ap after_blanks h.1) ∙ e) f).2 in
        let k = value_same (subst (λ n. IsValue comment (after_blanks n) p v r₁) m x) y in
        (h.0, k.0, k.1, k.2)

  -- what stands where a line ends: nothing, a comment, or a line feed
  pub row_or_end : {text rest next : Text} {ks : List Key} {p : ℕ} {v : Raw}
      → IsRow comment (after_blanks text) ks p v rest → EndsLine comment text next → ⊥
  row_or_end {text = text} r e = go (row_heads r) e
    where
      plain : (c n : ℕ) → begins_key c ≡ true → begins_key n ≡ false → (c == n) ≡ false
      plain c n k e = go (c == n) refl
        where
          go : (b : Bool) → (c == n) ≡ b → b ≡ false
          go false h = refl
          go true h = absurd (false≢true (sym e ∙ ap begins_key (sym (eqb-true c n h)) ∙ k))

      as_it_is : (h : Heads begins_key (after_blanks text))
          → after_comment_by comment (after_blanks text) ≡ (h.offset, h.char) ∷ h.next
      as_it_is h = ap (after_comment_by comment) h.sign ∙
          ap (λ b. cond b (after_run comment h.next) ((h.offset, h.char) ∷ h.next)) (plain h.char 35 h.kind refl)

      go : Heads begins_key (after_blanks text) → {next : Text} → EndsLine comment text next → ⊥
      go h (at_feed s) = false≢true (sym (plain h.char 10 h.kind refl) ∙ ap (λ c. c == 10) (sign_same (as_it_is h) s).1)
      go h (at_end s) = no_sign s (as_it_is h)

  pub ends_same : {text r r' : Text} → EndsLine comment text r → EndsLine comment text r' → r ≡ r'
  ends_same (at_feed e) (at_feed f) = (sign_same e f).2
  ends_same (at_feed e) (at_end f) = absurd (no_sign f e)
  ends_same (at_end e) (at_feed f) = absurd (no_sign e f)
  ends_same (at_end e) (at_end f) = refl

  -- a header stands where no line ends
  pub bracket_or_end : {text next rest : Text} {p : ℕ} → StartsWith 91 (after_blanks text) p next
      → EndsLine comment text rest → ⊥
  bracket_or_end s (at_feed e) = word_sign (λ c. c == 91) (ap (after_comment_by comment) s) refl e refl
  bracket_or_end s (at_end e) = no_sign e (ap (after_comment_by comment) s)

  pub no_row : {rest : Text} {ks : List Key} {p : ℕ} {v : Raw} → IsRow comment [] ks p v rest → ⊥
  no_row r = let h = row_heads r in no_sign refl h.sign

  pub rows_same : {text r r' : Text} {rs rs' : Rows} → IsRows comment text rs r → IsRows comment text rs' r' → (rs ≡ rs')
      × (r ≡ r')
  rows_same over over = (refl, refl)
  rows_same over (header_next e) = absurd (no_sign refl e)
  rows_same over (row_line r e rs) = absurd (no_row r)
  rows_same (header_next e) over = absurd (no_sign refl e)
  rows_same (header_next e) (header_next f) = (refl, refl)
  rows_same (header_next e) (empty_line f rs) = absurd (bracket_or_end e f)
  rows_same (header_next e) (row_line r f rs) = absurd (heads_not (row_heads r) e refl)
  rows_same (empty_line e rs) (header_next f) = absurd (bracket_or_end f e)
  rows_same (empty_line {rows = rs} {rest = r₁} e xs) (empty_line f ys) =
      rows_same (subst (λ n. IsRows comment n rs r₁) (ends_same e f) xs) ys
  rows_same (empty_line e xs) (row_line r f ys) = absurd (row_or_end r e)
  rows_same (row_line r e rs) over = absurd (no_row r)
  rows_same (row_line r e rs) (header_next f) = absurd (heads_not (row_heads r) f refl)
  rows_same (row_line r e xs) (empty_line f ys) = absurd (row_or_end r f)
  rows_same (row_line {keys = ks} {p = p} {v = v} {rows = rs} {next = n} {rest = r₁} x e xs)
      (row_line {keys = ls} {p = q} {v = u} {next = n'} y f ys) =
      let h = row_same x y in
      let m : n ≡ n' = ends_same (subst (λ t. EndsLine comment t n) h.3 e) f in
      let k = rows_same (subst (λ n. IsRows comment n rs r₁) m xs) ys in (
        ap (λ ks. row ks p v rs) h.0 ∙ ap (λ p. row ls p v rs) h.1 ∙ ap (λ v. row ls q v rs) h.2 ∙
            ap (λ rs. row ls q u rs) k.0,
        k.1,
      )

pub no_header : {rest : Text} {ks : List Key} {p : ℕ} {a : Bool} → IsHeader [] p ks a rest → ⊥
no_header (table e ks f) = no_sign refl e
no_header (array_of_tables e f ks g h) = no_sign refl e

pub header_same : {text r r' : Text} {ks ks' : List Key} {p p' : ℕ} {a a' : Bool} → IsHeader text p ks a r
    → IsHeader text p' ks' a' r'
    → (p ≡ p') × (ks ≡ ks') × (a ≡ a') × (r ≡ r')
header_same (table {keys = ks} {mid = m} e xs f) (table g ys h) =
    let s = sign_same e g in
    let k = keys_same (subst (λ n. IsKeys (after_blanks n) ks m) s.2 xs) ys f (λ e. omega arith) h (λ e. omega arith) in
    (s.0, k.0, refl, (sign_same (sym (ap after_blanks k.1) ∙ f) h).2)
header_same (table {keys = ks} {mid = m} e xs f) (array_of_tables g b ys h i) =
    let s = sign_same e g in
    absurd (heads_not (keys_heads (subst (λ n. IsKeys (after_blanks n) ks m) s.2 xs)) (ap after_blanks b) refl)
header_same (array_of_tables g b ys h i) (table {keys = ks} {mid = m} e xs f) =
    let s = sign_same e g in
    absurd (heads_not (keys_heads (subst (λ n. IsKeys (after_blanks n) ks m) s.2 xs)) (ap after_blanks b) refl)
header_same (array_of_tables {keys = ks} {mid = m} e b xs f c) (array_of_tables g d ys h i) =
    let s = sign_same e g in
    let t = sign_same (sym s.2 ∙ b) d in
    let k = keys_same (subst (λ n. IsKeys (after_blanks n) ks m) t.2 xs) ys f (λ e. omega arith) h (λ e. omega arith) in
    let l = sign_same (sym (ap after_blanks k.1) ∙ f) h in
    (s.0, k.0, refl, (sign_same (sym l.2 ∙ c) i).2)

pub sections_same : {comment : ℕ → Bool} {text : Text} {ss ss' : List Section} → IsSections comment text ss
    → IsSections comment text ss' → ss ≡ ss'
sections_same no_more no_more = refl
sections_same no_more (section h e rs ss) = absurd (no_header h)
sections_same (section h e rs ss) no_more = absurd (no_header h)
sections_same {comment = comment}
    (section {p = p} {keys = ks} {is_array = a} {rows = rs} {sections = ss} {next = n} {rest = r} x e xs xss)
    (section {p = q} {keys = ls} {is_array = b} {rows = os} {next = n'} {rest = r'} y f ys yss) =
    let h = header_same x y in
    let m : n ≡ n' = ends_same comment (subst (λ t. EndsLine comment t n) h.3 e) f in
    let k = rows_same comment (subst (λ n. IsRows comment n rs r) m xs) ys in
    let l = sections_same (subst (λ t. IsSections comment t ss) k.1 xss) yss in
    ap (λ p. record { at = p; header = ks; is_array = a; rows = rs } ∷ ss) h.0
    ∙ ap (λ ks. record { at = q; header = ks; is_array = a; rows = rs } ∷ ss) h.1
    ∙ ap (λ a. record { at = q; header = ls; is_array = a; rows = rs } ∷ ss) h.2
    ∙ ap (λ rs. record { at = q; header = ls; is_array = b; rows = rs } ∷ ss) k.0
    ∙ ap (λ ss. record { at = q; header = ls; is_array = b; rows = os } ∷ ss) l

-- at most one section list
pub one_section_list : {comment : ℕ → Bool} {text : Text} {ss ss' : List Section} → IsSectionListBy comment text ss
    → IsSectionListBy comment text ss' → ss ≡ ss'
one_section_list {comment = comment} {text = text} x y =
    let h = rows_same comment x.root y.root in
    let k = sections_same (subst (λ t. IsSections comment t x.headed) h.1 x.others) y.others in
    x.all ∙ ap (λ rs. with_root rs x.headed) h.0 ∙ ap (λ ss. with_root y.rows ss) k ∙ sym y.all
