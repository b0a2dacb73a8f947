-- What is in the grammar is read.
use Rattle.std.proofs.Common.{◌≡◌, ℕ, zero, suc, ◌+◌, ◌*◌, ◌<◌, ◌≤◌, ◌==◌, Bool, true, false, cond, List, [], ◌∷◌}
use Rattle.std.proofs.Common.{length, refl, ap, sym, ◌∙◌, subst, arith, eqb-true, Option, Some, None}
use Rattle.std.specs.Option.{option_or}
use Rattle.std.proofs.lemmas.Bool.{false≢true, eq-eqb}
use Rattle.basic_toml_tokens.specs.Text.{Text, StartsWith, run, after_run, is_blank, is_keylike, is_comment}
use Rattle.basic_toml_tokens.specs.Text.{after_blanks}
use Rattle.basic_toml_tokens.specs.Strings.{is_quote}
use Rattle.basic_toml_grammar.specs.Sections.{Key, Raw, Elements, Rows, Section}
use Rattle.basic_toml_grammar.specs.Entering.{and_then}
use Rattle.basic_toml_grammar.specs.Grammar.{IsKey, bare, quoted, IsKeys, one, more, is_wordlike, word_value}
use Rattle.basic_toml_grammar.specs.Grammar.{word_offset, after_comment_by, after_gap_from, after_gap, IsValue, word}
use Rattle.basic_toml_grammar.specs.Grammar.{string, array, inline, IsElements, close, last, and_more, IsFields}
use Rattle.basic_toml_grammar.specs.Grammar.{none, some, IsFieldsOn, last_row, more_rows, IsRow, assigned, EndsLine}
use Rattle.basic_toml_grammar.specs.Grammar.{at_feed, at_end, IsRows, over, header_next, empty_line, row_line}
use Rattle.basic_toml_grammar.specs.Grammar.{IsHeader, table, array_of_tables, IsSections, no_more, section}
use Rattle.basic_toml_grammar.specs.Grammar.{IsSectionList}
use Rattle.basic_toml_grammar.specs.Holes.{begins_key, begins_value}
use Rattle.basic_toml_grammar.specs.Reader.{char_at, string_at, bare_key_at, quoted_key, key_at, if_found, keys_at}
use Rattle.basic_toml_grammar.specs.Reader.{word_at, string_value_at, value_at, elements_at, fields_at, fields_on_at}
use Rattle.basic_toml_grammar.specs.Reader.{row_at, end_of, line_end_at, rows_at, header_at, sections_at}
use Rattle.basic_toml_grammar.specs.Reader.{section_list_of}
use Rattle.basic_toml_grammar.proofs.Grammar.StringsAreRead.{string_found, sign_length, length_run, string_shorter}
use Rattle.basic_toml_grammar.proofs.Grammar.GrammarIsUnambiguous.{Heads, heads_not, string_heads, key_quote}
use Rattle.basic_toml_grammar.proofs.Grammar.GrammarIsUnambiguous.{word_quote, keys_heads}
use Rattle.basic_toml_grammar.proofs.Grammar.GrammarIsUnambiguous.{value_heads, row_heads, fields_heads, row_or_end}
use Rattle.basic_toml_grammar.proofs.Grammar.GrammarIsUnambiguous.{bracket_or_end, no_row, no_sign, no_header}
use Rattle.basic_toml_grammar.proofs.Grammar.ReaderIsSound.{sign_read, line_end_read, list_read}

pub sign_found : {c p : ℕ} {text rest : Text} → StartsWith c text p rest → char_at c text ≡ Some (p, rest)
sign_found {c = c} {p = p} {rest = rest} s = ap (char_at c) s ∙ ap (λ b. cond b (Some (p, rest)) None) (eq-eqb c c refl)

-- another character stands there
sign_missed : {text : Text} (f : ℕ → Bool) (c : ℕ) → Heads f text → f c ≡ false → char_at c text ≡ None
sign_missed f c h e = ap (char_at c) h.sign ∙ ap (λ b. cond b (Some (h.offset, h.next)) None) (other (h.char == c) refl)
  where
    other : (b : Bool) → (h.char == c) ≡ b → b ≡ false
    other false k = refl
    other true k = absurd (false≢true (sym e ∙ ap f (sym (eqb-true h.char c k)) ∙ h.kind))

length_gap : (comment : ℕ → Bool) (inside : Bool) (text : Text)
    → length (after_gap_from comment inside text) ≤ length text
length_gap comment inside [] = omega arith
length_gap comment true (x ∷ text) =
    go (x.1 == 10) (comment x.1) (length_gap comment false text) (length_gap comment true text)
  where
    go : (a b : Bool) → length (after_gap_from comment false text) ≤ length text
        → length (after_gap_from comment true text) ≤ length text
        → length (cond a (after_gap_from comment false text) (cond b (after_gap_from comment true text) (x ∷ text))) ≤
        length (x ∷ text)
    go true b h k = omega arith
    go false true h k = omega arith
    go false false h k = omega arith
length_gap comment false (x ∷ text) =
    go (Rattle.std.specs.Prelude.◌||◌ (is_blank x.1) (x.1 == 10)) (x.1 == 35) (length_gap comment false text)
    (length_gap comment true text)
  where
    go : (a b : Bool) → length (after_gap_from comment false text) ≤ length text
        → length (after_gap_from comment true text) ≤ length text
        → length (cond a (after_gap_from comment false text) (cond b (after_gap_from comment true text) (x ∷ text))) ≤
        length (x ∷ text)
    go true b h k = omega arith
    go false true h k = omega arith
    go false false h k = omega arith

pub missed : {A B : Type 0} {o : Option A} (f : A → Option B) (other : Option B) → o ≡ None → if_found o f other ≡ other
missed f other e = ap (λ o. if_found o f other) e

pub found : {A B : Type 0} {o : Option A} {x : A} (f : A → Option B) (other : Option B) → o ≡ Some x
    → if_found o f other ≡ f x
found f other e = ap (λ o. if_found o f other) e

pub then_on : {A B : Type 0} {o : Option A} {x : A} (f : A → Option B) → o ≡ Some x → and_then o f ≡ f x
then_on f e = ap (λ o. and_then o f) e

bare_found : {c p : ℕ} {text next : Text} → StartsWith c text p next → is_keylike c ≡ true
    → bare_key_at text ≡ Some (record { offset = p; text = run is_keylike text }, after_run is_keylike text)
bare_found {c = c} {p = p} {next = next} s w = ap bare_key_at s
    ∙ ap (λ b. cond b (Some (
      record { offset = p; text = run is_keylike ((p, c) ∷ next) },
      after_run is_keylike ((p, c) ∷ next),
    )) None) w
    ∙ ap (λ t. Some (record { offset = p; text = run is_keylike t }, after_run is_keylike t)) (sym s)

bare_missed : {text : Text} → Heads is_quote text → bare_key_at text ≡ None
bare_missed h = ap bare_key_at h.sign
    ∙ ap (λ b. cond b (Some (
      record { offset = h.offset; text = run is_keylike ((h.offset, h.char) ∷ h.next) },
      after_run is_keylike ((h.offset, h.char) ∷ h.next),
    )) None)
    (none (is_keylike h.char) refl)
  where
    none : (b : Bool) → is_keylike h.char ≡ b → b ≡ false
    none false e = refl
    none true e = absurd (key_quote h.char e h.kind)

pub key_found : {text rest : Text} {k : Key} → IsKey text k rest → key_at text ≡ Some (k, rest)
key_found {text = text} (bare s w) = ap (λ o. option_or o (and_then (string_at text) quoted_key)) (bare_found s w)
key_found {text = text} (quoted s) =
    ap (λ o. option_or o (and_then (string_at text) quoted_key)) (bare_missed (string_heads s)) ∙
    then_on _ (string_found s)

run_shorter : {c p : ℕ} {text next : Text} (f : ℕ → Bool) → StartsWith c text p next → f c ≡ true
    → length (after_run f text) < length text
run_shorter {c = c} {p = p} {next = next} f s w =
    subst (λ (t : Text). length (after_run f t) < length t) (sym s) (go (f c) w)
  where
    go : (b : Bool) → b ≡ true → length (cond b (after_run f next) ((p, c) ∷ next)) < length ((p, c) ∷ next)
    go true e = omega (arith, length_run f next)
    go false e = absurd (false≢true e)

pub key_shorter : {text rest : Text} {k : Key} → IsKey text k rest → length rest < length text
key_shorter (bare s w) = run_shorter is_keylike s w
key_shorter (quoted s) = string_shorter s

pub blanks_length : (text : Text) → length (after_blanks text) ≤ length text
blanks_length text = length_run is_blank text

-- a sign after blanks
pub shorter_after_blanks : {c p : ℕ} {rest : Text} (text : Text) → StartsWith c (after_blanks text) p rest
    → length rest < length text
shorter_after_blanks text s = omega (arith, sign_length s, blanks_length text)

pub keys_shorter : {text rest : Text} {ks : List Key} → IsKeys text ks rest → length rest < length text
keys_shorter (one k) = key_shorter k
keys_shorter (more {mid = mid} {next = next} k s ks) =
    omega (arith, key_shorter k, shorter_after_blanks mid s, keys_shorter ks, blanks_length next)

-- keys after which no period stands
pub keys_found : (n : ℕ) {text rest : Text} {ks : List Key} → IsKeys text ks rest
    → char_at 46 (after_blanks rest) ≡ None → length text < n → keys_at n text ≡ Some (ks, rest)
keys_found zero ks e h = absurd (omega arith)
keys_found (suc n) (one k) e h = then_on _ (key_found k) ∙ missed _ _ e
keys_found (suc n) (more {mid = mid} {next = next} k s ks) e h =
    then_on _ (key_found k) ∙ found _ _ (sign_found s) ∙
    then_on _ (keys_found n ks e (omega (arith, key_shorter k, shorter_after_blanks mid s, blanks_length next)))

-- where another sign stands
other_sign : {c p : ℕ} {text rest : Text} (d : ℕ) → StartsWith c text p rest → (d == c) ≡ false → char_at d text ≡ None
other_sign {c = c} {p = p} {rest = rest} d s e =
    sign_missed (λ x. x == c) d (record { offset = p; char = c; next = rest; sign = s; kind = eq-eqb c c refl }) e

word_found : {c p : ℕ} {text next : Text} {v : Raw} → StartsWith c text p next
    → word_value (run is_wordlike text) ≡ Some v
    → word_at text ≡ Some (record { offset = word_offset v p text; value = v; rest = after_run is_wordlike text })
word_found {c = c} {p = p} {text = text} {next = next} {v = v} s e =
    subst (λ (t : Text). word_value (run is_wordlike t) ≡ Some v
    → word_at t ≡ Some (record { offset = word_offset v p t; value = v; rest = after_run is_wordlike t })) (sym s)
    (λ e. then_on _ e) e

word_missed : {text : Text} → Heads is_quote text → word_at text ≡ None
word_missed h = ap word_at h.sign
    ∙ ap (λ w. and_then (word_value w)
    (λ v. Some (record {
      offset = word_offset v h.offset ((h.offset, h.char) ∷ h.next);
      value = v;
      rest =
          after_run is_wordlike ((h.offset, h.char) ∷ h.next);
    })))
    (nothing (is_wordlike h.char) refl)
  where
    nothing : (b : Bool) → is_wordlike h.char ≡ b → cond b (h.char ∷ run is_wordlike h.next) [] ≡ []
    nothing false e = refl
    nothing true e = absurd (word_quote h.char e h.kind)

abbrev pub gap : Text → Text
gap text = after_gap is_comment text

pub gap_length : (text : Text) → length (gap text) ≤ length text
gap_length text = length_gap is_comment false text

pub shorter_after_gap : {c p : ℕ} {rest : Text} (text : Text) → StartsWith c (gap text) p rest
    → length rest < length text
shorter_after_gap text s = omega (arith, sign_length s, gap_length text)

-- what stands after is shorter
mutual
  pub value_shorter : {text rest : Text} {p : ℕ} {v : Raw} → IsValue is_comment text p v rest
      → length rest < length text
  value_shorter (word s w e) = run_shorter is_wordlike s w
  value_shorter (string s) = string_shorter s
  value_shorter (array {next = next} s es) = omega (arith, sign_length s, elements_shorter es, gap_length next)
  value_shorter (inline {next = next} s rs) = omega (arith, sign_length s, fields_shorter rs, blanks_length next)

  pub elements_shorter : {text rest : Text} {es : Elements} → IsElements is_comment text es rest
      → length rest < length text
  elements_shorter (close s) = omega (arith, sign_length s)
  elements_shorter (last {mid = mid} v s) = omega (arith, value_shorter v, shorter_after_gap mid s)
  elements_shorter (and_more {mid = mid} {next = next} v s es) =
      omega (arith, value_shorter v, shorter_after_gap mid s, elements_shorter es, gap_length next)

  pub fields_shorter : {text rest : Text} {rs : Rows} → IsFields is_comment text rs rest → length rest < length text
  fields_shorter (none s) = omega (arith, sign_length s)
  fields_shorter (some rs) = fields_on_shorter rs

  pub fields_on_shorter : {text rest : Text} {rs : Rows} → IsFieldsOn is_comment text rs rest
      → length rest < length text
  fields_on_shorter (last_row {mid = mid} r s) = omega (arith, row_shorter r, shorter_after_blanks mid s)
  fields_on_shorter (more_rows {mid = mid} {next = next} r s rs) =
      omega (arith, row_shorter r, shorter_after_blanks mid s, fields_on_shorter rs, blanks_length next)

  pub row_shorter : {text rest : Text} {ks : List Key} {p : ℕ} {v : Raw} → IsRow is_comment text ks p v rest
      → length rest < length text
  row_shorter (assigned {mid = mid} {next = next} ks s v) =
      omega (arith, keys_shorter ks, shorter_after_blanks mid s, value_shorter v, blanks_length next)

mutual
  pub value_found : {text rest : Text} {p : ℕ} {v : Raw} (n : ℕ) → IsValue is_comment text p v rest
      → 4 * length text + 1 ≤ n
      → value_at n text ≡ Some (record { offset = p; value = v; rest = rest })
  value_found zero v h = absurd (omega arith)
  value_found {text = text} (suc n) (word {p = p} {c = c} {next = next} s w e) h =
      let head : Heads is_wordlike text = record { offset = p; char = c; next = next; sign = s; kind = w } in
      missed _ _ (sign_missed is_wordlike 91 head refl) ∙ missed _ _ (sign_missed is_wordlike 123 head refl)
      ∙ ap (λ o. option_or o (string_value_at text)) (word_found s e)
  value_found {text = text} (suc n) (string s) h =
      let head : Heads is_quote text = string_heads s in
      missed _ _ (sign_missed is_quote 91 head refl) ∙ missed _ _ (sign_missed is_quote 123 head refl)
      ∙ ap (λ o. option_or o (string_value_at text)) (word_missed head) ∙ then_on _ (string_found s)
  value_found (suc n) (array {next = next} s es) h =
      found _ _ (sign_found s) ∙ then_on _ (elements_found n es (omega (arith, sign_length s, gap_length next)))
  value_found (suc n) (inline {next = next} s rs) h =
      missed _ _ (other_sign 91 s refl) ∙ found _ _ (sign_found s) ∙
      then_on _ (fields_found n rs (omega (arith, sign_length s, blanks_length next)))

  pub elements_found : {text rest : Text} {es : Elements} (n : ℕ) → IsElements is_comment text es rest
      → 4 * length text + 2 ≤ n → elements_at n text ≡ Some (es, rest)
  elements_found zero es h = absurd (omega arith)
  elements_found (suc n) (close s) h = found _ _ (sign_found s)
  elements_found (suc n) (last v s) h =
      missed _ _ (sign_missed begins_value 93 (value_heads is_comment v) refl) ∙
      then_on _ (value_found n v (omega arith))
      ∙ missed _ _ (other_sign 44 s refl) ∙ then_on _ (sign_found s)
  elements_found (suc n) (and_more {mid = mid} {next = next} v s es) h =
      missed _ _ (sign_missed begins_value 93 (value_heads is_comment v) refl) ∙
      then_on _ (value_found n v (omega arith))
      ∙ found _ _ (sign_found s) ∙
      then_on _ (elements_found n es (omega (arith, value_shorter v, shorter_after_gap mid s, gap_length next)))

  fields_found : {text rest : Text} {rs : Rows} (n : ℕ) → IsFields is_comment text rs rest → 4 * length text + 3 ≤ n
      → fields_at n text ≡ Some (rs, rest)
  fields_found zero rs h = absurd (omega arith)
  fields_found (suc n) (none s) h = found _ _ (sign_found s)
  fields_found (suc n) (some rs) h = missed _ _ (sign_missed begins_key 125 (fields_heads is_comment rs) refl) ∙
      fields_on_found n rs (omega arith)

  pub fields_on_found : {text rest : Text} {rs : Rows} (n : ℕ) → IsFieldsOn is_comment text rs rest
      → 4 * length text + 2 ≤ n → fields_on_at n text ≡ Some (rs, rest)
  fields_on_found zero rs h = absurd (omega arith)
  fields_on_found (suc n) (last_row r s) h =
      then_on _ (row_found n r (omega arith)) ∙ missed _ _ (other_sign 44 s refl) ∙ then_on _ (sign_found s)
  fields_on_found (suc n) (more_rows {mid = mid} {next = next} r s rs) h =
      then_on _ (row_found n r (omega arith)) ∙ found _ _ (sign_found s)
      ∙ then_on _ (fields_on_found n rs (omega (arith, row_shorter r, shorter_after_blanks mid s, blanks_length next)))

  pub row_found : {text rest : Text} {ks : List Key} {p : ℕ} {v : Raw} (n : ℕ) → IsRow is_comment text ks p v rest
      → 4 * length text + 1 ≤ n
      → row_at n text ≡ Some (record { keys = ks; offset = p; value = v; rest = rest })
  row_found zero r h = absurd (omega arith)
  row_found (suc n) (assigned {mid = mid} {next = next} ks s v) h =
      then_on _ (keys_found (suc n) ks (other_sign 46 s refl) (omega arith)) ∙ then_on _ (sign_found s)
      ∙ then_on _ (value_found n v (omega (arith, keys_shorter ks, shorter_after_blanks mid s, blanks_length next)))

-- no bracket stands where a line ends
bracket_missed : (text : Text) → ((p : ℕ) (next : Text) → StartsWith 91 text p next → ⊥) → char_at 91 text ≡ None
bracket_missed text absent = go (char_at 91 text) refl
  where
    go : (o : Option (ℕ × Text)) → char_at 91 text ≡ o → char_at 91 text ≡ None
    go None e = e
    go (Some s) e = absurd (absent s.0 s.1 (sign_read 91 text s e))

-- after the end of a line
pub ends_found : {text next : Text} → EndsLine is_comment text next → line_end_at text ≡ Some next
ends_found (at_feed s) = ap end_of s
ends_found (at_end s) = ap end_of s

-- where a row or a header stands no line ends
end_missed : (text : Text) → ((next : Text) → EndsLine is_comment text next → ⊥) → line_end_at text ≡ None
end_missed text absent = go (line_end_at text) refl
  where
    go : (o : Option Text) → line_end_at text ≡ o → line_end_at text ≡ None
    go None e = e
    go (Some next) e = absurd (absent next (line_end_read text next e))

comment_length : (text : Text) → length (after_comment_by is_comment text) ≤ length text
comment_length [] = omega arith
comment_length (x ∷ text) = go (x.1 == 35)
  where
    go : (b : Bool) → length (cond b (after_run is_comment text) (x ∷ text)) ≤ length (x ∷ text)
    go true = omega (arith, length_run is_comment text)
    go false = omega arith

pub ends_shorter : {text next : Text} → EndsLine is_comment text next → length next ≤ length text
ends_shorter {text = text} (at_feed s) =
    omega (arith, sign_length s, comment_length (after_blanks text), blanks_length text)
ends_shorter (at_end s) = omega arith

-- an empty line that is no end of the text takes at least one character
pub line_shorter : {c : ℕ × ℕ} {text next : Text} → EndsLine is_comment (c ∷ text) next
    → length next < length (c ∷ text)
line_shorter {c = c} {text = text} (at_feed s) =
    omega (arith, sign_length s, comment_length (after_blanks (c ∷ text)), blanks_length (c ∷ text))
line_shorter (at_end s) = omega arith

pub rows_found : (n : ℕ) {text rest : Text} {rs : Rows} → IsRows is_comment text rs rest → 4 * length text + 3 ≤ n
    → rows_at n text ≡ Some (rs, rest)
rows_found zero rs h = absurd (omega arith)
rows_found (suc n) over h = refl
rows_found (suc n) {text = []} (header_next s) h = absurd (no_sign refl s)
rows_found (suc n) {text = x ∷ text} (header_next s) h = found _ _ (sign_found s)
rows_found (suc n) (empty_line {c = c} {text = text} e rs) h =
    missed _ _ (bracket_missed (after_blanks (c ∷ text)) (λ p next s. bracket_or_end is_comment s e)) ∙
    found _ _ (ends_found e) ∙ rows_found n rs (omega (arith, line_shorter e))
rows_found (suc n) {text = []} (row_line r e rs) h = absurd (no_row is_comment r)
rows_found (suc n) {text = x ∷ text} (row_line {mid = mid} {next = next} r e rs) h =
    missed _ _ (sign_missed begins_key 91 (row_heads is_comment r) refl)
    ∙ missed _ _ (end_missed (x ∷ text) (λ next e. row_or_end is_comment r e))
    ∙ then_on _ (row_found (suc n) r (omega (arith, blanks_length (x ∷ text))))
    ∙ then_on _ (ends_found e)
    ∙ then_on _ (rows_found n rs (omega (arith, row_shorter r, ends_shorter e, blanks_length (x ∷ text))))

pub header_found : {text rest : Text} {p : ℕ} {ks : List Key} {a : Bool} (n : ℕ) → IsHeader text p ks a rest
    → length text < n
    → header_at n text ≡ Some (record { offset = p; keys = ks; is_array = a; rest = rest })
header_found n (table {next = next} s ks e) h =
    then_on _ (sign_found s) ∙
    missed _ _ (bracket_missed next (λ p r b. heads_not (keys_heads ks) (ap after_blanks b) refl))
    ∙ then_on _ (keys_found n ks (other_sign 46 e refl) (omega (arith, sign_length s, blanks_length next))) ∙
    then_on _ (sign_found e)
header_found n (array_of_tables {inner = inner} s t ks e f) h =
    then_on _ (sign_found s) ∙ found _ _ (sign_found t)
    ∙ then_on _ (keys_found n ks (other_sign 46 e refl)
    (omega (arith, sign_length s, sign_length t, blanks_length inner))) ∙ then_on _ (sign_found e) ∙
    then_on _ (sign_found f)

pub header_shorter : {text rest : Text} {p : ℕ} {ks : List Key} {a : Bool} → IsHeader text p ks a rest
    → length rest < length text
header_shorter (table {next = next} {mid = mid} s ks e) =
    omega (arith, sign_length s, blanks_length next, keys_shorter ks, shorter_after_blanks mid e)
header_shorter (array_of_tables {inner = inner} {mid = mid} s t ks e f) =
    omega (
      arith,
      sign_length s,
      sign_length t,
      blanks_length inner,
      keys_shorter ks,
      shorter_after_blanks mid e,
      sign_length f,
    )

pub rows_shorter : {text rest : Text} {rs : Rows} → IsRows is_comment text rs rest → length rest ≤ length text
rows_shorter over = omega arith
rows_shorter (header_next s) = omega arith
rows_shorter (empty_line e rs) = omega (arith, line_shorter e, rows_shorter rs)
rows_shorter (row_line {text = text} r e rs) =
    omega (arith, blanks_length text, row_shorter r, ends_shorter e, rows_shorter rs)

pub sections_found : (n : ℕ) {text : Text} {sections : List Section} → IsSections is_comment text sections
    → 4 * length text + 3 ≤ n → sections_at n text ≡ Some sections
sections_found zero ss h = absurd (omega arith)
sections_found (suc n) no_more h = refl
sections_found (suc n) {text = []} (section i e rs ss) h = absurd (no_header i)
sections_found (suc n) {text = x ∷ text} (section i e rs ss) h =
    then_on _ (header_found (suc n) i (omega (arith, blanks_length (x ∷ text)))) ∙ then_on _ (ends_found e)
    ∙ then_on _ (rows_found (suc n) rs (omega (arith, blanks_length (x ∷ text), header_shorter i, ends_shorter e)))
    ∙ then_on _ (sections_found n ss
    (omega (arith, blanks_length (x ∷ text), header_shorter i, ends_shorter e, rows_shorter rs)))

-- what is in the grammar is read
pub list_found : (text : Text) (sections : List Section) → IsSectionList text sections
    → section_list_of text ≡ Some sections
list_found text sections g =
    then_on _ (rows_found (4 * length text + 4) g.root (omega arith))
    ∙ then_on _ (sections_found (4 * length text + 4) g.others (omega (arith, rows_shorter g.root)))
    ∙ ap (λ ss. Some ss) (sym g.all)

-- the grammar is what is read
pub grammar_is_read : (text : Text) (sections : List Section)
    → (IsSectionList text sections → section_list_of text ≡ Some sections)
    × (section_list_of text ≡ Some sections → IsSectionList text sections)
grammar_is_read text sections = (list_found text sections, list_read text sections)
