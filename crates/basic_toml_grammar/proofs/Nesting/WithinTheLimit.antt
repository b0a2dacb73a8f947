-- What is of the grammar and within the limit holds nothing too deep. So what is too deep from its front on is so from
-- behind it on.
use Rattle.std.proofs.Common.{◌≡◌, ℕ, ◌+◌, ◌-◌, ◌≤◌, ◌==◌, Bool, false, List, [], ◌∷◌, length, refl, ap, sym, ◌∙◌, subst, arith}
use Rattle.std.proofs.Common.{Some, None, ◌<◌, true}
use Rattle.std.specs.Prelude.{nat_le}
use Rattle.std.proofs.lemmas.Bool.{leb-true, leb-false}
use Rattle.basic_toml_tokens.specs.Text.{Text, StartsWith, is_comment, after_blanks}
use Rattle.basic_toml_grammar.specs.Sections.{Key, Raw, Elements, Rows, no_rows, row, Section}
use Rattle.basic_toml_grammar.specs.Grammar.{IsKey, IsKeys, one, more, is_wordlike, after_gap, IsValue, IsElements}
use Rattle.basic_toml_grammar.specs.Grammar.{close, last, and_more, IsFields, none, some, IsFieldsOn, last_row}
use Rattle.basic_toml_grammar.specs.Grammar.{more_rows, IsRow, assigned, EndsLine, IsRows, over, header_next}
use Rattle.basic_toml_grammar.specs.Grammar.{empty_line, row_line, IsHeader, table, array_of_tables, IsSections, no_more}
use Rattle.basic_toml_grammar.specs.Grammar.{section, with_root, IsSectionList}
use Rattle.basic_toml_grammar.specs.Grammar.{word as word_here, string as string_here}
use Rattle.basic_toml_grammar.specs.Grammar.{array as array_here, inline as inline_here}
use Rattle.basic_toml_grammar.specs.Levels.{value_level, elements_level, rows_level, section_level}
use Rattle.basic_toml_grammar.specs.Levels.{highest_level}
use Rattle.basic_toml_grammar.specs.Statements.{DeepStopsPassTheLimit}
use Rattle.basic_toml_grammar.specs.Reader.{char_at, line_end_at}
use Rattle.basic_toml_grammar.specs.Holes.{begins_key}
use Rattle.basic_toml_grammar.specs.DeepStops as deep
use Rattle.basic_toml_grammar.specs.DeepStops.{DeepKeys, DeepValue, DeepArray, DeepElements, DeepInline, DeepFields, DeepRow, DeepRows}
use Rattle.basic_toml_grammar.specs.DeepStops.{DeepHeader, DeepSection, DeepSections, DeepStop}
use Rattle.basic_toml_grammar.proofs.Grammar.GrammarIsUnambiguous.{sign_same, no_sign, heads_not, string_heads, key_same}
use Rattle.basic_toml_grammar.proofs.Grammar.GrammarIsUnambiguous.{keys_heads, word_sign, value_heads, row_heads}
use Rattle.basic_toml_grammar.proofs.Grammar.GrammarIsUnambiguous.{value_same, row_same, row_or_end, ends_same}
use Rattle.basic_toml_grammar.proofs.Grammar.GrammarIsUnambiguous.{bracket_or_end, no_row, rows_same, header_same, no_header}
use Rattle.basic_toml_grammar.proofs.Grammar.ReaderIsComplete.{sign_found, ends_found}
use Rattle.basic_toml_grammar.proofs.Nesting.DeepStopsAreHoles.{keys_head, row_head, fields_head, line_missed}

-- a sign that is missed does not stand there
pub no_such : {c q : ℕ} {text next : Text} → char_at c text ≡ None → StartsWith c text q next → ⊥
no_such n s = let z : None ≡ Some _ = sym n ∙ sign_found s in cc

-- and a line that does not end does not
pub no_end : {text next : Text} → line_end_at text ≡ None → EndsLine is_comment text next → ⊥
no_end n e = let z : None ≡ Some _ = sym n ∙ ends_found e in cc

-- keys that no period follows are one
pub keys_one : {text r r' : Text} {ks ks' : List Key} → IsKeys text ks r → IsKeys text ks' r'
    → char_at 46 (after_blanks r) ≡ None → char_at 46 (after_blanks r') ≡ None → (ks ≡ ks') × (r ≡ r')
keys_one (one k) (one l) n m = let h = key_same k l in (ap (λ k. k ∷ []) h.0, h.1)
keys_one (one k) (more l e ls) n m = absurd (no_such n (ap after_blanks (key_same k l).1 ∙ e))
keys_one (more k e ks) (one l) n m = absurd (no_such m (ap after_blanks (sym (key_same k l).1) ∙ e))
keys_one (more {next = t} {rest = r₁} {k = k} {keys = ks} x e xs) (more {next = t'} {k = l} {keys = ls} y f ys) n m =
    let h = key_same x y in
    let same : t ≡ t' = (sign_same (sym (ap after_blanks h.1) ∙ e) f).2 in
    let r = keys_one (subst (λ t. IsKeys (after_blanks t) ks r₁) same xs) ys n m in
    (ap (λ k. k ∷ ks) h.0 ∙ ap (λ ks. l ∷ ks) r.0, r.1)

module _ {limit : ℕ} where
  pub past_key : {l p q : ℕ} {k : Key} {text mid next : Text} → l ≤ limit → IsKey text k mid
      → StartsWith 46 (after_blanks mid) q next → DeepKeys limit l text p → DeepKeys limit (l + 1) (after_blanks next) p
  past_key h k s (deep.this_key g w) = absurd (omega (arith, h, g))
  past_key {l = l} {p = p} h k s (deep.later_key g w t d) =
      subst (λ (n : Text). DeepKeys limit (l + 1) (after_blanks n) p)
      (sym (sign_same (sym (ap after_blanks (key_same k w).1) ∙ s) t).2) d

  pub keys_within : {l p : ℕ} {ks : List Key} {text mid : Text} → IsKeys text ks mid → l + length ks - 1 ≤ limit
      → char_at 46 (after_blanks mid) ≡ None → DeepKeys limit l text p → ⊥
  keys_within (one k) h n (deep.this_key g w) = omega (arith, h, g)
  keys_within (one k) h n (deep.later_key g w s d) = no_such n (ap after_blanks (key_same k w).1 ∙ s)
  keys_within (more k s ks) h n (deep.this_key g w) = omega (arith, h, g)
  keys_within {l = l} (more k s ks) h n (deep.later_key g w t d) =
      keys_within {l = l + 1} ks (omega (arith, h)) n (past_key g k s (deep.later_key g w t d))

  -- from a row to its value
  pub past_equals : {l p q : ℕ} {ks : List Key} {text mid next : Text} → IsKeys text ks mid
      → l + length ks - 1 ≤ limit → StartsWith 61 (after_blanks mid) q next → DeepRow limit l text p
      → DeepValue limit (l + length ks - 1) (after_blanks next) p
  past_equals ks h s (deep.keys d) = absurd (keys_within ks h (ap (char_at 46) s) d)
  past_equals {l = l} {p = p} {next = next} ks h s (deep.value {keys = ls} {next = n} zs g t d) =
      let k = keys_one ks zs (ap (char_at 46) s) (ap (char_at 46) t) in
      let same : next ≡ n = (sign_same (sym (ap after_blanks k.1) ∙ s) t).2 in
      subst (λ (ks : List Key). DeepValue limit (l + length ks - 1) (after_blanks next) p) (sym k.0)
      (subst (λ (n : Text). DeepValue limit (l + length ls - 1) (after_blanks n) p) (sym same) d)

  pub no_equals : {l p : ℕ} {ks : List Key} {text mid : Text} → IsKeys text ks mid → l + length ks - 1 ≤ limit
      → char_at 46 (after_blanks mid) ≡ None → char_at 61 (after_blanks mid) ≡ None → DeepRow limit l text p → ⊥
  no_equals ks h n m (deep.keys d) = keys_within ks h n d
  no_equals ks h n m (deep.value zs g t d) =
      no_such m (ap after_blanks (keys_one ks zs n (ap (char_at 46) t)).1 ∙ t)

  -- from a value to what stands in its brackets
  pub at_bracket : {l p q : ℕ} {text next : Text} → StartsWith 91 text q next → DeepValue limit l text p
      → DeepArray limit (l + 1) q next p
  at_bracket {l = l} {p = p} {q = q} s (deep.array {next = n} t d) =
      let e = sign_same s t in
      subst (λ (n : Text). DeepArray limit (l + 1) q n p) (sym e.2)
      (subst (λ (q : ℕ). DeepArray limit (l + 1) q n p) (sym e.0) d)
  at_bracket s (deep.inline t d) = absurd (word_sign (λ c. c == 91) s refl t refl)

  pub at_brace : {l p q : ℕ} {text next : Text} → StartsWith 123 text q next → DeepValue limit l text p
      → DeepInline limit (l + 1) q next p
  at_brace s (deep.array t d) = absurd (word_sign (λ c. c == 123) s refl t refl)
  at_brace {l = l} {p = p} {q = q} s (deep.inline {next = n} t d) =
      let e = sign_same s t in
      subst (λ (n : Text). DeepInline limit (l + 1) q n p) (sym e.2)
      (subst (λ (q : ℕ). DeepInline limit (l + 1) q n p) (sym e.0) d)

  pub in_array : {l p q : ℕ} {text : Text} → l ≤ limit → DeepArray limit l q text p
      → DeepElements limit l (after_gap is_comment text) p
  in_array h (deep.this_bracket g) = absurd (omega (arith, h, g))
  in_array h (deep.elements g d) = d

  pub in_inline : {l p q : ℕ} {text : Text} → l ≤ limit → DeepInline limit l q text p
      → DeepFields limit l (after_blanks text) p
  in_inline h (deep.this_brace g) = absurd (omega (arith, h, g))
  in_inline h (deep.fields g d) = d

  -- no element stands at a closing bracket
  pub no_element : {l p q : ℕ} {text next : Text} → StartsWith 93 text q next → DeepElements limit l text p → ⊥
  no_element s (deep.this_element (deep.array t d)) = word_sign (λ c. c == 93) s refl t refl
  no_element s (deep.this_element (deep.inline t d)) = word_sign (λ c. c == 93) s refl t refl
  no_element s (deep.later_element w h t d) = heads_not (value_heads is_comment w) s refl

  -- past a value and a comma, and where no comma follows; likewise a row
  behind_value : {l p q r : ℕ} {v : Raw} {text mid next : Text} → IsValue is_comment text q v mid
      → (DeepValue limit l text p → ⊥) → StartsWith 44 (after_gap is_comment mid) r next → DeepElements limit l text p
      → DeepElements limit l (after_gap is_comment next) p
  behind_value v clear s (deep.this_element d) = absurd (clear d)
  behind_value {l = l} {p = p} v clear s (deep.later_element w g t d) =
      subst (λ (n : Text). DeepElements limit l (after_gap is_comment n) p)
      (sym (sign_same (sym (ap (after_gap is_comment) (value_same is_comment v w).2) ∙ s) t).2) d

  last_value : {l p q : ℕ} {v : Raw} {text mid : Text} → IsValue is_comment text q v mid
      → (DeepValue limit l text p → ⊥) → char_at 44 (after_gap is_comment mid) ≡ None → DeepElements limit l text p → ⊥
  last_value v clear n (deep.this_element d) = clear d
  last_value v clear n (deep.later_element w g t d) =
      no_such n (ap (after_gap is_comment) (value_same is_comment v w).2 ∙ t)

  behind_row : {l p q r : ℕ} {ks : List Key} {v : Raw} {text mid next : Text} → IsRow is_comment text ks q v mid
      → (DeepRow limit l text p → ⊥) → StartsWith 44 (after_blanks mid) r next → DeepFields limit l text p
      → DeepFields limit l (after_blanks next) p
  behind_row w clear s (deep.this_field d) = absurd (clear d)
  behind_row {l = l} {p = p} w clear s (deep.later_field x g t d) =
      subst (λ (n : Text). DeepFields limit l (after_blanks n) p)
      (sym (sign_same (sym (ap after_blanks (row_same is_comment w x).3) ∙ s) t).2) d

  last_row_in : {l p q : ℕ} {ks : List Key} {v : Raw} {text mid : Text} → IsRow is_comment text ks q v mid
      → (DeepRow limit l text p → ⊥) → char_at 44 (after_blanks mid) ≡ None → DeepFields limit l text p → ⊥
  last_row_in w clear n (deep.this_field d) = clear d
  last_row_in w clear n (deep.later_field x g t d) = no_such n (ap after_blanks (row_same is_comment w x).3 ∙ t)

  mutual
    pub value_within : {l p q : ℕ} {v : Raw} {text rest : Text} → IsValue is_comment text q v rest
        → value_level l v ≤ limit → DeepValue limit l text p → ⊥
    value_within (word_here s w e) h (deep.array t d) = word_sign is_wordlike s w t refl
    value_within (word_here s w e) h (deep.inline t d) = word_sign is_wordlike s w t refl
    value_within (string_here s) h (deep.array t d) = heads_not (string_heads s) t refl
    value_within (string_here s) h (deep.inline t d) = heads_not (string_heads s) t refl
    value_within (array_here s es) h (deep.array t (deep.this_bracket g)) = omega (arith, h, g)
    value_within {l = l} {p = p} (array_here s es) h (deep.array t (deep.elements g d)) =
        elements_within {l = l + 1} es (omega (arith, h))
        (subst (λ (n : Text). DeepElements limit (l + 1) (after_gap is_comment n) p) (sym (sign_same s t).2) d)
    value_within (array_here s es) h (deep.inline t d) = word_sign (λ c. c == 91) s refl t refl
    value_within (inline_here s rs) h (deep.array t d) = word_sign (λ c. c == 123) s refl t refl
    value_within (inline_here s rs) h (deep.inline t (deep.this_brace g)) = omega (arith, h, g)
    value_within {l = l} {p = p} (inline_here s rs) h (deep.inline t (deep.fields g d)) =
        fields_within {l = l + 1} rs (omega (arith, h))
        (subst (λ (n : Text). DeepFields limit (l + 1) (after_blanks n) p) (sym (sign_same s t).2) d)

    elements_within : {l p : ℕ} {es : Elements} {text rest : Text} → IsElements is_comment text es rest
        → elements_level l es ≤ limit → DeepElements limit l text p → ⊥
    elements_within (close s) h d = no_element s d
    elements_within (last v s) h d = last_value v (λ e. value_within v (omega (arith, h)) e) (ap (char_at 44) s) d
    elements_within (and_more v s es) h d =
        elements_within es (omega (arith, h)) (behind_value v (λ e. value_within v (omega (arith, h)) e) s d)

    pub row_within : {l p q : ℕ} {ks : List Key} {v : Raw} {text rest : Text} → IsRow is_comment text ks q v rest
        → rows_level l (row ks q v no_rows) ≤ limit → DeepRow limit l text p → ⊥
    row_within {l = l} {ks = keys} (assigned ks s v) h d =
        value_within {l = l + length keys - 1} v (omega (arith, h)) (past_equals ks (omega (arith, h)) s d)

    fields_within : {l p : ℕ} {rs : Rows} {text rest : Text} → IsFields is_comment text rs rest
        → rows_level l rs ≤ limit → DeepFields limit l text p → ⊥
    fields_within (none s) h d = heads_not (fields_head limit d) s refl
    fields_within (some rs) h d = fields_on_within rs h d

    fields_on_within : {l p : ℕ} {rs : Rows} {text rest : Text} → IsFieldsOn is_comment text rs rest
        → rows_level l rs ≤ limit → DeepFields limit l text p → ⊥
    fields_on_within (last_row r s) h d = last_row_in r (λ e. row_within r (omega (arith, h)) e) (ap (char_at 44) s) d
    fields_on_within (more_rows r s rs) h d =
        fields_on_within rs (omega (arith, h)) (behind_row r (λ e. row_within r (omega (arith, h)) e) s d)

  pub past_element : {l p q r : ℕ} {v : Raw} {text mid next : Text} → IsValue is_comment text q v mid
      → value_level l v ≤ limit → StartsWith 44 (after_gap is_comment mid) r next → DeepElements limit l text p
      → DeepElements limit l (after_gap is_comment next) p
  past_element v h s d = behind_value v (value_within v h) s d

  pub last_element : {l p q : ℕ} {v : Raw} {text mid : Text} → IsValue is_comment text q v mid
      → value_level l v ≤ limit → char_at 44 (after_gap is_comment mid) ≡ None → DeepElements limit l text p → ⊥
  last_element v h n d = last_value v (value_within v h) n d

  pub past_field : {l p q r : ℕ} {ks : List Key} {v : Raw} {text mid next : Text} → IsRow is_comment text ks q v mid
      → rows_level l (row ks q v no_rows) ≤ limit → StartsWith 44 (after_blanks mid) r next
      → DeepFields limit l text p → DeepFields limit l (after_blanks next) p
  past_field w h s d = behind_row w (row_within w h) s d

  pub last_field : {l p q : ℕ} {ks : List Key} {v : Raw} {text mid : Text} → IsRow is_comment text ks q v mid
      → rows_level l (row ks q v no_rows) ≤ limit → char_at 44 (after_blanks mid) ≡ None → DeepFields limit l text p
      → ⊥
  last_field w h n d = last_row_in w (row_within w h) n d

  -- in lines with rows
  pub past_empty_line : {l p : ℕ} {c : ℕ × ℕ} {text next : Text} → EndsLine is_comment (c ∷ text) next
      → DeepRows limit l (c ∷ text) p → DeepRows limit l next p
  past_empty_line {c = c} {text = text} e (deep.this_row d) =
      absurd (no_end (line_missed (c ∷ text) (row_head limit d)) e)
  past_empty_line {l = l} {p = p} e (deep.after_empty f d) =
      subst (λ (n : Text). DeepRows limit l n p) (sym (ends_same is_comment e f)) d
  past_empty_line e (deep.later_row w h f d) = absurd (row_or_end is_comment w e)

  pub past_row : {l p q : ℕ} {ks : List Key} {v : Raw} {text mid next : Text}
      → IsRow is_comment (after_blanks text) ks q v mid → rows_level l (row ks q v no_rows) ≤ limit
      → EndsLine is_comment mid next → DeepRows limit l text p → DeepRows limit l next p
  past_row w h e (deep.this_row d) = absurd (row_within w h d)
  past_row w h e (deep.after_empty f d) = absurd (row_or_end is_comment w f)
  past_row {l = l} {p = p} {next = next} w h e (deep.later_row x g f d) =
      let m = ends_same is_comment (subst (λ (t : Text). EndsLine is_comment t next) (row_same is_comment w x).3 e) f in
      subst (λ (n : Text). DeepRows limit l n p) (sym m) d

  -- a row whose line does not end
  pub last_row_line : {l p q : ℕ} {ks : List Key} {v : Raw} {text mid : Text}
      → IsRow is_comment (after_blanks text) ks q v mid → rows_level l (row ks q v no_rows) ≤ limit
      → line_end_at mid ≡ None → DeepRows limit l text p → ⊥
  last_row_line w h n (deep.this_row d) = row_within w h d
  last_row_line w h n (deep.after_empty f d) = row_or_end is_comment w f
  last_row_line w h n (deep.later_row x g f d) =
      no_end (ap line_end_at (sym (row_same is_comment w x).3) ∙ n) f

  -- a line of another kind
  pub no_row_line : {l p q c : ℕ} {text next : Text} → StartsWith c (after_blanks text) q next
      → ((mid : Text) → EndsLine is_comment text mid → ⊥) → begins_key c ≡ false
      → DeepRows limit l text p → ⊥
  no_row_line s n e (deep.this_row d) = heads_not (row_head limit d) s e
  no_row_line s n e (deep.after_empty f d) = n _ f
  no_row_line s n e (deep.later_row w h f d) = heads_not (row_heads is_comment w) s e

  pub no_row_at_end : {l p : ℕ} → DeepRows limit l [] p → ⊥
  no_row_at_end (deep.this_row d) = let h = row_head limit d in no_sign refl h.sign
  no_row_at_end (deep.later_row w h e d) = no_row is_comment w

  pub rows_within : {l p : ℕ} {rs : Rows} {text rest : Text} → IsRows is_comment text rs rest → rows_level l rs ≤ limit
      → DeepRows limit l text p → ⊥
  rows_within over h d = no_row_at_end d
  rows_within (header_next s) h d = no_row_line s (λ mid e. bracket_or_end is_comment s e) refl d
  rows_within (empty_line e xs) h d = rows_within xs h (past_empty_line e d)
  rows_within (row_line w e xs) h d = rows_within xs (omega (arith, h)) (past_row w (omega (arith, h)) e d)

  -- in headers
  pub table_keys : {p q : ℕ} {text next : Text} → StartsWith 91 text q next → char_at 91 next ≡ None
      → DeepHeader limit text p → DeepKeys limit 2 (after_blanks next) p
  table_keys {p = p} s n (deep.table t d) =
      subst (λ (n : Text). DeepKeys limit 2 (after_blanks n) p) (sym (sign_same s t).2) d
  table_keys s n (deep.array_of_tables t u d) = absurd (no_such n ((sign_same s t).2 ∙ u))

  pub array_keys : {p q r : ℕ} {text next inner : Text} → StartsWith 91 text q next → StartsWith 91 next r inner
      → DeepHeader limit text p → DeepKeys limit 2 (after_blanks inner) p
  array_keys s u (deep.table t d) =
      absurd (heads_not (keys_head limit d) (ap after_blanks (sym (sign_same s t).2 ∙ u)) refl)
  array_keys {p = p} s u (deep.array_of_tables t w d) =
      subst (λ (n : Text). DeepKeys limit 2 (after_blanks n) p)
      (sym (sign_same (sym (sign_same s t).2 ∙ u) w).2) d

  pub no_header_there : {p : ℕ} {text : Text} → char_at 91 text ≡ None → DeepHeader limit text p → ⊥
  no_header_there n (deep.table t d) = no_such n t
  no_header_there n (deep.array_of_tables t u d) = no_such n t

  pub header_within : {p q : ℕ} {ks : List Key} {a : Bool} {text rest : Text} → IsHeader text q ks a rest
      → length ks + 1 ≤ limit → DeepHeader limit text p → ⊥
  header_within {p = p} (table s ks e) h (deep.table t d) =
      keys_within ks (omega (arith, h)) (ap (char_at 46) e)
      (subst (λ (n : Text). DeepKeys limit 2 (after_blanks n) p) (sym (sign_same s t).2) d)
  header_within (table s ks e) h (deep.array_of_tables t u d) =
      heads_not (keys_heads ks) (ap after_blanks ((sign_same s t).2 ∙ u)) refl
  header_within (array_of_tables s u ks e f) h d =
      keys_within ks (omega (arith, h)) (ap (char_at 46) e) (array_keys s u d)

  -- in sections
  pub past_header : {p q : ℕ} {ks : List Key} {a : Bool} {text mid next : Text} → IsHeader text q ks a mid
      → length ks + 1 ≤ limit → EndsLine is_comment mid next → DeepSection limit text p
      → DeepRows limit (length ks + 1) next p
  past_header w h e (deep.header d) = absurd (header_within w h d)
  past_header {p = p} {next = next} w h e (deep.rows {keys = ls} x g f d) =
      let k = header_same w x in
      let m = ends_same is_comment (subst (λ (t : Text). EndsLine is_comment t next) k.3 e) f in
      subst (λ (ks : List Key). DeepRows limit (length ks + 1) next p) (sym k.1)
      (subst (λ (n : Text). DeepRows limit (length ls + 1) n p) (sym m) d)

  pub section_within : {p q : ℕ} {ks : List Key} {a : Bool} {rs : Rows} {text mid next rest : Text}
      → IsHeader text q ks a mid → EndsLine is_comment mid next → IsRows is_comment next rs rest
      → section_level (record { at = q; header = ks; is_array = a; rows = rs }) ≤ limit → DeepSection limit text p → ⊥
  section_within w e rs h d = rows_within rs (omega (arith, h)) (past_header w (omega (arith, h)) e d)

  pub past_section : {p q : ℕ} {ks : List Key} {a : Bool} {rs : Rows} {text mid next rest : Text}
      → IsHeader (after_blanks text) q ks a mid → EndsLine is_comment mid next → IsRows is_comment next rs rest
      → section_level (record { at = q; header = ks; is_array = a; rows = rs }) ≤ limit → DeepSections limit text p
      → DeepSections limit rest p
  past_section w e rs h (deep.this_section d) = absurd (section_within w e rs h d)
  past_section {p = p} {rs = rows} {next = next} {rest = rest} w e rs h (deep.later_section x f ss g d) =
      let k = header_same w x in
      let m = ends_same is_comment (subst (λ (t : Text). EndsLine is_comment t next) k.3 e) f in
      let n = (rows_same is_comment (subst (λ (t : Text). IsRows is_comment t rows rest) m rs) ss).1 in
      subst (λ (t : Text). DeepSections limit t p) (sym n) d

  pub past_root : {p : ℕ} {rs : Rows} {text rest : Text} → IsRows is_comment text rs rest → rows_level 1 rs ≤ limit
      → DeepStop limit text p → DeepSections limit rest p
  past_root rs h (deep.root d) = absurd (rows_within rs h d)
  past_root {p = p} rs h (deep.headed ss g d) =
      subst (λ (t : Text). DeepSections limit t p) (sym (rows_same is_comment rs ss).1) d

  -- in a text of the grammar
  sections_within : {p : ℕ} {ss : List Section} {text : Text} → IsSections is_comment text ss
      → highest_level ss ≤ limit → DeepSections limit text p → ⊥
  sections_within no_more h (deep.this_section (deep.header (deep.table s d))) = no_sign refl s
  sections_within no_more h (deep.this_section (deep.header (deep.array_of_tables s t d))) = no_sign refl s
  sections_within no_more h (deep.this_section (deep.rows w g e d)) = no_header w
  sections_within no_more h (deep.later_section w e rs g d) = no_header w
  sections_within (section w e rs ss) h d =
      sections_within ss (omega (arith, h)) (past_section w e rs (omega (arith, h)) d)

  list_within : {p : ℕ} {sections : List Section} {text : Text} → IsSectionList text sections
      → highest_level sections ≤ limit → DeepStop limit text p → ⊥
  list_within g h d =
      let low = levels g.rows (omega (arith, ap highest_level g.all, h)) in
      sections_within g.others low.1 (past_root g.root low.0 d)
    where
      levels : (rs : Rows) → highest_level (with_root rs g.headed) ≤ limit
          → (rows_level 1 rs ≤ limit) × (highest_level g.headed ≤ limit)
      levels no_rows h = (omega arith, h)
      levels (row ks at v rs) h = (omega (arith, h), omega (arith, h))

pub deep_stops_pass_the_limit : DeepStopsPassTheLimit
deep_stops_pass_the_limit limit p text sections g d = go (nat_le (highest_level sections) limit) refl
  where
    go : (b : Bool) → nat_le (highest_level sections) limit ≡ b → limit < highest_level sections
    go true e = absurd (list_within g (leb-true (highest_level sections) limit e) d)
    go false e = leb-false (highest_level sections) limit e
