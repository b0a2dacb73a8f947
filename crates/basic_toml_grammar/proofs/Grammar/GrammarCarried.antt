-- Keys, values, rows, line ends and headers before a character are the same, whatever stands after that character.
use Rattle.std.proofs.Common.{◌≡◌, ℕ, ◌<◌, ◌==◌, ◌||◌, Bool, true, false, List, [], ◌∷◌, refl, ap, sym, ◌∙◌, subst, arith}
use Rattle.std.proofs.Common.{◌+◌, encode_utf8_all}
use Rattle.std.specs.Prelude.{position, not, nat_le}
use Rattle.std.proofs.lemmas.Bool.{false≢true, or_left, or_right, or_from, or_cases, and_from, ne_eqb, le-leb}
use Rattle.std.proofs.lemmas.Bool.Decides.{nat_tests}
use Rattle.basic_toml_tokens.specs.Text.{Text, StartsWith, run, is_blank, is_keylike, is_comment, after_blanks}
use Rattle.basic_toml_grammar.specs.Sections.{Key, Raw, Elements, Rows}
use Rattle.basic_toml_grammar.specs.Copies.{needs_copy}
use Rattle.basic_toml_grammar.specs.Grammar.{IsKey, bare, quoted, IsKeys, more, is_wordlike, word_value, word_offset}
use Rattle.basic_toml_grammar.specs.Grammar.{after_comment_by, after_gap, IsValue, word, string, array, inline}
use Rattle.basic_toml_grammar.specs.Grammar.{IsElements, close, last, and_more, IsFields, some, IsFieldsOn}
use Rattle.basic_toml_grammar.specs.Grammar.{last_row, more_rows, IsRow, assigned, EndsLine, at_feed, at_end, IsRows}
use Rattle.basic_toml_grammar.specs.Grammar.{over, header_next, empty_line, row_line, IsHeader, table}
use Rattle.basic_toml_grammar.specs.Grammar.{array_of_tables, to_period}
use Rattle.basic_toml_grammar.proofs.Grammar.EndChangesNothing.{Parts, at_end, stops, Ends}
use Rattle.basic_toml_grammar.proofs.Grammar.EndChangesNothing.{same_ends, Cut, Kept, kept, Carried, carried}
use Rattle.basic_toml_grammar.proofs.Grammar.EndChangesNothing.{up_to_same}
use Rattle.basic_toml_grammar.proofs.Grammar.EndChangesNothing.{run_to, comment_to, gap_to, begins_gap, in_gap, Clear}
use Rattle.basic_toml_grammar.proofs.Grammar.EndChangesNothing.{same_clear, keys_join, words_join, sign_carried}
use Rattle.basic_toml_grammar.proofs.Grammar.EndChangesNothing.{begun_carried, blanks_carried, gap_carried, Spaced}
use Rattle.basic_toml_grammar.proofs.Grammar.EndChangesNothing.{ends, blanks_join}
use Rattle.basic_toml_grammar.proofs.Grammar.StringsCarried.{string_carried}
use Rattle.basic_toml_grammar.proofs.Grammar.GrammarIsUnambiguous.{Heads, value_heads, no_sign, no_row}
use Rattle.basic_toml_grammar.specs.Holes.{begins_value}

-- the offset of a word's value goes by the word
offset_same : (v : Raw) (p : ℕ) (text other : Text) → run is_wordlike text ≡ run is_wordlike other
    → word_offset v p text ≡ word_offset v p other
offset_same (Raw.float t) p text other e =
    ap (λ (cs : List ℕ). p + to_period
    (position (λ c. c == 46) cs)) e
offset_same (Raw.integer z) p text other e = refl
offset_same (Raw.boolean b) p text other e = refl
offset_same (Raw.string t _) p text other e = refl
offset_same (Raw.array es) p text other e = refl
offset_same (Raw.inline rs) p text other e = refl

-- What is seen begins with a character that a comment may hold; so no comment ends there.
abbrev pub Seen : Text → Type 0
Seen text = stops is_comment text ≡ false

pub seen_clear : (here there : Text) → Seen here → stops begins_gap there ≡ true → Clear is_comment here there
seen_clear here there a b = record { outside = λ s. b; inside = λ s. absurd (go here a s) }
  where
    go : (t : Text) → Seen t → stops (in_gap is_comment) t ≡ true → ⊥
    go [] a s = false≢true (sym a)
    go (x ∷ t) a s = by (is_comment x.1) a s
      where
        by : (b : Bool) → not b ≡ false → not (x.1 == 10 || b) ≡ true → ⊥
        by false a s = false≢true (sym a)
        by true a s = end (x.1 == 10) s
          where
            end : (d : Bool) → not (d || true) ≡ true → ⊥
            end true s = false≢true s
            end false s = false≢true s

-- what an array goes on with
abbrev pub begins_element : ℕ → Bool
begins_element c = begins_value c || c == 93

element_range : (c : ℕ) → begins_element c ≡ true → (32 < c) × (c < 127)
element_range c e = (grind (arith, nat_tests, or_cases), grind (arith, nat_tests, or_cases))

no_hash : (c : ℕ) → begins_element c ≡ true → (c == 35) ≡ false
no_hash c e = ne_eqb c 35 (λ h. false≢true (ap begins_element (sym h) ∙ e))

pub element_seen : (c : ℕ) → begins_element c ≡ true → is_comment c ≡ true
element_seen c e =
    let r = element_range c e in
    or_right (c == 9) _ (and_from (nat_le 32 c) (not (c == 127)) (le-leb 32 c (omega (arith, r.0)))
    (ap not (ne_eqb c 127 (λ h. omega (arith, r.1, h)))))

element_apart : (c : ℕ) → begins_element c ≡ true → begins_gap c ≡ false
element_apart c e =
    let r = element_range c e in
    let blank : is_blank c ≡ false = or_from (c == 32) (c == 9) (ne_eqb c 32 (λ h. omega (arith, r.0, h)))
    (ne_eqb c 9 (λ h. omega (arith, r.0, h))) in
    or_from (is_blank c || c == 10) (c == 35)
    (or_from (is_blank c) (c == 10) blank (ne_eqb c 10 (λ h. omega (arith, r.0, h)))) (no_hash c e)

pub heads_clear : {here there : Text} → Heads begins_element here → Heads begins_element there
    → Clear is_comment here there
heads_clear {here = here} {there = there} h k = seen_clear here there
    (ap (stops is_comment) h.sign ∙ ap not (element_seen h.char h.kind))
    (ap (stops begins_gap) k.sign ∙ ap not (element_apart k.char k.kind))

pub elements_heads : {text rest : Text} {es : Elements} → IsElements is_comment text es rest
    → Heads begins_element text
elements_heads (close {p = p} {rest = rest} s) =
    record { offset = p; char = 93; next = rest; sign = s; kind = refl }
elements_heads (last v s) = let h = value_heads is_comment v in
    record { offset = h.offset; char = h.char; next = h.next; sign = h.sign; kind = or_left _ _ h.kind }
elements_heads (and_more v s es) = let h = value_heads is_comment v in
    record { offset = h.offset; char = h.char; next = h.next; sign = h.sign; kind = or_left _ _ h.kind }

-- an empty line before lines
pub line_before : {next rest : Text} {rs : Rows} (text : Text) → EndsLine is_comment text next
    → IsRows is_comment next rs rest → IsRows is_comment text rs rest
line_before [] (at_feed s) xs = absurd (no_sign refl s)
line_before [] (at_end e) xs = xs
line_before (x ∷ text) e xs = empty_line e xs

-- no lines lead from the end to more
pub rows_some : {text rest : Text} {rs : Rows} → IsRows is_comment text rs rest → (rest ≡ [] → ⊥) → text ≡ [] → ⊥
rows_some over more_on e = more_on e
rows_some (header_next s) more_on e = more_on e
rows_some (empty_line {c = c} {text = text} l xs) more_on e = let none : c ∷ text ≡ [] = e in cc
rows_some (row_line {keys = ks} {p = p} {v = v} {text = text} {mid = mid} x l xs) more_on e =
    no_row is_comment (subst (λ (t : Text). IsRow is_comment (after_blanks t) ks p v mid) e x)

module _ {here there : Text} where
  pub key_carried : {text rest rest' : Text} {k : Key} → IsKey text k rest → Cut here there rest rest'
      → Carried here there text (λ t. IsKey t k rest')
  key_carried {rest' = rest'} (bare {p = q} {text = text} s w) c =
      let r = begun_carried is_keylike keys_join s w c in
      let (t, s') = r.holds.2 in
      record {
        other = r.other;
        cut = r.cut;
        holds = subst (λ (cs : List ℕ). IsKey r.other (record { offset = q; text = cs }) rest') r.holds.1
            (subst (λ (t : Text). IsKey r.other (record { offset = q; text = run is_keylike r.other }) t) r.holds.0
            (bare s' w));
      }
  key_carried (quoted s) c =
      let r = string_carried s c in record { other = r.other; cut = r.cut; holds = quoted r.holds }

  -- a sign between blanks, or between gaps
  pub sign_spaced : {c q : ℕ} {rest' : Text} (text next : Text) → StartsWith c (after_blanks text) q next
      → Parts here there (after_blanks next) rest' → Ends is_blank (after_blanks next) rest'
      → Carried here there text (Spaced after_blanks c q rest')
  sign_spaced text next s k e =
      let n = kept (run_to is_blank next refl e) k in
      let g = sign_carried s n.parts in
      let t = blanks_carried text g.cut in
      record {
        other = t.other;
        cut = t.cut;
        holds = record { next = n.other; sign = t.holds ∙ g.holds; on = n.holds.0 };
      }

  pub sign_among_blanks : {c q : ℕ} {rest' : Text} (text next : Text) → StartsWith c (after_blanks text) q next
      → Cut here there (after_blanks next) rest' → Carried here there text (Spaced after_blanks c q rest')
  sign_among_blanks text next s k = sign_spaced text next s k.parts (ends is_blank blanks_join k.meets)

  pub sign_after_blanks : {c q : ℕ} {rest rest' : Text} (text : Text) → StartsWith c (after_blanks text) q rest
      → Cut here there rest rest' → Carried here there text (λ t. StartsWith c (after_blanks t) q rest')
  sign_after_blanks text s k =
      let g = sign_carried s k.parts in
      let r = blanks_carried text g.cut in
      record { other = r.other; cut = r.cut; holds = r.holds ∙ g.holds }

  pub keys_carried : {text rest rest' : Text} {ks : List Key} → IsKeys text ks rest → Cut here there rest rest'
      → Carried here there text (λ t. IsKeys t ks rest')
  keys_carried (IsKeys.one k) c =
      let r = key_carried k c in record { other = r.other; cut = r.cut; holds = IsKeys.one r.holds }
  keys_carried {rest' = rest'} (more {mid = mid} {next = next} {keys = ks} k s xs) c =
      let x = keys_carried xs c in
      let m = sign_among_blanks mid next s x.cut in
      let r = key_carried k m.cut in
      record {
        other = r.other;
        cut = r.cut;
        holds = more r.holds m.holds.sign (subst (λ (t : Text). IsKeys t ks rest') (sym m.holds.on) x.holds);
      }

  pub sign_among_gaps : {c q : ℕ} {rest' : Text} (text next : Text)
      → StartsWith c (after_gap is_comment text) q next → Parts here there (after_gap is_comment next) rest'
      → Clear is_comment (after_gap is_comment next) rest'
      → Carried here there text (Spaced (after_gap is_comment) c q rest')
  sign_among_gaps text next s k clear =
      let n = kept (gap_to is_comment false next refl clear) k in
      let g = sign_carried s n.parts in
      let t = gap_carried is_comment text g.cut (same_clear s g.holds) in
      record {
        other = t.other;
        cut = t.cut;
        holds = record { next = n.other; sign = t.holds ∙ g.holds; on = n.holds };
      }

  sign_after_gap : {c q : ℕ} {rest rest' : Text} (text : Text) → StartsWith c (after_gap is_comment text) q rest
      → Parts here there rest rest' → Carried here there text (λ t. StartsWith c (after_gap is_comment t) q rest')
  sign_after_gap text s k =
      let g = sign_carried s k in
      let r = gap_carried is_comment text g.cut (same_clear s g.holds) in
      record { other = r.other; cut = r.cut; holds = r.holds ∙ g.holds }

  mutual
    pub value_carried : {text rest rest' : Text} {q : ℕ} {v : Raw} → IsValue is_comment text q v rest
        → Cut here there rest rest' → Carried here there text (λ t. IsValue is_comment t q v rest')
    value_carried {rest' = rest'} (word {p = q} {v = v} {text = text} s w e) c =
        let r = begun_carried is_wordlike words_join s w c in
        let (t, s') = r.holds.2 in
        record {
          other = r.other;
          cut = r.cut;
          holds = subst (λ (o : ℕ). IsValue is_comment r.other o v rest') (offset_same v q r.other text r.holds.1)
              (subst (λ (t : Text). IsValue is_comment r.other (word_offset v q r.other) v t) r.holds.0
              (word s' w (ap word_value r.holds.1 ∙ e)));
        }
    value_carried {rest' = rest'} (string {p = p} {m = m} {value = value} s) c =
        let r = string_carried s c in
        record {
          other = r.other;
          cut = r.cut;
          holds = subst (λ (source : Text). IsValue is_comment r.other p
              (Raw.string (encode_utf8_all value) (needs_copy m source)) rest')
              (up_to_same r.cut.parts c.parts) (string r.holds);
        }
    value_carried {rest' = rest'} (array {elements = es} {next = next} s xs) c =
        let x = elements_carried xs c in
        let g = gap_carried is_comment next x.cut (heads_clear (elements_heads xs) (elements_heads x.holds)) in
        let r = sign_carried s g.cut.parts in
        record {
          other = r.other;
          cut = r.cut;
          holds = array r.holds (subst (λ (t : Text). IsElements is_comment t es rest') (sym g.holds) x.holds);
        }
    value_carried {rest' = rest'} (inline {rows = rs} {next = next} s xs) c =
        let x = fields_carried xs c in
        let g = blanks_carried next x.cut in
        let r = sign_carried s g.cut.parts in
        record {
          other = r.other;
          cut = r.cut;
          holds = inline r.holds (subst (λ (t : Text). IsFields is_comment t rs rest') (sym g.holds) x.holds);
        }

    pub elements_carried : {text rest rest' : Text} {es : Elements} → IsElements is_comment text es rest
        → Cut here there rest rest' → Carried here there text (λ t. IsElements is_comment t es rest')
    elements_carried (close s) c =
        let r = sign_carried s c.parts in record { other = r.other; cut = r.cut; holds = close r.holds }
    elements_carried (last {mid = mid} v s) c =
        let g = sign_after_gap mid s c.parts in
        let r = value_carried v g.cut in
        record { other = r.other; cut = r.cut; holds = last r.holds g.holds }
    elements_carried {rest' = rest'} (and_more {elements = es} {mid = mid} {next = next} v s xs) c =
        let x = elements_carried xs c in
        let m = sign_among_gaps mid next s x.cut.parts (heads_clear (elements_heads xs) (elements_heads x.holds))
        in
        let r = value_carried v m.cut in
        record {
          other = r.other;
          cut = r.cut;
          holds = and_more r.holds m.holds.sign
              (subst (λ (t : Text). IsElements is_comment t es rest') (sym m.holds.on) x.holds);
        }

    pub fields_carried : {text rest rest' : Text} {rs : Rows} → IsFields is_comment text rs rest
        → Cut here there rest rest' → Carried here there text (λ t. IsFields is_comment t rs rest')
    fields_carried (IsFields.none s) c =
        let r = sign_carried s c.parts in record { other = r.other; cut = r.cut; holds = IsFields.none r.holds }
    fields_carried (some xs) c =
        let r = more_fields_carried xs c in record { other = r.other; cut = r.cut; holds = some r.holds }

    more_fields_carried : {text rest rest' : Text} {rs : Rows} → IsFieldsOn is_comment text rs rest
        → Cut here there rest rest' → Carried here there text (λ t. IsFieldsOn is_comment t rs rest')
    more_fields_carried (last_row {mid = mid} r s) c =
        let g = sign_after_blanks mid s c in
        let x = row_carried r g.cut in
        record { other = x.other; cut = x.cut; holds = last_row x.holds g.holds }
    more_fields_carried {rest' = rest'} (more_rows {rows = rs} {mid = mid} {next = next} r s xs) c =
        let x = more_fields_carried xs c in
        let m = sign_among_blanks mid next s x.cut in
        let y = row_carried r m.cut in
        record {
          other = y.other;
          cut = y.cut;
          holds = more_rows y.holds m.holds.sign
              (subst (λ (t : Text). IsFieldsOn is_comment t rs rest') (sym m.holds.on) x.holds);
        }

    pub row_carried : {text rest rest' : Text} {ks : List Key} {q : ℕ} {v : Raw} → IsRow is_comment text ks q v rest
        → Cut here there rest rest' → Carried here there text (λ t. IsRow is_comment t ks q v rest')
    row_carried {rest' = rest'} (assigned {p = q} {v = v} {mid = mid} {next = next} ks s x) c =
        let y = value_carried x c in
        let m = sign_among_blanks mid next s y.cut in
        let r = keys_carried ks m.cut in
        record {
          other = r.other;
          cut = r.cut;
          holds = assigned r.holds m.holds.sign
              (subst (λ (t : Text). IsValue is_comment t q v rest') (sym m.holds.on) y.holds);
        }

  -- the end of a line that is not the last
  pub line_carried : {text rest rest' : Text} → EndsLine is_comment text rest → (rest ≡ [] → ⊥)
      → Parts here there rest rest' → Carried here there text (λ t. EndsLine is_comment t rest')
  line_carried (at_feed {text = text} s) more_on k =
      let g = sign_carried s k in
      let m = carried (comment_to is_comment (after_blanks text) refl (same_ends (λ c. c == 35) s g.holds)
      (same_ends is_comment s g.holds)) g.cut in
      let r = blanks_carried text m.cut in
      record {
        other = r.other;
        cut = r.cut;
        holds = at_feed (ap (after_comment_by is_comment) r.holds ∙ m.holds ∙ g.holds);
      }
  line_carried (at_end e) more_on k = absurd (more_on refl)

  -- lines with rows up to a header
  pub rows_carried : {text rest rest' : Text} {rs : Rows} → IsRows is_comment text rs rest → (rest ≡ [] → ⊥)
      → Parts here there rest rest' → (q : ℕ) (next : Text) → StartsWith 91 (after_blanks rest') q next
      → Kept here there text (λ t. IsRows is_comment t rs rest')
  rows_carried over more_on k q next h = absurd (more_on refl)
  rows_carried {rest' = rest'} (header_next s) more_on k q next h =
      record { other = rest'; parts = k; holds = header_next h }
  rows_carried (empty_line e xs) more_on k q next h =
      let m = rows_carried xs more_on k q next h in
      let r = line_carried e (rows_some xs more_on) m.parts in
      record { other = r.other; parts = r.cut.parts; holds = line_before r.other r.holds m.holds }
  rows_carried (row_line {keys = ks} {p = o} {v = v} {text = text} x e xs) more_on k q next h =
      let m = rows_carried xs more_on k q next h in
      let i = line_carried e (rows_some xs more_on) m.parts in
      let y = row_carried x i.cut in
      let r = blanks_carried text y.cut in
      record {
        other = r.other;
        parts = r.cut.parts;
        holds = row_line (subst (λ (t : Text). IsRow is_comment t ks o v i.other) (sym r.holds) y.holds) i.holds
            m.holds;
      }

  pub header_carried : {text rest rest' : Text} {q : ℕ} {ks : List Key} {a : Bool} → IsHeader text q ks a rest
      → Cut here there rest rest' → Carried here there text (λ t. IsHeader t q ks a rest')
  header_carried (table {keys = ks} {next = next} {mid = mid} s xs e) c =
      let g = sign_after_blanks mid e c in
      let k = keys_carried xs g.cut in
      let b = blanks_carried next k.cut in
      let r = sign_carried s b.cut.parts in
      record {
        other = r.other;
        cut = r.cut;
        holds = table r.holds (subst (λ (t : Text). IsKeys t ks g.other) (sym b.holds) k.holds) g.holds;
      }
  header_carried (array_of_tables {keys = ks} {inner = inner} {mid = mid} s t xs e f) c =
      let l = sign_carried f c.parts in
      let g = sign_after_blanks mid e l.cut in
      let k = keys_carried xs g.cut in
      let b = blanks_carried inner k.cut in
      let i = sign_carried t b.cut.parts in
      let r = sign_carried s i.cut.parts in
      record {
        other = r.other;
        cut = r.cut;
        holds = array_of_tables r.holds i.holds (subst (λ (t : Text). IsKeys t ks g.other) (sym b.holds) k.holds)
            g.holds l.holds;
      }
