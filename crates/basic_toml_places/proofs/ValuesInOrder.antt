-- The values of each part of the grammar begin in order.
use Rattle.std.proofs.Common.{◌≡◌, ℕ, suc, ◌+◌, ◌≤◌, ◌==◌, Bool, true, false, cond, List, [], ◌∷◌, ◌++◌, length, refl}
use Rattle.std.proofs.Common.{ap, sym, subst, arith, Option, Some, None}
use Rattle.std.specs.Prelude.{ℤ, codes, position, nat_lt}
use Rattle.std.specs.List.{position_or_len}
use Rattle.std.specs.Str.{bytes_eq}
use Rattle.std.proofs.lemmas.Bool.{ltb-true}
use Rattle.basic_toml_tokens.specs.Text.{Text, run, after_run, is_blank}
use Rattle.basic_toml_tokens.specs.Strings.{Quotes, Opens, one_line, multiline}
use Rattle.basic_toml_numbers.specs.Numbers.{integer_of, float_of}
use Rattle.basic_toml_grammar.specs.Sections.{Key, Raw, Elements, Rows, no_rows, row, Section}
use Rattle.basic_toml_grammar.specs.Grammar.{is_wordlike, number_value, word_value, to_period, word_offset}
use Rattle.basic_toml_grammar.specs.Grammar.{IsValue, word, string, array, inline, IsElements, close, last, and_more}
use Rattle.basic_toml_grammar.specs.Grammar.{IsFields, some, IsFieldsOn, last_row, more_rows, IsRow, assigned}
use Rattle.basic_toml_grammar.specs.Grammar.{IsRows, over, header_next, empty_line, row_line, IsHeader, table}
use Rattle.basic_toml_grammar.specs.Grammar.{array_of_tables, IsSections, no_more, section, with_root}
use Rattle.basic_toml_grammar.specs.Grammar.{IsSectionListBy}
use Rattle.basic_toml_grammar.proofs.Grammar.RestsAreEnds.{ends_on, sign_ends, run_ends, gap_ends, string_ends}
use Rattle.basic_toml_grammar.proofs.Grammar.RestsAreEnds.{keys_end, spaced_sign_ends, line_ends}
use Rattle.basic_toml_places.specs.Places.{offsets_within, element_offsets, row_offsets, value_offsets}
use Rattle.basic_toml_places.proofs.OffsetsRise.{Rises, end_rises, sign_rises, rises_behind_sign}
use Rattle.basic_toml_places.proofs.OffsetsRise.{rises_from_sign, run_rises, line_rises}
use Rattle.basic_toml_places.proofs.OffsetsInOrder.{Between, between_append, IsInOrder, none_in_order, then_in_order}

-- no value stands within a word
number_holds_none : (z : Option ℤ) (t : Option (List ℕ)) (v : Raw) → number_value z t ≡ Some v → offsets_within v ≡ []
number_holds_none (Some z) t v e = let same : Raw.integer z ≡ v = cc in ap offsets_within (sym same)
number_holds_none None (Some t) v e = let same : Raw.float t ≡ v = cc in ap offsets_within (sym same)
number_holds_none None None v e = cc

word_holds_none : (w : List ℕ) (v : Raw) → word_value w ≡ Some v → offsets_within v ≡ []
word_holds_none w v e = go (bytes_eq w (codes "true")) (bytes_eq w (codes "false")) e
  where
    go : (a b : Bool) → cond a (Some (Raw.boolean true))
        (cond b (Some (Raw.boolean false)) (number_value (integer_of w) (float_of w))) ≡ Some v
        → offsets_within v ≡ []
    go true b e = let same : Raw.boolean true ≡ v = cc in ap offsets_within (sym same)
    go false true e = let same : Raw.boolean false ≡ v = cc in ap offsets_within (sym same)
    go false false e = number_holds_none (integer_of w) (float_of w) v e

-- a word has the offset of one of its characters, or of what stands behind it
period_within : (f : ℕ → Bool) (w : List ℕ) → to_period (position f w) ≤ length w
period_within f w = go (nat_lt (position_or_len f w) (length w)) refl
  where
    go : (b : Bool) → nat_lt (position_or_len f w) (length w) ≡ b
        → to_period (cond b (Some (position_or_len f w)) None) ≤ length w
    go true e = omega (arith, ltb-true _ _ e)
    go false e = omega arith

word_within : (v : Raw) (p : ℕ) (text : Text)
    → (p ≤ word_offset v p text) × (word_offset v p text ≤ p + length (run is_wordlike text))
word_within (Raw.float t) p text = (omega arith, omega (arith, period_within (λ c. c == 46) (run is_wordlike text)))
word_within (Raw.integer z) p text = (omega arith, omega arith)
word_within (Raw.boolean b) p text = (omega arith, omega arith)
word_within (Raw.string t _) p text = (omega arith, omega arith)
word_within (Raw.array es) p text = (omega arith, omega arith)
word_within (Raw.inline rows) p text = (omega arith, omega arith)

-- a value with none within it, and its rest
alone_in_order : {rest : Text} (n at end : ℕ) → n ≤ at → at ≤ end → Rises end rest → IsInOrder n (at ∷ []) rest
alone_in_order n at end h k r = record { end = end; between = (h, omega arith); behind = r }

-- a string begins at its first character
quotes_rise : {text body : Text} {p : ℕ} {k : Quotes} (n : ℕ) → Opens text p k body → Rises n text
    → (n ≤ p) × Rises p text
quotes_rise n (one_line s q e) r = ((sign_rises n s r).0, rises_from_sign n s r)
quotes_rise n (multiline s q e) r = ((sign_rises n s r).0, rises_from_sign n s r)

module _ (comment : ℕ → Bool) where
  mutual
    value_in_order : {text rest : Text} {p : ℕ} {v : Raw} (n : ℕ) → IsValue comment text p v rest → Rises n text
        → IsInOrder n (p ∷ offsets_within v) rest
    value_in_order n (word {p = p} {v = v} {text = text} s w e) r =
        let at : ℕ = word_offset v p text in
        let within = word_within v p text in
        let first = sign_rises n s r in
        subst (λ (xs : List ℕ). IsInOrder n (at ∷ xs) (after_run is_wordlike text))
        (sym (word_holds_none (run is_wordlike text) v e))
        (alone_in_order n at (p + length (run is_wordlike text)) (omega (arith, first.0, within.0)) within.1
        (run_rises is_wordlike p text (rises_from_sign n s r)))
    value_in_order n (string {p = p} s) r =
        let at = quotes_rise n s.opens r in
        alone_in_order n p p at.0 (omega arith) (end_rises p (string_ends s) at.1)
    value_in_order n (array {p = p} {elements = es} {next = next} s xs) r =
        let at = sign_rises n s r in
        then_in_order n (suc p) (p ∷ []) (element_offsets es) (at.0, omega arith)
        (elements_in_order (suc p) xs (end_rises (suc p) (gap_ends comment false next) at.1))
    value_in_order n (inline {p = p} {rows = rows} {next = next} s xs) r =
        let at = sign_rises n s r in
        then_in_order n (suc p) (p ∷ []) (row_offsets rows) (at.0, omega arith)
        (fields_in_order (suc p) xs (end_rises (suc p) (run_ends is_blank next) at.1))

    elements_in_order : {text rest : Text} {es : Elements} (n : ℕ) → IsElements comment text es rest → Rises n text
        → IsInOrder n (element_offsets es) rest
    elements_in_order n (close {rest = rest} s) r = none_in_order n rest (end_rises n (sign_ends s) r)
    elements_in_order n (last {p = p} {v = v} {mid = mid} {rest = rest} x s) r =
        let o = value_in_order n x r in
        let behind : Rises (suc o.end) rest =
        rises_behind_sign o.end s (end_rises o.end (gap_ends comment false mid) o.behind) in
        then_in_order n (suc o.end) (p ∷ offsets_within v) [] o.between (none_in_order (suc o.end) rest behind)
    elements_in_order n (and_more {p = p} {v = v} {elements = es} {mid = mid} {next = next} x s xs) r =
        let o = value_in_order n x r in
        let behind : Rises (suc o.end) next =
        rises_behind_sign o.end s (end_rises o.end (gap_ends comment false mid) o.behind) in
        then_in_order n (suc o.end) (p ∷ offsets_within v) (element_offsets es) o.between
        (elements_in_order (suc o.end) xs (end_rises (suc o.end) (gap_ends comment false next) behind))

    fields_in_order : {text rest : Text} {rows : Rows} (n : ℕ) → IsFields comment text rows rest → Rises n text
        → IsInOrder n (row_offsets rows) rest
    fields_in_order n (IsFields.none {rest = rest} s) r = none_in_order n rest (end_rises n (sign_ends s) r)
    fields_in_order n (some xs) r = more_fields_in_order n xs r

    more_fields_in_order : {text rest : Text} {rows : Rows} (n : ℕ) → IsFieldsOn comment text rows rest
        → Rises n text → IsInOrder n (row_offsets rows) rest
    more_fields_in_order n (last_row {p = p} {v = v} {mid = mid} {rest = rest} x s) r =
        let o = row_in_order n x r in
        let behind : Rises (suc o.end) rest =
        rises_behind_sign o.end s (end_rises o.end (run_ends is_blank mid) o.behind) in
        then_in_order n (suc o.end) (p ∷ offsets_within v) [] o.between (none_in_order (suc o.end) rest behind)
    more_fields_in_order n (more_rows {p = p} {v = v} {rows = rows} {mid = mid} {next = next} x s xs) r =
        let o = row_in_order n x r in
        let behind : Rises (suc o.end) next =
        rises_behind_sign o.end s (end_rises o.end (run_ends is_blank mid) o.behind) in
        then_in_order n (suc o.end) (p ∷ offsets_within v) (row_offsets rows) o.between
        (more_fields_in_order (suc o.end) xs (end_rises (suc o.end) (run_ends is_blank next) behind))

    row_in_order : {text rest : Text} {keys : List Key} {p : ℕ} {v : Raw} (n : ℕ) → IsRow comment text keys p v rest
        → Rises n text → IsInOrder n (p ∷ offsets_within v) rest
    row_in_order n (assigned {mid = mid} {next = next} keys s x) r =
        value_in_order n x
        (end_rises n (ends_on (keys_end keys) (ends_on (spaced_sign_ends mid s) (run_ends is_blank next))) r)

  pub rows_in_order : {text rest : Text} {rows : Rows} (n : ℕ) → IsRows comment text rows rest → Rises n text
      → IsInOrder n (row_offsets rows) rest
  rows_in_order n over r = none_in_order n [] tt
  rows_in_order n (header_next {text = text} s) r = none_in_order n text r
  rows_in_order n (empty_line i xs) r = rows_in_order n xs (end_rises n (line_ends comment i) r)
  rows_in_order n (row_line {p = p} {v = v} {rows = rows} {text = text} x i xs) r =
      let o = row_in_order n x (end_rises n (run_ends is_blank text) r) in
      then_in_order n (suc o.end) (p ∷ offsets_within v) (row_offsets rows) o.between
      (rows_in_order (suc o.end) xs (line_rises comment o.end i o.behind))

  -- a header takes its first bracket at least
  header_rises : {text rest : Text} {p : ℕ} {keys : List Key} {a : Bool} (n : ℕ) → IsHeader text p keys a rest
      → Rises n text → Rises (suc n) rest
  header_rises n (table {next = next} {mid = mid} s keys e) r =
      end_rises (suc n) (ends_on (run_ends is_blank next) (ends_on (keys_end keys) (spaced_sign_ends mid e)))
      (rises_behind_sign n s r)
  header_rises n (array_of_tables {inner = inner} {mid = mid} s t keys e f) r =
      end_rises (suc n)
      (ends_on (sign_ends t)
      (ends_on (run_ends is_blank inner) (ends_on (keys_end keys) (ends_on (spaced_sign_ends mid e) (sign_ends f)))))
      (rises_behind_sign n s r)

  -- sections of which the text rises from n on
  sections_in_order : {text : Text} {sections : List Section} (n : ℕ) → IsSections comment text sections
      → Rises n text → (m : ℕ) × Between (suc n) (value_offsets sections) m
  sections_in_order n no_more r = (suc n, omega arith)
  sections_in_order n (section {rows = rows} {sections = sections} {text = text} {next = next} h i xs on) r =
      let behind : Rises (suc n) next =
      end_rises (suc n) (line_ends comment i) (header_rises n h (end_rises n (run_ends is_blank text) r)) in
      let o = rows_in_order (suc n) xs behind in
      let more = sections_in_order o.end on o.behind in
      (more.0, between_append (suc n) (suc o.end) more.0 (row_offsets rows) (value_offsets sections) o.between more.1)

  pub list_in_order : {text : Text} {sections : List Section} (n : ℕ) → IsSectionListBy comment text sections
      → Rises n text → (m : ℕ) × Between n (value_offsets sections) m
  list_in_order {sections = sections} n g r =
      let o = rows_in_order n g.root r in
      let more = sections_in_order o.end g.others o.behind in
      let both : Between n (row_offsets g.rows ++ value_offsets g.headed) more.0 =
      between_append n (suc o.end) more.0 (row_offsets g.rows) (value_offsets g.headed) o.between more.1 in
      (more.0, subst (λ (xs : List Section). Between n (value_offsets xs) more.0) (sym g.all) (go g.rows more.0 both))
    where
      go : (rows : Rows) (m : ℕ) → Between n (row_offsets rows ++ value_offsets g.headed) m
          → Between n (value_offsets (with_root rows g.headed)) m
      go no_rows m b = b
      go (row keys p v rows) m b = b
