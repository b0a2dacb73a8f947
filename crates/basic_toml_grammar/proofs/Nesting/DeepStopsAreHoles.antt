-- A key or a bracket that is too deep fills a hole, and is the first such one in the text that goes on from there.
use Rattle.std.proofs.Common.{◌≡◌, ℕ, ◌+◌, ◌-◌, ◌≤◌, ◌<◌, ◌==◌, Bool, true, false, cond, List, [], ◌∷◌}
use Rattle.std.proofs.Common.{◌++◌, length, nat_lt, refl, ap, sym, ◌∙◌, arith, Option, Some, None}
use Rattle.std.proofs.lemmas.Bool.{lt-ltb, le-ltb, ne_eqb, eqb-true, false≢true, or_left, or_right}
use Rattle.basic_toml_tokens.specs.Text.{Text, StartsWith, after_run, is_keylike, is_comment, after_blanks}
use Rattle.basic_toml_tokens.specs.Strings.{is_quote, Opens, one_line, multiline, Quotes}
use Rattle.basic_toml_grammar.specs.Sections.{Key, Rows, no_rows, row, Section}
use Rattle.basic_toml_grammar.specs.Grammar.{IsKey, bare, quoted, after_comment_by, with_root}
use Rattle.basic_toml_grammar.specs.Levels.{deep_keys, deep_in, deep_among, deep_rows, deep_offsets, rows_level}
use Rattle.basic_toml_grammar.specs.Reader.{char_at, line_end_at, end_of}
use Rattle.basic_toml_grammar.specs.NestingFaults.{first_offset}
use Rattle.basic_toml_grammar.specs.DeepStops as deep
use Rattle.basic_toml_grammar.specs.DeepStops.{DeepKeys, DeepValue, DeepElements, DeepFields}
use Rattle.basic_toml_grammar.specs.DeepStops.{DeepRow, DeepRows, DeepHeader, DeepSections, DeepStop}
use Rattle.basic_toml_grammar.specs.Holes as holes
use Rattle.basic_toml_grammar.specs.Holes.{Hole, HoleInKeys, HoleInValue, HoleInElements, HoleInFieldsOn}
use Rattle.basic_toml_grammar.specs.Holes.{begins_key, HoleInRow, HoleInRows, HoleInHeader, HoleInSections, HoleInText}
use Rattle.basic_toml_grammar.proofs.Grammar.GrammarIsUnambiguous.{Heads, heads_not, key_heads, keys_heads}
use Rattle.basic_toml_grammar.proofs.Grammar.GrammarIsUnambiguous.{row_heads}
use Rattle.basic_toml_grammar.proofs.Completion.Fillers.{Filler, key, empty_array, empty_table, key_filled, fill_keys}
use Rattle.basic_toml_grammar.proofs.Completion.Fillers.{fill_value, fill_elements, fill_fields_on}
use Rattle.basic_toml_grammar.proofs.Completion.Fillers.{fill_row_keys, fill_row_value, fill_rows, fill_header}
use Rattle.basic_toml_grammar.proofs.Completion.Fillers.{fill_sections, fill_text}
use Rattle.basic_toml_grammar.proofs.Nesting.NothingAboveTheLimit.{no_deep_keys, no_deep_value, no_deep_rows, no_deep_row}
use Rattle.basic_toml_grammar.proofs.Nesting.NothingAboveTheLimit.{no_deep_section}

-- the first of two lists of offsets
first_left : (xs ys : List ℕ) (p : ℕ) → first_offset xs ≡ Some p → first_offset (xs ++ ys) ≡ Some p
first_left [] ys p e = cc
first_left (x ∷ xs) ys p e = e

first_right : (xs ys : List ℕ) (p : ℕ) → xs ≡ [] → first_offset ys ≡ Some p → first_offset (xs ++ ys) ≡ Some p
first_right xs ys p e f = ap (λ (xs : List ℕ). first_offset (xs ++ ys)) e ∙ f

-- a character that is missed where another kind stands
head_missed : {f : ℕ → Bool} {text : Text} (c : ℕ) → Heads f text → f c ≡ false → char_at c text ≡ None
head_missed {f = f} c h e =
    ap (char_at c) h.sign ∙ ap (λ b. cond b (Some (h.offset, h.next)) None)
    (ne_eqb h.char c (λ g. false≢true (sym e ∙ ap f (sym g) ∙ h.kind)))

-- no line ends where a key begins
pub line_missed : (text : Text) → Heads begins_key (after_blanks text) → line_end_at text ≡ None
line_missed text h =
    let no : (c : ℕ) → begins_key c ≡ false → (h.char == c) ≡ false =
    λ c e. ne_eqb h.char c (λ g. false≢true (sym e ∙ ap begins_key (sym g) ∙ h.kind)) in
    ap (λ (t : Text). end_of (after_comment_by is_comment t)) h.sign ∙
    ap (λ b. end_of (cond b (after_run is_comment h.next)
    ((h.offset, h.char) ∷ h.next))) (no 35 refl) ∙ ap (λ b. cond b (Some h.next) None) (no 10 refl)

-- with which character a key begins
record KeySign (p : ℕ) (text : Text) : Type 0 where
  char : ℕ
  next : Text
  sign : StartsWith char text p next
  kind : begins_key char ≡ true

key_sign : {k : Key} {text rest : Text} → IsKey text k rest → KeySign k.offset text
key_sign (bare {c = c} {next = next} s w) = record {
  char = c;
  next = next;
  sign = s;
  kind = or_left (is_keylike c) (is_quote c) w;
}
key_sign (quoted s) = go s.opens
  where
    go : {text body : Text} {p : ℕ} {k : Quotes} → Opens text p k body → KeySign p text
    go (one_line {d = d} {next = next} s q c) = record {
      char = d;
      next = next;
      sign = s;
      kind = or_right (is_keylike d) (is_quote d) q;
    }
    go (multiline {d = d} {next = next} s q c) = record {
      char = d;
      next = next;
      sign = s;
      kind = or_right (is_keylike d) (is_quote d) q;
    }

-- what stands at p, and fills the hole
pub record Deepest (p : ℕ) : Type 0 where
  pub kind : Hole
  pub char : ℕ
  pub at : Text
  pub next : Text
  pub filler : Filler kind (Some char)
  pub sign : StartsWith char at p next

module _ (limit : ℕ) where
  pub keys_head : {l p : ℕ} {text : Text} → DeepKeys limit l text p → Heads begins_key text
  keys_head (deep.this_key h k) = key_heads k
  keys_head (deep.later_key h k s d) = key_heads k

  pub row_head : {l p : ℕ} {text : Text} → DeepRow limit l text p → Heads begins_key text
  row_head (deep.keys d) = keys_head d
  row_head (deep.value ks h s d) = keys_heads ks

  pub fields_head : {l p : ℕ} {text : Text} → DeepFields limit l text p → Heads begins_key text
  fields_head (deep.this_field d) = row_head d
  fields_head (deep.later_field w h s d) = row_heads is_comment w

  value_missed : {l p : ℕ} {text : Text} → DeepValue limit l text p → char_at 93 text ≡ None
  value_missed (deep.array s d) = ap (char_at 93) s
  value_missed (deep.inline s d) = ap (char_at 93) s

  record InKeys (l p : ℕ) (text : Text) : Type 0 where
    deepest : Deepest p
    hole : HoleInKeys text deepest.kind deepest.at
    first : first_offset (deep_keys limit l (fill_keys hole (key_filled p deepest.filler))) ≡ Some p

  record InValue (l p : ℕ) (text : Text) : Type 0 where
    deepest : Deepest p
    hole : HoleInValue text deepest.kind deepest.at
    first : first_offset (deep_in limit l (fill_value p hole deepest.filler).0
        (fill_value p hole deepest.filler).1) ≡ Some p

  record InElements (l p : ℕ) (text : Text) : Type 0 where
    deepest : Deepest p
    hole : HoleInElements text deepest.kind deepest.at
    first : first_offset (deep_among limit l (fill_elements p hole deepest.filler)) ≡ Some p

  record InFields (l p : ℕ) (text : Text) : Type 0 where
    deepest : Deepest p
    hole : HoleInFieldsOn text deepest.kind deepest.at
    first : first_offset (deep_rows limit l (fill_fields_on p hole deepest.filler)) ≡ Some p

  record InRow (l p : ℕ) (text : Text) : Type 0 where
    deepest : Deepest p
    hole : HoleInRow text deepest.kind deepest.at
    first : first_offset (deep_keys limit l (fill_row_keys p hole deepest.filler) ++ deep_in limit
        (l + length (fill_row_keys p hole deepest.filler) - 1) (fill_row_value p hole deepest.filler).0
        (fill_row_value p hole deepest.filler).1) ≡ Some p

  record InRows (l p : ℕ) (text : Text) : Type 0 where
    deepest : Deepest p
    hole : HoleInRows text deepest.kind deepest.at
    first : first_offset (deep_rows limit l (fill_rows p hole deepest.filler)) ≡ Some p

  record InHeader (p : ℕ) (text : Text) : Type 0 where
    deepest : Deepest p
    hole : HoleInHeader text deepest.kind deepest.at
    first : first_offset (deep_keys limit 2 (fill_header p hole deepest.filler).header) ≡ Some p

  record InSections (p : ℕ) (text : Text) : Type 0 where
    deepest : Deepest p
    hole : HoleInSections text deepest.kind deepest.at
    first : first_offset (deep_offsets limit (fill_sections p hole deepest.filler)) ≡ Some p

  pub record InText (p : ℕ) (text : Text) : Type 0 where
    pub deepest : Deepest p
    pub hole : HoleInText text deepest.kind deepest.at
    pub first : first_offset (deep_offsets limit (fill_text p hole deepest.filler)) ≡ Some p

  in_keys : {l p : ℕ} {text : Text} → DeepKeys limit l text p → InKeys l p text
  in_keys {l = l} {p = p} {text = text} (deep.this_key h k) =
      let s = key_sign k in
      record {
        deepest =
            record { kind = Hole.key; char = s.char; at = text; next = s.next; filler = key s.kind; sign = s.sign };
        hole = holes.this_key;
        first = ap (λ b. first_offset (cond b (p ∷ []) [])) (lt-ltb limit l h);
      }
  in_keys {l = l} {p = p} (deep.later_key {k = k} h w s d) =
      let on = in_keys d in
      let ks = fill_keys on.hole (key_filled p on.deepest.filler) in
      record {
        deepest = on.deepest;
        hole = holes.later_key w s on.hole;
        first = ap (λ b. first_offset (cond b (k.offset ∷ deep_keys limit (l + 1) ks) (deep_keys limit (l + 1) ks)))
            (le-ltb limit l h) ∙ on.first;
      }

  -- a bracket above the limit is the first in its value, and one within it is not
  this_first : (l at : ℕ) (xs : List ℕ) → limit < l → first_offset (cond (nat_lt limit l) (at ∷ []) [] ++ xs) ≡ Some at
  this_first l at xs h = ap (λ b. first_offset (cond b (at ∷ []) [] ++ xs)) (lt-ltb limit l h)

  later_first : (l at p : ℕ) (xs : List ℕ) → l ≤ limit → first_offset xs ≡ Some p
      → first_offset (cond (nat_lt limit l) (at ∷ []) [] ++ xs) ≡ Some p
  later_first l at p xs h e = ap (λ b. first_offset (cond b (at ∷ []) [] ++ xs)) (le-ltb limit l h) ∙ e

  mutual
    in_value : {l p : ℕ} {text : Text} → DeepValue limit l text p → InValue l p text
    in_value {l = l} {p = p} {text = text} (deep.array {next = next} s (deep.this_bracket h)) = record {
      deepest =
          record { kind = Hole.value; char = 91; at = text; next = next; filler = empty_array; sign = s };
      hole = holes.this_value;
      first = this_first (l + 1) p [] h;
    }
    in_value {l = l} {p = p} (deep.array {q = q} s (deep.elements h d)) =
        let on = in_elements d in
        record {
          deepest = on.deepest;
          hole = holes.array s on.hole;
          first = later_first (l + 1) q p (deep_among limit (l + 1) (fill_elements p on.hole on.deepest.filler)) h
              on.first;
        }
    in_value {l = l} {p = p} {text = text} (deep.inline {next = next} s (deep.this_brace h)) = record {
      deepest =
          record { kind = Hole.value; char = 123; at = text; next = next; filler = empty_table; sign = s };
      hole = holes.this_value;
      first = this_first (l + 1) p [] h;
    }
    in_value {l = l} {p = p} (deep.inline {q = q} s (deep.fields h d)) =
        let on = in_fields d in
        record {
          deepest = on.deepest;
          hole = holes.inline s (holes.fields (head_missed 125 (fields_head d) refl) on.hole);
          first = later_first (l + 1) q p (deep_rows limit (l + 1) (fill_fields_on p on.hole on.deepest.filler)) h
              on.first;
        }

    in_elements : {l p : ℕ} {text : Text} → DeepElements limit l text p → InElements l p text
    in_elements {l = l} {p = p} (deep.this_element d) =
        let on = in_value d in
        let v = fill_value p on.hole on.deepest.filler in
        record {
          deepest = on.deepest;
          hole = holes.in_element (value_missed d) on.hole;
          first = first_left (deep_in limit l v.0 v.1) [] p on.first;
        }
    in_elements {l = l} {p = p} (deep.later_element {q = q} {v = v} w h s d) =
        let on = in_elements d in
        record {
          deepest = on.deepest;
          hole = holes.later_element w s on.hole;
          first = first_right (deep_in limit l q v)
              (deep_among limit l (fill_elements p on.hole on.deepest.filler)) p (no_deep_value limit l q v h)
              on.first;
        }

    in_fields : {l p : ℕ} {text : Text} → DeepFields limit l text p → InFields l p text
    in_fields {l = l} {p = p} (deep.this_field d) =
        let on = in_row d in
        let ks = fill_row_keys p on.hole on.deepest.filler in
        let v = fill_row_value p on.hole on.deepest.filler in
        record {
          deepest = on.deepest;
          hole = holes.in_row on.hole;
          first = first_left (deep_keys limit l ks ++ deep_in limit (l + length ks - 1) v.0 v.1) [] p on.first;
        }
    in_fields {l = l} {p = p} (deep.later_field {q = q} {keys = keys} {v = v} w h s d) =
        let on = in_fields d in
        record {
          deepest = on.deepest;
          hole = holes.later_row w s on.hole;
          first = first_right (deep_keys limit l keys ++ deep_in limit (l + length keys - 1) q v)
              (deep_rows limit l (fill_fields_on p on.hole on.deepest.filler)) p (no_deep_row limit l keys q v h)
              on.first;
        }

    in_row : {l p : ℕ} {text : Text} → DeepRow limit l text p → InRow l p text
    in_row {l = l} {p = p} (deep.keys d) =
        let on = in_keys d in
        let ks = fill_keys on.hole (key_filled p on.deepest.filler) in
        let v = fill_row_value p (holes.in_keys on.hole) on.deepest.filler in
        record {
          deepest = on.deepest;
          hole = holes.in_keys on.hole;
          first = first_left (deep_keys limit l ks) (deep_in limit (l + length ks - 1) v.0 v.1) p on.first;
        }
    in_row {l = l} {p = p} (deep.value {keys = keys} ks h s d) =
        let on = in_value d in
        let v = fill_value p on.hole on.deepest.filler in
        record {
          deepest = on.deepest;
          hole = holes.in_value ks s on.hole;
          first = first_right (deep_keys limit l keys) (deep_in limit (l + length keys - 1) v.0 v.1) p
              (no_deep_keys limit l keys h) on.first;
        }

  in_rows : {l p : ℕ} {text : Text} → DeepRows limit l text p → InRows l p text
  in_rows {l = l} {p = p} {text = text} (deep.this_row d) =
      let on = in_row d in
      let ks = fill_row_keys p on.hole on.deepest.filler in
      let v = fill_row_value p on.hole on.deepest.filler in
      let head = row_head d in
      record {
        deepest = on.deepest;
        hole = holes.this_row (head_missed 91 head refl) (head_missed 35 head refl) (line_missed text head) on.hole;
        first = first_left (deep_keys limit l ks ++ deep_in limit (l + length ks - 1) v.0 v.1) [] p on.first;
      }
  in_rows (deep.after_empty e d) =
      let on = in_rows d in
      record { deepest = on.deepest; hole = holes.after_empty e on.hole; first = on.first }
  in_rows {l = l} {p = p} (deep.later_row {q = q} {keys = keys} {v = v} w h e d) =
      let on = in_rows d in
      record {
        deepest = on.deepest;
        hole = holes.later_row w e on.hole;
        first = first_right (deep_keys limit l keys ++ deep_in limit (l + length keys - 1) q v)
            (deep_rows limit l (fill_rows p on.hole on.deepest.filler)) p (no_deep_row limit l keys q v h) on.first;
      }

  in_header : {p : ℕ} {text : Text} → DeepHeader limit text p → InHeader p text
  in_header (deep.table {next = next} s d) =
      let on = in_keys d in
      record {
        deepest = on.deepest;
        hole = holes.table_keys s (no_bracket next (keys_head d)) on.hole;
        first = on.first;
      }
    where
      -- where a key stands after blanks, no bracket does
      no_bracket : (next : Text) → Heads begins_key (after_blanks next) → char_at 91 next ≡ None
      no_bracket [] h = refl
      no_bracket (x ∷ next) h = go (x.1 == 91) refl
        where
          go : (b : Bool) → (x.1 == 91) ≡ b → cond {A = Option (ℕ × Text)} b (Some (x.0, next)) None ≡ None
          go false e = refl
          go true e =
              let c : x.1 ≡ 91 = eqb-true x.1 91 e in
              absurd (heads_not h
              (ap (λ (c : ℕ). after_blanks ((x.0, c) ∷ next)) c) refl)
  in_header (deep.array_of_tables s i d) =
      let on = in_keys d in
      record { deepest = on.deepest; hole = holes.array_keys s i on.hole; first = on.first }

  in_sections : {p : ℕ} {text : Text} → DeepSections limit text p → InSections p text
  in_sections {p = p} (deep.this_section (deep.header d)) =
      let on = in_header d in
      let f = fill_header p on.hole on.deepest.filler in
      record {
        deepest = on.deepest;
        hole = holes.in_header on.hole;
        first = first_left (deep_keys limit 2 f.header ++ deep_rows limit (length f.header + 1) f.rows) [] p
            (first_left (deep_keys limit 2 f.header) (deep_rows limit (length f.header + 1) f.rows) p on.first);
      }
  in_sections {p = p} (deep.this_section (deep.rows {keys = keys} w h e d)) =
      let on = in_rows d in
      let rs = fill_rows p on.hole on.deepest.filler in
      record {
        deepest = on.deepest;
        hole = holes.in_rows w e on.hole;
        first = first_left (deep_keys limit 2 keys ++ deep_rows limit (length keys + 1) rs) [] p
            (first_right (deep_keys limit 2 keys) (deep_rows limit (length keys + 1) rs) p
            (no_deep_keys limit 2 keys (omega arith)) on.first);
      }
  in_sections {p = p} (deep.later_section {q = q} {keys = keys} {is_array = a} {rows = rows} w e rs h d) =
      let on = in_sections d in
      record {
        deepest = on.deepest;
        hole = holes.later_section w e rs on.hole;
        first = first_right (deep_keys limit 2 keys ++ deep_rows limit (length keys + 1) rows)
            (deep_offsets limit (fill_sections p on.hole on.deepest.filler)) p
            (no_deep_section limit (record { at = q; header = keys; is_array = a; rows = rows }) h) on.first;
      }

  pub in_text : {p : ℕ} {text : Text} → DeepStop limit text p → InText p text
  in_text {p = p} (deep.root d) =
      let on = in_rows d in
      record {
        deepest = on.deepest;
        hole = holes.root on.hole;
        first = go (fill_rows p on.hole on.deepest.filler) on.first;
      }
    where
      go : (rs : Rows) → first_offset (deep_rows limit 1 rs) ≡ Some p
          → first_offset (deep_offsets limit (with_root rs [])) ≡ Some p
      go no_rows e = cc
      go (row keys at v rs) e = first_left (deep_rows limit 1 (row keys at v rs)) [] p e
  in_text {p = p} (deep.headed {rows = rows} rs h d) =
      let on = in_sections d in
      record {
        deepest = on.deepest;
        hole = holes.headed rs on.hole;
        first = go rows (fill_sections p on.hole on.deepest.filler) h on.first;
      }
    where
      go : (rs : Rows) (ss : List Section) → rows_level 1 rs ≤ limit → first_offset (deep_offsets limit ss) ≡ Some p
          → first_offset (deep_offsets limit (with_root rs ss)) ≡ Some p
      go no_rows ss h e = e
      go (row keys at v rs) ss h e =
          first_right (deep_rows limit 1 (row keys at v rs)) (deep_offsets limit ss) p
          (no_deep_rows limit 1 (row keys at v rs) h) e
