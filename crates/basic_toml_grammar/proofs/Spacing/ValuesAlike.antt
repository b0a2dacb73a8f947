-- Keys, values and rows of two texts that are alike: where one stands in one, one of the same meaning stands in the
-- other.
use Rattle.std.proofs.Common.{◌≡◌, ℕ, Bool, List, [], ◌∷◌, refl, ap, sym, ◌∙◌, subst, true}
use Rattle.std.specs.Prelude.{encode_utf8_all}
use Rattle.std.proofs.lemmas.Bool.{or_left}
use Rattle.basic_toml_tokens.specs.Text.{Text, StartsWith, run, after_run, is_keylike, is_comment, after_blanks}
use Rattle.basic_toml_grammar.specs.Sections.{Key, texts, Raw, Elements, no_elements, element, Rows, no_rows, row}
use Rattle.basic_toml_grammar.specs.Copies.{up_to, needs_copy}
use Rattle.basic_toml_grammar.specs.Grammar.{IsKey, bare, quoted, IsKeys, one, more, is_wordlike, word_value}
use Rattle.basic_toml_grammar.specs.Grammar.{word_offset}
use Rattle.basic_toml_grammar.specs.Grammar.{IsValue, word, string, array, inline, IsElements, close, last, and_more}
use Rattle.basic_toml_grammar.specs.Grammar.{IsFields, none, some, IsFieldsOn, last_row, more_rows, IsRow, assigned}
use Rattle.basic_toml_grammar.specs.Respaced.{at_token, is_sign}
use Rattle.basic_toml_grammar.proofs.Grammar.GrammarIsUnambiguous.{Heads, keys_heads, value_heads}
use Rattle.basic_toml_grammar.proofs.Grammar.GrammarIsUnambiguous.{fields_heads}
use Rattle.basic_toml_grammar.proofs.SameMeaning.SameSections.{SameRaw, same_array, same_inline, same_string, itself}
use Rattle.basic_toml_grammar.proofs.SameMeaning.SameSections.{SameElements, no_more_elements, one_element, SameRows}
use Rattle.basic_toml_grammar.proofs.SameMeaning.SameSections.{no_more_rows, one_row}
use Rattle.basic_toml_grammar.proofs.Spacing.FrontsAlike.{Alike, After, Sign, sign_there, string_there, is_seen}
use Rattle.basic_toml_grammar.proofs.Spacing.FrontsAlike.{blanks_alike, sign_after_blanks, gaps_alike, key_is_seen}
use Rattle.basic_toml_grammar.proofs.Spacing.FrontsAlike.{value_is_seen, seen_heads, run_there}

pub record KeyThere (b : Bool) (k : Key) (rest other : Text) : Type 0 where
  pub key : Key
  pub left : Text
  pub holds : IsKey other key left
  pub same : k.text ≡ key.text
  pub after : After b rest left

pub key_there : {b : Bool} {text rest other : Text} {k : Key} → IsKey text k rest → Alike b text other
    → KeyThere b k rest other
key_there {other = other} (bare {p = p} {c = c} {next = next} s w) a =
    let r = run_there is_keylike (λ c e. or_left _ _ e) a
    (record { offset = p; char = c; next = next; sign = s; kind = w }) in
    record {
      key = record { offset = r.1.offset; text = run is_keylike other };
      left = after_run is_keylike other;
      holds = bare r.1.sign r.1.kind;
      same = r.0.same;
      after = r.0.after;
    }
key_there (quoted {value = v} s) a =
    let x = string_there a s in
    record {
      key = record { offset = x.offset; text = encode_utf8_all v };
      left = x.left;
      holds = quoted x.string;
      same = refl;
      after = x.after;
    }

pub record KeysThere (b : Bool) (ks : List Key) (rest other : Text) : Type 0 where
  pub keys : List Key
  pub left : Text
  pub holds : IsKeys other keys left
  pub same : texts ks ≡ texts keys
  pub after : After b rest left

pub keys_there : {b : Bool} {text rest other : Text} {ks : List Key} → IsKeys text ks rest → Alike b text other
    → KeysThere b ks rest other
keys_there (one k) a =
    let x = key_there k a in
    record {
      keys = x.key ∷ [];
      left = x.left;
      holds = one x.holds;
      same = ap (λ t. t ∷ []) x.same;
      after = x.after;
    }
keys_there (more {mid = mid} {next = next} k s ks) a =
    let x = key_there k a in
    let z = sign_after_blanks mid x.left x.after s refl refl in
    let y = keys_there ks (blanks_alike next z.rest z.after (seen_heads key_is_seen (keys_heads ks))) in
    record {
      keys = x.key ∷ y.keys;
      left = y.left;
      holds = more x.holds z.sign y.holds;
      same = (λ i. x.same i ∷ y.same i);
      after = y.after;
    }

pub record ValueThere (v : Raw) (rest other : Text) : Type 0 where
  pub offset : ℕ
  pub value : Raw
  pub left : Text
  pub holds : IsValue is_comment other offset value left
  pub same : SameRaw v value
  pub bracketed : Bool
  pub after : After bracketed rest left

record ElementsThere (es : Elements) (rest other : Text) : Type 0 where
  elements : Elements
  left : Text
  holds : IsElements is_comment other elements left
  same : SameElements es elements
  bracketed : Bool
  after : After bracketed rest left

record RowsThere (Holds : Text → Rows → Text → Type 0) (rs : Rows) (rest other : Text) : Type 0 where
  rows : Rows
  left : Text
  holds : Holds other rows left
  same : SameRows rs rows
  bracketed : Bool
  after : After bracketed rest left

pub record RowThere (ks : List Key) (v : Raw) (rest other : Text) : Type 0 where
  pub keys : List Key
  pub offset : ℕ
  pub value : Raw
  pub left : Text
  pub holds : IsRow is_comment other keys offset value left
  pub keys_same : texts ks ≡ texts keys
  pub same : SameRaw v value
  pub bracketed : Bool
  pub after : After bracketed rest left

abbrev Fields : Text → Rows → Text → Type 0
Fields text rs rest = IsFields is_comment text rs rest

abbrev FieldsOn : Text → Rows → Text → Type 0
FieldsOn text rs rest = IsFieldsOn is_comment text rs rest

-- a sign after a gap
record Beyond (c : ℕ) (next other : Text) : Type 0 where
  bracketed : Bool
  sign : Sign bracketed c next other

beyond : {b : Bool} {c p : ℕ} {next : Text} (text other : Text) → After b text other
    → StartsWith c (at_token text) p next
    → is_sign c ≡ true → Beyond c next (at_token other)
beyond text other a s e =
    let g = gaps_alike text other a in
    record { bracketed = g.bracketed; sign = sign_there g.alike s e }

mutual
  pub value_there : {b : Bool} {text rest other : Text} {p : ℕ} {v : Raw} → IsValue is_comment text p v rest
      → Alike b text other → ValueThere v rest other
  value_there {b = b} {other = other} (word {p = p} {c = c} {v = v} {next = next} s w e) a =
      let r = run_there is_wordlike (λ c e. e) a
      (record { offset = p; char = c; next = next; sign = s; kind = w }) in
      record {
        offset = word_offset v r.1.offset other;
        value = v;
        left = after_run is_wordlike other;
        holds = word r.1.sign r.1.kind (ap word_value (sym r.0.same) ∙ e);
        same = itself v;
        bracketed = b;
        after = r.0.after;
      }
  value_there {b = b} {other = other} (string {m = m} {value = t} s) a =
      let x = string_there a s in
      record {
        offset = x.offset;
        value = Raw.string (encode_utf8_all t) (needs_copy m (up_to x.left other));
        left = x.left;
        holds = string x.string;
        same = same_string;
        bracketed = b;
        after = x.after;
      }
  value_there (array {next = next} s es) a =
      let z = sign_there a s refl in
      let x = elements_there es (gaps_alike next z.rest z.after).alike in
      record {
        offset = z.offset;
        value = Raw.array x.elements;
        left = x.left;
        holds = array z.sign x.holds;
        same = same_array x.same;
        bracketed = x.bracketed;
        after = x.after;
      }
  value_there (inline {next = next} s rs) a =
      let z = sign_there a s refl in
      let x = fields_there next z.rest refl rs z.after in
      record {
        offset = z.offset;
        value = Raw.inline x.rows;
        left = x.left;
        holds = inline z.sign x.holds;
        same = same_inline x.same;
        bracketed = x.bracketed;
        after = x.after;
      }

  elements_there : {b : Bool} {text rest other : Text} {es : Elements} → IsElements is_comment text es rest
      → Alike b text other → ElementsThere es rest other
  elements_there {b = b} (close s) a =
      let z = sign_there a s refl in
      record {
        elements = no_elements;
        left = z.rest;
        holds = close z.sign;
        same = no_more_elements;
        bracketed = b;
        after = z.after;
      }
  elements_there (last {mid = mid} v s) a =
      let x = value_there v a in
      let z = beyond mid x.left x.after s refl in
      record {
        elements = element x.offset x.value no_elements;
        left = z.sign.rest;
        holds = last x.holds z.sign.sign;
        same = one_element x.same no_more_elements;
        bracketed = z.bracketed;
        after = z.sign.after;
      }
  elements_there (and_more {mid = mid} {next = next} v s es) a =
      let x = value_there v a in
      let z = beyond mid x.left x.after s refl in
      let y = elements_there es (gaps_alike next z.sign.rest z.sign.after).alike in
      record {
        elements = element x.offset x.value y.elements;
        left = y.left;
        holds = and_more x.holds z.sign.sign y.holds;
        same = one_element x.same y.same;
        bracketed = y.bracketed;
        after = y.after;
      }

  fields_there : {b : Bool} {front rest : Text} {rs : Rows} (text other : Text) → front ≡ after_blanks text
      → IsFields is_comment front rs rest → After b text other → RowsThere Fields rs rest (after_blanks other)
  fields_there {b = b} text other e (none s) a =
      let z = sign_after_blanks text other a (sym e ∙ s) refl refl in
      record {
        rows = no_rows;
        left = z.rest;
        holds = none z.sign;
        same = no_more_rows;
        bracketed = b;
        after = z.after;
      }
  fields_there {b = b} text other e (some xs) a =
      let h = seen_heads key_is_seen (fields_heads is_comment xs) in
      let x = fields_on_there xs (subst (λ t. Alike b t (after_blanks other)) (sym e)
      (blanks_alike text other a (subst (Heads is_seen) e h))) in
      record {
        rows = x.rows;
        left = x.left;
        holds = some x.holds;
        same = x.same;
        bracketed = x.bracketed;
        after = x.after;
      }

  fields_on_there : {b : Bool} {text rest other : Text} {rs : Rows} → IsFieldsOn is_comment text rs rest
      → Alike b text other → RowsThere FieldsOn rs rest other
  fields_on_there (last_row {mid = mid} r s) a =
      let x = row_there r a in
      let z = sign_after_blanks mid x.left x.after s refl refl in
      record {
        rows = row x.keys x.offset x.value no_rows;
        left = z.rest;
        holds = last_row x.holds z.sign;
        same = one_row x.keys_same x.same no_more_rows;
        bracketed = x.bracketed;
        after = z.after;
      }
  fields_on_there (more_rows {mid = mid} {next = next} r s xs) a =
      let x = row_there r a in
      let z = sign_after_blanks mid x.left x.after s refl refl in
      let y = fields_on_there xs
      (blanks_alike next z.rest z.after (seen_heads key_is_seen (fields_heads is_comment xs))) in
      record {
        rows = row x.keys x.offset x.value y.rows;
        left = y.left;
        holds = more_rows x.holds z.sign y.holds;
        same = one_row x.keys_same x.same y.same;
        bracketed = y.bracketed;
        after = y.after;
      }

  pub row_there : {b : Bool} {text rest other : Text} {ks : List Key} {p : ℕ} {v : Raw}
      → IsRow is_comment text ks p v rest → Alike b text other → RowThere ks v rest other
  row_there (assigned {mid = mid} {next = next} ks s v) a =
      let k = keys_there ks a in
      let z = sign_after_blanks mid k.left k.after s refl refl in
      let x = value_there v
      (blanks_alike next z.rest z.after (seen_heads value_is_seen (value_heads is_comment v))) in
      record {
        keys = k.keys;
        offset = x.offset;
        value = x.value;
        left = x.left;
        holds = assigned k.holds z.sign x.holds;
        keys_same = k.same;
        same = x.same;
        bracketed = x.bracketed;
        after = x.after;
      }
