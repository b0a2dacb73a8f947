-- In a row of the grammar a character that fits stands where a reading of it stands.
use Rattle.std.proofs.Common.{◌≡◌, ℕ, ◌==◌, true, cond, List, Some, None, refl, ap, sym, ◌∙◌, subst, arith}
use Rattle.basic_toml_tokens.specs.Text.{Text, StartsWith, is_comment, after_blanks}
use Rattle.basic_toml_grammar.specs.Sections.{Key, Raw, Elements, Rows}
use Rattle.basic_toml_grammar.specs.Grammar.{IsKey, IsKeys, one, more, is_wordlike, after_gap, IsValue, word, string}
use Rattle.basic_toml_grammar.specs.Grammar.{array, inline, IsElements, close, last, and_more, IsFields, none, some}
use Rattle.basic_toml_grammar.specs.Grammar.{IsFieldsOn, last_row, more_rows, IsRow, assigned}
use Rattle.basic_toml_grammar.specs.Reader.{char_at}
use Rattle.basic_toml_grammar.specs.Holes as holes
use Rattle.basic_toml_grammar.specs.Holes.{Hole, HoleInKeys, HoleInValue, HoleInElements, HoleInFields, HoleInFieldsOn}
use Rattle.basic_toml_grammar.specs.Holes.{HoleInRow, fits, Fits}
use Rattle.basic_toml_grammar.proofs.Grammar.GrammarIsUnambiguous.{sign_same, heads_not, key_same, keys_same}
use Rattle.basic_toml_grammar.proofs.Grammar.GrammarIsUnambiguous.{keys_heads, value_heads, string_heads, value_same}
use Rattle.basic_toml_grammar.proofs.Grammar.GrammarIsUnambiguous.{row_same, word_sign}

-- such a sign
pub sign_fits : {h : Hole} {c p : ℕ} {text rest : Text} → StartsWith c text p rest → fits h c ≡ true → Fits h text
sign_fits {c = c} {p = p} {rest = rest} s e =
    record { offset = p; char = c; rest = rest; starts = s; fit = e }

-- a value at the front
pub record HasValue (text : Text) : Type 0 where
  pub offset : ℕ
  pub value : Raw
  pub rest : Text
  pub is : IsValue is_comment text offset value rest

-- and a key
pub record HasKey (text : Text) : Type 0 where
  pub key : Key
  pub rest : Text
  pub is : IsKey text key rest

-- What stands at a hole: a character that fits, and a value or a key where one has to come.
pub record Fills (h : Hole) (text : Text) : Type 0 where
  pub fits : Fits h text
  pub value : h ≡ Hole.value → HasValue text
  pub key : h ≡ Hole.key → HasKey text

pub filled : {h : Hole} {text : Text} → (h ≡ Hole.value → ⊥) → (h ≡ Hole.key → ⊥) → Fits h text → Fills h text
filled n m f = record { fits = f; value = λ e. absurd (n e); key = λ e. absurd (m e) }

first_key : {text rest : Text} {ks : List Key} → IsKeys text ks rest → HasKey text
first_key (one k) = record { key = _; rest = _; is = k }
first_key (more k s ks) = record { key = _; rest = _; is = k }

no_value : Hole.key ≡ Hole.value → ⊥
no_value e = cc

pub keys_no_value : {h : Hole} {text at : Text} → HoleInKeys text h at → h ≡ Hole.value → ⊥
keys_no_value holes.this_key e = cc
keys_no_value (holes.later_key k s d) e = keys_no_value d e

pub clash : {A : Type 0} {x : A} → None ≡ Some x → ⊥
clash e = cc

-- a sign that is missed
pub missed : {d p : ℕ} {text rest : Text} → char_at d text ≡ None → StartsWith d text p rest → (d == d) ≡ true → ⊥
missed {d = d} {p = p} {rest = rest} m s e =
    clash (sym m ∙ ap (char_at d) s ∙ ap (λ b. cond b (Some (p, rest)) None) e)

pub keys_hold : {h : Hole} {c p : ℕ} {text rest at n : Text} {ks : List Key} → HoleInKeys text h at → IsKeys text ks rest
    → StartsWith c (after_blanks rest) p n → (c ≡ 46 → ⊥) → Fills h at
keys_hold holes.this_key ks s a =
    let x = keys_heads ks in
    record { fits = sign_fits x.sign x.kind; value = λ e. absurd (no_value e); key = λ e. first_key ks }
keys_hold (holes.later_key k e d) (one l) s a =
    absurd (a (sign_same s (ap after_blanks (key_same l k).1 ∙ e)).1)
keys_hold {h = h} {at = at} (holes.later_key {next = n} k e d) (more {next = n'} l f ls) s a =
    let m : n ≡ n' = (sign_same (sym (ap after_blanks (key_same k l).1) ∙ e) f).2 in
    keys_hold (subst (λ m. HoleInKeys (after_blanks m) h at) m d) ls s a

-- keys that go on, or the sign after them
pub keys_next : {h : Hole} {c p : ℕ} {text r r' n : Text} {ks ls : List Key} → IsKeys text ks r → IsKeys text ls r'
    → StartsWith c (after_blanks r') p n → (c ≡ 46 → ⊥) → fits h c ≡ true → fits h 46 ≡ true → Fits h (after_blanks r)
keys_next (one k) (one l) s a f g = sign_fits (ap after_blanks (key_same k l).1 ∙ s) f
keys_next (one k) (more l e ls) s a f g = sign_fits (ap after_blanks (key_same k l).1 ∙ e) g
keys_next (more k e ks) (one l) s a f g = absurd (a (sign_same s (ap after_blanks (key_same l k).1 ∙ e)).1)
keys_next (more {next = n} {rest = r₁} {keys = ks} k e xs) (more {next = n'} l e' ys) s a f g =
    let m : n ≡ n' = (sign_same (sym (ap after_blanks (key_same k l).1) ∙ e) e').2 in
    keys_next (subst (λ m. IsKeys (after_blanks m) ks r₁) m xs) ys s a f g

mutual
  value_holds : {h : Hole} {text at r : Text} {p : ℕ} {v : Raw} → HoleInValue text h at → IsValue is_comment text p v r
      → Fills h at
  value_holds holes.this_value v =
      let x = value_heads is_comment v in
      record {
        fits = sign_fits x.sign x.kind;
        value = λ e. record { offset = _; value = _; rest = _; is = v };
        key = λ e. absurd (no_value (sym e));
      }
  value_holds (holes.array e d) (word f w x) = absurd (word_sign is_wordlike f w e refl)
  value_holds (holes.array e d) (string s) = absurd (heads_not (string_heads s) e refl)
  value_holds {h = h} {at = at} (holes.array {next = n} e d) (array {next = n'} f es) =
      let m : n ≡ n' = (sign_same e f).2 in
      elements_hold (subst (λ m. HoleInElements (after_gap is_comment m) h at) m d) es
  value_holds (holes.array e d) (inline f rs) = absurd (word_sign (λ c. c == 91) e refl f refl)
  value_holds (holes.inline e d) (word f w x) = absurd (word_sign is_wordlike f w e refl)
  value_holds (holes.inline e d) (string s) = absurd (heads_not (string_heads s) e refl)
  value_holds (holes.inline e d) (array f es) = absurd (word_sign (λ c. c == 123) e refl f refl)
  value_holds {h = h} {at = at} (holes.inline {next = n} e d) (inline {next = n'} f rs) =
      let m : n ≡ n' = (sign_same e f).2 in
      fields_hold (subst (λ m. HoleInFields (after_blanks m) h at) m d) rs

  elements_hold : {h : Hole} {text at r : Text} {es : Elements} → HoleInElements text h at
      → IsElements is_comment text es r → Fills h at
  elements_hold (holes.in_element m d) (close e) = absurd (missed m e refl)
  elements_hold (holes.in_element m d) (last v e) = value_holds d v
  elements_hold (holes.in_element m d) (and_more v e es) = value_holds d v
  elements_hold (holes.after_this v) (close e) = absurd (heads_not (value_heads is_comment v) e refl)
  elements_hold (holes.after_this v) (last w e) =
      filled (λ h. cc) (λ h. cc) (sign_fits (ap (after_gap is_comment) (value_same is_comment v w).2 ∙ e) refl)
  elements_hold (holes.after_this v) (and_more w e es) =
      filled (λ h. cc) (λ h. cc) (sign_fits (ap (after_gap is_comment) (value_same is_comment v w).2 ∙ e) refl)
  elements_hold (holes.later_element v e d) (close f) = absurd (heads_not (value_heads is_comment v) f refl)
  elements_hold (holes.later_element v e d) (last w f) =
      absurd (word_sign (λ c. c == 44) (sym (ap (after_gap is_comment) (value_same is_comment v w).2) ∙ e) refl f refl)
  elements_hold {h = h} {at = at} (holes.later_element {next = n} v e d) (and_more {next = n'} w f es) =
      let m : n ≡ n' = (sign_same (sym (ap (after_gap is_comment) (value_same is_comment v w).2) ∙ e) f).2 in
      elements_hold (subst (λ m. HoleInElements (after_gap is_comment m) h at) m d) es

  fields_hold : {h : Hole} {text at r : Text} {rs : Rows} → HoleInFields text h at → IsFields is_comment text rs r
      → Fills h at
  fields_hold (holes.fields m d) (none e) = absurd (missed m e refl)
  fields_hold (holes.fields m d) (some rs) = fields_on_hold d rs

  fields_on_hold : {h : Hole} {text at r : Text} {rs : Rows} → HoleInFieldsOn text h at
      → IsFieldsOn is_comment text rs r → Fills h at
  fields_on_hold (holes.in_row d) (last_row x e) = row_holds d x
  fields_on_hold (holes.in_row d) (more_rows x e rs) = row_holds d x
  fields_on_hold (holes.after_row x) (last_row y e) =
      filled (λ h. cc) (λ h. cc) (sign_fits (ap after_blanks (row_same is_comment x y).3 ∙ e) refl)
  fields_on_hold (holes.after_row x) (more_rows y e rs) =
      filled (λ h. cc) (λ h. cc) (sign_fits (ap after_blanks (row_same is_comment x y).3 ∙ e) refl)
  fields_on_hold (holes.later_row x e d) (last_row y f) =
      absurd (word_sign (λ c. c == 44) (sym (ap after_blanks (row_same is_comment x y).3) ∙ e) refl f refl)
  fields_on_hold {h = h} {at = at} (holes.later_row {next = n} x e d) (more_rows {next = n'} y f rs) =
      let m : n ≡ n' = (sign_same (sym (ap after_blanks (row_same is_comment x y).3) ∙ e) f).2 in
      fields_on_hold (subst (λ m. HoleInFieldsOn (after_blanks m) h at) m d) rs

  pub row_holds : {h : Hole} {text at r : Text} {ks : List Key} {p : ℕ} {v : Raw} → HoleInRow text h at
      → IsRow is_comment text ks p v r → Fills h at
  row_holds (holes.in_keys d) (assigned ks e v) =
      keys_hold d ks e (λ e. omega (arith, e))
  row_holds (holes.after_keys ks) (assigned ls e v) =
      filled (λ h. cc) (λ h. cc) (keys_next ks ls e (λ e. omega (arith, e)) refl refl)
  row_holds {h = h} {at = at} (holes.in_value {next = n} ks e d) (assigned {next = n'} ls f v) =
      let k = keys_same ks ls e (λ e. omega (arith, e)) f (λ e. omega (arith, e)) in
      let m : n ≡ n' = (sign_same (sym (ap after_blanks k.1) ∙ e) f).2 in
      value_holds (subst (λ m. HoleInValue (after_blanks m) h at) m d) v
