-- The bytes of a text between `"""` are the UTF-8 of the same in characters.
use Rattle.std.proofs.Common.{◌≡◌, ℕ, suc, ◌<◌, ◌≤◌, ◌==◌, true, false, cond, not, ◌&&◌, ◌||◌, List, [], ◌∷◌}
use Rattle.std.proofs.Common.{◌++◌, length, inl, inr, refl, sym, ap, ap₂, ◌∙◌, subst, arith}
use Rattle.std.specs.List.{list_all}
use Rattle.std.specs.Str.{chars, IsUtf8}
use Rattle.std.proofs.lemmas.Bool.{eqb-true, and_parts, and_from, and_left, or_from, or_cases, cond_both, cond-false}
use Rattle.std.proofs.lemmas.Bool.{cases_lt, ne_eqb}
use Rattle.std.proofs.lemmas.Str.{encode_ascii, length-encode, len_utf8_bounds, encodes-chars, scalars-chars}
use lib.Utf8.{scalar as code_point, scalars, encode, encodes}
use Rattle.basic_toml_layout.specs.Texts.{quoted_byte}
use Rattle.basic_toml_layout.specs.Pretty.{is_apart, stands_in_lines, line_byte, line_bytes, three_quotes}
use Rattle.basic_toml_layout.specs.Pretty.{quoted_lines}
use Rattle.basic_toml_round_trip.proofs.QuotedIsUtf8.{is_plain, Spelt, spelt-append, spelt_plain, quoted_low}
use Rattle.basic_toml_round_trip.proofs.QuotedIsUtf8.{quoted_high, AreHigh, encoded_high, high_char}

-- ASCII stays ASCII
itself_low : (c : ℕ) (cs : List ℕ) → stands_in_lines c cs ≡ true → is_plain c ≡ true
itself_low c cs h = elim (or_cases (c == 10) ((c == 34) && is_apart cs) h) [
  | inl feed ↦ ap is_plain (eqb-true c 10 feed)
  | inr quote ↦ ap is_plain (eqb-true c 34 (and_parts _ _ quote).0)
]

line_low : (c : ℕ) (cs : List ℕ) → c < 128 → list_all is_plain (line_byte c cs) ≡ true
line_low c cs l =
    cond_both (stands_in_lines c cs) (c ∷ []) (quoted_byte c) (λ bs. list_all is_plain bs ≡ true)
    (λ h. and_from _ _ (itself_low c cs h) refl) (λ _. quoted_low c l)

-- bytes of a longer character stand for themselves
line_high : (b : ℕ) (bs : List ℕ) → 128 ≤ b → line_byte b bs ≡ b ∷ []
line_high b bs h =
    let no : stands_in_lines b bs ≡ false =
    or_from _ _ (ne_eqb b 10 (λ e. omega arith)) (and_left _ _ (ne_eqb b 34 (λ e. omega arith))) in
    cond-false (stands_in_lines b bs) (b ∷ []) (quoted_byte b) no ∙ quoted_high b h

high_lines : (xs bs : List ℕ) → AreHigh xs → line_bytes (xs ++ bs) ≡ xs ++ line_bytes bs
high_lines [] bs h = refl
high_lines (x ∷ xs) bs h =
    ap₂ (λ (s t : List ℕ). s ++ t) (line_high x (xs ++ bs) (h 0 (omega arith)))
    (high_lines xs bs (λ k below. h (suc k) (omega arith)))

-- whether a quote comes first is the same of bytes and of characters
high_apart : (xs bs : List ℕ) → AreHigh xs → 0 < length xs → is_apart (xs ++ bs) ≡ true
high_apart [] bs h l = absurd (omega arith)
high_apart (x ∷ xs) bs h l = let high : 128 ≤ x = h 0 (omega arith) in ap not (ne_eqb x 34 (λ e. omega arith))

same_apart : (cs : List ℕ) → is_apart (encodes cs) ≡ is_apart cs
same_apart [] = refl
same_apart (c ∷ cs) = elim (cases_lt c 128) [
  | inl small ↦ ap (λ l. is_apart (l ++ encodes cs)) (encode_ascii c small)
  | inr big ↦ high_apart (encode c) (encodes cs) (encoded_high c big)
      (omega (arith, length-encode c, (len_utf8_bounds c).0))
      ∙ sym (ap not (ne_eqb c 34 (λ e. omega arith)))
]

-- a character before others
one_line_char : (c : ℕ) (cs : List ℕ) → code_point c ≡ true → Spelt (line_bytes (encodes cs)) (line_bytes cs)
    → Spelt (line_bytes (encode c ++ encodes cs)) (line_byte c cs ++ line_bytes cs)
one_line_char c cs ok more = elim (cases_lt c 128) [
  | inl small ↦
      let byte : line_byte c (encodes cs) ≡ line_byte c cs =
      ap (λ apart. cond (c == 10 || (c == 34 && apart)) (c ∷ []) (quoted_byte c)) (same_apart cs) in
      subst (λ l. Spelt (line_bytes (l ++ encodes cs)) (line_byte c cs ++ line_bytes cs)) (sym (encode_ascii c small))
      (subst (λ l. Spelt (l ++ line_bytes (encodes cs)) (line_byte c cs ++ line_bytes cs)) (sym byte)
      (spelt-append (spelt_plain (line_byte c cs) (line_low c cs small)) more))
  | inr big ↦
      subst (λ l. Spelt l (line_byte c cs ++ line_bytes cs))
      (sym (high_lines (encode c) (encodes cs) (encoded_high c big)))
      (subst (λ l. Spelt (encode c ++ line_bytes (encodes cs)) (l ++ line_bytes cs)) (sym (line_high c cs big))
      (spelt-append (high_char c ok big) more))
]

lines_chars : (cs : List ℕ) → scalars cs ≡ true → Spelt (line_bytes (encodes cs)) (line_bytes cs)
lines_chars [] e = spelt_plain [] refl
lines_chars (c ∷ cs) e =
    let p : (code_point c ≡ true) × (scalars cs ≡ true) = and_parts _ _ e in
    one_line_char c cs p.0 (lines_chars cs p.1)

pub lines_spelt : (t : List ℕ) → IsUtf8 t → Spelt (quoted_lines t) (quoted_lines (chars t))
lines_spelt t u =
    let inside : Spelt (line_bytes t) (line_bytes (chars t)) =
    subst (λ l. Spelt (line_bytes l) (line_bytes (chars t))) (encodes-chars t u)
    (lines_chars (chars t) (scalars-chars t u)) in
    spelt-append (spelt_plain (three_quotes ++ 10 ∷ []) refl) (spelt-append inside (spelt_plain three_quotes refl))
