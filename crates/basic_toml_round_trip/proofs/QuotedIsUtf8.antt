-- Bytes that are the UTF-8 of characters, with no carriage return: ASCII, and a text that is quoted byte by byte.
use Rattle.std.proofs.Common.{◌≡◌, ℕ, suc, ◌+◌, ◌<◌, ◌≤◌, ◌==◌, Bool, true, false, not, ◌&&◌, nat_lt, List, [], ◌∷◌}
use Rattle.std.proofs.Common.{◌++◌, length, get_or, inl, inr, refl, sym, ap, ap₂, ◌∙◌, subst, arith, append_assoc}
use Rattle.std.proofs.Common.{append-nil, ltb-true, encode_utf8_all}
use Rattle.std.specs.List.{list_all}
use Rattle.std.specs.Char.{len_utf8}
use Rattle.std.specs.Str.{chars, IsUtf8}
use Rattle.std.proofs.lemmas.Bool.{and_parts, and_from, or_from, not-true, cases_lt, ne_eqb, agree_below_at}
use Rattle.std.proofs.lemmas.Bool.Decides.{nat_tests}
use Rattle.std.proofs.lemmas.List.Folds.{list_all-append, list_any-append}
use Rattle.std.proofs.lemmas.Str.{encode_ascii, inside_one, encodes-append, encodes-chars, scalars-chars, chars-encodes}
use lib.Utf8.{scalar as code_point, scalars, encode, encodes, low_scalar}
use Rattle.basic_toml_tokens.specs.Text.{folded_from}
use Rattle.basic_toml_layout.specs.Texts.{quoted_byte, quoted_bytes, quoted}
use Rattle.basic_toml_grammar.specs.Respelled.{characters, has_return}

-- a character, and no carriage return
abbrev pub is_fine : ℕ → Bool
is_fine c = code_point c && not (c == 13)

-- the bytes spell these characters
pub record Spelt (bytes cs : List ℕ) : Type 0 where
  pub encoded : encode_utf8_all cs ≡ bytes
  pub fine : list_all is_fine cs ≡ true
  pub returnless : has_return bytes ≡ false

pub spelt-append : {a b c d : List ℕ} → Spelt a b → Spelt c d → Spelt (a ++ c) (b ++ d)
spelt-append {a = a} {b = b} {c = c} {d = d} x y = record {
  encoded = encodes-append b d ∙ ap₂ (λ (s t : List ℕ). s ++ t) x.encoded y.encoded;
  fine = list_all-append is_fine b d ∙ and_from _ _ x.fine y.fine;
  returnless = list_any-append (λ b. b == 13) a c ∙ or_from _ _ x.returnless y.returnless;
}

-- ASCII without a carriage return spells itself
abbrev pub is_plain : ℕ → Bool
is_plain b = nat_lt b 128 && not (b == 13)

pub spelt_plain : (bs : List ℕ) → list_all is_plain bs ≡ true → Spelt bs bs
spelt_plain [] e = record { encoded = refl; fine = refl; returnless = refl }
spelt_plain (b ∷ bs) e =
    let p : (is_plain b ≡ true) × (list_all is_plain bs ≡ true) = and_parts _ _ e in
    let q : (nat_lt b 128 ≡ true) × (not (b == 13) ≡ true) = and_parts _ _ p.0 in
    let small : b < 128 = ltb-true b 128 q.0 in
    let r = spelt_plain bs p.1 in
    record {
      encoded = ap₂ (λ (s t : List ℕ). s ++ t) (encode_ascii b small) r.encoded;
      fine = and_from _ _ (and_from _ _ (low_scalar b (omega arith)) q.1) r.fine;
      returnless = or_from _ _ (not-true _ q.1) r.returnless;
    }

-- a quoted character
pub quoted_low : (c : ℕ) → c < 128 → list_all is_plain (quoted_byte c) ≡ true
quoted_low c l = agree_below_at (λ c. list_all is_plain (quoted_byte c)) (λ c. true) 128 c refl l

pub quoted_high : (b : ℕ) → 128 ≤ b → quoted_byte b ≡ b ∷ []
quoted_high b h = grind (arith, nat_tests)

quoted-append : (xs ys : List ℕ) → quoted_bytes (xs ++ ys) ≡ quoted_bytes xs ++ quoted_bytes ys
quoted-append [] ys = refl
quoted-append (x ∷ xs) ys =
    ap (λ l. quoted_byte x ++ l) (quoted-append xs ys)
    ∙ sym (append_assoc (quoted_byte x) (quoted_bytes xs) (quoted_bytes ys))

-- bytes of a longer character stand for themselves
abbrev pub AreHigh : List ℕ → Type 0
AreHigh xs = (k : ℕ) → k < length xs → 128 ≤ get_or xs k 0

pub encoded_high : (c : ℕ) → 128 ≤ c → AreHigh (encode c)
encoded_high c big k below = elim (cases_lt (get_or (encode c) k 0) 128) [
  | inl low ↦ absurd (omega (arith, inside_one c [] (encode c) k (sym (append-nil _)) below low))
  | inr high ↦ high
]

high_quoted : (xs : List ℕ) → AreHigh xs → quoted_bytes xs ≡ xs
high_quoted [] h = refl
high_quoted (x ∷ xs) h =
    ap₂ (λ (a b : List ℕ). a ++ b) (quoted_high x (h 0 (omega arith)))
    (high_quoted xs (λ k below. h (suc k) (omega arith)))

high_returnless : (xs : List ℕ) → AreHigh xs → has_return xs ≡ false
high_returnless [] h = refl
high_returnless (x ∷ xs) h =
    let high : 128 ≤ x = h 0 (omega arith) in
    or_from _ _ (ne_eqb x 13 (λ e. omega arith)) (high_returnless xs (λ k below. h (suc k) (omega arith)))

pub high_char : (c : ℕ) → code_point c ≡ true → 128 ≤ c → Spelt (encode c) (c ∷ [])
high_char c ok big = record {
  encoded = append-nil (encode c);
  fine = and_from _ _ (and_from _ _ ok (ap not (ne_eqb c 13 (λ e. omega arith)))) refl;
  returnless = high_returnless (encode c) (encoded_high c big);
}

one_char : (c : ℕ) → code_point c ≡ true → Spelt (quoted_bytes (encode c)) (quoted_byte c)
one_char c ok = elim (cases_lt c 128) [
  | inl small ↦ subst (λ l. Spelt l (quoted_byte c))
      (sym (ap quoted_bytes (encode_ascii c small) ∙ append-nil (quoted_byte c)))
      (spelt_plain (quoted_byte c) (quoted_low c small))
  | inr big ↦
      subst (λ l. Spelt (quoted_bytes (encode c)) l) (sym (quoted_high c big))
      (subst (λ l. Spelt l (c ∷ [])) (sym (high_quoted (encode c) (encoded_high c big))) (high_char c ok big))
]

quoted_chars : (cs : List ℕ) → scalars cs ≡ true → Spelt (quoted_bytes (encodes cs)) (quoted_bytes cs)
quoted_chars [] e = spelt_plain [] refl
quoted_chars (c ∷ cs) e =
    let p : (code_point c ≡ true) × (scalars cs ≡ true) = and_parts _ _ e in
    subst (λ l. Spelt l (quoted_byte c ++ quoted_bytes cs)) (sym (quoted-append (encode c) (encodes cs)))
    (spelt-append (one_char c p.0) (quoted_chars cs p.1))

pub quoted_spelt : (t : List ℕ) → IsUtf8 t → Spelt (quoted t) (quoted (chars t))
quoted_spelt t u =
    let inside : Spelt (quoted_bytes t) (quoted_bytes (chars t)) =
    subst (λ l. Spelt (quoted_bytes l) (quoted_bytes (chars t))) (encodes-chars t u)
    (quoted_chars (chars t) (scalars-chars t u)) in
    spelt-append (spelt_plain (34 ∷ []) refl) (spelt-append inside (spelt_plain (34 ∷ []) refl))

-- what is spelt is read as these characters
fine_scalars : (cs : List ℕ) → list_all is_fine cs ≡ true → scalars cs ≡ true
fine_scalars [] e = refl
fine_scalars (c ∷ cs) e =
    let p : (is_fine c ≡ true) × (list_all is_fine cs ≡ true) = and_parts _ _ e in
    and_from _ _ (and_parts _ _ p.0).0 (fine_scalars cs p.1)

pub spelt_utf8 : {bytes cs : List ℕ} → Spelt bytes cs → IsUtf8 bytes
spelt_utf8 {cs = cs} x = (cs, (fine_scalars cs x.fine, x.encoded))

pub spelt_chars : {bytes cs : List ℕ} → Spelt bytes cs → chars bytes ≡ cs
spelt_chars {cs = cs} x = ap chars (sym x.encoded) ∙ chars-encodes cs (fine_scalars cs x.fine)

pub folded_characters : (cs : List ℕ) (at : ℕ) → list_all is_fine cs ≡ true → characters (folded_from false at cs) ≡ cs
folded_characters [] at e = refl
folded_characters (c ∷ cs) at e =
    let p : (is_fine c ≡ true) × (list_all is_fine cs ≡ true) = and_parts _ _ e in
    let other : (c == 13) ≡ false = not-true _ (and_parts (code_point c) (not (c == 13)) p.0).1 in
    rw other (ap (λ l. c ∷ l) (folded_characters cs (at + len_utf8 c) p.1))
