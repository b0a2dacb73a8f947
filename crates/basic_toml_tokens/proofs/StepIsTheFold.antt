-- One step of the fold, by characters and by bytes.
use Rattle.std.proofs.Common.{inl, inr, ◌≡◌, ◌≢◌, ℕ, ◌+◌, ◌<◌, ◌≤◌, ◌==◌, ◌&&◌, Bool, true, false, cond, List, []}
use Rattle.std.proofs.Common.{◌∷◌, ◌++◌, length, drop, refl, ap, sym, ◌∙◌, subst, arith, encode_utf8}
use Rattle.std.proofs.Common.{encode_utf8_all, get_or, add-zero, get_or-drop, length-drop}
use Rattle.std.specs.Str.{IsUtf8, IsCharBoundary, chars}
use lib.Utf8.{scalars}
use lib.Utf8.{scalar}
use Rattle.std.specs.Char.{len_utf8}
use Rattle.std.proofs.lemmas.Str.{IsUtf8-drop, chars_past_char, drop_past_char, chars-nil, byte_from_char}
use Rattle.std.proofs.lemmas.Str.{char_from_byte, IsUtf8-past_char, chars_from_encodes, chars-encodes}
use Rattle.std.proofs.lemmas.Str.{len_utf8_bounds, len_utf8_ascii, IsCharBoundary-past_char}
use Rattle.std.proofs.lemmas.Str.{IsCharBoundary-after_ascii}
use Rattle.std.proofs.lemmas.Bool.{ne_eqb, and_left, and_right, and_parts}
use Rattle.basic_toml_tokens.specs.Text.{Text, folded_from, first_of, text_at, offset_in}
use Rattle.basic_toml_tokens.specs.Reading.{IsStep}

no_more : (t : List ℕ) → length t ≡ 0 → t ≡ []
no_more [] h = refl
no_more (x ∷ t) h = cc

pub text_end : (bytes : List ℕ) (at : ℕ) → length bytes ≤ at → text_at bytes at ≡ []
text_end bytes at h = ap (λ (t : List ℕ). folded_from false at (chars t))
    (no_more (drop at bytes) (omega (arith, length-drop at bytes))) ∙ ap (folded_from false at) chars-nil

-- the first character is a line feed exactly where the first byte is
first_char : (rest cs : List ℕ) → encode_utf8_all cs ≡ rest → first_of cs ≡ 10 → get_or rest 0 0 ≡ 10
first_char rest [] e h = absurd (omega arith)
first_char rest (c ∷ cs) e h = byte_from_char rest (encode_utf8_all cs) c (sym e) (omega arith) ∙ h

first_byte : (rest cs : List ℕ) → encode_utf8_all cs ≡ rest → get_or rest 0 0 ≡ 10 → 0 < length rest → first_of cs ≡ 10
first_byte rest [] e h l = absurd (omega (arith, ap length e))
first_byte rest (c ∷ cs) e h l = char_from_byte rest (encode_utf8_all cs) c (sym e) (omega arith) l ∙ h

positive : (t : List ℕ) → get_or t 0 0 ≡ 10 → 0 < length t
positive [] g = absurd (omega arith)
positive (x ∷ t) g = omega arith

-- the character c stands at `at`, and then the rest
module _ (bytes rest : List ℕ) (at c : ℕ) (utf8 : IsUtf8 (drop at bytes)) (is : drop at bytes ≡ encode_utf8 c ++ rest)
  where
    text_here : text_at bytes at ≡ folded_from false at (c ∷ chars rest)
    text_here = ap (folded_from false at) (chars_past_char (drop at bytes) rest c utf8 is)

    text_next : (b : Bool) (n : ℕ) → folded_from b n (chars rest) ≡ folded_from b n (chars (drop (at + len_utf8 c) bytes))
    text_next b n = ap (λ (t : List ℕ). folded_from b n (chars t)) (sym (drop_past_char bytes rest at c is))

    single : (c == 13 && first_of (chars rest) == 10) ≡ false → text_at bytes at ≡ (at, c)
        ∷ text_at bytes (at + len_utf8 c)
    single h = text_here ∙ rw h (ap (λ (t : Text). (at, c) ∷ t) (text_next false (at + len_utf8 c)))

    text_other : c ≢ 13 → text_at bytes at ≡ (at, c) ∷ text_at bytes (at + len_utf8 c)
    text_other h = single (and_left (c == 13) (first_of (chars rest) == 10) (ne_eqb c 13 h))

    text_bare : get_or rest 0 0 ≢ 10 → text_at bytes at ≡ (at, c) ∷ text_at bytes (at + len_utf8 c)
    text_bare h =
        let (cs, (ok, e)) = IsUtf8-past_char (drop at bytes) rest c utf8 is in
        let same : cs ≡ chars rest = chars_from_encodes cs rest (cs, (ok, e)) e in
        let no : first_of (chars rest) ≢ 10 = λ f. h (first_char rest cs e (ap first_of same ∙ f)) in
        single (and_right (c == 13) (first_of (chars rest) == 10) (ne_eqb (first_of (chars rest)) 10 no))

    text_feed : c ≡ 13 → get_or rest 0 0 ≡ 10 → text_at bytes at ≡ (at, 10) ∷ text_at bytes (at + len_utf8 c + 1)
    text_feed h f =
        let (cs, (ok, e)) = IsUtf8-past_char (drop at bytes) rest c utf8 is in
        let l : 0 < length rest = positive rest f in
        feed cs ok e (first_byte rest cs e f l) (chars_from_encodes cs rest (cs, (ok, e)) e)
      where
        feed : (cs : List ℕ) → scalars cs ≡ true → encode_utf8_all cs ≡ rest → first_of cs ≡ 10 → cs ≡ chars rest
            → text_at bytes at ≡ (at, 10) ∷ text_at bytes (at + len_utf8 c + 1)
        feed [] ok e f same = absurd (omega arith)
        feed (d ∷ ds) ok e f same =
            let there : drop (at + len_utf8 c) bytes ≡ encode_utf8 10 ++ encode_utf8_all ds =
            drop_past_char bytes rest at c is ∙ sym e ∙ ap (λ (x : ℕ). encode_utf8 x ++ encode_utf8_all ds) f in
            let after : drop (at + len_utf8 c + 1) bytes ≡ encode_utf8_all ds =
            drop_past_char bytes (encode_utf8_all ds) (at + len_utf8 c) 10 there in
            let ds_are : chars (encode_utf8_all ds) ≡ ds = chars-encodes ds (and_parts (scalar d) (scalars ds) ok).1 in
            let rest_is : chars (drop (at + 1 + 1) bytes) ≡ ds = rw h at (ap chars after ∙ ds_are) in
            text_here ∙ rw (← same) (rw (h, f)
            (ap (λ (t : List ℕ). (at, 10) ∷ folded_from false (at + 1 + 1) t) (sym rest_is)))

module _ (bytes rest : List ℕ) (at c : ℕ) (whole : IsUtf8 bytes) (here : IsCharBoundary bytes at)
    (is : drop at bytes ≡ encode_utf8 c ++ rest) where
  utf8 : IsUtf8 (drop at bytes)
  utf8 = IsUtf8-drop bytes at whole here

  one_byte : c ≡ 10 → at + len_utf8 c ≡ at + 1
  one_byte e = omega (arith, ap len_utf8 e)

  one_more : c ≡ 13 → at + len_utf8 c ≡ at + 1
  one_more e = omega (arith, ap len_utf8 e)

  first_is : c < 128 → get_or bytes at 0 ≡ c
  first_is small =
      let there : at + 0 ≡ at = omega arith in
      sym (get_or-drop at bytes 0 0 ∙ ap (λ (n : ℕ). get_or bytes n 0) there) ∙
      byte_from_char (drop at bytes) rest c is small

  pub step_other : c ≢ 13 → IsStep bytes at c (at + len_utf8 c)
  step_other h = record {
    text = text_other bytes rest at c utf8 is h;
    later = omega (arith, (len_utf8_bounds c).0);
    boundary = IsCharBoundary-past_char bytes rest at c here.0 utf8 is;
    feed = λ e. inl (first_is (omega arith) ∙ e, one_byte e);
    byte = λ small _. first_is small;
  }

  pub step_bare : get_or rest 0 0 ≢ 10 → IsStep bytes at c (at + len_utf8 c)
  step_bare h = record {
    text = text_bare bytes rest at c utf8 is h;
    later = omega (arith, (len_utf8_bounds c).0);
    boundary = IsCharBoundary-past_char bytes rest at c here.0 utf8 is;
    feed = λ e. inl (first_is (omega arith) ∙ e, one_byte e);
    byte = λ small _. first_is small;
  }

  pub step_feed : c ≡ 13 → get_or rest 0 0 ≡ 10 → IsStep bytes at 10 (at + len_utf8 c + 1)
  step_feed h f =
      let past : drop (at + len_utf8 c) bytes ≡ rest = drop_past_char bytes rest at c is in
      let g : get_or bytes (at + len_utf8 c + 0) 0 ≡ 10 = sym (get_or-drop (at + len_utf8 c) bytes 0 0) ∙
      ap (λ (t : List ℕ). get_or t 0 0) past ∙ f in
      let at_next : get_or bytes (at + len_utf8 c) 0 ≡ 10 = rw add-zero at g in
      let within : at + len_utf8 c < length bytes =
      omega (arith, length-drop (at + len_utf8 c) bytes, ap length past, positive rest f) in
      let second : get_or bytes (at + 1) 0 ≡ 10 = ap (λ (n : ℕ). get_or bytes n 0) (sym (one_more h)) ∙ at_next in
      record {
        text = text_feed bytes rest at c utf8 is h f;
        later = omega (arith, (len_utf8_bounds c).0);
        boundary = IsCharBoundary-after_ascii bytes (at + len_utf8 c) whole within (rw at_next (omega arith));
        feed = λ _. inr (first_is (omega arith) ∙ h, second, omega (arith, ap len_utf8 h));
        byte = λ _ no_feed. absurd (no_feed refl);
      }

-- The same by the byte at an offset, where it is ASCII.
module _ (bytes : List ℕ) (at : ℕ) (whole : IsUtf8 bytes) (here : IsCharBoundary bytes at)
    (within : at < length bytes) where
  first_byte_is : get_or (drop at bytes) 0 0 ≡ get_or bytes at 0
  first_byte_is = get_or-drop at bytes 0 0 ∙ ap (λ (n : ℕ). get_or bytes n 0) (omega arith)

  pub split_here : get_or bytes at 0 < 128 → (rest : List ℕ) × (drop at bytes ≡ encode_utf8 (get_or bytes at 0) ++ rest)
  split_here small = go (IsUtf8-drop bytes at whole here).0 (IsUtf8-drop bytes at whole here).1.1
    where
      go : (cs : List ℕ) → encode_utf8_all cs ≡ drop at bytes → (rest : List ℕ)
          × (drop at bytes ≡ encode_utf8 (get_or bytes at 0) ++ rest)
      go [] e = absurd (omega (arith, ap length e, length-drop at bytes))
      go (c ∷ cs) e =
          let is : c ≡ get_or (drop at bytes) 0 0 =
          char_from_byte (drop at bytes) (encode_utf8_all cs) c (sym e) (omega (arith, first_byte_is))
          (omega (arith, length-drop at bytes)) in
          (encode_utf8_all cs, sym e ∙ ap (λ (x : ℕ). encode_utf8 x ++ encode_utf8_all cs) (is ∙ first_byte_is))

-- what follows an ASCII byte
after : (bytes rest : List ℕ) (at b : ℕ) → b < 128 → drop at bytes ≡ encode_utf8 b ++ rest
    → get_or rest 0 0 ≡ get_or bytes (at + 1) 0
after bytes rest at b small is =
    let past : drop (at + len_utf8 b) bytes ≡ rest = drop_past_char bytes rest at b is in
    ap (λ (t : List ℕ). get_or t 0 0) (sym past) ∙ get_or-drop (at + len_utf8 b) bytes 0 0 ∙
    ap (λ (n : ℕ). get_or bytes n 0) (omega (arith, len_utf8_ascii b small))

module _ (bytes : List ℕ) (at : ℕ) (whole : IsUtf8 bytes) (here : IsCharBoundary bytes at)
    (within : at < length bytes) where
  -- an ASCII byte that is no CR
  pub byte_step : (b : ℕ) → get_or bytes at 0 ≡ b → b < 128 → b ≢ 13 → IsStep bytes at b (at + 1)
  byte_step b e small ne =
      let (rest, is) = split_here bytes at whole here within (omega arith) in
      subst (λ (n : ℕ). IsStep bytes at b (at + n)) (len_utf8_ascii b small)
      (step_other bytes rest at b whole here (is ∙ ap (λ (x : ℕ). encode_utf8 x ++ rest) e) ne)

  -- a CR alone
  pub bare_step : get_or bytes at 0 ≡ 13 → get_or bytes (at + 1) 0 ≢ 10 → IsStep bytes at 13 (at + 1)
  bare_step e ne =
      let (rest, is) = split_here bytes at whole here within (omega arith) in
      let is_return : drop at bytes ≡ encode_utf8 13 ++ rest = is ∙ ap (λ (x : ℕ). encode_utf8 x ++ rest) e in
      step_bare bytes rest at 13 whole here is_return
      (λ f. ne (sym (after bytes rest at 13 (omega arith) is_return) ∙ f))

  -- a CR and a line feed
  pub feed_step : get_or bytes at 0 ≡ 13 → get_or bytes (at + 1) 0 ≡ 10 → IsStep bytes at 10 (at + 2)
  feed_step e f =
      let (rest, is) = split_here bytes at whole here within (omega arith) in
      let is_return : drop at bytes ≡ encode_utf8 13 ++ rest = is ∙ ap (λ (x : ℕ). encode_utf8 x ++ rest) e in
      subst (λ (n : ℕ). IsStep bytes at 10 n) (omega arith)
      (step_feed bytes rest at 13 whole here is_return refl (after bytes rest at 13 (omega arith) is_return ∙ f))

-- a text begins at its offset
pub offset_is : (bytes : List ℕ) (at : ℕ) (x : ℕ × ℕ) (t : Text) → text_at bytes at ≡ x ∷ t → x.0 ≡ at
offset_is bytes at x t e = go (chars (drop at bytes)) e
  where
    first_offset : (b : Bool) (y z : ℕ × ℕ) (s u : Text) → y.0 ≡ at → z.0 ≡ at → cond b (y ∷ s) (z ∷ u) ≡ x ∷ t
        → x.0 ≡ at
    first_offset true y z s u h k e = ap (λ (t : Text). offset_in at t) (sym e) ∙ h
    first_offset false y z s u h k e = ap (λ (t : Text). offset_in at t) (sym e) ∙ k

    go : (cs : List ℕ) → folded_from false at cs ≡ x ∷ t → x.0 ≡ at
    go [] e = cc
    go (c ∷ cs) e = first_offset (c == 13 && first_of cs == 10) (at, 10) (at, c) _ _ refl refl e
