-- Runs of characters, by bytes.
use Rattle.std.proofs.Common.{◌⊎◌, inl, inr, ◌≡◌, ℕ, suc, ◌+◌, ◌-◌, ◌<◌, ◌≤◌, ◌==◌, ◌&&◌, Bool, true, false, cond}
use Rattle.std.proofs.Common.{List, [], ◌∷◌, ◌++◌, length, drop, take, refl, ap, sym, ◌∙◌, subst, arith, encode_utf8}
use Rattle.std.proofs.Common.{encode_utf8_all, get_or, length-append, length-drop, add-zero}
use Rattle.std.specs.Str.{IsUtf8, IsCharBoundary, chars}
use Rattle.std.specs.List.{prefix_len, list_all}
use lib.Utf8.{scalars}
use lib.Utf8.{scalar}
use Rattle.std.specs.Char.{len_utf8}
use Rattle.std.proofs.lemmas.List.{take_at, drop_at, drop-drop, append-nil}
use Rattle.std.proofs.lemmas.Str.{IsUtf8-drop, IsCharBoundary-from_drop, encodes-chars, scalars-chars, chars-encodes}
use Rattle.std.proofs.lemmas.Str.{inside_one, length-encode, len_utf8_bounds, encodes-append, encode_ascii}
use Rattle.std.proofs.lemmas.Bool.{cases_lt, cases_Bool, both_ways, ne_eqb, and_parts, and_from}
use Rattle.basic_toml_tokens.specs.Text.{Text, folded_from, first_of, run, after_run}
use Rattle.basic_toml_tokens.specs.Reading.{IsRun, between}

-- a test that no CR and no line feed passes, and that all characters beyond ASCII pass or none
pub record IsRunTest (p : ℕ → Bool) : Type 0 where
  pub feed : p 10 ≡ false
  pub return : p 13 ≡ false
  pub wide : (c d : ℕ) → 128 ≤ c → 128 ≤ d → p c ≡ p d

-- a front of bytes that pass
all_pass : (p : ℕ → Bool) (xs ys : List ℕ) → ((i : ℕ) → i < length xs → p (get_or xs i 0) ≡ true)
    → prefix_len p (xs ++ ys) ≡ length xs + prefix_len p ys
all_pass p [] ys h = omega arith
all_pass p (x ∷ xs) ys h =
    ap (λ (b : Bool). cond b (1 + prefix_len p (xs ++ ys)) 0) (h 0 (omega arith))
    ∙ ap (λ (n : ℕ). 1 + n) (all_pass p xs ys (λ i l. h (suc i) (omega arith))) ∙ omega arith

-- a first byte that fails
none_pass : (p : ℕ → Bool) (xs ys : List ℕ) → 0 < length xs → p (get_or xs 0 0) ≡ false → prefix_len p (xs ++ ys) ≡ 0
none_pass p [] ys l h = absurd (omega arith)
none_pass p (x ∷ xs) ys l h = ap (λ (b : Bool). cond b (1 + prefix_len p (xs ++ ys)) 0) h

front_passes : (p : ℕ → Bool) (xs : List ℕ) → list_all p (take (prefix_len p xs) xs) ≡ true
front_passes p [] = refl
front_passes p (x ∷ xs) = go (p x) refl (front_passes p xs)
  where
    go : (b : Bool) → p x ≡ b → list_all p (take (prefix_len p xs) xs) ≡ true
        → list_all p (take (cond b (1 + prefix_len p xs) 0) (x ∷ xs)) ≡ true
    go true e h =
        let e' : 1 + prefix_len p xs ≡ suc (prefix_len p xs) = omega arith in
        ap (λ (n : ℕ). list_all p (take n (x ∷ xs))) e' ∙ and_from (p x) (list_all p (take (prefix_len p xs) xs)) e h
    go false e h = refl

scalars-back : (xs ys : List ℕ) → scalars (xs ++ ys) ≡ true → scalars ys ≡ true
scalars-back [] ys h = h
scalars-back (x ∷ xs) ys h = scalars-back xs ys (and_parts (scalar x) (scalars (xs ++ ys)) h).1

-- the run of the characters cs, and the characters after it
record Cut (p : ℕ → Bool) (at : ℕ) (cs : List ℕ) : Type 0 where
  pub front : List ℕ
  pub back : List ℕ
  pub whole : cs ≡ front ++ back
  pub long : prefix_len p (encode_utf8_all cs) ≡ length (encode_utf8_all front)
  pub passed : run p (folded_from false at cs) ≡ front
  pub left : after_run p (folded_from false at cs) ≡ folded_from false (at + length (encode_utf8_all front)) back

module _ (p : ℕ → Bool) (test : IsRunTest p) where
  byte_passes : (c i : ℕ) → i < length (encode_utf8 c) → p (get_or (encode_utf8 c) i 0) ≡ p c
  byte_passes c i l = go (cases_lt (get_or (encode_utf8 c) i 0) 128) (cases_lt c 128)
    where
      go : (get_or (encode_utf8 c) i 0 < 128) ⊎ (128 ≤ get_or (encode_utf8 c) i 0) → (c < 128) ⊎ (128 ≤ c)
          → p (get_or (encode_utf8 c) i 0) ≡ p c
      go (inl small) k = ap p (sym (inside_one c [] (encode_utf8 c) i (sym (append-nil (encode_utf8 c))) l small))
      go (inr large) (inl small) =
          let one : encode_utf8 c ≡ c ∷ [] = encode_ascii c small in
          let first : i ≡ 0 = omega (arith, ap length one) in
          ap p (ap (λ (xs : List ℕ). get_or xs i 0) one ∙ ap (λ (n : ℕ). get_or (c ∷ []) n 0) first)
      go (inr large) (inr big) = test.wide (get_or (encode_utf8 c) i 0) c large big

  no_run : (at : ℕ) (c : ℕ) (cs : List ℕ) → p c ≡ false → Cut p at (c ∷ cs)
  no_run at c cs h = record {
    front = [];
    back = c ∷ cs;
    whole = refl;
    long = none_pass p (encode_utf8 c) (encode_utf8_all cs) (omega (arith, length-encode c, (len_utf8_bounds c).0))
        (byte_passes c 0 (omega (arith, length-encode c, (len_utf8_bounds c).0)) ∙ h);
    passed = no_front (c == 13 && first_of cs == 10) _ _;
    left = no_move (c == 13 && first_of cs == 10) _ _ ∙
        ap (λ (n : ℕ). folded_from false n (c ∷ cs)) (sym (add-zero at));
  }
    where
      no_front : (b : Bool) (t u : Text) → run p (cond b ((at, 10) ∷ t) ((at, c) ∷ u)) ≡ []
      no_front true t u = rw test.feed refl
      no_front false t u = rw h refl

      no_move : (b : Bool) (t u : Text)
          → after_run p (cond b ((at, 10) ∷ t) ((at, c) ∷ u)) ≡ cond b ((at, 10) ∷ t) ((at, c) ∷ u)
      no_move true t u = rw test.feed refl
      no_move false t u = rw h refl

  more_run : (at : ℕ) (c : ℕ) (cs : List ℕ) → p c ≡ true → Cut p (at + len_utf8 c) cs → Cut p at (c ∷ cs)
  more_run at c cs h r =
      let no_return : (c == 13) ≡ false = ne_eqb c 13 (λ e. both_ways (p 13) test.return (rw e at h)) in
      record {
        front = c ∷ r.front;
        back = r.back;
        whole = ap (λ (t : List ℕ). c ∷ t) r.whole;
        long = all_pass p (encode_utf8 c) (encode_utf8_all cs) (λ i l. byte_passes c i l ∙ h) ∙
            omega (arith, r.long, length-append (encode_utf8 c) (encode_utf8_all r.front));
        passed = rw (no_return, h) (ap (λ (t : List ℕ). c ∷ t) r.passed);
        left = rw (no_return, h) (r.left ∙
            ap (λ (n : ℕ). folded_from false n r.back)
            (omega (arith, length-encode c, length-append (encode_utf8 c) (encode_utf8_all r.front))));
      }

  cut : (at : ℕ) (cs : List ℕ) → Cut p at cs
  cut at [] = record { front = []; back = []; whole = refl; long = refl; passed = refl; left = refl }
  cut at (c ∷ cs) = go (cases_Bool (p c)) (cut (at + len_utf8 c) cs)
    where
      go : (p c ≡ true) ⊎ (p c ≡ false) → Cut p (at + len_utf8 c) cs → Cut p at (c ∷ cs)
      go (inl h) r = more_run at c cs h r
      go (inr h) r = no_run at c cs h

  pub run_by_bytes : (bytes : List ℕ) (at : ℕ) → IsUtf8 bytes → IsCharBoundary bytes at
      → IsRun p bytes at (at + prefix_len p (drop at bytes))
  run_by_bytes bytes at whole here =
      let bs = drop at bytes in
      let utf8 : IsUtf8 bs = IsUtf8-drop bytes at whole here in
      let r = cut at (chars bs) in
      let n = length (encode_utf8_all r.front) in
      let split : bs ≡ encode_utf8_all r.front ++ encode_utf8_all r.back = sym (encodes-chars bs utf8) ∙
      ap encode_utf8_all r.whole ∙ encodes-append r.front r.back in
      let long : prefix_len p bs ≡ n = ap (prefix_len p) (sym (encodes-chars bs utf8)) ∙ r.long in
      let after : drop (at + n) bytes ≡ encode_utf8_all r.back = sym (drop-drop n at bytes) ∙ ap (drop n) split ∙
      drop_at (encode_utf8_all r.front) (encode_utf8_all r.back) n refl in
      let scalar_back : scalars r.back ≡ true =
      scalars-back r.front r.back (ap scalars (sym r.whole) ∙ scalars-chars bs utf8) in
      let fits : at + n ≤ length bytes =
      omega (
        arith,
        here.0,
        length-drop at bytes,
        ap length split,
        length-append (encode_utf8_all r.front) (encode_utf8_all r.back),
      ) in
      let span : n ≡ at + n - at = omega arith in
      let front_is : take n bs ≡ between bytes at (at + n) = ap (λ (m : ℕ). take m bs) span in
      subst (λ (m : ℕ). IsRun p bytes at (at + m)) (sym long) (record {
        rest = ap (folded_from false (at + n)) (ap chars after ∙ chars-encodes r.back scalar_back) ∙ sym r.left;
        boundary = IsCharBoundary-from_drop bytes (at + n) fits (rw after (r.back, (scalar_back, refl)));
        forward = omega arith;
        spelled = ap encode_utf8_all r.passed ∙
            sym (take_at (encode_utf8_all r.front) (encode_utf8_all r.back) n refl) ∙ ap (take n) (sym split) ∙
            front_is;
        passed = ap (list_all p) (sym front_is) ∙ ap (λ (m : ℕ). list_all p (take m bs)) (sym long) ∙ front_passes p bs;
      })
