-- What the byte at an offset says of the character there.
use Rattle.std.proofs.Common.{◌⊎◌, inl, inr, ◌≡◌, ◌≢◌, ℕ, ◌+◌, ◌<◌, ◌≤◌, ◌==◌, Bool, true, false, cond, List, []}
use Rattle.std.proofs.Common.{◌∷◌, length, drop, get_or, refl, ap, sym, ◌∙◌, arith}
use Rattle.std.proofs.Common.{encode_utf8_all, ltb-true, Some, None, length-drop, get_or-drop}
use Rattle.std.specs.Prelude.{not, ◌||◌}
use Rattle.std.specs.Str.{IsUtf8, IsCharBoundary}
use Rattle.std.specs.List.{prefix_len}
use Rattle.std.proofs.lemmas.List.Sums.{prefix_len-drop_no, prefix_len-drop_all}
use Rattle.std.proofs.lemmas.Str.{IsUtf8-drop, byte_from_char}
use Rattle.std.proofs.lemmas.Bool.{and_parts, ne_eqb, cases_lt, false≢true, eqb-true, eq-eqb}
use Rattle.basic_toml_tokens.specs.Text.{text_at, after_run}
use Rattle.basic_toml_tokens.specs.Reading.{IsStep}
use Rattle.basic_toml_tokens.specs.Punctuation.{is_lone, IsPunctuationEnd}
use Rattle.basic_toml_tokens.specs.Quote.{IsFeed}
use Rattle.std.specs.Char.{len_utf8}
use Rattle.basic_toml_tokens.proofs.StepIsTheFold.{text_end, step_other, byte_step, bare_step, feed_step}
use Rattle.basic_toml_tokens.proofs.RunsAreFound.{IsRunTest, run_by_bytes}

pub lone_bounds : (c : ℕ) → is_lone c ≡ true → (c < 128) × (c ≢ 10) × (c ≢ 13)
lone_bounds c h =
    let (small, other) = and_parts _ _ h in (
      ltb-true _ _ small,
      λ e. no (c == 10) (c == 13) (inl (ap (λ (x : ℕ). x == 10) e)) other,
      λ e. no (c == 10) (c == 13) (inr (ap (λ (x : ℕ). x == 13) e)) other,
    )
  where
    no : (a b : Bool) → (a ≡ true) ⊎ (b ≡ true) → not (a || b) ≡ true → ⊥
    no true b h k = false≢true k
    no false true h k = false≢true k
    no false false (inl e) k = false≢true e
    no false false (inr e) k = false≢true e

lone_test : (c : ℕ) → is_lone c ≡ true → IsRunTest (λ x. x == c)
lone_test c h =
    let (small, no_feed, no_return) = lone_bounds c h in
    record {
      feed = ne_eqb 10 c (λ e. no_feed (sym e));
      return = ne_eqb 13 c (λ e. no_return (sym e));
      wide = λ a b h k. ne_eqb a c (λ e. absurd (omega arith)) ∙ sym (ne_eqb b c (λ e. absurd (omega arith)));
    }

module _ (bytes : List ℕ) (at : ℕ) (whole : IsUtf8 bytes) (here : IsCharBoundary bytes at) where
  -- another character, or the end
  pub no_punctuation : (c : ℕ) → is_lone c ≡ true → (at < length bytes → get_or bytes at 0 ≢ c)
      → after_run (λ x. x == c) (text_at bytes at) ≡ text_at bytes at
  no_punctuation c lone ne =
      let r = run_by_bytes (λ x. x == c) (lone_test c lone) bytes at whole here in
      sym r.rest ∙ ap (text_at bytes) (ap (λ n. at + n) (nothing (cases_lt at (length bytes))) ∙ omega arith)
    where
      nothing : (at < length bytes) ⊎ (length bytes ≤ at) → prefix_len (λ x. x == c) (drop at bytes) ≡ 0
      nothing (inl h) = prefix_len-drop_no (λ x. x == c) bytes at 0 h (ne_eqb (get_or bytes at 0) c (ne h))
      nothing (inr h) = prefix_len-drop_all (λ x. x == c) bytes at h

  -- the character itself
  pub punctuation_there : (c : ℕ) → is_lone c ≡ true → at < length bytes → get_or bytes at 0 ≡ c
      → IsPunctuationEnd c bytes at (Some (at + 1))
  punctuation_there c lone within is =
      let (small, no_feed, no_return) = lone_bounds c lone in
      let s = byte_step bytes at whole here within c is small no_return in
      (s.text, s.boundary, refl, is)

  pub feed_there : get_or bytes at 0 ≡ 10 → at < length bytes → IsFeed bytes at (Some (at + 1))
  feed_there is within =
      let s = byte_step bytes at whole here within 10 is (omega arith) (λ e. absurd (omega arith)) in
      (s.text, s.boundary, s.later, s.feed refl)

  pub return_there : get_or bytes at 0 ≡ 13 → get_or bytes (at + 1) 0 ≡ 10 → at < length bytes
      → IsFeed bytes at (Some (at + 2))
  return_there is next within =
      let s = feed_step bytes at whole here within is next in
      (s.text, s.boundary, s.later, s.feed refl)

  other_character : (c next : ℕ) → IsStep bytes at c next → c ≢ 10 → IsFeed bytes at None
  other_character c next s ne = ap (after_run (λ x. x == 10)) s.text ∙
      ap (λ b. cond b (after_run (λ x. x == 10) (text_at bytes next)) ((at, c) ∷ text_at bytes next)) (ne_eqb c 10 ne)
      ∙ sym s.text

  pub over : length bytes ≤ at → IsFeed bytes at None
  over h = ap (after_run (λ x. x == 10)) (text_end bytes at h) ∙ sym (text_end bytes at h)

  -- no line feed
  pub no_feed : get_or bytes at 0 ≢ 10 → (get_or bytes at 0 ≡ 13 → get_or bytes (at + 1) 0 ≢ 10) → IsFeed bytes at None
  no_feed ne bare = go (cases_lt at (length bytes))
    where
      wide : at < length bytes → 128 ≤ get_or bytes at 0 → (cs : List ℕ) → encode_utf8_all cs ≡ drop at bytes
          → IsFeed bytes at None
      wide within h [] e = over (omega (arith, ap length e, length-drop at bytes))
      wide within h (c ∷ cs) e =
          let first : c < 128 → get_or bytes at 0 ≡ c =
          λ small. sym (get_or-drop at bytes 0 0 ∙ ap (λ n. get_or bytes n 0) (omega arith)) ∙
          byte_from_char (drop at bytes) (encode_utf8_all cs) c (sym e) small in
          let large : 128 ≤ c = high (cases_lt c 128) first in
          other_character c (at + len_utf8 c)
          (step_other bytes (encode_utf8_all cs) at c whole here (sym e) (λ f. absurd (omega arith)))
          (λ f. absurd (omega arith))
        where
          high : (c < 128) ⊎ (128 ≤ c) → (c < 128 → get_or bytes at 0 ≡ c) → 128 ≤ c
          high (inl s) f = absurd (omega (arith, f s))
          high (inr s) f = s

      small : at < length bytes → get_or bytes at 0 < 128 → (get_or bytes at 0 ≡ 13) ⊎ (get_or bytes at 0 ≢ 13)
          → IsFeed bytes at None
      small within h (inl e) =
          other_character 13 (at + 1) (bare_step bytes at whole here within e (bare e)) (λ f. absurd (omega arith))
      small within h (inr e) =
          other_character (get_or bytes at 0) (at + 1)
          (byte_step bytes at whole here within (get_or bytes at 0) refl h e) ne

      is_return : (b : Bool) → (get_or bytes at 0 == 13) ≡ b → (get_or bytes at 0 ≡ 13) ⊎ (get_or bytes at 0 ≢ 13)
      is_return true e = inl (eqb-true _ _ e)
      is_return false e = inr (λ f. false≢true (sym e ∙ eq-eqb _ _ f))

      byte : at < length bytes → (get_or bytes at 0 < 128) ⊎ (128 ≤ get_or bytes at 0) → IsFeed bytes at None
      byte within (inl h) = small within h (is_return (get_or bytes at 0 == 13) refl)
      byte within (inr h) = wide within h (IsUtf8-drop bytes at whole here).0 (IsUtf8-drop bytes at whole here).1.1

      go : (at < length bytes) ⊎ (length bytes ≤ at) → IsFeed bytes at None
      go (inl h) = byte h (cases_lt (get_or bytes at 0) 128)
      go (inr h) = over h
