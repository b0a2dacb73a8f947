-- Delimiters one after another.
use Rattle.std.proofs.Common.{◌⊎◌, inl, inr, ◌≡◌, ◌≢◌, ℕ, zero, suc, ◌+◌, ◌<◌, ◌≤◌, ◌==◌, Bool, true, List, [], ◌∷◌}
use Rattle.std.proofs.Common.{◌++◌, length, drop, replicate, min, refl, ap, sym, ◌∙◌, subst, arith, encode_utf8_all}
use Rattle.std.proofs.Common.{get_or}
use Rattle.std.specs.Str.{IsUtf8, IsCharBoundary}
use Rattle.std.specs.List.{prefix_len}
use Rattle.std.proofs.lemmas.List.Sums.{prefix_len-drop_no, prefix_len-drop_all}
use Rattle.std.proofs.lemmas.Str.{length-le-encodes}
use Rattle.std.proofs.lemmas.Bool.{or_cases, eq-eqb, eqb-true, ne_eqb, cases_lt}
use Rattle.basic_toml_tokens.specs.Text.{Text, text_at, run}
use Rattle.basic_toml_tokens.specs.Strings.{is_quote, count_of}
use Rattle.basic_toml_tokens.specs.Reading.{between}
use Rattle.basic_toml_tokens.specs.Quote.{AreDelimiters}
use Rattle.std.proofs.lemmas.Grind.{replicate_next}
use Rattle.basic_toml_tokens.proofs.TextBetweenOffsets.{between_self, between_join, between_one}
use Rattle.basic_toml_tokens.proofs.StepIsTheFold.{byte_step}
use Rattle.basic_toml_tokens.proofs.RunsAreFound.{IsRunTest, run_by_bytes}

-- n of them from `at` on
pub record Taken (d : ℕ) (bytes : List ℕ) (at n : ℕ) : Type 0 where
  pub counted : count_of d (text_at bytes at) ≡ n + count_of d (text_at bytes (at + n))
  pub rest : (k : ℕ) → k ≤ n → text_at bytes (at + k) ≡ drop k (text_at bytes at)
  pub boundary : (k : ℕ) → k ≤ n → IsCharBoundary bytes (at + k)
  pub spelled : between bytes at (at + n) ≡ replicate n d

pub quote_bounds : (d : ℕ) → is_quote d ≡ true → (d < 128) × (d ≢ 13) × (d ≢ 10)
quote_bounds d q = go (or_cases (d == 34) (d == 39) q)
  where
    go : ((d == 34) ≡ true) ⊎ ((d == 39) ≡ true) → (d < 128) × (d ≢ 13) × (d ≢ 10)
    go (inl e) = let h : d ≡ 34 = eqb-true d 34 e in (omega arith, λ k. absurd (omega arith), λ k. absurd (omega arith))
    go (inr e) = let h : d ≡ 39 = eqb-true d 39 e in (omega arith, λ k. absurd (omega arith), λ k. absurd (omega arith))

quote_test : (d : ℕ) → is_quote d ≡ true → IsRunTest (λ c. c == d)
quote_test d q =
    let (small, no_return, no_feed) = quote_bounds d q in
    record {
      feed = ne_eqb 10 d (λ e. no_feed (sym e));
      return = ne_eqb 13 d (λ e. no_return (sym e));
      wide = λ a b h k. ne_eqb a d (λ e. absurd (omega arith)) ∙ sym (ne_eqb b d (λ e. absurd (omega arith)));
    }

drop_one_more : (n : ℕ) (t : Text) → drop (suc n) t ≡ drop 1 (drop n t)
drop_one_more zero t = refl
drop_one_more (suc n) [] = refl
drop_one_more (suc n) (x ∷ t) = drop_one_more n t

module _ (d : ℕ) (bytes : List ℕ) (at : ℕ) (quote : is_quote d ≡ true) (whole : IsUtf8 bytes) where
  pub start : IsCharBoundary bytes at → Taken d bytes at 0
  start here = record {
    counted = let e : at + 0 ≡ at = omega arith in omega (arith, ap (λ (n : ℕ). count_of d (text_at bytes n)) e);
    rest = λ k l. let e : k ≡ 0 = omega arith in let f : at + k ≡ at = omega arith in ap (text_at bytes) f ∙
        sym (ap (λ (m : ℕ). drop m (text_at bytes at)) e);
    boundary = λ k l. let e : at ≡ at + k = omega arith in subst (IsCharBoundary bytes) e here;
    spelled = let e : at + 0 ≡ at = omega arith in ap (between bytes at) e ∙ between_self bytes at;
  }

  pub one_more : (n : ℕ) → Taken d bytes at n → at + n < length bytes → get_or bytes (at + n) 0 ≡ d
      → Taken d bytes at (n + 1)
  one_more n t within is =
      let (small, no_return, no_feed) = quote_bounds d quote in
      let s = byte_step bytes (at + n) whole (t.boundary n (omega arith)) within d is small no_return in
      let next_count : suc n ≡ n + 1 = omega arith in
      let next : at + n + 1 ≡ at + (n + 1) = omega arith in
      let counted : count_of d (text_at bytes (at + n)) ≡ suc (count_of d (text_at bytes (at + n + 1))) =
      ap (count_of d) s.text ∙ rw (eq-eqb d d refl) refl in
      record {
        counted = t.counted ∙ omega (arith, ap (λ (m : ℕ). count_of d (text_at bytes m)) next);
        rest = λ k l. rest_to k (cases_lt k (n + 1)) l
            (ap (text_at bytes) (sym next) ∙ sym (ap (drop 1) s.text) ∙ ap (drop 1) (t.rest n (omega arith)) ∙
            sym (drop_one_more n (text_at bytes at)) ∙ ap (λ (m : ℕ). drop m (text_at bytes at)) next_count);
        boundary = λ k l. up_to k (cases_lt k (n + 1)) l (subst (IsCharBoundary bytes) next s.boundary);
        spelled = sym (between_join bytes at (at + n) (at + (n + 1)) (omega arith) (omega arith)) ∙
            ap (λ (t : List ℕ). t ++ between bytes (at + n) (at + (n + 1))) t.spelled
            ∙ ap (λ (t : List ℕ). replicate n d ++ t) (ap (between bytes (at + n)) (sym next) ∙
            between_one bytes (at + n) within ∙ ap (λ (x : ℕ). x ∷ []) is) ∙ sym (replicate_next n d);
      }
    where
      rest_to : (k : ℕ) → (k < n + 1) ⊎ (n + 1 ≤ k) → k ≤ n + 1
          → text_at bytes (at + (n + 1)) ≡ drop (n + 1) (text_at bytes at)
          → text_at bytes (at + k) ≡ drop k (text_at bytes at)
      rest_to k (inl h) l e = t.rest k (omega arith)
      rest_to k (inr h) l e = let f : n + 1 ≡ k = omega arith in
          subst (λ (m : ℕ). text_at bytes (at + m) ≡ drop m (text_at bytes at)) f e

      up_to : (k : ℕ) → (k < n + 1) ⊎ (n + 1 ≤ k) → k ≤ n + 1 → IsCharBoundary bytes (at + (n + 1))
          → IsCharBoundary bytes (at + k)
      up_to k (inl h) l b = t.boundary k (omega arith)
      up_to k (inr h) l b = let e : n + 1 ≡ k = omega arith in subst (λ (m : ℕ). IsCharBoundary bytes (at + m)) e b

  pub no_other : (n : ℕ) → Taken d bytes at n → at + n ≤ length bytes
      → (at + n < length bytes → get_or bytes (at + n) 0 ≢ d) → count_of d (text_at bytes (at + n)) ≡ 0
  no_other n t within ne =
      let p : ℕ → Bool = λ c. c == d in
      let none : prefix_len p (drop (at + n) bytes) ≡ 0 = no_front (cases_lt (at + n) (length bytes)) in
      let r = run_by_bytes p (quote_test d quote) bytes (at + n) whole (t.boundary n (omega arith)) in
      let e : at + n + prefix_len p (drop (at + n) bytes) ≡ at + n = omega arith in
      let spelled : encode_utf8_all (run p (text_at bytes (at + n))) ≡ [] = r.spelled ∙
      ap (between bytes (at + n)) e ∙ between_self bytes (at + n) in
      omega (arith, ap length spelled, length-le-encodes (run p (text_at bytes (at + n))))
    where
      no_front : (at + n < length bytes) ⊎ (length bytes ≤ at + n) → prefix_len (λ c. c == d) (drop (at + n) bytes) ≡ 0
      no_front (inl h) = prefix_len-drop_no (λ c. c == d) bytes (at + n) 0 h (ne_eqb (get_or bytes (at + n) 0) d (ne h))
      no_front (inr h) = prefix_len-drop_all (λ c. c == d) bytes (at + n) h

  pub finish : (n : ℕ) → n ≤ 5 → Taken d bytes at n → (n ≡ 5) ⊎ (count_of d (text_at bytes (at + n)) ≡ 0)
      → AreDelimiters d bytes at 5 n
  finish n l t h = record { counted = up_to_limit h; rest = t.rest; boundary = t.boundary; spelled = t.spelled }
    where
      up_to_limit : (n ≡ 5) ⊎ (count_of d (text_at bytes (at + n)) ≡ 0) → n ≡ min (count_of d (text_at bytes at)) 5
      up_to_limit (inl e) = omega (arith, t.counted)
      up_to_limit (inr e) = omega (arith, t.counted)
