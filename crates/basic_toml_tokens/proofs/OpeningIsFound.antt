-- Where the body of a string begins.
use Rattle.std.proofs.Common.{◌⊎◌, inl, inr, ◌≡◌, ℕ, suc, ◌+◌, ◌-◌, ◌<◌, ◌≤◌, ◌==◌, ◌&&◌, Bool, true, false, cond}
use Rattle.std.proofs.Common.{List, [], ◌∷◌, length, drop, refl, ap, sym, ◌∙◌, subst, arith, get_or, Some, None}
use Rattle.std.specs.Str.{IsUtf8, IsCharBoundary}
use Rattle.std.specs.List.{list_any}
use Rattle.std.proofs.lemmas.Bool.{or_cases, and_parts, eqb-true, both_ways}
use Rattle.basic_toml_tokens.specs.Text.{Text, text_at, after_run}
use Rattle.basic_toml_tokens.specs.Strings.{is_quote, count_of, after_feed, Opens, one_line, multiline}
use Rattle.basic_toml_tokens.specs.Reading.{between, AreFeedBytes, IsStep}
use Rattle.basic_toml_tokens.specs.Copies.{is_special, without_feed, is_copied}
use Rattle.basic_toml_tokens.specs.Quote.{IsFeed, AreDelimiters}
use Rattle.basic_toml_tokens.specs.String.{IsOpen}
use Rattle.basic_toml_tokens.proofs.TextBetweenOffsets.{between_cons, get_or-between, drop-between, length-between}
use Rattle.basic_toml_tokens.proofs.DelimitersAreCounted.{quote_bounds}
use Rattle.basic_toml_tokens.proofs.StepIsTheFold.{byte_step, feed_step}
use Rattle.basic_toml_tokens.proofs.SpacesAreRuns.{fails_first}

plain_quote : (d : ℕ) → is_quote d ≡ true → is_special d d ≡ false
plain_quote d q = go (or_cases (d == 34) (d == 39) q)
  where
    go : ((d == 34) ≡ true) ⊎ ((d == 39) ≡ true) → is_special d d ≡ false
    go (inl e) = rw (eqb-true d 34 e) refl
    go (inr e) = rw (eqb-true d 39 e) refl

no_return : (bs : List ℕ) → without_feed (10 ∷ bs) ≡ 10 ∷ bs
no_return [] = refl
no_return (b ∷ bs) = refl

pub after_no_feed : (text : Text) → after_run (λ c. c == 10) text ≡ text → after_feed text ≡ text
after_no_feed [] h = refl
after_no_feed (x ∷ text) h = ap (λ (b : Bool). cond b text (x ∷ text)) (fails_first (λ c. c == 10) x text h)

module _ (bytes : List ℕ) (start d : ℕ) (whole : IsUtf8 bytes) (here : IsCharBoundary bytes start)
    (within : start < length bytes) (first : get_or bytes start 0 ≡ d) (quoted : is_quote d ≡ true) where
  opening_step : IsStep bytes start d (start + 1)
  opening_step = let (small, not_return, not_feed) = quote_bounds d quoted in
      byte_step bytes start whole here within d first small not_return

  source_cons : (end : ℕ) → start < end → between bytes start end ≡ d ∷ between bytes (start + 1) end
  source_cons end h = between_cons bytes start end within h ∙ ap (λ (b : ℕ). b ∷ between bytes (start + 1) end) first

  pub open_one : count_of d (text_at bytes start) < 3
      → IsOpen bytes start (record { delimiter = d; multiline = false }) (start + 1)
  open_one l = record {
    opens = one_line opening_step.text quoted l;
    quoted = quoted;
    boundary = opening_step.boundary;
    forward = omega arith;
    copies = λ end h k. ap (is_copied false) (source_cons end (omega arith)) ∙ rw (plain_quote d quoted) refl;
  }

  module _ (n : ℕ) (ds : AreDelimiters d bytes start 5 n) (l : 3 ≤ n) where
    third : text_at bytes (start + 3) ≡ drop 2 (text_at bytes (start + 1))
    third = ds.rest 3 l ∙ ap (drop 3) opening_step.text

    multiline_copies : (end : ℕ) → start + 3 ≤ end
        → is_copied true (between bytes start end)
        ≡ list_any (is_special d) (without_feed (between bytes (start + 3) end))
    multiline_copies end h =
        let source = between bytes start end in
        ap (λ (t : List ℕ). list_any (is_special (get_or source 0 0)) (without_feed t))
        (drop-between bytes start 3 end h)
        ∙ ap (λ (b : ℕ). list_any (is_special b) (without_feed (between bytes (start + 3) end)))
        (ap (λ (t : List ℕ). get_or t 0 0) (source_cons end (omega arith)))

    pub open_feed : (body : ℕ) → IsFeed bytes (start + 3) (Some body)
        → IsOpen bytes start (record { delimiter = d; multiline = true }) body
    open_feed body f = record {
      opens = subst (λ (t : Text). Opens (text_at bytes start) start (record { delimiter = d; multiline = true }) t)
          (ap after_feed (sym third ∙ f.0)) (multiline opening_step.text quoted (omega (arith, ds.counted)));
      quoted = quoted;
      boundary = f.1;
      forward = omega (arith, f.2);
      copies = λ end h k. multiline_copies end (omega (arith, f.2)) ∙ by_bytes end h k f.3;
    }
      where
        by_bytes : (end : ℕ) → body ≤ end → end ≤ length bytes → AreFeedBytes bytes (start + 3) body
            → list_any (is_special d) (without_feed (between bytes (start + 3) end))
            ≡ list_any (is_special d) (between bytes body end)
        by_bytes end h k (inl (is, next)) =
            let here : between bytes (start + 3) end ≡ 10 ∷ between bytes body end =
            between_cons bytes (start + 3) end (omega arith) (omega arith) ∙
            ap (λ (b : ℕ). b ∷ between bytes (start + 3 + 1) end) is ∙
            ap (λ (n : ℕ). 10 ∷ between bytes n end) (sym next) in
            ap (λ (t : List ℕ). list_any (is_special d) (without_feed t)) here ∙
            ap (list_any (is_special d)) (no_return (between bytes body end))
        by_bytes end h k (inr (is, then, next)) =
            let two : start + 3 + 1 + 1 ≡ body = omega arith in
            let here : between bytes (start + 3) end ≡ 13 ∷ 10 ∷ between bytes body end =
            between_cons bytes (start + 3) end (omega arith) (omega arith) ∙
            ap (λ (t : List ℕ). get_or bytes (start + 3) 0 ∷ t)
            (between_cons bytes (start + 3 + 1) end (omega arith) (omega arith))
            ∙ ap (λ (b : ℕ). b ∷ get_or bytes (start + 3 + 1) 0 ∷ between bytes (start + 3 + 1 + 1) end) is ∙
            ap (λ (b : ℕ). 13 ∷ b ∷ between bytes (start + 3 + 1 + 1) end) then ∙
            ap (λ (n : ℕ). 13 ∷ 10 ∷ between bytes n end) two in
            ap (λ (t : List ℕ). list_any (is_special d) (without_feed t)) here

    pub open_bare : IsFeed bytes (start + 3) None
        → IsOpen bytes start (record { delimiter = d; multiline = true }) (start + 3)
    open_bare f = record {
      opens = subst (λ (t : Text). Opens (text_at bytes start) start (record { delimiter = d; multiline = true }) t)
          (ap after_feed (sym third) ∙ after_no_feed (text_at bytes (start + 3)) f)
          (multiline opening_step.text quoted (omega (arith, ds.counted)));
      quoted = quoted;
      boundary = ds.boundary 3 l;
      forward = omega arith;
      copies = λ end h k. multiline_copies end h ∙
          ap (list_any (is_special d)) (unchanged end h k (between bytes (start + 3) end) refl);
    }
      where
        zero_more : start + 3 ≡ start + 3 + 0
        zero_more = omega arith

        no_feed : IsStep bytes (start + 3) 10 (start + 3 + 2) → ⊥
        no_feed s = let z : true ≡ false =
            fails_first (λ c. c == 10) (start + 3, 10) (text_at bytes (start + 3 + 2)) (rw s.text at f) in
            both_ways true z refl

        unchanged : (end : ℕ) → start + 3 ≤ end → end ≤ length bytes → (t : List ℕ)
            → between bytes (start + 3) end ≡ t → without_feed t ≡ t
        unchanged end h k [] e = refl
        unchanged end h k (b ∷ []) e = refl
        unchanged end h k (b ∷ c ∷ bs) e = go (b == 13 && c == 10) refl
          where
            go : (x : Bool) → (b == 13 && c == 10) ≡ x → cond x bs (b ∷ c ∷ bs) ≡ b ∷ c ∷ bs
            go true t =
                let (one, two) = and_parts (b == 13) (c == 10) t in
                let long : suc (suc (length bs)) ≡ end - (start + 3) = sym (ap length e) ∙
                length-between bytes (start + 3) end h k in
                let is : get_or bytes (start + 3) 0 ≡ 13 =
                ap (λ (n : ℕ). get_or bytes n 0) zero_more ∙
                sym (get_or-between bytes (start + 3) end 0 (omega arith)) ∙ ap (λ (t : List ℕ). get_or t 0 0) e ∙
                eqb-true b 13 one in
                let then : get_or bytes (start + 3 + 1) 0 ≡ 10 =
                sym (get_or-between bytes (start + 3) end 1 (omega arith)) ∙ ap (λ (t : List ℕ). get_or t 1 0) e ∙
                eqb-true c 10 two in
                absurd (no_feed (feed_step bytes (start + 3) whole (ds.boundary 3 l) (omega arith) is then))
            go false t = refl
