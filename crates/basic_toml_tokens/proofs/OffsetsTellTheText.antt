-- What stands at an offset of a text, whichever it is.
use Rattle.std.proofs.Common.{◌⊎◌, inl, inr, ◌≡◌, ℕ, zero, suc, ◌+◌, ◌<◌, ◌≤◌, ◌==◌, Bool, true, false, cond, List}
use Rattle.std.proofs.Common.{[], ◌∷◌, ◌++◌, length, drop, refl, ap, sym, ◌∙◌, arith, encode_utf8, encode_utf8_all}
use Rattle.std.proofs.Common.{get_or, Option, Some, None, length-drop}
use Rattle.std.specs.Str.{IsUtf8, IsCharBoundary}
use Rattle.std.proofs.lemmas.Str.{IsUtf8-drop}
use Rattle.std.proofs.lemmas.Bool.{cases_eq, cases_lt, ne_eqb}
use Rattle.basic_toml_tokens.specs.declared.quote.Quote.{Quote}
use Rattle.basic_toml_tokens.specs.Text.{Text, text_at, after_run}
use Rattle.basic_toml_tokens.specs.Strings.{Quotes, is_quote, Opens, one_line, multiline}
use Rattle.basic_toml_tokens.specs.Reading.{IsStep}
use Rattle.basic_toml_tokens.specs.Quote.{IsFeed, AreDelimiters}
use Rattle.basic_toml_tokens.specs.String.{IsOpen}
use Rattle.basic_toml_tokens.proofs.DelimitersAreCounted.{quote_bounds, Taken, start, one_more, no_other, finish}
use Rattle.basic_toml_tokens.proofs.StepIsTheFold.{text_end, step_other, step_bare, step_feed}
use Rattle.basic_toml_tokens.proofs.OpeningIsFound.{open_one, open_feed, open_bare}

-- a character, or the end
pub data Standing (bytes : List ℕ) (at : ℕ) : Type 0 where
  over : text_at bytes at ≡ [] → Standing bytes at
  stands : (c next : ℕ) → IsStep bytes at c next → Standing bytes at

pub standing : (bytes : List ℕ) (at : ℕ) → IsUtf8 bytes → IsCharBoundary bytes at → Standing bytes at
standing bytes at whole here = go (IsUtf8-drop bytes at whole here).0 (IsUtf8-drop bytes at whole here).1.1
  where
    first : (c : ℕ) (rest : List ℕ) → drop at bytes ≡ encode_utf8 c ++ rest → (c ≡ 13) ⊎ (c ≡ 13 → ⊥)
        → (get_or rest 0 0 ≡ 10) ⊎ (get_or rest 0 0 ≡ 10 → ⊥) → Standing bytes at
    first c rest is (inr ne) _ = stands _ _ (step_other bytes rest at c whole here is ne)
    first c rest is (inl e) (inr ne) = stands _ _ (step_bare bytes rest at c whole here is ne)
    first c rest is (inl e) (inl f) = stands _ _ (step_feed bytes rest at c whole here is e f)

    go : (cs : List ℕ) → encode_utf8_all cs ≡ drop at bytes → Standing bytes at
    go [] e = over (text_end bytes at (omega (arith, ap length e, length-drop at bytes)))
    go (c ∷ cs) e = first c (encode_utf8_all cs) (sym e) (cases_eq c 13) (cases_eq (get_or (encode_utf8_all cs) 0 0) 10)

-- a part of a text stands at an offset
pub record StandsAt (bytes : List ℕ) (text : Text) : Type 0 where
  pub offset : ℕ
  pub boundary : IsCharBoundary bytes offset
  pub is : text_at bytes offset ≡ text

pub part_stands : (n : ℕ) (bytes : List ℕ) (at : ℕ) → IsUtf8 bytes → IsCharBoundary bytes at
    → StandsAt bytes (drop n (text_at bytes at))
part_stands zero bytes at whole here = record { offset = at; boundary = here; is = refl }
part_stands (suc n) bytes at whole here =
    go (standing bytes at whole here) (λ m there. part_stands n bytes m whole there)
  where
    go : Standing bytes at → ((m : ℕ) → IsCharBoundary bytes m → StandsAt bytes (drop n (text_at bytes m)))
        → StandsAt bytes (drop (suc n) (text_at bytes at))
    go (over e) f = record { offset = at; boundary = here; is = e ∙ sym (ap (drop (suc n)) e) }
    go (stands c next s) f = let r = f next s.boundary in
        record { offset = r.offset; boundary = r.boundary; is = r.is ∙ sym (ap (drop (suc n)) s.text) }

-- a line feed, or none
feed_at : (bytes : List ℕ) (at : ℕ) → IsUtf8 bytes → IsCharBoundary bytes at → (o : Option ℕ) × IsFeed bytes at o
feed_at bytes at whole here = go (standing bytes at whole here)
  where
    by : (c next : ℕ) → IsStep bytes at c next → (c ≡ 10) ⊎ (c ≡ 10 → ⊥) → (o : Option ℕ) × IsFeed bytes at o
    by c next s (inl e) = (
      Some next,
      (s.text ∙ ap (λ (x : ℕ). (at, x) ∷ text_at bytes next) e, s.boundary, s.later, s.feed e),
    )
    by c next s (inr ne) = (
      None,
      ap (after_run (λ x. x == 10)) s.text ∙
          ap (λ (b : Bool). cond b (after_run (λ x. x == 10) (text_at bytes next)) ((at, c) ∷ text_at bytes next))
          (ne_eqb c 10 ne) ∙ sym s.text,
    )

    go : Standing bytes at → (o : Option ℕ) × IsFeed bytes at o
    go (over e) = (None, ap (after_run (λ x. x == 10)) e ∙ sym e)
    go (stands c next s) = by c next s (cases_eq c 10)

module _ (bytes : List ℕ) (at : ℕ) (whole : IsUtf8 bytes) (here : IsCharBoundary bytes at) where
  -- so many delimiters
  pub delimiters_at : (d : ℕ) → is_quote d ≡ true → (n : ℕ) × AreDelimiters d bytes at 5 n
  delimiters_at d q = count 5 0 refl (start d bytes at q whole here)
    where
      count : (more n : ℕ) → more + n ≡ 5 → Taken d bytes at n → (n : ℕ) × AreDelimiters d bytes at 5 n
      count zero n e t = (n, finish d bytes at q whole n (omega arith) t (inl (omega arith)))
      count (suc more) n e t =
          go (cases_lt (at + n) (length bytes)) (cases_eq (get_or bytes (at + n) 0) d)
          (λ t'. count more (n + 1) (omega arith) t')
        where
          go : (at + n < length bytes) ⊎ (length bytes ≤ at + n) → (get_or bytes (at + n) 0 ≡ d)
              ⊎ (get_or bytes (at + n) 0 ≡ d → ⊥)
              → (Taken d bytes at (n + 1) → (n : ℕ) × AreDelimiters d bytes at 5 n) → (n : ℕ)
              × AreDelimiters d bytes at 5 n
          go (inl h) (inl is) f = f (one_more d bytes at q whole n t h is)
          go (inl h) (inr ne) f = (
            n,
            finish d bytes at q whole n (omega arith) t
                (inr (no_other d bytes at q whole n t (t.boundary n (omega arith)).0 (λ _. ne))),
          )
          go (inr h) _ f = (
            n,
            finish d bytes at q whole n (omega arith) t
                (inr (no_other d bytes at q whole n t (t.boundary n (omega arith)).0 (λ l. absurd (omega arith)))),
          )

  pub first_at : (d : ℕ) (p : ℕ) (next : Text) → text_at bytes at ≡ (p, d) ∷ next → is_quote d ≡ true
      → (at < length bytes) × (get_or bytes at 0 ≡ d)
  first_at d p next e q = go (standing bytes at whole here)
    where
      go : Standing bytes at → (at < length bytes) × (get_or bytes at 0 ≡ d)
      go (over f) = let z : (p, d) ∷ next ≡ [] = sym e ∙ f in cc
      go (stands c after s) =
          let (small, no_return, no_feed) = quote_bounds d q in
          let both : (at, c) ∷ text_at bytes after ≡ (p, d) ∷ next = sym s.text ∙ e in
          let pair : (at, c) ≡ (p, d) = cc in
          let same : c ≡ d = ap (λ (x : ℕ × ℕ). x.1) pair in
          (omega (arith, s.later, s.boundary.0), s.byte (omega arith) (λ f. no_feed (sym same ∙ f)) ∙ same)

  -- where a string opens, its body begins at an offset
  pub opens_at : {kind : Quotes} {p : ℕ} {body : Text} → Opens (text_at bytes at) p kind body → (quote : Quote)
      × (begin : ℕ) × IsOpen bytes at quote begin
  opens_at (one_line {p} {d} {next = next} e q l) =
      let (within, first) = first_at d p next e q in
      (record { delimiter = d; multiline = false }, at + 1, open_one bytes at d whole here within first q l)
  opens_at (multiline {p} {d} {next = next} e q l) =
      let (within, first) = first_at d p next e q in
      let (n, ds) = delimiters_at d q in
      let three : 3 ≤ n = omega (arith, ds.counted) in
      go within first n ds three (feed_at bytes (at + 3) whole (ds.boundary 3 three))
    where
      go : (at < length bytes) → (get_or bytes at 0 ≡ d) → (n : ℕ) → AreDelimiters d bytes at 5 n → 3 ≤ n
          → (o : Option ℕ) × IsFeed bytes (at + 3) o → (quote : Quote) × (begin : ℕ) × IsOpen bytes at quote begin
      go within first n ds three (Some body, f) = (
        record { delimiter = d; multiline = true },
        body,
        open_feed bytes at d whole here within first q n ds three body f,
      )
      go within first n ds three (None, f) = (
        record { delimiter = d; multiline = true },
        at + 3,
        open_bare bytes at d whole here within first q n ds three f,
      )
