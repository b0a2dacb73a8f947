-- What the bytes at an offset of a body say of the piece there.
use Rattle.std.proofs.Common.{◌⊎◌, inl, inr, ◌≡◌, ◌≢◌, ℕ, zero, suc, ◌+◌, ◌-◌, ◌<◌, ◌≤◌, ◌==◌, ◌&&◌, not, Bool, true}
use Rattle.std.proofs.Common.{false, List, [], ◌∷◌, length, drop, take, replicate, refl, ap, sym, ◌∙◌, subst, arith}
use Rattle.std.proofs.Common.{encode_utf8_all, get_or, Some, None}
use Rattle.std.specs.Str.{IsUtf8, IsCharBoundary}
use Rattle.std.specs.List.{list_any}
use Rattle.std.proofs.lemmas.List.{take-replicate, take-take}
use Rattle.std.proofs.lemmas.Str.{encodes-IsAscii}
use Rattle.std.proofs.lemmas.Bool.{or_cases, or_from, or_right, and_from, and_cases, and_left, not_from_false}
use Rattle.std.proofs.lemmas.Bool.{eq-eqb, eqb-true, ne_eqb, both_ways, cases_lt, cases_eq}
use Rattle.std.proofs.lemmas.Bool.Decides.{nat_tests}
use Rattle.basic_toml_tokens.specs.declared.error.Error.TheVariants.{InvalidCharInString, NewlineInString}
use Rattle.basic_toml_tokens.specs.declared.error.Error.TheVariants.{UnterminatedString}
use Rattle.basic_toml_tokens.specs.declared.quote.Piece.{Piece}
use Rattle.basic_toml_tokens.specs.declared.quote.Piece.TheVariants.{Verbatim, Replaced, Closed, Broken}
use Rattle.basic_toml_tokens.specs.Text.{Text, text_at, is_comment}
use Rattle.basic_toml_tokens.specs.Strings.{Quotes, is_quote, is_plain, is_content, count_of, IsPiece, Closes}
use Rattle.basic_toml_tokens.specs.Strings.{content, delimiters, one, several}
use Rattle.basic_toml_tokens.specs.Faults.{is_control, Breaks, over, feed, control}
use Rattle.basic_toml_tokens.specs.BodyFront.{escape_front}
use Rattle.basic_toml_tokens.specs.Reading.{between, AreFeedBytes, IsStep}
use Rattle.basic_toml_tokens.specs.Copies.{is_special}
use Rattle.basic_toml_tokens.specs.Quote.{AreVerbatim, IsReplaced, IsAhead, IsFeed, AreDelimiters}
use Rattle.basic_toml_tokens.proofs.TextBetweenOffsets.{between_self, between_one}
use Rattle.basic_toml_tokens.proofs.DelimitersAreCounted.{quote_bounds}
use Rattle.basic_toml_tokens.proofs.StepIsTheFold.{text_end, byte_step, bare_step, feed_step}
use Rattle.basic_toml_tokens.proofs.SpacesAreRuns.{fails_first}
use Rattle.basic_toml_tokens.proofs.EscapesAreFound.{Means, escape_means}

get_or-replicate_below : (d n i : ℕ) → d < 128 → get_or (replicate n d) i 0 < 128
get_or-replicate_below d zero i h = omega arith
get_or-replicate_below d (suc n) zero h = h
get_or-replicate_below d (suc n) (suc i) h = get_or-replicate_below d n i h

-- delimiters ask for no copy
pub no_special : (d n : ℕ) → is_quote d ≡ true → list_any (is_special d) (replicate n d) ≡ false
no_special d zero q = refl
no_special d (suc n) q =
    or_from (is_special d d) (list_any (is_special d) (replicate n d)) (plain_quote (or_cases (d == 34) (d == 39) q))
    (no_special d n q)
  where
    plain_quote : ((d == 34) ≡ true) ⊎ ((d == 39) ≡ true) → is_special d d ≡ false
    plain_quote (inl e) = rw (eqb-true d 34 e) refl
    plain_quote (inr e) = rw (eqb-true d 39 e) refl

-- all characters beyond ASCII are plain
wide_plain : (d c : ℕ) → is_quote d ≡ true → 128 ≤ c → is_plain d c ≡ true
wide_plain d c q h =
    let (small, no_return, no_feed) = quote_bounds d q in
    let comment : is_comment c ≡ true = grind (arith, nat_tests) in
    and_from (is_comment c && not (c == d)) (not (c == 92 && d == 34))
    (and_from (is_comment c) (not (c == d)) comment
    (not_from_false (c == d) (ne_eqb c d (λ e. absurd (omega arith)))))
    (not_from_false (c == 92 && d == 34) (and_left (c == 92) (d == 34) (ne_eqb c 92 (λ e. absurd (omega arith)))))

-- what is neither plain, a delimiter, a backslash nor a line feed is a control character
control_is : (c d : ℕ) → is_plain d c ≡ false → c ≢ d → c ≢ 92 → c ≢ 10 → is_control c ≡ true
control_is c d plain not_delimiter not_backslash not_feed =
    go (and_cases (is_comment c && not (c == d)) (not (c == 92 && d == 34)) plain)
  where
    escaped : (not (c == 92 && d == 34) ≡ false) → ⊥
    escaped h = both_ways (not (c == 92 && d == 34)) h
        (not_from_false (c == 92 && d == 34) (and_left (c == 92) (d == 34) (ne_eqb c 92 not_backslash)))

    no_comment : is_comment c ≡ false → is_control c ≡ true
    no_comment h = grind (arith, nat_tests)

    go : ((is_comment c && not (c == d)) ≡ false) ⊎ (not (c == 92 && d == 34) ≡ false) → is_control c ≡ true
    go (inl h) = no_comment (and_left_part (is_comment c) (not (c == d)) h
        (not_from_false (c == d) (ne_eqb c d not_delimiter)))
      where
        and_left_part : (x y : Bool) → (x && y) ≡ false → y ≡ true → x ≡ false
        and_left_part true y h k = sym k ∙ h
        and_left_part false y h k = refl
    go (inr h) = absurd (escaped h)

module _ (k : Quotes) (start : ℕ) (bytes : List ℕ) (at : ℕ) (quoted : is_quote k.delimiter ≡ true)
    (whole : IsUtf8 bytes) (here : IsCharBoundary bytes at) where
  pub over_ahead : length bytes ≤ at → IsAhead k start bytes at (Broken (UnterminatedString start) at)
  over_ahead h =
      let e : text_at bytes at ≡ [] = text_end bytes at h in (
        subst (λ (t : Text). Breaks k start t (UnterminatedString start) t) (sym e) over,
        record { boundary = here; forward = omega arith },
      )

  module _ (within : at < length bytes) where
    delimiter_step : get_or bytes at 0 ≡ k.delimiter → IsStep bytes at k.delimiter (at + 1)
    delimiter_step e = let (small, no_return, no_feed) = quote_bounds k.delimiter quoted in
        byte_step bytes at whole here within k.delimiter e small no_return

    pub one_ahead : get_or bytes at 0 ≡ k.delimiter → k.multiline ≡ false
        → IsAhead k start bytes at (Closed at (at + 1))
    one_ahead e m =
        let s = delimiter_step e in (
          [],
          one m s.text,
          record { spelled = sym (between_self bytes at); boundary = here; forward = omega arith },
          record { boundary = s.boundary; forward = omega arith },
          omega arith,
          ap (list_any (is_special k.delimiter)) (between_one bytes at within ∙ ap (λ (b : ℕ). b ∷ []) e) ∙
              no_special k.delimiter 1 quoted,
        )

    module _ (n : ℕ) (e : get_or bytes at 0 ≡ k.delimiter) (m : k.multiline ≡ true)
        (ds : AreDelimiters k.delimiter bytes at 5 n) where
      some_stand : 0 < count_of k.delimiter (text_at bytes at)
      some_stand = let counted : count_of k.delimiter (text_at bytes at)
          ≡ suc (count_of k.delimiter (text_at bytes (at + 1))) = ap (count_of k.delimiter) (delimiter_step e).text ∙
          rw (eq-eqb k.delimiter k.delimiter refl) refl in omega arith

      spelled : (j : ℕ) → j ≤ n → encode_utf8_all (replicate j k.delimiter) ≡ between bytes at (at + j)
      spelled j l =
          let (small, no_return, no_feed) = quote_bounds k.delimiter quoted in
          let long : at + n - at ≡ n = omega arith in
          let short : j ≡ at + j - at = omega arith in
          encodes-IsAscii (replicate j k.delimiter) (λ i. get_or-replicate_below k.delimiter j i small) ∙
          sym (take-replicate j n k.delimiter l) ∙
          ap (take j) (sym ds.spelled ∙ ap (λ (i : ℕ). take i (drop at bytes)) long)
          ∙ take-take j n (drop at bytes) l ∙ ap (λ (i : ℕ). take i (drop at bytes)) short

      none_special : list_any (is_special k.delimiter) (between bytes at (at + n)) ≡ false
      none_special = ap (list_any (is_special k.delimiter)) ds.spelled ∙ no_special k.delimiter n quoted

      pub few_ahead : n < 3 → IsAhead k start bytes at (Verbatim (at + n))
      few_ahead l =
          let counted : count_of k.delimiter (text_at bytes at) ≡ n = omega (arith, ds.counted) in (
            replicate n k.delimiter,
            subst (λ (t : Text). IsPiece k (text_at bytes at) (replicate n k.delimiter) t)
                (sym (ds.rest n (omega arith))) (delimiters m counted (omega (arith, some_stand)) l),
            record { spelled = spelled n (omega arith); boundary = ds.boundary n (omega arith); forward = omega arith },
            omega (arith, some_stand),
            none_special,
          )

      pub several_ahead : 3 ≤ n → IsAhead k start bytes at (Closed (at + n - 3) (at + n))
      several_ahead l =
          let end : at + (n - 3) ≡ at + n - 3 = omega arith in (
            replicate (n - 3) k.delimiter,
            subst (λ (t : Text). Closes k (text_at bytes at) (replicate (n - 3) k.delimiter) t)
                (sym (ds.rest n (omega arith)))
                (subst (λ (i : ℕ). Closes k (text_at bytes at) (replicate (i - 3) k.delimiter)
                (drop i (text_at bytes at))) (sym ds.counted) (several m refl (omega (arith, ds.counted)))),
            subst (λ (i : ℕ). AreVerbatim bytes at i (replicate (n - 3) k.delimiter)) end
                (record {
                  spelled = spelled (n - 3) (omega arith);
                  boundary = ds.boundary (n - 3) (omega arith);
                  forward = omega arith;
                }),
            record { boundary = ds.boundary n (omega arith); forward = omega arith },
            omega arith,
            none_special,
          )

    module _ (not_plain : is_plain k.delimiter (get_or bytes at 0) ≡ false) (other : get_or bytes at 0 ≢ k.delimiter)
      where
        basic : get_or bytes at 0 ≡ 92 → k.delimiter ≡ 34
        basic e = go (or_cases (k.delimiter == 34) (k.delimiter == 39) quoted)
          where
            go : ((k.delimiter == 34) ≡ true) ⊎ ((k.delimiter == 39) ≡ true) → k.delimiter ≡ 34
            go (inl h) = eqb-true k.delimiter 34 h
            go (inr h) = let z : is_plain 39 92 ≡ false = rw (e, eqb-true k.delimiter 39 h) at not_plain in cc

        backslash_step : get_or bytes at 0 ≡ 92 → IsStep bytes at 92 (at + 1)
        backslash_step e = byte_step bytes at whole here within 92 e (omega arith) (λ h. absurd (omega arith))

        pub escape_boundary : get_or bytes at 0 ≡ 92 → IsCharBoundary bytes (at + 1)
        escape_boundary e = (backslash_step e).boundary

        pub escape_ahead : get_or bytes at 0 ≡ 92 → (piece : Piece)
            → IsReplaced (escape_front k start (text_at bytes (at + 1))) bytes (at + 1) piece
            → IsAhead k start bytes at piece
        escape_ahead e piece r = go piece r
          where
            means : Means k start (text_at bytes at) (escape_front k start (text_at bytes (at + 1)))
            means = escape_means k start (text_at bytes at) (text_at bytes (at + 1)) at (basic e) (backslash_step e).text

            go : (piece : Piece) → IsReplaced (escape_front k start (text_at bytes (at + 1))) bytes (at + 1) piece
                → IsAhead k start bytes at piece
            go (Verbatim next) r = absurd r
            go (Replaced c next) r = (
              subst (Means k start (text_at bytes at)) r.0 means,
              record { boundary = r.1.boundary; forward = omega (arith, r.1.forward) },
              omega (arith, r.1.forward),
              rw (e, basic e) refl,
            )
            go (Closed end next) r = absurd r
            go (Broken error next) r = (
              subst (Means k start (text_at bytes at)) r.0 means,
              record { boundary = r.1.boundary; forward = omega (arith, r.1.forward) },
            )

        small : get_or bytes at 0 < 128
        small = go (cases_lt (get_or bytes at 0) 128)
          where
            go : (get_or bytes at 0 < 128) ⊎ (128 ≤ get_or bytes at 0) → get_or bytes at 0 < 128
            go (inl h) = h
            go (inr h) = absurd (both_ways (is_plain k.delimiter (get_or bytes at 0)) not_plain
                (wide_plain k.delimiter (get_or bytes at 0) quoted h))

        feed_content : k.multiline ≡ true → is_content k 10 ≡ true
        feed_content m = or_right (is_plain k.delimiter 10) (k.multiline && true) (and_from k.multiline true m refl)

        pub feed_ahead : (next : ℕ) → IsFeed bytes at (Some next) → get_or bytes at 0 ≢ 13 → k.multiline ≡ true
            → IsAhead k start bytes at (Verbatim next)
        feed_ahead next f ne m =
            let (is, ends) = alone f.3 in
            let there : between bytes at next ≡ 10 ∷ [] = ap (between bytes at) ends ∙ between_one bytes at within ∙
            ap (λ (b : ℕ). b ∷ []) is in (
              10 ∷ [],
              content f.0 (feed_content m),
              record {
                spelled = encodes-IsAscii (10 ∷ []) (λ i. get_or-replicate_below 10 1 i (omega arith)) ∙
                    sym there;
                boundary = f.1;
                forward = omega (arith, f.2);
              },
              f.2,
              ap (list_any (is_special k.delimiter)) there,
            )
          where
            alone : AreFeedBytes bytes at next → (get_or bytes at 0 ≡ 10) × (next ≡ at + 1)
            alone (inl h) = h
            alone (inr h) = absurd (ne h.0)

        pub return_ahead : (next : ℕ) → IsFeed bytes at (Some next) → get_or bytes at 0 ≡ 13 → k.multiline ≡ true
            → IsAhead k start bytes at (Replaced (Some 10) next)
        return_ahead next f is m =
            (content f.0 (feed_content m), record { boundary = f.1; forward = omega (arith, f.2) }, f.2, rw is refl)

        pub newline_ahead : (next : ℕ) → IsFeed bytes at (Some next) → k.multiline ≡ false
            → IsAhead k start bytes at (Broken (NewlineInString at) next)
        newline_ahead next f m = (feed m f.0, record { boundary = f.1; forward = omega (arith, f.2) })

        no_feed_here : (rest : Text) → IsFeed bytes at None → text_at bytes at ≡ (at, 10) ∷ rest → ⊥
        no_feed_here rest f e = let z : true ≡ false = fails_first (λ c. c == 10) (at, 10) rest (rw e at f) in
            both_ways true z refl

        character_step : IsFeed bytes at None → IsStep bytes at (get_or bytes at 0) (at + 1)
        character_step f = go (cases_eq (get_or bytes at 0) 13) (cases_eq (get_or bytes (at + 1) 0) 10)
          where
            go : (get_or bytes at 0 ≡ 13) ⊎ (get_or bytes at 0 ≡ 13 → ⊥) → (get_or bytes (at + 1) 0 ≡ 10)
                ⊎ (get_or bytes (at + 1) 0 ≡ 10 → ⊥) → IsStep bytes at (get_or bytes at 0) (at + 1)
            go (inl is) (inl lf) = absurd
                (no_feed_here (text_at bytes (at + 2)) f (feed_step bytes at whole here within is lf).text)
            go (inl is) (inr ne) = subst (λ (c : ℕ). IsStep bytes at c (at + 1)) (sym is)
                (bare_step bytes at whole here within is ne)
            go (inr ne) _ = byte_step bytes at whole here within (get_or bytes at 0) refl small ne

        pub control_ahead : IsFeed bytes at None → get_or bytes at 0 ≢ 92
            → IsAhead k start bytes at (Broken (InvalidCharInString at (get_or bytes at 0)) (at + 1))
        control_ahead f ne =
            let s = character_step f in
            let no_line_feed : get_or bytes at 0 ≢ 10 =
            λ e. no_feed_here (text_at bytes (at + 1)) f (s.text ∙
            ap (λ (c : ℕ). (at, c) ∷ text_at bytes (at + 1)) e) in (
              control s.text (control_is (get_or bytes at 0) k.delimiter not_plain other ne no_line_feed),
              record { boundary = s.boundary; forward = omega arith },
            )
