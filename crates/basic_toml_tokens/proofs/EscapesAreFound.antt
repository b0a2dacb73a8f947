-- What the scanner finds after a backslash is a piece or a fault of the body.
use Rattle.std.proofs.Common.{◌⊎◌, inl, inr, ◌≡◌, ℕ, ◌<◌, ◌≤◌, ◌==◌, ◌&&◌, Bool, true, false, cond, [], ◌∷◌, length}
use Rattle.std.proofs.Common.{refl, ap, sym, ◌∙◌, subst, Option, Some, None}
use Rattle.std.proofs.lemmas.Bool.{or_cases, and_parts, eqb-true, eqb-false, both_ways, cases_lt, cases_Bool}
use lib.Utf8.{scalar}
use Rattle.basic_toml_tokens.specs.declared.error.Error.TheVariants.{InvalidEscape}
use Rattle.basic_toml_tokens.specs.Text.{Text, run, after_run, is_blank}
use Rattle.basic_toml_tokens.specs.Strings.{Quotes, letter_value, hex_count, is_hex, hex_value, is_space, IsPiece}
use Rattle.basic_toml_tokens.specs.Strings.{letter, unicode, continuation, Closes}
use Rattle.basic_toml_tokens.specs.Faults.{begins_escape, Breaks, over_in_escape, escape, blank, over_in_blanks, hex}
use Rattle.basic_toml_tokens.specs.Faults.{over_in_hex, value}
use Rattle.basic_toml_tokens.specs.BodyFront.{Front, more, closed, broken, hex_front, blanks_front, letter_front}
use Rattle.basic_toml_tokens.specs.BodyFront.{escape_front}
use Rattle.basic_toml_tokens.proofs.BodyFrontStands.{hex_reads, hex_no_character, hex_end, hex_stops}

abbrev pub Means : Quotes → ℕ → Text → Front → Type 0
Means k start text (more chars rest) = IsPiece k text chars rest
Means k start text (closed tail rest) = Closes k text tail rest
Means k start text (broken fault rest) = Breaks k start text fault rest

module _ (k : Quotes) (start : ℕ) (text next : Text) (p : ℕ) (basic : k.delimiter ≡ 34) (at : text ≡ (p, 92) ∷ next)
  where
    hex_means : (q c n : ℕ) (digits : Text) → next ≡ (q, c) ∷ digits → hex_count c ≡ Some n
        → Means k start text (hex_front start q 0 n digits)
    hex_means q c n digits then e =
        go (cases_lt (length (run is_hex digits)) n) (cases_Bool (scalar (hex_value n digits)))
      where
        ends : (rest : Text) → after_run is_hex digits ≡ rest → length (run is_hex digits) < n
            → Means k start text (hex_end start rest)
        ends [] stop h = over_in_hex basic at then e h stop
        ends (x ∷ rest) stop h = hex basic at then e h stop

        go : (length (run is_hex digits) < n) ⊎ (n ≤ length (run is_hex digits)) → (scalar (hex_value n digits) ≡ true)
            ⊎ (scalar (hex_value n digits) ≡ false) → Means k start text (hex_front start q 0 n digits)
        go (inl h) _ = subst (Means k start text) (sym (hex_stops start q 0 n digits h))
            (ends (after_run is_hex digits) refl h)
        go (inr h) (inl s) = subst (Means k start text) (sym (hex_reads start q 0 n digits h s))
            (unicode basic at then e h s)
        go (inr h) (inr s) = subst (Means k start text) (sym (hex_no_character start q 0 n digits h s))
            (value basic at then e h (both_ways _ s))

    blanks_mean : (y : ℕ × ℕ) (after : Text) → next ≡ y ∷ after → k.multiline ≡ true → is_space y.1 ≡ true
        → Means k start text (blanks_front start y (after_run is_blank (y ∷ after)))
    blanks_mean y after then m h = go (after_run is_blank (y ∷ after)) refl
      where
        -- what is no blank is a line feed, and the run is empty there
        is_first_blank : (rest : Text) → after_run is_blank (y ∷ after) ≡ rest
            → ((y.1 == 10) ≡ true → rest ≡ y ∷ after → ⊥) → is_blank y.1 ≡ true
        is_first_blank rest e f = cases (cases_Bool (is_blank y.1)) (or_cases (is_blank y.1) (y.1 == 10) h)
          where
            cases : (is_blank y.1 ≡ true) ⊎ (is_blank y.1 ≡ false) → (is_blank y.1 ≡ true) ⊎ ((y.1 == 10) ≡ true)
                → is_blank y.1 ≡ true
            cases (inl b) _ = b
            cases (inr b) (inl c) = c
            cases (inr b) (inr c) = absurd
                (f c (sym e ∙ ap (λ (b : Bool). cond b (after_run is_blank after) (y ∷ after)) b))

        go : (rest : Text) → after_run is_blank (y ∷ after) ≡ rest → Means k start text (blanks_front start y rest)
        go [] e = over_in_blanks basic m at then (is_first_blank [] e (λ c z. cc)) (ap (after_run is_blank) then ∙ e)
        go (x ∷ rest) e = last (x.1 == 10) refl
          where
            last : (b : Bool) → (x.1 == 10) ≡ b
                → Means k start text (cond b (more [] (after_run is_space rest))
                (broken (InvalidEscape y.0 y.1) (x ∷ rest)))
            last true f = continuation basic m at (ap (after_run is_blank) then ∙ e ∙
                ap (λ (c : ℕ). (x.0, c) ∷ rest) (eqb-true x.1 10 f))
            last false f = subst (λ (t : Text). Breaks k start text (InvalidEscape y.0 y.1) t)
                (ap (after_run is_blank) then ∙ e)
                (blank basic m at then (is_first_blank (x ∷ rest) e (λ c z. let same : x ≡ y = cc in
                both_ways (x.1 == 10) f (rw same c))) (ap (after_run is_blank) then ∙ e) (eqb-false x.1 10 f))

pub escape_means : (k : Quotes) (start : ℕ) (text next : Text) (p : ℕ) → k.delimiter ≡ 34 → text ≡ (p, 92) ∷ next
    → Means k start text (escape_front k start next)
escape_means k start text [] p basic at = over_in_escape basic at
escape_means k start text (y ∷ after) p basic at = go (letter_value y.1) refl (hex_count y.1) refl
  where
    none : (v n : Option ℕ) → letter_value y.1 ≡ v → hex_count y.1 ≡ n → v ≡ None → n ≡ None
        → (k.multiline && is_space y.1) ≡ false → begins_escape k y.1 ≡ false
    none v n e f v_is n_is h = rw (e ∙ v_is, f ∙ n_is) h

    go : (v : Option ℕ) → letter_value y.1 ≡ v → (n : Option ℕ) → hex_count y.1 ≡ n
        → Means k start text (letter_front k start y after v n)
    go (Some v) e n f = letter basic at refl e
    go None e (Some n) f = hex_means k start text (y ∷ after) p basic at y.0 y.1 n after refl f
    go None e None f = last (k.multiline && is_space y.1) refl
      where
        last : (b : Bool) → (k.multiline && is_space y.1) ≡ b
            → Means k start text (cond b (blanks_front start y (after_run is_blank (y ∷ after)))
            (broken (InvalidEscape y.0 y.1) after))
        last true h = let (m, s) = and_parts k.multiline (is_space y.1) h in
            blanks_mean k start text (y ∷ after) p basic at y after refl m s
        last false h = escape basic at refl (none None None e f refl refl h)
