-- A float is a word that is read as itself.
use Rattle.std.proofs.Common.{◌≡◌, ℕ, ◌==◌, Bool, true, false, cond, ◌&&◌, ◌||◌, List, [], ◌∷◌, codes, refl, ap, ◌∙◌}
use Rattle.std.proofs.Common.{arith, Some, None, ◌⊎◌, inl, inr}
use Rattle.std.specs.List.{list_all}
use Rattle.std.specs.Str.{bytes_eq}
use Rattle.std.proofs.lemmas.Bool.{and_parts, and_from}
use Rattle.std.proofs.lemmas.Bool.Decides.{nat_tests}
use Rattle.std.proofs.lemmas.Slice.Eq.{bytes_eq-Decides}
use Rattle.std.proofs.lemmas.Option.{cond_some}
use Rattle.basic_toml_numbers.specs.Numbers.{is_sign, is_exponent_letter, is_digits, without_sign, is_part, part_of}
use Rattle.basic_toml_numbers.specs.Numbers.{after_part, is_exponent, is_tail, is_unsigned_float, canonical, float_of}
use Rattle.basic_toml_grammar.specs.Sections.{Raw}
use Rattle.basic_toml_grammar.specs.Grammar.{is_wordlike, word_value, number_value}
use Rattle.basic_toml_round_trip.proofs.WordsAreValues.{IsWord, number_word}
use Rattle.basic_toml_round_trip.proofs.FloatsAreNoIntegers.{digits_end, float_cases, no_integer}

-- each of its characters is one of words
part_word : (c : ℕ) → is_part c ≡ true → is_wordlike c ≡ true
part_word c h = grind (arith, nat_tests)

sign_word : (c : ℕ) → is_sign c ≡ true → is_wordlike c ≡ true
sign_word c h = grind (arith, nat_tests)

mark_word : (c : ℕ) → is_exponent_letter c ≡ true → is_wordlike c ≡ true
mark_word c h = grind (arith, nat_tests)

abbrev AreWords : List ℕ → Type 0
AreWords cs = list_all is_wordlike cs ≡ true

past_part : (cs : List ℕ) → AreWords (after_part cs) → AreWords cs
past_part [] h = refl
past_part (c ∷ cs) h = go (λ h. past_part cs h) (is_part c) refl h
  where
    go : (AreWords (after_part cs) → AreWords cs) → (b : Bool) → is_part c ≡ b
        → AreWords (cond b (after_part cs) (c ∷ cs))
        → AreWords (c ∷ cs)
    go ih true e h = and_from _ _ (part_word c e) (ih h)
    go ih false e h = h

after_sign : (cs : List ℕ) → AreWords (without_sign cs) → AreWords cs
after_sign [] h = refl
after_sign (c ∷ cs) h = go (is_sign c) refl h
  where
    go : (b : Bool) → is_sign c ≡ b → AreWords (cond b cs (c ∷ cs)) → AreWords (c ∷ cs)
    go true e h = and_from _ _ (sign_word c e) h
    go false e h = h

exponent_word : (cs : List ℕ) → is_exponent cs ≡ true → AreWords cs
exponent_word [] h = refl
exponent_word (c ∷ cs) h =
    let p : (is_exponent_letter c ≡ true) × (is_digits 10 (without_sign cs) ≡ true) = and_parts _ _ h in
    and_from _ _ (mark_word c p.0)
    (after_sign cs (past_part (without_sign cs) (ap (list_all is_wordlike) (digits_end true (without_sign cs) p.1))))

period_word : (c : ℕ) → (c == 46) ≡ true → is_wordlike c ≡ true
period_word c h = grind (arith, nat_tests)

tail_word : (cs : List ℕ) → is_tail cs ≡ true → AreWords cs
tail_word [] h = refl
tail_word (c ∷ cs) h = go (c == 46) refl h
  where
    rest : (b : Bool) → bytes_eq (after_part cs) [] ≡ b → (b || is_exponent (after_part cs)) ≡ true
        → AreWords (after_part cs)
    rest true e h = ap (list_all is_wordlike) ((bytes_eq-Decides (after_part cs) []).0 e)
    rest false e h = exponent_word (after_part cs) h

    go : (b : Bool) → (c == 46) ≡ b
        → cond b (is_digits 10 (part_of cs) && (bytes_eq (after_part cs) [] || is_exponent (after_part cs)))
        (is_exponent (c ∷ cs)) ≡ true → AreWords (c ∷ cs)
    go true e h =
        and_from _ _ (period_word c e) (past_part cs (rest (bytes_eq (after_part cs) []) refl (and_parts _ _ h).1))
    go false e h = exponent_word (c ∷ cs) h

float_word : (cs : List ℕ) → is_unsigned_float cs ≡ true → AreWords cs
float_word cs h = go (float_cases cs h)
  where
    go : (cs ≡ codes "inf") ⊎ ((cs ≡ codes "nan") ⊎ (is_tail (after_part cs) ≡ true)) → AreWords cs
    go (inl e) = ap (list_all is_wordlike) e
    go (inr (inl e)) = ap (list_all is_wordlike) e
    go (inr (inr e)) = past_part cs (tail_word (after_part cs) e)

-- and it is no boolean and no integer
pub float_is_word : (t : List ℕ) → float_of t ≡ Some t → IsWord t (Raw.float t)
float_is_word t e = record { value = value; all = after_sign t (float_word (without_sign t) is) }
  where
    is : is_unsigned_float (without_sign t) ≡ true
    is = (cond_some (is_unsigned_float (without_sign t)) (canonical t) t e).0

    not_true : t ≡ codes "true" → ⊥
    not_true h = let none : float_of (codes "true") ≡ None = refl in cc

    not_false : t ≡ codes "false" → ⊥
    not_false h = let none : float_of (codes "false") ≡ None = refl in cc

    value : word_value t ≡ Some (Raw.float t)
    value =
        number_word t (Raw.float t) (ap (λ o. number_value o (float_of t)) (no_integer t is) ∙ ap (number_value None) e)
        not_true not_false
