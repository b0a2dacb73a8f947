-- No text is both a float and an integer.
use Rattle.std.proofs.Common.{◌≡◌, ℕ, ◌==◌, Bool, true, false, cond, not, ◌&&◌, ◌||◌, List, [], ◌∷◌, codes, refl}
use Rattle.std.proofs.Common.{sym, ap, ◌∙◌, subst, None, ◌⊎◌, inl, inr}
use Rattle.std.specs.Char.{is_digit}
use Rattle.std.specs.Str.{bytes_eq}
use Rattle.std.proofs.lemmas.Bool.{false≢true, and_parts, eqb-true, false_from_ne_true}
use Rattle.std.proofs.lemmas.Slice.Eq.{bytes_eq-Decides}
use Rattle.basic_toml_numbers.specs.Numbers as n
use Rattle.basic_toml_numbers.specs.Numbers.{goes_on, is_digits, is_whole, integer_of}
use Rattle.basic_toml_numbers.specs.Numbers.{without_sign, part_of, after_part, is_tail}
use Rattle.basic_toml_numbers.specs.Numbers.{is_unsigned_float}

-- digits and underscores, and nothing after them
pub digits_end : (must_follow : Bool) (cs : List ℕ) → goes_on 10 must_follow cs ≡ true → after_part cs ≡ []
digits_end must_follow [] h = refl
digits_end must_follow (c ∷ cs) h = go (λ b h. digits_end b cs h) (is_digit c 10) refl (c == 95) refl h
  where
    go : ((b : Bool) → goes_on 10 b cs ≡ true → after_part cs ≡ []) → (x : Bool) → is_digit c 10 ≡ x
        → (y : Bool) → (c == 95) ≡ y
        → cond x (goes_on 10 false cs) ((y && not must_follow) && goes_on 10 true cs) ≡ true
        → cond (is_digit c 10 || c == 95) (after_part cs) (c ∷ cs) ≡ []
    go ih true e y f h = rw e (ih false h)
    go ih false e true f h = rw (e, f) (ih true (and_parts _ _ h).1)
    go ih false e false f h = absurd (false≢true h)

whole_end : (cs : List ℕ) → is_whole cs ≡ true → after_part cs ≡ []
whole_end [] h = refl
whole_end (c ∷ cs) h = go (c == 48) refl h
  where
    go : (x : Bool) → (c == 48) ≡ x → cond x (bytes_eq cs []) (is_digits 10 (c ∷ cs)) ≡ true → after_part (c ∷ cs) ≡ []
    go true e h = ap (λ d. after_part (d ∷ cs)) (eqb-true c 48 e) ∙ ap after_part ((bytes_eq-Decides cs []).0 h)
    go false e h = digits_end true (c ∷ cs) h

-- `inf`, `nan`, or a whole part with a tail, and none of these is whole
pub float_cases : (cs : List ℕ) → is_unsigned_float cs ≡ true
    → (cs ≡ codes "inf") ⊎ ((cs ≡ codes "nan") ⊎ (is_tail (after_part cs) ≡ true))
float_cases cs h = go (bytes_eq cs (codes "inf")) refl (bytes_eq cs (codes "nan")) refl h
  where
    go : (a : Bool) → bytes_eq cs (codes "inf") ≡ a → (b : Bool) → bytes_eq cs (codes "nan") ≡ b
        → ((a || b) || (is_whole (part_of cs) && is_tail (after_part cs))) ≡ true
        → (cs ≡ codes "inf") ⊎ ((cs ≡ codes "nan") ⊎ (is_tail (after_part cs) ≡ true))
    go true e b f h = inl ((bytes_eq-Decides cs (codes "inf")).0 e)
    go false e true f h = inr (inl ((bytes_eq-Decides cs (codes "nan")).0 f))
    go false e false f h = inr (inr (and_parts _ _ h).1)

not_whole : (cs : List ℕ) → is_unsigned_float cs ≡ true → is_whole cs ≡ false
not_whole cs h = false_from_ne_true (is_whole cs) (λ whole. go whole (float_cases cs h))
  where
    go : is_whole cs ≡ true → (cs ≡ codes "inf") ⊎ ((cs ≡ codes "nan") ⊎ (is_tail (after_part cs) ≡ true)) → ⊥
    go whole (inl e) = false≢true (sym (ap is_whole e) ∙ whole)
    go whole (inr (inl e)) = false≢true (sym (ap is_whole e) ∙ whole)
    go whole (inr (inr e)) = false≢true (sym (ap is_tail (whole_end cs whole)) ∙ e)

no_decimal : (negative : Bool) (cs : List ℕ) → is_unsigned_float cs ≡ true → n.decimal negative cs ≡ None
no_decimal negative cs h = ap (λ w. cond w (n.signed negative (n.value_in 10 cs)) None) (not_whole cs h)

-- after a leading zero stands no `x`, `o` or `b`
no_radix : (cs : List ℕ) → is_unsigned_float (48 ∷ cs) ≡ true → n.after_zero cs ≡ None
no_radix [] h = absurd (false≢true h)
no_radix (d ∷ ds) h = rw (other 120 (λ x. x), other 111 (λ x. x), other 98 (λ x. x)) refl
  where
    other : (l : ℕ) → (is_unsigned_float (48 ∷ l ∷ ds) ≡ true → false ≡ true) → (d == l) ≡ false
    other l none = false_from_ne_true (d == l)
        (λ e. false≢true (none (subst (λ d. is_unsigned_float (48 ∷ d ∷ ds) ≡ true) (eqb-true d l e) h)))

pub no_integer : (t : List ℕ) → is_unsigned_float (without_sign t) ≡ true → integer_of t ≡ None
no_integer [] h = refl
no_integer (c ∷ cs) h = go (c == 43) (c == 45) (c == 48) refl h
  where
    go : (p m z : Bool) → (c == 48) ≡ z → is_unsigned_float (cond (p || m) cs (c ∷ cs)) ≡ true
        → cond p (n.decimal false cs) (cond m (n.decimal true cs) (cond z (n.after_zero cs) (n.decimal false (c ∷ cs))))
        ≡ None
    go true m z e h = no_decimal false cs h
    go false true z e h = no_decimal true cs h
    go false false true e h = no_radix cs (subst (λ d. is_unsigned_float (d ∷ cs) ≡ true) (eqb-true c 48 e) h)
    go false false false e h = no_decimal false (c ∷ cs) h
