-- A word, which is an integer, a float or a boolean as the layout writes it, is a value.
use Rattle.std.proofs.Common.{◌≡◌, ℕ, suc, ◌==◌, ◌||◌, Bool, true, not, List, [], ◌∷◌, codes, refl, ap, ◌∙◌, subst}
use Rattle.std.proofs.Common.{arith, zero-add, Some, None, ℤ, pos, negsuc}
use Rattle.std.specs.Prelude.{position}
use Rattle.std.specs.List.{list_all}
use Rattle.std.specs.Char.{is_digit}
use Rattle.std.specs.Str.{bytes_eq}
use Rattle.std.specs.Fmt.{decimal, signed_decimal}
use Rattle.std.proofs.lemmas.Bool.{and_parts, cond_both}
use Rattle.std.proofs.lemmas.Bool.Decides.{nat_tests}
use Rattle.std.proofs.lemmas.Slice.Eq.{bytes_eq-Decides}
use Rattle.basic_toml_tokens.specs.Text.{Text, is_blank, is_comment}
use Rattle.basic_toml_numbers.specs.Numbers.{integer_of, float_of}
use Rattle.basic_toml_grammar.specs.Sections.{Raw}
use Rattle.basic_toml_grammar.specs.Grammar.{is_wordlike, word_value, number_value, word_offset, to_period, IsValue}
use Rattle.basic_toml_grammar.specs.Grammar.{word}
use Rattle.basic_toml_round_trip.proofs.CharactersInFront.{onto, stops, run_onto, after_run_onto, all_pass}
use Rattle.basic_toml_round_trip.proofs.IntegersAreReadBack.{fits, below_63, decimal_digits, integer_read_back}
use Rattle.basic_toml_round_trip.proofs.SectionsOfTable.{raw_offset}

-- characters of words alone, which write this value
pub record IsWord (cs : List ℕ) (v : Raw) : Type 0 where
  pub value : word_value cs ≡ Some v
  pub all : list_all is_wordlike cs ≡ true

-- what begins no gap between values: no blank, line feed or `#`
abbrev pub is_gap : ℕ → Bool
is_gap c = (is_blank c || c == 10) || c == 35

solid_word : (c : ℕ) → is_wordlike c ≡ true → not (is_gap c) ≡ true
solid_word c h = grind (arith, nat_tests)

no_word : (v : Raw) → word_value [] ≡ Some v → ⊥
no_word v e = cc

pub word_front : (cs : List ℕ) (v : Raw) (rest : Text) → IsWord cs v → stops is_gap (onto cs rest) ≡ true
word_front [] v rest w = absurd (no_word v w.value)
word_front (c ∷ cs) v rest w = solid_word c (and_parts _ _ w.all).0

pub word_stands : (cs : List ℕ) (v : Raw) (rest : Text) → IsWord cs v → stops is_wordlike rest ≡ true
    → word_offset v 0 (onto cs rest) ≡ raw_offset v
    → IsValue is_comment (onto cs rest) (raw_offset v) v rest
word_stands [] v rest w e offset = absurd (no_word v w.value)
word_stands (c ∷ cs) v rest w e offset =
    let text : Text = onto (c ∷ cs) rest in
    subst (λ p. IsValue is_comment text p v rest) offset
    (subst (λ t. IsValue is_comment text (word_offset v 0 text) v t) (after_run_onto is_wordlike (c ∷ cs) rest w.all e)
    (word refl (and_parts _ _ w.all).0 (ap word_value (run_onto is_wordlike (c ∷ cs) rest w.all e) ∙ w.value)))

pub float_offset : (cs : List ℕ) (rest : Text) → list_all is_wordlike cs ≡ true → stops is_wordlike rest ≡ true
    → word_offset (Raw.float cs) 0 (onto cs rest) ≡ raw_offset (Raw.float cs)
float_offset cs rest all e =
    zero-add _ ∙ ap (λ l. to_period (position (λ c. c == 46) l)) (run_onto is_wordlike cs rest all e)

-- a word that writes no boolean writes a number
pub number_word : (cs : List ℕ) (v : Raw) → number_value (integer_of cs) (float_of cs) ≡ Some v
    → (cs ≡ codes "true" → ⊥) → (cs ≡ codes "false" → ⊥) → word_value cs ≡ Some v
number_word cs v e t f =
    cond_both (bytes_eq cs (codes "true")) _ _ (λ o. o ≡ Some v)
    (λ h. absurd (t ((bytes_eq-Decides cs (codes "true")).0 h)))
    (λ _. cond_both (bytes_eq cs (codes "false")) _ _ (λ o. o ≡ Some v)
    (λ h. absurd (f ((bytes_eq-Decides cs (codes "false")).0 h))) (λ _. e))

-- integers
digit_wordlike : (c : ℕ) → is_digit c 10 ≡ true → is_wordlike c ≡ true
digit_wordlike c h = grind (arith, nat_tests)

pub digits_wordlike : (ds : List ℕ) → list_all (λ c. is_digit c 10) ds ≡ true → list_all is_wordlike ds ≡ true
digits_wordlike ds h = all_pass (λ c. is_digit c 10) is_wordlike digit_wordlike ds h

integer_word : (cs : List ℕ) (z : ℤ) → integer_of cs ≡ Some z → word_value cs ≡ Some (Raw.integer z)
integer_word cs z e =
    number_word cs (Raw.integer z) (ap (λ o. number_value o (float_of cs)) e) (λ h. not_true h) (λ h. not_false h)
  where
    not_true : cs ≡ codes "true" → ⊥
    not_true h = let none : integer_of (codes "true") ≡ None = refl in cc

    not_false : cs ≡ codes "false" → ⊥
    not_false h = let none : integer_of (codes "false") ≡ None = refl in cc

pub integer_is_word : (z : ℤ) → fits z ≡ true → IsWord (signed_decimal z) (Raw.integer z)
integer_is_word (pos n) h = record {
  value = integer_word (decimal n) (pos n) (integer_read_back (pos n) h);
  all = digits_wordlike (decimal n) (decimal_digits n (omega (arith, below_63 n h)));
}
integer_is_word (negsuc n) h = record {
  value = integer_word (signed_decimal (negsuc n)) (negsuc n) (integer_read_back (negsuc n) h);
  all = digits_wordlike (decimal (suc n)) (decimal_digits (suc n) (omega (arith, below_63 n h)));
}
