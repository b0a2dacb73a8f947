-- A word that is not quoted is no value, and begins none.
use Rattle.std.proofs.Common.{◌≡◌, ◌⊎◌, inl, inr, ℕ, ◌-◌, ◌==◌, ◌&&◌, ◌||◌, Bool, true, false, cond, List, []}
use Rattle.std.proofs.Common.{◌∷◌, ◌++◌, Some, is_none, refl, ap, sym, ◌∙◌, subst, codes, eqb-true, arith}
use Rattle.std.proofs.Common.{nat_lt, nat_le}
use Rattle.std.specs.Prelude.{not}
use Rattle.std.specs.Char.{is_digit, is_ascii_digit}
use Rattle.std.specs.Str.{bytes_eq}
use Rattle.std.proofs.lemmas.Bool.{false≢true, and_parts, and_from, or_cases, or_parts, ltb-true, ltb-false, le-leb}
use Rattle.std.proofs.lemmas.List.{append-nil}
use Rattle.std.proofs.lemmas.Slice.Eq.{bytes_eq-Decides}
use Rattle.basic_toml_tokens.specs.Text.{Text, run}
use Rattle.basic_toml_numbers.specs.Numbers.{integer_of, float_of, decimal, after_zero, goes_on, is_whole, part_of}
use Rattle.basic_toml_numbers.specs.Numbers.{after_part, is_tail, is_special, is_unsigned_float}
use Rattle.basic_toml_grammar.specs.Sections.{Raw}
use Rattle.basic_toml_grammar.specs.Grammar.{is_wordlike, number_value, word_value}
use Rattle.basic_toml_grammar.specs.GrammarFaults.{is_unquoted}
use Rattle.basic_toml_grammar.specs.NumberFaults.{begins_number}
use Rattle.basic_toml_grammar.proofs.Viable.NumberParts.{AllKeys, nil, cons, is_key, IsOver, Behind, over, plus_next}
use Rattle.basic_toml_grammar.proofs.Viable.NumberParts.{period_next, special_over}
use Rattle.basic_toml_grammar.proofs.Viable.FractionsHaveNoFault.{key_not}
use Rattle.basic_toml_grammar.proofs.Viable.ValuesHaveNoFault.{Number, number_is, decimal_whole}

digit_is : (c : ℕ) → is_digit c 10 ≡ true → is_ascii_digit c ≡ true
digit_is c e =
    go (nat_lt c 48) refl (nat_lt c 58) refl (nat_lt c 65) refl (nat_lt c 91) (nat_lt c 97) refl (nat_lt c 123) e
  where
    go : (a : Bool) → nat_lt c 48 ≡ a → (b : Bool) → nat_lt c 58 ≡ b → (d : Bool) → nat_lt c 65 ≡ d → (f g : Bool)
        → nat_lt c 97 ≡ g → (h : Bool)
        → nat_lt (cond a 36 (cond b (c - 48) (cond d 36 (cond f (c - 55) (cond g 36 (cond h (c - 87) 36)))))) 10 ≡ true
        → is_ascii_digit c ≡ true
    go true i b j d k f g l h e = absurd (false≢true e)
    go false i true j d k f g l h e =
        and_from (nat_le 48 c) (nat_le c 57) (le-leb 48 c (ltb-false c 48 i))
        (le-leb c 57 (let n = ltb-true c 58 j in omega (arith, n)))
    go false i false j true k f g l h e = absurd (false≢true e)
    go false i false j false k true g l h e =
        absurd (let n = ltb-true (c - 55) 10 e in let m = ltb-false c 65 k in omega (arith, n, m))
    go false i false j false k false true l h e = absurd (false≢true e)
    go false i false j false k false false l true e =
        absurd (let n = ltb-true (c - 87) 10 e in let m = ltb-false c 97 l in omega (arith, n, m))
    go false i false j false k false false l false e = absurd (false≢true e)

no_digit : (c : ℕ) → is_ascii_digit c ≡ false → is_digit c 10 ≡ false
no_digit c e = go (is_digit c 10) refl
  where
    go : (b : Bool) → is_digit c 10 ≡ b → is_digit c 10 ≡ false
    go false h = h
    go true h = absurd (false≢true (sym e ∙ digit_is c h))

-- what begins with no digit is no whole number
not_whole : (c : ℕ) (ds : List ℕ) → is_digit c 10 ≡ false → is_whole (c ∷ ds) ≡ true → ⊥
not_whole c ds n e = go (c == 48) refl e
  where
    blocked : (a b : Bool) → ((a && false) && b) ≡ true → ⊥
    blocked true b e = false≢true e
    blocked false b e = false≢true e

    go : (b : Bool) → (c == 48) ≡ b → cond b (bytes_eq ds [])
        (cond (is_digit c 10) (goes_on 10 false ds) ((c == 95 && false) && goes_on 10 true ds)) ≡ true → ⊥
    go true z e = false≢true (sym n ∙ ap (λ (c : ℕ). is_digit c 10) (eqb-true c 48 z))
    go false z e =
        blocked (c == 95) (goes_on 10 true ds)
        (sym (ap (λ (b : Bool). cond b (goes_on 10 false ds) ((c == 95 && false) && goes_on 10 true ds)) n) ∙ e)

-- the parts of being unquoted
pub record Unquoted (c : ℕ) (cs : List ℕ) : Type 0 where
  pub no_digit : is_digit c 10 ≡ false
  pub no_minus : (c == 45) ≡ false
  pub no_true : bytes_eq (c ∷ cs) (codes "true") ≡ false
  pub no_false : bytes_eq (c ∷ cs) (codes "false") ≡ false
  pub no_special : is_special (c ∷ cs) ≡ false
  pub no_number : begins_number (c ∷ cs) ≡ false

unquoted : (c : ℕ) (cs : List ℕ) → is_unquoted (c ∷ cs) ≡ true → Unquoted c cs
unquoted c cs e =
    let both = and_parts (not (is_ascii_digit c || c == 45))
    (not ((bytes_eq (c ∷ cs) (codes "true") || bytes_eq (c ∷ cs) (codes "false")) || is_special (c ∷ cs))) e in
    let front = off (is_ascii_digit c || c == 45) both.0 in
    let f = or_parts (is_ascii_digit c) (c == 45) front in
    let w = or_parts (bytes_eq (c ∷ cs) (codes "true") || bytes_eq (c ∷ cs) (codes "false")) (is_special (c ∷ cs))
    (off ((bytes_eq (c ∷ cs) (codes "true") || bytes_eq (c ∷ cs) (codes "false")) || is_special (c ∷ cs)) both.1) in
    let b = or_parts (bytes_eq (c ∷ cs) (codes "true")) (bytes_eq (c ∷ cs) (codes "false")) w.0 in
    record {
      no_digit = no_digit c f.0;
      no_minus = f.1;
      no_true = b.0;
      no_false = b.1;
      no_special = w.1;
      no_number = ap (λ (b : Bool). b || is_special (c ∷ cs)) front ∙ w.1;
    }
  where
    off : (b : Bool) → not b ≡ true → b ≡ false
    off false e = refl
    off true e = absurd (false≢true e)

pub unquoted_no_number : (w : List ℕ) → is_unquoted w ≡ true → begins_number w ≡ false
unquoted_no_number [] e = refl
unquoted_no_number (c ∷ cs) e = (unquoted c cs e).no_number

-- of keylike characters alone nothing stands behind
pub keys_over : {rest : Text} (xs : List ℕ) → Behind rest → AllKeys (xs ++ run is_wordlike rest) → IsOver rest
keys_over xs (over h) k = h
keys_over xs (plus_next {next = next}) k =
    let no : false ≡ true = is_key 43 xs (run is_wordlike next) k in cc
keys_over xs (period_next {next = next}) k =
    let no : false ≡ true = is_key 46 xs (run is_wordlike next) k in cc

-- a word, and what is left of it behind, have no value
pub unquoted_no_value : {rest : Text} {v : Raw} (w : List ℕ) → AllKeys w → Behind rest → is_unquoted w ≡ true
    → word_value (w ++ run is_wordlike rest) ≡ Some v → ⊥
unquoted_no_value [] keys next u e = false≢true u
unquoted_no_value {rest = rest} {v = v} (c ∷ cs) (cons key keys) next u e =
    go (bytes_eq all (codes "true")) refl (bytes_eq all (codes "false")) refl e
  where
    all : List ℕ
    all = c ∷ cs ++ run is_wordlike rest

    q : Unquoted c cs
    q = unquoted c cs u

    alone : IsOver rest → all ≡ c ∷ cs
    alone o = ap (λ (t : List ℕ). c ∷ cs ++ t) o.word ∙ append-nil (c ∷ cs)

    -- it is no such word
    no_word : (f : List ℕ → Bool) → f (c ∷ cs) ≡ false → IsOver rest → f all ≡ true → ⊥
    no_word f n o h = false≢true (sym n ∙ ap f (sym (alone o)) ∙ h)

    no_plus : (c == 43) ≡ false
    no_plus = key_not c 43 key refl

    no_zero : (c == 48) ≡ false
    no_zero = go (c == 48) refl
      where
        go : (b : Bool) → (c == 48) ≡ b → (c == 48) ≡ false
        go false h = h
        go true h = absurd (false≢true (sym q.no_digit ∙ ap (λ (c : ℕ). is_digit c 10) (eqb-true c 48 h)))

    ws : List ℕ
    ws = cs ++ run is_wordlike rest

    part : (b : Bool) → is_whole (cond (is_digit c 10 || b) (c ∷ part_of ws) []) ≡ true → ⊥
    part true h =
        not_whole c (part_of ws) q.no_digit
        (sym (ap (λ (b : Bool). is_whole (cond (b || true) (c ∷ part_of ws) [])) q.no_digit) ∙ h)
    part false h =
        false≢true (sym (ap (λ (b : Bool). is_whole (cond (b || false) (c ∷ part_of ws) [])) q.no_digit) ∙ h)

    unsigned : is_unsigned_float all ≡ true → ⊥
    unsigned h = by (or_cases (is_special all) (is_whole (part_of all) && is_tail (after_part all)) h)
      where
        by : (is_special all ≡ true) ⊎ ((is_whole (part_of all) && is_tail (after_part all)) ≡ true) → ⊥
        by (inl s) = no_word is_special q.no_special (special_over (c ∷ cs) next s) s
        by (inr s) = part (c == 95) (and_parts (is_whole (part_of all)) (is_tail (after_part all)) s).0

    number : Number all → ⊥
    number (inl h) =
        not_whole c ws q.no_digit (decimal_whole false all
        (sym (ap (λ (b : Bool). is_none (cond b (decimal false ws) (cond (c == 45) (decimal true ws)
        (cond (c == 48) (after_zero ws) (decimal false (c ∷ ws)))))) no_plus
        ∙ ap (λ (b : Bool). is_none (cond b (decimal true ws)
        (cond (c == 48) (after_zero ws) (decimal false (c ∷ ws))))) q.no_minus
        ∙ ap (λ (b : Bool). is_none (cond b (after_zero ws) (decimal false (c ∷ ws)))) no_zero) ∙ h))
    number (inr h) =
        unsigned (sym (ap (λ (b : Bool). is_unsigned_float (cond (b || c == 45) ws (c ∷ ws))) no_plus
        ∙ ap (λ (b : Bool). is_unsigned_float (cond b ws (c ∷ ws))) q.no_minus) ∙ h)

    go : (a : Bool) → bytes_eq all (codes "true") ≡ a → (b : Bool) → bytes_eq all (codes "false") ≡ b
        → cond a (Some (Raw.boolean true)) (cond b (Some (Raw.boolean false))
        (number_value (integer_of all) (float_of all))) ≡ Some v → ⊥
    go true h b i e =
        no_word (λ w. bytes_eq w (codes "true")) q.no_true
        (keys_over (c ∷ cs) next (subst AllKeys (sym ((bytes_eq-Decides all (codes "true")).0 h))
        (cons refl (cons refl (cons refl (cons refl nil)))))) h
    go false h true i e =
        no_word (λ w. bytes_eq w (codes "false")) q.no_false
        (keys_over (c ∷ cs) next (subst AllKeys (sym ((bytes_eq-Decides all (codes "false")).0 i))
        (cons refl (cons refl (cons refl (cons refl (cons refl nil))))))) i
    go false h false i e = number (number_is all e)

-- what begins with a period is no value
pub period_no_value : {v : Raw} (cs : List ℕ) → word_value (46 ∷ cs) ≡ Some v → ⊥
period_no_value {v = v} cs e = number (number_is (46 ∷ cs) e)
  where
    number : Number (46 ∷ cs) → ⊥
    number (inl h) = not_whole 46 cs refl (decimal_whole false (46 ∷ cs) h)
    number (inr h) = false≢true h
