-- Where a value stands, no number is at fault.
use Rattle.std.proofs.Common.{◌⊎◌, inl, inr, ◌≡◌, ℕ, ◌+◌, ◌==◌, ◌&&◌, ◌||◌, Bool, true, false, cond, List, [], ◌∷◌, ◌++◌}
use Rattle.std.proofs.Common.{refl, ap, sym, ◌∙◌, subst, Option, Some, None, is_none, codes, eqb-true}
use Rattle.std.specs.Prelude.{ℤ}
use Rattle.std.specs.Option.{option_or}
use Rattle.std.specs.List.{list_any}
use Rattle.std.specs.Str.{bytes_eq}
use Rattle.std.proofs.lemmas.Bool.{false≢true, and_parts, or_cases}
use Rattle.std.proofs.lemmas.List.{append-nil}
use Rattle.std.proofs.lemmas.Slice.Eq.{bytes_eq-Decides}
use Rattle.basic_toml_tokens.specs.Text.{Text, offset_in, run, after_run, is_keylike, is_comment}
use Rattle.basic_toml_numbers.specs.Numbers.{integer_of, float_of, decimal, in_radix, is_digits, is_whole, part_of}
use Rattle.basic_toml_numbers.specs.Numbers.{after_zero}
use Rattle.basic_toml_numbers.specs.Numbers.{after_part, is_exponent_letter, is_exponent, is_tail, is_special}
use Rattle.basic_toml_numbers.specs.Numbers.{is_unsigned_float, without_sign, canonical}
use Rattle.basic_toml_grammar.specs.Sections.{Raw}
use Rattle.basic_toml_grammar.specs.Grammar.{is_wordlike, number_value, word_value, IsValue, word, string, array, inline}
use Rattle.basic_toml_grammar.specs.Reader.{char_at}
use Rattle.basic_toml_grammar.specs.NumberFaults.{signed_part_fault, without_minus}
use Rattle.basic_toml_grammar.specs.NumberFaults.{exponent_fault}
use Rattle.basic_toml_grammar.specs.NumberFaults.{float_fault, end_before}
use Rattle.basic_toml_grammar.specs.NumberFaults.{outside, whole_fault, unmarked_fault, is_prefixed, word_fault}
use Rattle.basic_toml_grammar.specs.NumberFaults.{takes_no_plus, begins_number, number_fault}
use Rattle.basic_toml_grammar.proofs.Grammar.GrammarIsUnambiguous.{string_heads}
use Rattle.basic_toml_grammar.proofs.Viable.NumberParts.{AllKeys, cons, run_keys, after_part_keys, minus_keys, IsOver}
use Rattle.basic_toml_grammar.proofs.Viable.NumberParts.{Behind, over, plus_next, period_next, behind, run_splits}
use Rattle.basic_toml_grammar.proofs.Viable.NumberParts.{digits_over, special_over, whole_digits, digits_are_a_part}
use Rattle.basic_toml_grammar.proofs.Viable.NumberParts.{digits_no_letter, signed_none, whole_part}
use Rattle.basic_toml_grammar.proofs.Viable.NumberParts.{parts_at, parts_before, letter_found, letter_left}
use Rattle.basic_toml_grammar.proofs.Viable.FractionsHaveNoFault.{key_not, exponent_none, fraction_none}

-- with neither a fraction nor an exponent
whole_none : (start : ℕ) (w : List ℕ) → is_whole (without_minus w) ≡ true → is_none (integer_of w) ≡ false
    → whole_fault start w ≡ None
whole_none start w whole inside = go (is_special (without_minus w))
  where
    digits : part_of (without_minus w) ≡ without_minus w
    digits = (digits_are_a_part true (without_minus w) (whole_digits (without_minus w) whole)).0

    go : (b : Bool) → cond b None (option_or (signed_part_fault false start w) (outside start w)) ≡ None
    go true = refl
    go false =
        ap (λ (o : Option ℕ). option_or o (outside start w)) (signed_none false start w (ap is_whole digits ∙ whole))
        ∙ ap (λ (b : Bool). cond b (Some start) None) inside

-- words that begin with a prefix
pub data Prefixed : List ℕ → Type 0 where
  hexadecimal : {ds : List ℕ} → Prefixed (48 ∷ 120 ∷ ds)
  octal : {ds : List ℕ} → Prefixed (48 ∷ 111 ∷ ds)
  binary : {ds : List ℕ} → Prefixed (48 ∷ 98 ∷ ds)

pub prefixed : (w : List ℕ) → is_prefixed w ≡ true → Prefixed w
prefixed [] e = absurd (false≢true e)
prefixed (c ∷ []) e = absurd (false≢true e)
prefixed (c ∷ d ∷ ds) e =
    let h = and_parts (c == 48) (d == 120 || (d == 111 || d == 98)) e in
    subst (λ (n : ℕ). Prefixed (n ∷ d ∷ ds)) (sym (eqb-true c 48 h.0)) (go (or_cases (d == 120) (d == 111 || d == 98) h.1))
  where
    last_two : ((d == 111) ≡ true) ⊎ ((d == 98) ≡ true) → Prefixed (48 ∷ d ∷ ds)
    last_two (inl h) = subst (λ (n : ℕ). Prefixed (48 ∷ n ∷ ds)) (sym (eqb-true d 111 h)) octal
    last_two (inr h) = subst (λ (n : ℕ). Prefixed (48 ∷ n ∷ ds)) (sym (eqb-true d 98 h)) binary

    go : ((d == 120) ≡ true) ⊎ ((d == 111 || d == 98) ≡ true) → Prefixed (48 ∷ d ∷ ds)
    go (inl h) = subst (λ (n : ℕ). Prefixed (48 ∷ n ∷ ds)) (sym (eqb-true d 120 h)) hexadecimal
    go (inr h) = last_two (or_cases (d == 111) (d == 98) h)

there_is : {A : Type 0} (b : Bool) (o : Option A) → is_none (cond b o None) ≡ false → b ≡ true
there_is true o e = refl
there_is false o e = sym e

pub prefixed_over : {rest : Text} {w : List ℕ} → Prefixed w → Behind rest
    → is_none (integer_of (w ++ run is_wordlike rest)) ≡ false → IsOver rest
prefixed_over {rest = rest} (hexadecimal {ds = ds}) next e =
    digits_over 16 refl refl true ds next (there_is (is_digits 16 (ds ++ run is_wordlike rest)) _ e)
prefixed_over {rest = rest} (octal {ds = ds}) next e =
    digits_over 8 refl refl true ds next (there_is (is_digits 8 (ds ++ run is_wordlike rest)) _ e)
prefixed_over {rest = rest} (binary {ds = ds}) next e =
    digits_over 2 refl refl true ds next (there_is (is_digits 2 (ds ++ run is_wordlike rest)) _ e)

pub prefixed_not_whole : {w : List ℕ} (ws : List ℕ) → Prefixed w → is_whole (without_minus w ++ ws) ≡ true → ⊥
prefixed_not_whole ws hexadecimal e = false≢true e
prefixed_not_whole ws octal e = false≢true e
prefixed_not_whole ws binary e = false≢true e

pub prefixed_no_float : {w : List ℕ} (ws : List ℕ) → Prefixed w → is_unsigned_float (without_minus w ++ ws) ≡ true → ⊥
prefixed_no_float ws hexadecimal e = false≢true e
prefixed_no_float ws octal e = false≢true e
prefixed_no_float ws binary e = false≢true e

-- what keylike characters write with those behind them
pub data Writes (w more : List ℕ) : Type 0 where
  with_prefix : is_prefixed w ≡ true → is_none (integer_of (w ++ more)) ≡ false → Writes w more
  whole : is_whole (without_minus w ++ more) ≡ true → (more ≡ [] → is_none (integer_of w) ≡ false) → Writes w more
  float : is_unsigned_float (without_minus w ++ more) ≡ true → Writes w more

-- the letter of an exponent is no minus
pub letter_in : (w : List ℕ) → list_any is_exponent_letter w ≡ list_any is_exponent_letter (without_minus w)
letter_in [] = refl
letter_in (c ∷ cs) = go (c == 45) refl
  where
    go : (b : Bool) → (c == 45) ≡ b
        → (is_exponent_letter c || list_any is_exponent_letter cs) ≡ list_any is_exponent_letter (cond b cs (c ∷ cs))
    go false h = refl
    go true h = ap (λ (n : ℕ). is_exponent_letter n || list_any is_exponent_letter cs) (eqb-true c 45 h)

pub special_no_letter : (u : List ℕ) → is_special u ≡ true → list_any is_exponent_letter u ≡ false
special_no_letter u e = go (or_cases (bytes_eq u (codes "inf")) (bytes_eq u (codes "nan")) e)
  where
    go : (bytes_eq u (codes "inf") ≡ true) ⊎ (bytes_eq u (codes "nan") ≡ true) → list_any is_exponent_letter u ≡ false
    go (inl h) = ap (list_any is_exponent_letter) ((bytes_eq-Decides u (codes "inf")).0 h)
    go (inr h) = ap (list_any is_exponent_letter) ((bytes_eq-Decides u (codes "nan")).0 h)

-- the word alone
pub alone : {rest : Text} (xs : List ℕ) → IsOver rest → xs ++ run is_wordlike rest ≡ xs
alone xs o = ap (λ (t : List ℕ). xs ++ t) o.word ∙ append-nil xs

-- digits that a period may follow
no_left : {rest : Text} (end start : ℕ) (w : List ℕ) → Behind rest → after_part (without_minus w) ≡ []
    → is_whole (part_of (without_minus w ++ run is_wordlike rest)) ≡ true
    → is_tail (after_part (without_minus w ++ run is_wordlike rest)) ≡ true
    → unmarked_fault end start w (char_at 46 rest) ≡ None
no_left end start w (over o) l h t =
    absurd (false≢true (sym (ap (λ (x : List ℕ). is_tail (after_part x)) (alone (without_minus w) o) ∙ ap is_tail l)
    ∙ t))
no_left end start w (plus_next {next = n}) l h t =
    absurd (false≢true (sym (ap is_tail (parts_at (without_minus w) 43 (run is_wordlike n) l refl).1) ∙ t))
no_left end start w (period_next {next = n}) l h t =
    let p = parts_at (without_minus w) 46 (run is_wordlike n) l refl in
    fraction_none end start w n
    (ap is_whole (sym (whole_part (without_minus w) l)) ∙ ap is_whole (sym p.0) ∙ h) (ap is_tail (sym p.1) ∙ t)

module _ (end start : ℕ) {rest : Text} (w : List ℕ) (keys : AllKeys w) (next : Behind rest) where
  abbrev u : List ℕ
  u = without_minus w

  abbrev ws : List ℕ
  ws = run is_wordlike rest

  -- no prefix stands there, and the letter of an exponent or none
  chosen : (b : Bool) → is_prefixed w ≡ false → list_any is_exponent_letter u ≡ b
      → cond b (float_fault end start w rest) (unmarked_fault end start w (char_at 46 rest)) ≡ None
      → word_fault end start w rest ≡ None
  chosen b p l e =
      ap (λ (b : Bool). cond b (outside (start + 2) w)
      (cond (list_any is_exponent_letter w) (float_fault end start w rest)
      (unmarked_fault end start w (char_at 46 rest)))) p
      ∙ ap (λ (b : Bool). cond b (float_fault end start w rest) (unmarked_fault end start w (char_at 46 rest)))
      (letter_in w ∙ l) ∙ e

  special : is_prefixed w ≡ false → is_special (u ++ ws) ≡ true → word_fault end start w rest ≡ None
  special p e =
      let o = special_over u next e in
      let s : is_special u ≡ true = ap is_special (sym (alone u o)) ∙ e in
      chosen false p (special_no_letter u s) (ap (unmarked_fault end start w) o.no_period
      ∙ ap (λ (b : Bool). cond b None (option_or (signed_part_fault false start w) (outside start w))) s)

  -- digits, and then a fraction or an exponent
  parts : is_prefixed w ≡ false → is_whole (part_of (u ++ ws)) ≡ true → is_tail (after_part (u ++ ws)) ≡ true
      → word_fault end start w rest ≡ None
  parts p h t = go (after_part u) refl (after_part_keys (minus_keys keys))
    where
      no_letter : (b : Bool) → list_any is_exponent_letter u ≡ b → after_part u ≡ [] → b ≡ false
      no_letter false e l = refl
      no_letter true e l = absurd (letter_left u e l)

      go : (left : List ℕ) → after_part u ≡ left → AllKeys (after_part u) → word_fault end start w rest ≡ None
      go [] l k =
          chosen false p (no_letter (list_any is_exponent_letter u) refl l) (no_left end start w next l h t)
      go (a ∷ left) l k =
          let b = parts_before u a left ws l in
          let tail : is_tail (a ∷ left ++ ws) ≡ true = ap is_tail (sym b.1) ∙ t in
          let exponent : is_exponent (a ∷ left ++ ws) ≡ true =
          ap (λ (b : Bool). cond b (is_digits 10 (part_of (left ++ ws)) && (bytes_eq (after_part (left ++ ws)) []
          || is_exponent (after_part (left ++ ws)))) (is_exponent (a ∷ left ++ ws))) (sym (key_not a 46 here.0 refl))
          ∙ tail in
          let letter = (and_parts (is_exponent_letter a) _ exponent).0 in
          let at = end_before start w (after_part u) in
          chosen true p (letter_found u a left l letter)
          (ap (λ (o : Option ℕ). option_or o (exponent_fault end start at (after_part u) rest))
          (signed_none false start w (ap is_whole (sym b.0) ∙ h))
          ∙ ap (λ (x : List ℕ). exponent_fault end start at x rest) l
          ∙ exponent_none end start at a left here.1 next exponent)
        where
          both : AllKeys (a ∷ left) → (is_keylike a ≡ true) × AllKeys left
          both (cons e k) = (e, k)

          here : (is_keylike a ≡ true) × AllKeys left
          here = both (subst AllKeys l k)

  word_none : Writes w ws → word_fault end start w rest ≡ None
  word_none (with_prefix p e) =
      let o = prefixed_over (prefixed w p) next e in
      ap (λ (b : Bool). cond b (outside (start + 2) w)
      (cond (list_any is_exponent_letter w) (float_fault end start w rest)
      (unmarked_fault end start w (char_at 46 rest)))) p
      ∙ ap (λ (b : Bool). cond b (Some (start + 2)) None)
      (ap (λ (t : List ℕ). is_none (integer_of t)) (sym (alone w o)) ∙ e)
  word_none (whole e i) = go (is_prefixed w) refl
    where
      go : (b : Bool) → is_prefixed w ≡ b → word_fault end start w rest ≡ None
      go true p = absurd (prefixed_not_whole ws (prefixed w p) e)
      go false p =
          let o = digits_over 10 refl refl true u next (whole_digits (u ++ ws) e) in
          let h : is_whole u ≡ true = ap is_whole (sym (alone u o)) ∙ e in
          chosen false p (digits_no_letter true u (whole_digits u h))
          (ap (unmarked_fault end start w) o.no_period ∙ whole_none start w h (i o.word))
  word_none (float e) = go (is_prefixed w) refl
    where
      either : is_prefixed w ≡ false
          → (is_special (u ++ ws) ≡ true) ⊎ ((is_whole (part_of (u ++ ws)) && is_tail (after_part (u ++ ws))) ≡ true)
          → word_fault end start w rest ≡ None
      either p (inl s) = special p s
      either p (inr h) =
          let b = and_parts (is_whole (part_of (u ++ ws))) (is_tail (after_part (u ++ ws))) h in parts p b.0 b.1

      go : (b : Bool) → is_prefixed w ≡ b → word_fault end start w rest ≡ None
      go true p = absurd (prefixed_no_float ws (prefixed w p) e)
      go false p =
          either p (or_cases (is_special (u ++ ws)) (is_whole (part_of (u ++ ws)) && is_tail (after_part (u ++ ws))) e)

-- an integer or a float
abbrev pub Number : List ℕ → Type 0
Number w = (is_none (integer_of w) ≡ false) ⊎ (is_unsigned_float (without_sign w) ≡ true)

pub number_is : {v : Raw} (w : List ℕ) → number_value (integer_of w) (float_of w) ≡ Some v → Number w
number_is {v = v} w e = go (integer_of w) (is_unsigned_float (without_sign w)) e
  where
    go : (i : Option ℤ) (b : Bool) → number_value i (cond b (Some (canonical w)) None) ≡ Some v
        → (is_none i ≡ false) ⊎ (b ≡ true)
    go (Some z) b e = inl refl
    go None true e = inr refl
    go None false e = cc

pub decimal_whole : (negative : Bool) (cs : List ℕ) → is_none (decimal negative cs) ≡ false → is_whole cs ≡ true
decimal_whole negative cs e = there_is (is_whole cs) _ e

-- after a plus
nothing_written : {rest : Text} → Behind rest → Number (43 ∷ run is_wordlike rest) → ⊥
nothing_written {rest = rest} (over o) (inl e) =
    false≢true (sym (ap is_whole o.word) ∙ decimal_whole false (run is_wordlike rest) e)
nothing_written (over o) (inr e) = false≢true (sym (ap is_unsigned_float o.word) ∙ e)
nothing_written (plus_next {next = n}) (inl e) = false≢true (decimal_whole false (43 ∷ run is_wordlike n) e)
nothing_written plus_next (inr e) = false≢true e
nothing_written (period_next {next = n}) (inl e) = false≢true (decimal_whole false (46 ∷ run is_wordlike n) e)
nothing_written period_next (inr e) = false≢true e

no_second_sign : (ws : List ℕ) → Number (43 ∷ 45 ∷ ws) → ⊥
no_second_sign ws (inl e) = false≢true (decimal_whole false (45 ∷ ws) e)
no_second_sign ws (inr e) = false≢true e

no_prefix : {w : List ℕ} (ws : List ℕ) → Prefixed w → Number (43 ∷ w ++ ws) → ⊥
no_prefix {w = w} ws hexadecimal (inl e) = false≢true (decimal_whole false (w ++ ws) e)
no_prefix ws hexadecimal (inr e) = false≢true e
no_prefix {w = w} ws octal (inl e) = false≢true (decimal_whole false (w ++ ws) e)
no_prefix ws octal (inr e) = false≢true e
no_prefix {w = w} ws binary (inl e) = false≢true (decimal_whole false (w ++ ws) e)
no_prefix ws binary (inr e) = false≢true e

unsigned_integer : (c : ℕ) (cs : List ℕ) → (c == 43) ≡ false → (c == 45) ≡ false
    → is_none (decimal false (c ∷ cs)) ≡ false → is_none (integer_of (c ∷ cs)) ≡ false
unsigned_integer c cs f g e =
    ap (λ (b : Bool). is_none (cond b (decimal false cs) (cond (c == 45) (decimal true cs)
    (cond (c == 48) (after_zero cs) (decimal false (c ∷ cs)))))) f
    ∙ ap (λ (b : Bool). is_none (cond b (decimal true cs) (cond (c == 48) (after_zero cs) (decimal false (c ∷ cs))))) g
    ∙ go (c == 48) (decimal_whole false (c ∷ cs) e)
  where
    zero : (cs : List ℕ) → bytes_eq cs [] ≡ true → is_none (after_zero cs) ≡ false
    zero [] h = refl
    zero (d ∷ ds) h = absurd (false≢true h)

    go : (b : Bool) → cond b (bytes_eq cs []) (is_digits 10 (c ∷ cs)) ≡ true
        → is_none (cond b (after_zero cs) (decimal false (c ∷ cs))) ≡ false
    go true h = zero cs h
    go false h = e

pub plus_write : {rest : Text} (k : List ℕ) → AllKeys k → Behind rest → Number (43 ∷ k ++ run is_wordlike rest)
    → (takes_no_plus k ≡ false) × Writes k (run is_wordlike rest)
plus_write [] k next n = absurd (nothing_written next n)
plus_write {rest = rest} (c ∷ cs) (cons key k) next n = go (c == 45) refl (is_prefixed (c ∷ cs)) refl
  where
    ws : List ℕ
    ws = run is_wordlike rest

    writes : (c == 45) ≡ false → Number (43 ∷ c ∷ cs ++ ws) → Writes (c ∷ cs) ws
    writes m (inl e) =
        whole (ap (λ (b : Bool). is_whole (cond b cs (c ∷ cs) ++ ws)) m ∙ decimal_whole false (c ∷ cs ++ ws) e)
        (λ none. unsigned_integer c cs (key_not c 43 key refl) m
        (ap (λ (t : List ℕ). is_none (decimal false (c ∷ t))) (sym (ap (λ (t : List ℕ). cs ++ t) none
        ∙ append-nil cs)) ∙ e))
    writes m (inr e) = float (ap (λ (b : Bool). is_unsigned_float (cond b cs (c ∷ cs) ++ ws)) m ∙ e)

    go : (a : Bool) → (c == 45) ≡ a → (b : Bool) → is_prefixed (c ∷ cs) ≡ b
        → ((a || b) ≡ false) × Writes (c ∷ cs) ws
    go true m b p =
        absurd (no_second_sign (cs ++ ws) (subst (λ (d : ℕ). Number (43 ∷ d ∷ cs ++ ws)) (eqb-true c 45 m) n))
    go false m true p = absurd (no_prefix ws (prefixed (c ∷ cs) p) n)
    go false m false p = (refl, writes m n)

plus_none : {rest : Text} (end at : ℕ) (k : List ℕ) → AllKeys k → Behind rest → Number (43 ∷ k ++ run is_wordlike rest)
    → cond (takes_no_plus k) (Some at) (word_fault end at k rest) ≡ None
plus_none {rest = rest} end at k keys next n =
    let r = plus_write k keys next n in
    ap (λ (b : Bool). cond b (Some at) (word_fault end at k rest)) r.0 ∙ word_none end at k keys next r.1

-- and without one
pub keys_write : {rest : Text} (c : ℕ) (cs : List ℕ) → is_keylike c ≡ true → Behind rest
    → Number (c ∷ cs ++ run is_wordlike rest) → Writes (c ∷ cs) (run is_wordlike rest)
keys_write {rest = rest} c cs key next n = writes n
  where
    ws : List ℕ
    ws = run is_wordlike rest

    no_plus : (c == 43) ≡ false
    no_plus = key_not c 43 key refl

    joined : (b : Bool) → cond b cs (c ∷ cs) ++ ws ≡ cond b (cs ++ ws) (c ∷ cs ++ ws)
    joined true = refl
    joined false = refl

    -- a zero at the front is alone, or begins a prefix
    zero : {rest : Text} (cs : List ℕ) → Behind rest → is_none (after_zero (cs ++ run is_wordlike rest)) ≡ false
        → (is_prefixed (48 ∷ cs) ≡ true) ⊎ (is_whole (48 ∷ cs ++ run is_wordlike rest) ≡ true)
    zero [] (over o) e = inr (ap (λ (t : List ℕ). bytes_eq t []) o.word)
    zero [] plus_next e = absurd (false≢true (sym e))
    zero [] period_next e = absurd (false≢true (sym e))
    zero {rest = rest} (d ∷ ds) next e = inl (letters (in_radix 16 (ds ++ run is_wordlike rest)) (in_radix 8 (ds ++ run is_wordlike rest))
        (in_radix 2 (ds ++ run is_wordlike rest)) (d == 120) (d == 111) (d == 98) e)
      where
        letters : (x y z : Option ℤ) (a b c : Bool) → is_none (cond a x (cond b y (cond c z None))) ≡ false
            → (a || (b || c)) ≡ true
        letters x y z true b c e = refl
        letters x y z false true c e = refl
        letters x y z false false true e = refl
        letters x y z false false false e = sym e

    writes : Number (c ∷ cs ++ ws) → Writes (c ∷ cs) ws
    writes (inr e) =
        float (ap is_unsigned_float (joined (c == 45)
        ∙ sym (ap (λ (b : Bool). cond (b || c == 45) (cs ++ ws) (c ∷ cs ++ ws)) no_plus)) ∙ e)
    writes (inl e) = go (c == 45) refl (c == 48) refl
        (sym (ap (λ (b : Bool). is_none (cond b (decimal false (cs ++ ws)) (cond (c == 45) (decimal true (cs ++ ws))
        (cond (c == 48) (after_zero (cs ++ ws)) (decimal false (c ∷ cs ++ ws)))))) no_plus) ∙ e)
      where
        inside : ws ≡ [] → is_none (integer_of (c ∷ cs)) ≡ false
        inside none =
            ap (λ (t : List ℕ). is_none (integer_of (c ∷ t))) (sym (ap (λ (t : List ℕ). cs ++ t) none
            ∙ append-nil cs)) ∙ e

        is_alone : (c == 45) ≡ false → is_whole (c ∷ cs ++ ws) ≡ true → Writes (c ∷ cs) ws
        is_alone m h = whole (ap (λ (b : Bool). is_whole (cond b cs (c ∷ cs) ++ ws)) m ∙ h) inside

        from_zero : (c == 45) ≡ false → (c == 48) ≡ true
            → (is_prefixed (48 ∷ cs) ≡ true) ⊎ (is_whole (48 ∷ cs ++ ws) ≡ true) → Writes (c ∷ cs) ws
        from_zero m z (inl h) =
            with_prefix (subst (λ (n : ℕ). is_prefixed (n ∷ cs) ≡ true) (sym (eqb-true c 48 z)) h) e
        from_zero m z (inr h) =
            is_alone m (subst (λ (n : ℕ). is_whole (n ∷ cs ++ ws) ≡ true) (sym (eqb-true c 48 z)) h)

        go : (a : Bool) → (c == 45) ≡ a → (b : Bool) → (c == 48) ≡ b
            → is_none (cond a (decimal true (cs ++ ws)) (cond b (after_zero (cs ++ ws)) (decimal false (c ∷ cs ++ ws))))
            ≡ false
            → Writes (c ∷ cs) ws
        go true m b z f =
            whole (ap (λ (b : Bool). is_whole (cond b cs (c ∷ cs) ++ ws)) m ∙ decimal_whole true (cs ++ ws) f) inside
        go false m true z f = from_zero m z (zero cs next f)
        go false m false z f = is_alone m (decimal_whole false (c ∷ cs ++ ws) f)

-- a word with a value
word_no_fault : {v : Raw} (end : ℕ) (x : ℕ × ℕ) (t : Text) → is_wordlike x.1 ≡ true
    → word_value (run is_wordlike (x ∷ t)) ≡ Some v → number_fault end (x ∷ t) ≡ None
word_no_fault {v = v} end x t w e =
    go (bytes_eq (run is_wordlike (x ∷ t)) (codes "true")) refl (bytes_eq (run is_wordlike (x ∷ t)) (codes "false")) refl
    e
  where
    all : List ℕ
    all = run is_wordlike (x ∷ t)

    front : all ≡ x.1 ∷ run is_wordlike t
    front = ap (λ (b : Bool). cond b (x.1 ∷ run is_wordlike t) []) w

    split : all ≡ x.1 ∷ run is_keylike t ++ run is_wordlike (after_run is_keylike t)
    split = front ∙ ap (λ (cs : List ℕ). x.1 ∷ cs) (run_splits t)

    begins : (c : ℕ) (cs : List ℕ) → all ≡ c ∷ cs → x.1 ≡ c
    begins c cs h = let same : x.1 ∷ run is_wordlike t ≡ c ∷ cs = sym front ∙ h in cc

    key : (b : Bool) → is_keylike x.1 ≡ b → Number all
        → cond (begins_number (cond b (x.1 ∷ run is_keylike t) []))
        (word_fault end x.0 (cond b (x.1 ∷ run is_keylike t) []) (cond b (after_run is_keylike t) (x ∷ t))) None
        ≡ None
    key false h n = refl
    key true h n = choose (begins_number (x.1 ∷ run is_keylike t))
      where
        choose : (b : Bool)
            → cond b (word_fault end x.0 (x.1 ∷ run is_keylike t) (after_run is_keylike t)) None ≡ None
        choose false = refl
        choose true =
            word_none end x.0 (x.1 ∷ run is_keylike t) (cons h (run_keys t)) (behind t)
            (keys_write x.1 (run is_keylike t) h (behind t) (subst Number split n))

    number : Number all → (b : Bool) → (x.1 == 43) ≡ b
        → cond b (cond (takes_no_plus (run is_keylike t)) (Some (offset_in end t))
        (word_fault end (offset_in end t) (run is_keylike t) (after_run is_keylike t)))
        (cond (begins_number (run is_keylike (x ∷ t)))
        (word_fault end x.0 (run is_keylike (x ∷ t)) (after_run is_keylike (x ∷ t))) None) ≡ None
    number n true h =
        plus_none end (offset_in end t) (run is_keylike t) (run_keys t) (behind t)
        (subst Number (split ∙ ap (λ (c : ℕ). c ∷ run is_keylike t ++ run is_wordlike (after_run is_keylike t))
        (eqb-true x.1 43 h)) n)
    number n false h = key (is_keylike x.1) refl n

    go : (a : Bool) → bytes_eq all (codes "true") ≡ a → (b : Bool) → bytes_eq all (codes "false") ≡ b
        → cond a (Some (Raw.boolean true)) (cond b (Some (Raw.boolean false))
        (number_value (integer_of all) (float_of all))) ≡ Some v
        → number_fault end (x ∷ t) ≡ None
    go true h b i e =
        subst (λ (c : ℕ). number_fault end ((x.0, c) ∷ t) ≡ None)
        (sym (begins 116 (codes "rue") ((bytes_eq-Decides all (codes "true")).0 h))) refl
    go false h true i e =
        subst (λ (c : ℕ). number_fault end ((x.0, c) ∷ t) ≡ None)
        (sym (begins 102 (codes "alse") ((bytes_eq-Decides all (codes "false")).0 i))) refl
    go false h false i e = number (number_is all e) (x.1 == 43) refl

pub value_no_fault : {text rest : Text} {p : ℕ} {v : Raw} (end : ℕ) → IsValue is_comment text p v rest
    → number_fault end text ≡ None
value_no_fault end (word {p = p} {c = c} {next = next} s w e) =
    subst (λ (t : Text). number_fault end t ≡ None) (sym s)
    (word_no_fault end (p, c) next w (ap (λ (t : Text). word_value (run is_wordlike t)) (sym s) ∙ e))
value_no_fault end (string s) =
    let h = string_heads s in
    subst (λ (t : Text). number_fault end t ≡ None) (sym h.sign) (quote h.offset h.char h.next (or_cases (h.char == 34) (h.char == 39) h.kind))
  where
    quote : (p c : ℕ) (t : Text) → ((c == 34) ≡ true) ⊎ ((c == 39) ≡ true) → number_fault end ((p, c) ∷ t) ≡ None
    quote p c t (inl h) = subst (λ (c : ℕ). number_fault end ((p, c) ∷ t) ≡ None) (sym (eqb-true c 34 h)) refl
    quote p c t (inr h) = subst (λ (c : ℕ). number_fault end ((p, c) ∷ t) ≡ None) (sym (eqb-true c 39 h)) refl
value_no_fault end (array s es) = subst (λ (t : Text). number_fault end t ≡ None) (sym s) refl
value_no_fault end (inline s rs) = subst (λ (t : Text). number_fault end t ≡ None) (sym s) refl
