-- What stands before the end of a number without a fault, or of `true` and `false`, is a value where the text goes on with
-- no character of words.
use Rattle.std.proofs.Common.{◌⊎◌, inl, inr, ◌≡◌, ℕ, ◌==◌, ◌&&◌, ◌||◌, Bool, true, false, cond, List, [], ◌∷◌, ◌++◌, refl}
use Rattle.std.proofs.Common.{ap, sym, ◌∙◌, subst, Some, None, codes, eqb-true}
use Rattle.std.specs.Char.{is_ascii_digit}
use Rattle.std.specs.Str.{bytes_eq}
use Rattle.std.proofs.lemmas.Bool.{false≢true, or_cases, or_parts}
use Rattle.std.proofs.lemmas.List.{append-nil, append_assoc, append_cancel_right}
use Rattle.std.proofs.lemmas.Slice.Eq.{bytes_eq-Decides}
use Rattle.basic_toml_tokens.specs.Text.{Text, offset_in, run, after_run, is_keylike}
use Rattle.basic_toml_numbers.specs.Numbers.{integer_of, float_of, is_special}
use Rattle.basic_toml_grammar.specs.Sections.{Raw}
use Rattle.basic_toml_grammar.specs.Grammar.{is_wordlike, number_value, word_value}
use Rattle.basic_toml_grammar.specs.NumberFaults.{is_prefixed, takes_no_plus, plus_fault, word_fault}
use Rattle.basic_toml_grammar.specs.NumberFaults.{begins_number}
use Rattle.basic_toml_grammar.specs.NumberTokens.{word_rest, number_rest, IsWhole, boolean, number, signed}
use Rattle.basic_toml_grammar.proofs.Grammar.EndChangesNothing.{Parts}
use Rattle.basic_toml_grammar.proofs.Grammar.FrontsOfTexts.{parts_same}
use Rattle.basic_toml_grammar.proofs.Viable.BehindValues.{inner, spliced}
use Rattle.basic_toml_grammar.proofs.Viable.FractionsHaveNoFault.{key_not}
use Rattle.basic_toml_grammar.proofs.Viable.NumberRests.{number_through, within_through, through_shorter, Through}
use Rattle.basic_toml_grammar.proofs.Viable.NumbersOnTheWay.{InWord, whole, behind}
use Rattle.basic_toml_explain.proofs.FaultlessNumberHasValue.{run_splits, word_taken, word_splits, number_has_value}
use Rattle.basic_toml_explain.proofs.FaultlessNumberHasValue.{taken_begins}
use Rattle.basic_toml_explain.proofs.PlusWordIsNone.{second_sign, plus_value}

-- the characters of the number at the front, with a plus or without one
abbrev word_front : Text → List ℕ
word_front text = run is_keylike text ++ word_taken (run is_keylike text) (after_run is_keylike text)

abbrev number_front : ℕ × ℕ → Text → List ℕ
number_front x text = cond (x.1 == 43) (43 ∷ word_front text) (word_front (x ∷ text))

front_splits : (t : Text) → run is_wordlike t
    ≡ word_front t ++ run is_wordlike (word_rest (run is_keylike t) (after_run is_keylike t))
front_splits t =
    let w = run is_keylike t in
    let r = after_run is_keylike t in
    run_splits t ∙ ap (λ (v : List ℕ). w ++ v) (word_splits w r)
    ∙ sym (append_assoc w (word_taken w r) (run is_wordlike (word_rest w r)))

number_splits : (x : ℕ × ℕ) (text : Text) → is_wordlike x.1 ≡ true
    → run is_wordlike (x ∷ text) ≡ number_front x text ++ run is_wordlike (number_rest (x ∷ text))
number_splits x text w = go (x.1 == 43) refl
  where
    go : (b : Bool) → (x.1 == 43) ≡ b
        → run is_wordlike (x ∷ text) ≡ cond b (43 ∷ word_front text) (word_front (x ∷ text))
        ++ run is_wordlike (cond b (word_rest (run is_keylike text) (after_run is_keylike text))
        (word_rest (run is_keylike (x ∷ text)) (after_run is_keylike (x ∷ text))))
    go false e = front_splits (x ∷ text)
    go true e =
        ap (λ (b : Bool). cond b (x.1 ∷ run is_wordlike text) []) w
        ∙ ap (λ (c : ℕ). c ∷ run is_wordlike text) (eqb-true x.1 43 e)
        ∙ ap (λ (v : List ℕ). 43 ∷ v) (front_splits text)

-- a word that begins a number is neither `true` nor `false`, whatever goes on with it
first_apart : (n c : ℕ) (cs : List ℕ) → is_ascii_digit n ≡ false → (n == 45) ≡ false → (n == 105) ≡ false
    → (n == 110) ≡ false → begins_number (c ∷ cs) ≡ true → (c == n) ≡ false
first_apart n c cs d m i a b = go (c == n) refl
  where
    special : is_special (c ∷ cs) ≡ true → (c ≡ 105) ⊎ (c ≡ 110)
    special e = by (or_cases (bytes_eq (c ∷ cs) (codes "inf")) (bytes_eq (c ∷ cs) (codes "nan")) e)
      where
        by : (bytes_eq (c ∷ cs) (codes "inf") ≡ true) ⊎ (bytes_eq (c ∷ cs) (codes "nan") ≡ true) → (c ≡ 105) ⊎ (c ≡ 110)
        by (inl h) = let same : c ∷ cs ≡ 105 ∷ codes "nf" = (bytes_eq-Decides (c ∷ cs) (codes "inf")).0 h in inl cc
        by (inr h) = let same : c ∷ cs ≡ 110 ∷ codes "an" = (bytes_eq-Decides (c ∷ cs) (codes "nan")).0 h in inr cc

    apart : (k : ℕ) → c ≡ n → c ≡ k → (n == k) ≡ false → (k == k) ≡ true → ⊥
    apart k e f g h = false≢true (sym g ∙ ap (λ (z : ℕ). z == k) (sym e ∙ f) ∙ h)

    parts : c ≡ n → ((is_ascii_digit c || c == 45) ≡ true) ⊎ (is_special (c ∷ cs) ≡ true) → ⊥
    parts e (inl h) = by (or_cases (is_ascii_digit c) (c == 45) h)
      where
        by : (is_ascii_digit c ≡ true) ⊎ ((c == 45) ≡ true) → ⊥
        by (inl h) = false≢true (sym d ∙ ap is_ascii_digit (sym e) ∙ h)
        by (inr h) = false≢true (sym m ∙ ap (λ (z : ℕ). z == 45) (sym e) ∙ h)
    parts e (inr h) = by (special h)
      where
        by : (c ≡ 105) ⊎ (c ≡ 110) → ⊥
        by (inl f) = apart 105 e f i refl
        by (inr f) = apart 110 e f a refl

    go : (z : Bool) → (c == n) ≡ z → z ≡ false
    go false e = refl
    go true e = absurd (parts (eqb-true c n e) (or_cases (is_ascii_digit c || c == 45) (is_special (c ∷ cs)) b))

number_word : (c : ℕ) (cs ys : List ℕ) → begins_number (c ∷ cs) ≡ true
    → word_value (c ∷ ys) ≡ number_value (integer_of (c ∷ ys)) (float_of (c ∷ ys))
number_word c cs ys b =
    let number = number_value (integer_of (c ∷ ys)) (float_of (c ∷ ys)) in
    ap (λ (z : Bool). cond (z && bytes_eq ys (codes "rue")) (Some (Raw.boolean true))
    (cond ((c == 102) && bytes_eq ys (codes "alse")) (Some (Raw.boolean false)) number))
    (first_apart 116 c cs refl refl refl refl b)
    ∙ ap (λ (z : Bool). cond (z && bytes_eq ys (codes "alse")) (Some (Raw.boolean false)) number)
    (first_apart 102 c cs refl refl refl refl b)

abbrev Written : List ℕ → Type 0
Written w = (v : Raw) × (word_value w ≡ Some v)

-- a word of keylike characters
key_first : (x : ℕ × ℕ) (t : Text) (c : ℕ) (cs : List ℕ) → run is_keylike (x ∷ t) ≡ c ∷ cs
    → (x.1 ≡ c) × (is_keylike c ≡ true)
key_first x t c cs e = go (is_keylike x.1) refl e
  where
    go : (b : Bool) → is_keylike x.1 ≡ b → cond b (x.1 ∷ run is_keylike t) [] ≡ c ∷ cs → (x.1 ≡ c) × (is_keylike c ≡ true)
    go false k e = cc
    go true k e = let same : x.1 ≡ c = cc in (same, ap is_keylike (sym same) ∙ k)

first_key : (t : Text) (c : ℕ) (cs : List ℕ) → run is_keylike t ≡ c ∷ cs → is_keylike c ≡ true
first_key [] c cs e = cc
first_key (x ∷ t) c cs e = (key_first x t c cs e).1

-- a prefix stands in the first word alone
prefix_on : (c : ℕ) (cs ys : List ℕ) → is_prefixed (c ∷ cs) ≡ false
    → (ys ≡ []) ⊎ ((d : ℕ) × (ds : List ℕ) × (ys ≡ d ∷ ds) × ((d == 43 || d == 46) ≡ true))
    → is_prefixed (c ∷ cs ++ ys) ≡ false
prefix_on c cs ys e (inl none) = ap (λ (zs : List ℕ). is_prefixed (c ∷ cs ++ zs)) none
    ∙ ap (λ (zs : List ℕ). is_prefixed (c ∷ zs)) (append-nil cs) ∙ e
prefix_on c [] ys e (inr h) = ap (λ (zs : List ℕ). is_prefixed (c ∷ zs)) h.2 ∙ second_sign c h.0 h.3
prefix_on c (d ∷ ds) ys e (inr h) = e

number_written : {end : ℕ} {x : ℕ × ℕ} {text : Text} → IsWhole end (x ∷ text) → Written (number_front x text)
number_written {x = x} {text = t} (boolean e) =
    go (or_cases (bytes_eq (run is_keylike (x ∷ t)) (codes "true")) (bytes_eq (run is_keylike (x ∷ t)) (codes "false")) e)
  where
    alone : (c : ℕ) (cs : List ℕ) → run is_keylike (x ∷ t) ≡ c ∷ cs → (c == 43) ≡ false
        → ((r : Text) → word_taken (c ∷ cs) r ≡ []) → Written (c ∷ cs) → Written (number_front x t)
    alone c cs e n none h =
        subst Written (sym (ap (λ (b : Bool). cond b (43 ∷ word_front t) (word_front (x ∷ t)))
        (ap (λ (z : ℕ). z == 43) (key_first x t c cs e).0 ∙ n)
        ∙ ap (λ (w : List ℕ). w ++ word_taken w (after_run is_keylike (x ∷ t))) e
        ∙ ap (λ (v : List ℕ). c ∷ cs ++ v) (none (after_run is_keylike (x ∷ t))) ∙ append-nil (c ∷ cs))) h

    go : (bytes_eq (run is_keylike (x ∷ t)) (codes "true") ≡ true)
        ⊎ (bytes_eq (run is_keylike (x ∷ t)) (codes "false") ≡ true) → Written (number_front x t)
    go (inl h) =
        alone 116 (codes "rue") ((bytes_eq-Decides (run is_keylike (x ∷ t)) (codes "true")).0 h) refl (λ r. refl)
        (Raw.boolean true, refl)
    go (inr h) =
        alone 102 (codes "alse") ((bytes_eq-Decides (run is_keylike (x ∷ t)) (codes "false")).0 h) refl (λ r. refl)
        (Raw.boolean false, refl)
number_written {end = end} {x = x} {text = t} (number b none) = go (run is_keylike (x ∷ t)) refl b
  where
    r : Text
    r = after_run is_keylike (x ∷ t)

    go : (w : List ℕ) → run is_keylike (x ∷ t) ≡ w → begins_number w ≡ true → Written (number_front x t)
    go [] e b = cc
    go (c ∷ cs) e b =
        let key = key_first x t c cs e in
        let no_plus : (x.1 == 43) ≡ false = ap (λ (z : ℕ). z == 43) key.0 ∙ key_not c 43 key.1 refl in
        let fault : word_fault end x.0 (c ∷ cs) r ≡ None =
        sym (ap (λ (p : Bool). cond p (plus_fault end (run is_keylike t) t)
        (cond (begins_number (run is_keylike (x ∷ t))) (word_fault end x.0 (run is_keylike (x ∷ t)) r) None)) no_plus
        ∙ ap (λ (v : List ℕ). cond (begins_number v) (word_fault end x.0 v r) None) e
        ∙ ap (λ (p : Bool). cond p (word_fault end x.0 (c ∷ cs) r) None) b) ∙ none in
        let (v, v_is) = number_has_value end x.0 c cs r key.1 fault in
        subst Written (sym (ap (λ (b : Bool). cond b (43 ∷ word_front t) (word_front (x ∷ t))) no_plus
        ∙ ap (λ (w : List ℕ). w ++ word_taken w r) e))
        (v, number_word c cs (cs ++ word_taken (c ∷ cs) r) b ∙ v_is)
number_written {end = end} {text = t} (signed {p = p} none) = go (run is_keylike t) refl none
  where
    r : Text
    r = after_run is_keylike t

    go : (w : List ℕ) → run is_keylike t ≡ w
        → cond (takes_no_plus w) (Some (offset_in end t)) (word_fault end (offset_in end t) w r) ≡ None
        → Written (43 ∷ word_front t)
    go [] e none = cc
    go (c ∷ cs) e none = by (takes_no_plus (c ∷ cs)) refl none
      where
        by : (b : Bool) → takes_no_plus (c ∷ cs) ≡ b
            → cond b (Some (offset_in end t)) (word_fault end (offset_in end t) (c ∷ cs) r) ≡ None
            → Written (43 ∷ word_front t)
        by true h none = cc
        by false h none =
            let both = or_parts (c == 45) (is_prefixed (c ∷ cs)) h in
            let letter = first_key t c cs e in
            let (v, v_is) = number_has_value end (offset_in end t) c cs r letter none in
            let prefix = prefix_on c cs (word_taken (c ∷ cs) r) both.1 (taken_begins (c ∷ cs) r) in
            subst Written (ap (λ (w : List ℕ). 43 ∷ w ++ word_taken w r) (sym e))
            (v, plus_value c (cs ++ word_taken (c ∷ cs) r) letter both.0 prefix ∙ v_is)

-- what is left of a word goes on with none
spliced_run : {text left : Text} (q : InWord text left) (rest : Text) → run is_wordlike rest ≡ []
    → run is_wordlike text ≡ run is_wordlike (spliced q rest).0 ++ run is_wordlike left
spliced_run {left = left} whole rest e = sym (ap (λ (w : List ℕ). w ++ run is_wordlike left) e)
spliced_run {left = left} (behind {x = x} {text = text} w q) rest e =
    ap (λ (b : Bool). cond b (x.1 ∷ run is_wordlike text) []) w
    ∙ ap (λ (v : List ℕ). x.1 ∷ v) (spliced_run q rest e)
    ∙ sym (ap (λ (b : Bool). cond b (x.1 ∷ run is_wordlike (spliced q rest).0) [] ++ run is_wordlike left) w)

pub written : {end p : ℕ} {x y : ℕ × ℕ} {text s : Text} → IsWhole end (x ∷ text) → is_wordlike x.1 ≡ true
    → number_rest (x ∷ text) ≡ y ∷ s → (other : Text) → Parts (y ∷ s) ((p, 123) ∷ []) text other
    → (v : Raw) × (word_value (run is_wordlike (x ∷ other)) ≡ Some v)
written {p = p} {x = x} {y = y} {text = text} {s = s} is w ends other parts =
    let through = subst (Through (x ∷ text)) ends (number_through is) in
    let q = inner (within_through whole through) (through_shorter through) in
    let r = spliced q ((p, 123) ∷ []) in
    let same : r.0 ≡ other = parts_same r.1 parts in
    let cons : (t : Text) → run is_wordlike (x ∷ t) ≡ x.1 ∷ run is_wordlike t =
    λ t. ap (λ (b : Bool). cond b (x.1 ∷ run is_wordlike t) []) w in
    let one : run is_wordlike (x ∷ text) ≡ run is_wordlike (x ∷ r.0) ++ run is_wordlike (y ∷ s) =
    cons text ∙ ap (λ (v : List ℕ). x.1 ∷ v) (spliced_run q ((p, 123) ∷ []) refl)
    ∙ sym (ap (λ (v : List ℕ). v ++ run is_wordlike (y ∷ s)) (cons r.0)) in
    let two = number_splits x text w ∙ ap (λ (t : Text). number_front x text ++ run is_wordlike t) ends in
    let front : number_front x text ≡ run is_wordlike (x ∷ other) =
    append_cancel_right (number_front x text) (run is_wordlike (x ∷ r.0)) (run is_wordlike (y ∷ s)) (sym two ∙ one)
    ∙ ap (λ (t : Text). run is_wordlike (x ∷ t)) same in
    subst Written front (number_written is)
