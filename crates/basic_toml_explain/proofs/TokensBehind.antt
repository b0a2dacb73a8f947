-- Which texts stand behind the tokens of a number, by its first word.
use Rattle.std.proofs.Common.{◌≡◌, ℕ, ◌+◌, ◌++◌, ◌&&◌, ◌==◌, ◌||◌, Bool, true, false, cond, List, [], ◌∷◌, refl, ap, sym, ◌∙◌, subst}
use Rattle.std.proofs.Common.{Option, Some, None, ◌-◌, length, is_some, Result, Ok}
use Rattle.std.specs.List.{list_any}
use Rattle.std.specs.Option.{option_or}
use Rattle.std.proofs.lemmas.Bool.{eqb-true}
use Rattle.basic_toml_tokens.specs.Text.{Text, offset_in, run, after_run, is_keylike}
use Rattle.basic_toml_tokens.specs.Reading.{Reading, text_of}
use Rattle.basic_toml_numbers.specs.Numbers.{is_digits, is_whole, part_of, after_part, is_exponent_letter}
use Rattle.basic_toml_grammar.specs.NumberTokens.{mark_rest, period_rest, word_rest}
use Rattle.basic_toml_grammar.specs.Faults.{Fault}
use Rattle.basic_toml_grammar.specs.Grammar.{is_wordlike}
use Rattle.basic_toml_grammar.specs.Reader.{char_at}
use Rattle.basic_toml_grammar.specs.Viable.{RefusesToken, FirstRefusal}
use Rattle.basic_toml_grammar.proofs.Grammar.ReaderIsSound.{sign_read}
use Rattle.basic_toml_grammar.specs.NumberFaults.{is_prefixed, without_minus, takes_no_plus, signed_part_fault}
use Rattle.basic_toml_grammar.specs.NumberFaults.{left_fault, part_fault, fraction_parts_fault, outside, plus_word_fault}
use Rattle.basic_toml_grammar.specs.NumberFaults.{plus_power_fault, exponent_fault, float_fault, after_period_fault}
use Rattle.basic_toml_grammar.specs.NumberFaults.{unmarked_fault, word_fault}
use Rattle.basic_toml_grammar.specs.NumberTokens.{is_letter_alone, behind_sign, behind_letter, behind_period, behind_word}
use Rattle.basic_toml_grammar.proofs.Viable.NumberParts.{part_none, signed_none, whole_digits, digits_are_a_part, whole_part}
use Rattle.basic_toml_explain.specs.NumberFault.{behind_left, behind_fraction}
use Rattle.basic_toml_explain.specs.NumberFault.{NoneRefused, Finds}
use Rattle.basic_toml_explain.proofs.RefusedBehind.{none_refused}
use Rattle.basic_toml_explain.proofs.TakenTokenStands.{refused_over}
use Rattle.basic_toml_explain.proofs.FaultlessNumberHasValue.{first_none, second_none, nothing_left, part_fine}
use Rattle.basic_toml_explain.proofs.FaultlessNumberHasValue.{signed_fine, run_splits}

-- parts of a fraction that are fine have no fault
pub parts_none : (start at : ℕ) (word fraction : List ℕ) → is_whole (without_minus word) ≡ true
    → is_digits 10 (part_of fraction) ≡ true → fraction_parts_fault start word at fraction ≡ None
parts_none start at word fraction a b =
    let part = digits_are_a_part true (without_minus word) (whole_digits (without_minus word) a) in
    ap (λ o. option_or o (option_or (left_fault start (after_part (without_minus word))) (part_fault true at at fraction)))
    (signed_none false start word (ap is_whole part.0 ∙ a))
    ∙ ap (λ l. option_or (left_fault start l) (part_fault true at at fraction)) part.1
    ∙ part_none true at at fraction b

-- and the other way round
pub parts_fine : (start at : ℕ) (word fraction : List ℕ) → fraction_parts_fault start word at fraction ≡ None
    → (is_whole (without_minus word) ≡ true) × (is_digits 10 (part_of fraction) ≡ true)
parts_fine start at word fraction e =
    let others = second_none (signed_part_fault false start word) _ e in
    let left = nothing_left start (after_part (without_minus word))
    (first_none (left_fault start (after_part (without_minus word))) _ others) in
    let fine = signed_fine false start word (first_none (signed_part_fault false start word) _ e) in (
      ap is_whole (sym (whole_part (without_minus word) left)) ∙ fine,
      part_fine true at at fraction (second_none (left_fault start (after_part (without_minus word))) _ others),
    )

-- by the first word
module _ (w part : List ℕ) (text : Text) where
  pub behind_prefixed : is_prefixed w ≡ true → behind_word w part text ≡ []
  behind_prefixed e = go w e
    where
      go : (w : List ℕ) → is_prefixed w ≡ true → behind_word w part text ≡ []
      go [] e = refl
      go (c ∷ cs) e = ap (λ (b : Bool). cond b [] (cond (list_any is_exponent_letter (c ∷ cs))
          (behind_letter false part text) (text ∷ behind_period part (char_at 46 text)))) e

  pub behind_marked : is_prefixed w ≡ false → list_any is_exponent_letter w ≡ true
      → behind_word w part text ≡ behind_letter false part text
  behind_marked e f = go w e f
    where
      go : (w : List ℕ) → is_prefixed w ≡ false → list_any is_exponent_letter w ≡ true
          → behind_word w part text ≡ behind_letter false part text
      go [] e f = cc
      go (c ∷ cs) e f =
          ap (λ (b : Bool). cond b [] (cond (list_any is_exponent_letter (c ∷ cs)) (behind_letter false part text)
          (text ∷ behind_period part (char_at 46 text)))) e
          ∙ ap (λ (b : Bool). cond b (behind_letter false part text) (text ∷ behind_period part (char_at 46 text))) f

  pub behind_plain : (w ≡ [] → ⊥) → is_prefixed w ≡ false → list_any is_exponent_letter w ≡ false
      → behind_word w part text ≡ text ∷ behind_period part (char_at 46 text)
  behind_plain some e f = go w some e f
    where
      go : (w : List ℕ) → (w ≡ [] → ⊥) → is_prefixed w ≡ false → list_any is_exponent_letter w ≡ false
          → behind_word w part text ≡ text ∷ behind_period part (char_at 46 text)
      go [] some e f = absurd (some refl)
      go (c ∷ cs) some e f =
          ap (λ (b : Bool). cond b [] (cond (list_any is_exponent_letter (c ∷ cs)) (behind_letter false part text)
          (text ∷ behind_period part (char_at 46 text)))) e
          ∙ ap (λ (b : Bool). cond b (behind_letter false part text) (text ∷ behind_period part (char_at 46 text))) f

-- a part that is at fault hides what stands behind
pub letter_hidden : (word : List ℕ) (text : Text) (start p : ℕ) → signed_part_fault false start word ≡ Some p
    → behind_letter false (without_minus word) text ≡ []
letter_hidden word text start p e = go (is_whole (part_of (without_minus word))) refl
  where
    go : (b : Bool) → is_whole (part_of (without_minus word)) ≡ b
        → cond (b && is_letter_alone (after_part (without_minus word))) (text ∷ behind_sign (char_at 43 text)) [] ≡ []
    go false h = refl
    go true h = let no : None ≡ Some p = sym (signed_none false start word h) ∙ e in cc

pub letter_shown : (word : List ℕ) (text : Text) (start : ℕ) → signed_part_fault false start word ≡ None
    → behind_letter false (without_minus word) text ≡ behind_left (after_part (without_minus word)) text
letter_shown word text start e =
    ap (λ (b : Bool). cond (b && is_letter_alone (after_part (without_minus word)))
    (text ∷ behind_sign (char_at 43 text)) []) (signed_fine false start word e)

-- no exponent counts in a word that no plus may stand before, and no fraction
pub minus_no_letter : (w : List ℕ) (text : Text) → takes_no_plus w ≡ true → is_prefixed w ≡ false
    → behind_letter false w text ≡ []
minus_no_letter [] text e f = refl
minus_no_letter (c ∷ cs) text e f = go (c == 45) refl e
  where
    go : (b : Bool) → (c == 45) ≡ b → (b || is_prefixed (c ∷ cs)) ≡ true → behind_letter false (c ∷ cs) text ≡ []
    go true h e = subst (λ (n : ℕ). behind_letter false (n ∷ cs) text ≡ []) (sym (eqb-true c 45 h)) refl
    go false h e = let no : false ≡ true = sym f ∙ e in cc

pub minus_not_whole : (w : List ℕ) → takes_no_plus w ≡ true → is_prefixed w ≡ false → is_whole w ≡ false
minus_not_whole [] e f = refl
minus_not_whole (c ∷ cs) e f = go (c == 45) refl e
  where
    go : (b : Bool) → (c == 45) ≡ b → (b || is_prefixed (c ∷ cs)) ≡ true → is_whole (c ∷ cs) ≡ false
    go true h e = subst (λ (n : ℕ). is_whole (n ∷ cs) ≡ false) (sym (eqb-true c 45 h)) refl
    go false h e = let no : false ≡ true = sym f ∙ e in cc

-- Where a token is refused behind one of a number, the number is at fault, or it is over there.
no_sign : {fault : Fault} {text : Text} (c : ℕ) → is_wordlike c ≡ true → RefusesToken text fault → char_at c text ≡ None
no_sign {text = text} c w r = go (char_at c text) refl
  where
    go : (o : Option (ℕ × Text)) → char_at c text ≡ o → o ≡ None
    go None e = refl
    go (Some s) e =
        let no : c ∷ run is_wordlike s.1 ≡ [] =
        sym (ap (λ (b : Bool). cond b (c ∷ run is_wordlike s.1) []) w) ∙ sym (ap (run is_wordlike) (sign_read c text s e))
        ∙ refused_over text r in cc

no_word : {fault : Fault} {text : Text} → RefusesToken text fault → run is_keylike text ≡ []
no_word {text = text} r = go (run is_keylike text) refl
  where
    go : (w : List ℕ) → run is_keylike text ≡ w → w ≡ []
    go [] e = refl
    go (c ∷ cs) e =
        let no : c ∷ cs ++ run is_wordlike (after_run is_keylike text) ≡ [] =
        ap (λ (w : List ℕ). w ++ run is_wordlike (after_run is_keylike text)) (sym e) ∙ sym (run_splits text)
        ∙ refused_over text r in cc

-- behind the letter of an exponent
letter_refused : {fault : Fault} (end start : ℕ) (text : Text) (o : Option (ℕ × Text)) → char_at 43 text ≡ o
    → FirstRefusal (text ∷ behind_sign o) fault → plus_power_fault end start o ≡ None → ⊥
letter_refused end start text None e f none = cc
letter_refused end start text (Some s) e (FirstRefusal.this r) none =
    let no : None ≡ Some s = sym (no_sign 43 refl r) ∙ e in cc
letter_refused end start text (Some s) e (FirstRefusal.later m (FirstRefusal.this r)) none =
    let no : Some start ≡ None = sym (ap (plus_word_fault (offset_in end s.1) start) (no_word r)) ∙ none in cc
letter_refused {fault = fault} end start text (Some s) e (FirstRefusal.later m (FirstRefusal.later n f)) none =
    none_refused fault f

left_refused : {fault : Fault} (end start at : ℕ) (left : List ℕ) (text : Text)
    → FirstRefusal (behind_left left text) fault → exponent_fault end start at left text ≡ None → ⊥
left_refused {fault = fault} end start at [] text f none = none_refused fault f
left_refused {fault = fault} end start at (c ∷ []) text f none = go (is_exponent_letter c) f none
  where
    go : (b : Bool) → FirstRefusal (cond b (text ∷ behind_sign (char_at 43 text)) []) fault
        → cond b (plus_power_fault end start (char_at 43 text)) (Some start) ≡ None → ⊥
    go false f none = none_refused fault f
    go true f none = letter_refused end start text (char_at 43 text) refl f none
left_refused {fault = fault} end start at (c ∷ d ∷ ds) text f none = none_refused fault f

fraction_refused : {fault : Fault} (end start : ℕ) (word : List ℕ) (text : Text)
    → FirstRefusal (behind_fraction (without_minus word) text) fault
    → after_period_fault end start word (run is_keylike text) text ≡ None → ⊥
fraction_refused end start word text (FirstRefusal.this r) none =
    let no : Some (offset_in end text) ≡ None =
    sym (ap (λ (v : List ℕ). after_period_fault end start word v text) (no_word r)) ∙ none in cc
fraction_refused {fault = fault} end start word text (FirstRefusal.later m f) none =
    go (run is_keylike text) (is_whole (without_minus word)) f none
  where
    go : (v : List ℕ) (b : Bool) → FirstRefusal (cond b (behind_letter true v (after_run is_keylike text)) []) fault
        → after_period_fault end start word v text ≡ None → ⊥
    go v false f none = none_refused fault f
    go [] true f none = none_refused fault f
    go (c ∷ cs) true f none =
        let parts = first_none (fraction_parts_fault start word (offset_in end text) (c ∷ cs)) _ none in
        let fine = parts_fine start (offset_in end text) word (c ∷ cs) parts in
        left_refused end start _ (after_part (c ∷ cs)) (after_run is_keylike text)
        (subst (λ (b : Bool). FirstRefusal (cond (b && is_letter_alone (after_part (c ∷ cs)))
        (after_run is_keylike text ∷ behind_sign (char_at 43 (after_run is_keylike text))) []) fault) fine.1 f)
        (second_none (fraction_parts_fault start word (offset_in end text) (c ∷ cs)) _ none)

pub number_over : {fault : Fault} (end start c : ℕ) (cs : List ℕ) (text : Text)
    → FirstRefusal (behind_word (c ∷ cs) (without_minus (c ∷ cs)) text) fault
    → word_fault end start (c ∷ cs) text ≡ None → run is_wordlike (word_rest (c ∷ cs) text) ≡ []
number_over {fault = fault} end start c cs text f none =
    go (is_prefixed w) (list_any is_exponent_letter w) f none
  where
    w : List ℕ
    w = c ∷ cs

    u : List ℕ
    u = without_minus (c ∷ cs)

    plain : (o : Option (ℕ × Text)) → char_at 46 text ≡ o → FirstRefusal (text ∷ behind_period u o) fault
        → unmarked_fault end start (c ∷ cs) o ≡ None → run is_wordlike (period_rest o text) ≡ []
    plain None e (FirstRefusal.this r) none = refused_over text r
    plain None e (FirstRefusal.later m f) none = absurd (none_refused fault f)
    plain (Some s) e (FirstRefusal.this r) none = let no : None ≡ Some s = sym (no_sign 46 refl r) ∙ e in cc
    plain (Some s) e (FirstRefusal.later m f) none = absurd (fraction_refused end start (c ∷ cs) s.1 f none)

    go : (p m : Bool) → FirstRefusal (cond p [] (cond m (behind_letter false u text)
        (text ∷ behind_period u (char_at 46 text)))) fault
        → cond p (outside (start + 2) (c ∷ cs)) (cond m (float_fault end start (c ∷ cs) text)
        (unmarked_fault end start (c ∷ cs) (char_at 46 text))) ≡ None
        → run is_wordlike (cond p text (cond m (mark_rest (after_part u) text) (period_rest (char_at 46 text) text))) ≡ []
    go true m f none = absurd (none_refused fault f)
    go false true f none =
        let signed = first_none (signed_part_fault false start (c ∷ cs)) _ none in
        absurd (left_refused end start _ (after_part u) text
        (subst (λ (ts : List Text). FirstRefusal ts fault) (letter_shown (c ∷ cs) text start signed) f)
        (second_none (signed_part_fault false start (c ∷ cs)) _ none))
    go false false f none = plain (char_at 46 text) refl f none

-- an exponent that begins in the word
pub float_stops : (end start : ℕ) (word : List ℕ) (old : Reading) (o : Option ℕ)
    → o ≡ signed_part_fault false start word → is_some o ≡ true
    → Finds (float_fault end start word (text_of old))
    (behind_letter false (without_minus word) (text_of old)) (mark_rest (after_part (without_minus word)) (text_of old))
    old old (Ok o)
float_stops end start word old None e s = cc
float_stops end start word old (Some p) e s = (
  sym (ap (λ (o : Option ℕ). option_or o
      (exponent_fault end start (start + (length word - length (after_part (without_minus word))))
      (after_part (without_minus word)) (text_of old))) (sym e)),
  subst NoneRefused (sym (letter_hidden word (text_of old) start p (sym e))) none_refused,
  λ none. let no : Some p ≡ None = none in cc,
)

pub float_goes_on : (start : ℕ) (word : List ℕ) (old new : Reading) (result : Result (Option ℕ) Fault)
    → signed_part_fault false start word ≡ None
    → Finds (exponent_fault (length old.text) start
    (start + (length word - length (after_part (without_minus word)))) (after_part (without_minus word)) (text_of old))
    (behind_left (after_part (without_minus word)) (text_of old))
    (mark_rest (after_part (without_minus word)) (text_of old)) old new result
    → Finds (float_fault (length old.text) start word (text_of old))
    (behind_letter false (without_minus word) (text_of old)) (mark_rest (after_part (without_minus word)) (text_of old))
    old new result
float_goes_on start word old new result e h =
    subst (λ (ts : List Text). Finds (float_fault (length old.text) start word (text_of old)) ts
    (mark_rest (after_part (without_minus word)) (text_of old)) old new result)
    (sym (letter_shown word (text_of old) start e))
    (subst (λ (o : Option ℕ). Finds o (behind_left (after_part (without_minus word)) (text_of old))
    (mark_rest (after_part (without_minus word)) (text_of old)) old new result)
    (sym (ap (λ (o : Option ℕ). option_or o
    (exponent_fault (length old.text) start (start + (length word - length (after_part (without_minus word))))
    (after_part (without_minus word)) (text_of old))) e)) h)
