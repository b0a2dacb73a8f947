-- Why a word is no value.
use Rattle.std.proofs.Common.{◌⊎◌, inl, inr, ◌≡◌, ℕ, ◌==◌, ◌&&◌, ◌||◌, Bool, true, false, not, cond, List, [], ◌∷◌, ◌++◌}
use Rattle.std.proofs.Common.{refl, ap, sym, ◌∙◌, subst, length, Option, Some, None, codes}
use Rattle.std.specs.Str.{bytes_eq}
use Rattle.std.specs.List.{list_any}
use Rattle.std.specs.Char.{is_ascii_digit}
use Rattle.std.proofs.lemmas.List.{append-nil}
use Rattle.std.proofs.lemmas.Bool.{both_ways, ne_eqb, or_cases}
use Rattle.std.proofs.lemmas.Slice.Eq.{bytes_eq-Decides}
use Rattle.basic_toml_tokens.specs.Text.{Text, offset_in, text_at, run, after_run, is_keylike}
use Rattle.basic_toml_tokens.specs.TokenAt.{Lexeme, IsToken}
use Rattle.basic_toml_tokens.specs.Reading.{Reading, text_of}
use Rattle.basic_toml_tokens.specs.Descriptions.{description_of}
use Rattle.basic_toml_tokens.proofs.StepIsTheFold.{offset_is}
use Rattle.basic_toml_numbers.specs.Numbers.{integer_of, float_of, is_special, after_part, is_exponent_letter}
use Rattle.basic_toml_grammar.specs.Reader.{char_at}
use Rattle.basic_toml_grammar.specs.NumberTokens.{plus_rest, mark_rest, period_rest, word_rest, number_rest, IsWhole, boolean, number}
use Rattle.basic_toml_grammar.specs.Sections.{Raw}
use Rattle.basic_toml_grammar.specs.Faults.{wanted, Fault}
use Rattle.basic_toml_grammar.specs.GrammarFaults.{fault_at, is_unquoted}
use Rattle.basic_toml_grammar.specs.Grammar.{is_wordlike, number_value, word_value}
use Rattle.basic_toml_grammar.specs.NumberFaults.{word_fault, plus_fault, begins_number, number_fault}
use Rattle.basic_toml_grammar.specs.NumberFaults.{without_minus, is_prefixed}
use Rattle.basic_toml_grammar.specs.NumberTokens.{behind_word, behind_number}
use Rattle.basic_toml_grammar.specs.Viable.{FirstRefusal}
use Rattle.basic_toml_explain.specs.Cursor.{IsStopped, IsAfterWord}
use Rattle.basic_toml_explain.specs.Number.{IsJointNext, IsNumberStop, refused, goes_on, no_memory, IsWordStop}
use Rattle.basic_toml_explain.specs.NumberFault.{IsStoppedBehind}
use Rattle.basic_toml_explain.proofs.TokensBehind.{number_over}
use Rattle.basic_toml_explain.proofs.RefusedBehind.{token_some}
use Rattle.basic_toml_explain.proofs.TakenTokenStands.{word_accepts}
use Rattle.basic_toml_explain.proofs.FaultlessNumberHasValue.{run_splits, word_taken, word_splits, number_has_value}

-- a word begins with a keylike character
pub run_first : (t : Text) (c : ℕ) (cs : List ℕ) → run is_keylike t ≡ c ∷ cs → is_keylike c ≡ true
run_first [] c cs e = cc
run_first (x ∷ t) c cs e = go (is_keylike x.1) refl e
  where
    go : (b : Bool) → is_keylike x.1 ≡ b → cond b (x.1 ∷ run is_keylike t) [] ≡ c ∷ cs → is_keylike c ≡ true
    go true h e = let same : x.1 ≡ c = cc in ap is_keylike (sym same) ∙ h
    go false h e = cc

run_after : (t : Text) → run is_keylike (after_run is_keylike t) ≡ []
run_after [] = refl
run_after (x ∷ t) = go (is_keylike x.1) refl (run_after t)
  where
    go : (b : Bool) → is_keylike x.1 ≡ b → run is_keylike (after_run is_keylike t) ≡ []
        → run is_keylike (cond b (after_run is_keylike t) (x ∷ t)) ≡ []
    go true h e = e
    go false h e = ap (λ (b : Bool). cond b (x.1 ∷ run is_keylike t) []) h

-- behind a word no keylike character stands, nor behind a number
pub after_apart : {start : ℕ} {w : List ℕ} {r : Reading} → IsAfterWord start w r → run is_keylike (text_of r) ≡ []
after_apart {start = start} {r = r} b = ap (run is_keylike) b.rest ∙ run_after (text_at r.text start)

mark_apart : (left : List ℕ) (t : Text) → run is_keylike t ≡ [] → run is_keylike (mark_rest left t) ≡ []
mark_apart [] t e = e
mark_apart (c ∷ []) t e = go (char_at 43 t)
  where
    go : (o : Option (ℕ × Text)) → run is_keylike (plus_rest o t) ≡ []
    go None = e
    go (Some s) = run_after s.1
mark_apart (c ∷ d ∷ ds) t e = e

pub rest_apart : (w : List ℕ) (t : Text) → run is_keylike t ≡ [] → run is_keylike (word_rest w t) ≡ []
rest_apart w t e = go (is_prefixed w) (list_any is_exponent_letter w)
  where
    period : (o : Option (ℕ × Text)) → run is_keylike (period_rest o t) ≡ []
    period None = e
    period (Some s) = mark_apart (after_part (run is_keylike s.1)) (after_run is_keylike s.1) (run_after s.1)

    go : (p m : Bool) → run is_keylike
        (cond p t (cond m (mark_rest (after_part (without_minus w)) t) (period_rest (char_at 46 t) t))) ≡ []
    go true m = e
    go false true = mark_apart (after_part (without_minus w)) t e
    go false false = period (char_at 46 t)

-- all of a word and what goes on with it
pub word_whole : (start : ℕ) (w : List ℕ) (r : Reading) → IsAfterWord start w r
    → run is_wordlike (text_at r.text start) ≡ w ++ run is_wordlike (text_of r)
word_whole start w r b = run_splits (text_at r.text start) ∙
    ap (λ (v : List ℕ). v ++ run is_wordlike (after_run is_keylike (text_at r.text start))) b.is ∙
    ap (λ (t : Text). w ++ run is_wordlike t) (sym b.rest)

-- a number without a fault goes on, where it has no value
pub goes_further : (start end : ℕ) (w : List ℕ) (r : Reading) (rest : Text) → IsAfterWord start w r
    → number_value (integer_of (run is_wordlike (text_at r.text start)))
    (float_of (run is_wordlike (text_at r.text start))) ≡ None
    → None ≡ word_fault end start w (text_of r) → rest ≡ word_rest w (text_of r) → run is_wordlike rest ≡ [] → ⊥
goes_further start end w r rest b none fault rest_is done =
    go w b.some.2 b.is (word_whole start w r b) fault (ap (run is_wordlike) (sym rest_is) ∙ done)
  where
    go : (w : List ℕ) → w ≡ b.some.0 ∷ b.some.1 → run is_keylike (text_at r.text start) ≡ w
        → run is_wordlike (text_at r.text start) ≡ w ++ run is_wordlike (text_of r)
        → None ≡ word_fault end start w (text_of r) → run is_wordlike (word_rest w (text_of r)) ≡ [] → ⊥
    go [] e is whole fault done = cc
    go (c ∷ cs) e is whole fault done =
        let (v, v_is) = number_has_value end start c cs (text_of r) (run_first (text_at r.text start) c cs is)
        (sym fault) in
        let over : run is_wordlike (text_of r) ≡ word_taken (c ∷ cs) (text_of r) = word_splits (c ∷ cs) (text_of r)
        ∙ ap (λ (t : List ℕ). word_taken (c ∷ cs) (text_of r) ++ t) done ∙ append-nil (word_taken (c ∷ cs) (text_of r)) in
        let all = whole ∙ ap (λ (t : List ℕ). c ∷ cs ++ t) over in
        let z : None ≡ Some v = sym none ∙ ap (λ (t : List ℕ). number_value (integer_of t) (float_of t)) all ∙ v_is in
        cc

pub offset_of_token : {source : List ℕ} {rest : Text} {l : Lexeme} (end : ℕ) (r : Reading) (t : Text) → text_of r ≡ t
    → IsToken source t l rest → offset_in end t ≡ r.offset
offset_of_token end r [] h t = absurd (token_some t refl)
offset_of_token end r (x ∷ u) h t = offset_is r.text r.offset x u h

-- what stands where a number or a word is over
pub joint_stop : (r : Reading) (end : ℕ) (expected : List ℕ) (at : Option ℕ) (behind : List Text) (stop : Text)
    (fault : Fault) → at ≡ None → text_of r ≡ stop → IsJointNext expected r fault
    → IsNumberStop end expected at behind stop fault
joint_stop r end expected at behind stop fault none e (inl h) =
    subst (IsNumberStop end expected at behind stop) (sym h) no_memory
joint_stop r end expected at behind stop fault none e (inr h) =
    subst (λ (t : Text). IsNumberStop end expected at behind t fault) e
    (subst (IsNumberStop end expected at behind (text_of r))
    (sym (h.4 ∙ ap (fault_at (wanted expected (description_of h.0)))
    (sym (offset_of_token end r (text_of r) refl h.2.token))))
    (goes_on none h.2.token h.3))

-- at a word no token is refused
pub word_stopped : (old : Reading) (expected : List ℕ) (fault : Fault) → IsStopped (text_of old) fault
    → (run is_wordlike (text_of old) ≡ [] → ⊥) → IsWordStop (length old.text) expected (text_of old) fault
word_stopped old expected fault (inl m) some =
    subst (IsWordStop (length old.text) expected (text_of old)) (sym m) IsWordStop.no_memory
word_stopped old expected fault (inr r) some = absurd (word_accepts (text_of old) some fault r)

-- A token is refused behind a number that has no value: it is at fault.
pub number_refused : (start : ℕ) (w : List ℕ) (r : Reading) (expected : List ℕ) (fault : Fault) → IsAfterWord start w r
    → number_value (integer_of (run is_wordlike (text_at r.text start)))
    (float_of (run is_wordlike (text_at r.text start))) ≡ None
    → IsStoppedBehind (behind_word w (without_minus w) (text_of r)) fault
    → IsNumberStop (length r.text) expected (word_fault (length r.text) start w (text_of r))
    (behind_word w (without_minus w) (text_of r)) (word_rest w (text_of r)) fault
number_refused start w r expected fault b none (inl m) =
    subst (IsNumberStop (length r.text) expected (word_fault (length r.text) start w (text_of r))
    (behind_word w (without_minus w) (text_of r)) (word_rest w (text_of r))) (sym m) no_memory
number_refused start w r expected fault b none (inr f) = go (word_fault (length r.text) start w (text_of r)) refl
  where
    go : (o : Option ℕ) → word_fault (length r.text) start w (text_of r) ≡ o
        → IsNumberStop (length r.text) expected o (behind_word w (without_minus w) (text_of r))
        (word_rest w (text_of r)) fault
    go (Some p) e = refused refl f
    go None e =
        let over = number_over (length r.text) start b.some.0 b.some.1 (text_of r)
        (subst (λ (v : List ℕ). FirstRefusal (behind_word v (without_minus v) (text_of r)) fault) b.some.2 f)
        (ap (λ (v : List ℕ). word_fault (length r.text) start v (text_of r)) (sym b.some.2) ∙ e) in
        absurd (goes_further start (length r.text) w r (word_rest w (text_of r)) b none (sym e) refl
        (ap (λ (v : List ℕ). run is_wordlike (word_rest v (text_of r))) b.some.2 ∙ over))

-- `true` or `false` goes on, where there is no value
pub boolean_further : (start : ℕ) (w : List ℕ) (r : Reading) → IsAfterWord start w r
    → word_value (run is_wordlike (text_at r.text start)) ≡ None
    → (bytes_eq w (codes "true") || bytes_eq w (codes "false")) ≡ true → run is_wordlike (text_of r) ≡ [] → ⊥
boolean_further start w r b none e done =
    let whole : run is_wordlike (text_at r.text start) ≡ w = word_whole start w r b ∙
    ap (λ (t : List ℕ). w ++ t) done ∙ append-nil w in
    go (bytes_eq w (codes "true")) (bytes_eq w (codes "false")) e (ap word_value (sym whole) ∙ none)
  where
    go : (t f : Bool) → (t || f) ≡ true
        → cond t (Some (Raw.boolean true))
        (cond f (Some (Raw.boolean false)) (number_value (integer_of w) (float_of w))) ≡ None → ⊥
    go true f e h = cc
    go false true e h = cc
    go false false e h = cc

pub unquoted_is : (w : List ℕ) (c : ℕ) (cs : List ℕ) → w ≡ c ∷ cs
    → (bytes_eq w (codes "true") || bytes_eq w (codes "false")) ≡ false → begins_number w ≡ false → is_unquoted w ≡ true
unquoted_is w c cs e no_boolean no_number = ap is_unquoted e
    ∙ go (is_ascii_digit c || c == 45) _ (is_special (c ∷ cs))
    (ap (λ (w : List ℕ). bytes_eq w (codes "true") || bytes_eq w (codes "false")) (sym e) ∙ no_boolean)
    (ap begins_number (sym e) ∙ no_number)
  where
    go : (d b s : Bool) → b ≡ false → (d || s) ≡ false → (not d && not (b || s)) ≡ true
    go true b s h k = cc
    go false true s h k = cc
    go false false true h k = cc
    go false false false h k = refl

-- the first word of a text, where no plus stands
module _ (start end : ℕ) (w : List ℕ) (r : Reading) (b : IsAfterWord start w r) where
  record AtWord : Type 0 where
    first : ℕ × ℕ
    next : Text
    there : text_at r.text start ≡ first ∷ next
    word_is : run is_keylike (first ∷ next) ≡ w
    no_plus : (first.1 == 43) ≡ false
    rest_is : after_run is_keylike (first ∷ next) ≡ text_of r

  at_word : AtWord
  at_word = go (text_at r.text start) refl
    where
      letter : (x : ℕ × ℕ) (t : Text) → run is_keylike (x ∷ t) ≡ b.some.0 ∷ b.some.1 → is_keylike x.1 ≡ true
      letter x t e = by (is_keylike x.1) e
        where
          by : (k : Bool) → cond k (x.1 ∷ run is_keylike t) [] ≡ b.some.0 ∷ b.some.1 → k ≡ true
          by true e = refl
          by false e = cc

      go : (t : Text) → text_at r.text start ≡ t → AtWord
      go [] h = let z : [] ≡ b.some.0 ∷ b.some.1 = sym (ap (run is_keylike) h) ∙ b.is ∙ b.some.2 in cc
      go (x ∷ t) h =
          let word_is : run is_keylike (x ∷ t) ≡ w = ap (run is_keylike) (sym h) ∙ b.is in
          let key : is_keylike x.1 ≡ true = letter x t (word_is ∙ b.some.2) in
          record {
            first = x;
            next = t;
            there = h;
            word_is = word_is;
            no_plus = ne_eqb x.1 43 (λ k. both_ways (is_keylike 43) refl (rw k at key));
            rest_is = ap (after_run is_keylike) (sym h) ∙ sym b.rest;
          }

  number_fault_by : (p : Bool) → begins_number w ≡ p
      → number_fault end (text_at r.text start) ≡ cond p (word_fault end start w (text_of r)) None
  number_fault_by p e =
      let a = at_word in
      let x = a.first in
      let t = a.next in
      ap (number_fault end) a.there
      ∙ ap (λ (b : Bool). cond b (plus_fault end (run is_keylike t) t)
      (cond (begins_number (run is_keylike (x ∷ t)))
      (word_fault end x.0 (run is_keylike (x ∷ t)) (after_run is_keylike (x ∷ t))) None)) a.no_plus
      ∙ ap (λ (v : List ℕ). cond (begins_number v) (word_fault end x.0 v (after_run is_keylike (x ∷ t))) None) a.word_is
      ∙ ap (λ (b : Bool). cond b (word_fault end x.0 w (after_run is_keylike (x ∷ t))) None) e
      ∙ ap (λ (n : ℕ). cond p (word_fault end n w (after_run is_keylike (x ∷ t))) None)
      (offset_is r.text start x t a.there)
      ∙ ap (λ (u : Text). cond p (word_fault end start w u) None) a.rest_is

  -- the fault of the number that it begins, and the texts behind its tokens
  pub number_fault_is : begins_number w ≡ true
      → number_fault end (text_at r.text start) ≡ word_fault end start w (text_of r)
  number_fault_is e = number_fault_by true e

  pub no_number_fault : begins_number w ≡ false → number_fault end (text_at r.text start) ≡ None
  no_number_fault e = number_fault_by false e

  pub behind_number_is : behind_number (text_at r.text start) ≡ behind_word w (without_minus w) (text_of r)
  behind_number_is =
      let a = at_word in
      let x = a.first in
      let t = a.next in
      ap behind_number a.there
      ∙ ap (λ (b : Bool). cond b (t ∷ behind_word (run is_keylike t) (run is_keylike t) (after_run is_keylike t))
      (behind_word (run is_keylike (x ∷ t)) (without_minus (run is_keylike (x ∷ t))) (after_run is_keylike (x ∷ t))))
      a.no_plus
      ∙ ap (λ (v : List ℕ). behind_word v (without_minus v) (after_run is_keylike (x ∷ t))) a.word_is
      ∙ ap (behind_word w (without_minus w)) a.rest_is

  pub number_rest_is : number_rest (text_at r.text start) ≡ word_rest w (text_of r)
  number_rest_is =
      let a = at_word in
      let x = a.first in
      let t = a.next in
      ap number_rest a.there
      ∙ ap (λ (b : Bool). cond b (word_rest (run is_keylike t) (after_run is_keylike t))
      (word_rest (run is_keylike (x ∷ t)) (after_run is_keylike (x ∷ t)))) a.no_plus
      ∙ ap (λ (v : List ℕ). word_rest v (after_run is_keylike (x ∷ t))) a.word_is
      ∙ ap (word_rest w) a.rest_is

  -- a value that the word begins
  pub whole_boolean : (bytes_eq w (codes "true") || bytes_eq w (codes "false")) ≡ true
      → IsWhole end (text_at r.text start)
  whole_boolean e =
      let a = at_word in
      subst (IsWhole end) (sym a.there) (boolean {x = a.first} {text = a.next}
      (ap (λ (v : List ℕ). bytes_eq v (codes "true") || bytes_eq v (codes "false")) a.word_is ∙ e))

  pub whole_number : begins_number w ≡ true → number_fault end (text_at r.text start) ≡ None
      → IsWhole end (text_at r.text start)
  whole_number e none =
      let a = at_word in
      subst (IsWhole end) (sym a.there) (number {x = a.first} {text = a.next} (ap begins_number a.word_is ∙ e)
      (ap (number_fault end) (sym a.there) ∙ none))

-- `true` and `false` begin no number, and nothing goes on with them
pub boolean_rest : (w : List ℕ) (t : Text) → (bytes_eq w (codes "true") || bytes_eq w (codes "false")) ≡ true
    → word_rest w t ≡ t
boolean_rest w t e = go (or_cases (bytes_eq w (codes "true")) (bytes_eq w (codes "false")) e)
  where
    go : (bytes_eq w (codes "true") ≡ true) ⊎ (bytes_eq w (codes "false") ≡ true) → word_rest w t ≡ t
    go (inl h) = ap (λ (w : List ℕ). word_rest w t) ((bytes_eq-Decides w (codes "true")).0 h)
    go (inr h) = ap (λ (w : List ℕ). word_rest w t) ((bytes_eq-Decides w (codes "false")).0 h)

pub boolean_no_number : (w : List ℕ) → (bytes_eq w (codes "true") || bytes_eq w (codes "false")) ≡ true
    → begins_number w ≡ false
boolean_no_number w e = go (or_cases (bytes_eq w (codes "true")) (bytes_eq w (codes "false")) e)
  where
    go : (bytes_eq w (codes "true") ≡ true) ⊎ (bytes_eq w (codes "false") ≡ true) → begins_number w ≡ false
    go (inl h) = ap begins_number ((bytes_eq-Decides w (codes "true")).0 h)
    go (inr h) = ap begins_number ((bytes_eq-Decides w (codes "false")).0 h)

pub offset_of_word : (start end : ℕ) (w : List ℕ) (r : Reading) → IsAfterWord start w r
    → offset_in end (text_at r.text start) ≡ start
offset_of_word start end w r b =
    offset_of_token end (record { text = r.text; offset = start }) (text_at r.text start) refl b.token.1
