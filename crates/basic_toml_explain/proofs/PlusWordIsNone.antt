-- A word after a plus.
use Rattle.std.proofs.Common.{inl, inr, ◌≡◌, ℕ, ◌-◌, ◌==◌, ◌&&◌, ◌||◌, Bool, true, false, cond, List, []}
use Rattle.std.proofs.Common.{◌∷◌, ◌++◌, length, refl, ap, sym, ◌∙◌, subst, arith, Option, Some, None}
use Rattle.std.proofs.lemmas.Bool.{both_ways, eqb-true, ne_eqb, or_cases, or_parts}
use Rattle.basic_toml_tokens.specs.Text.{Text, offset_in, text_at, run, after_run, is_keylike}
use Rattle.basic_toml_tokens.specs.TokenAt.{Lexeme, IsToken, plus}
use Rattle.basic_toml_tokens.specs.declared.span.Span.{Span}
use Rattle.basic_toml_tokens.specs.declared.token.Token.{Token}
use Rattle.basic_toml_tokens.specs.Reading.{Reading, text_of, between}
use Rattle.basic_toml_tokens.specs.Token.{lexeme_of}
use Rattle.basic_toml_tokens.specs.Tokenizer.{Takes}
use Rattle.basic_toml_tokens.proofs.StepIsTheFold.{offset_is}
use Rattle.basic_toml_numbers.specs.Numbers.{integer_of, float_of, decimal, in_radix, after_zero, is_unsigned_float}
use Rattle.basic_toml_numbers.specs.Numbers.{without_sign, canonical}
use Rattle.basic_toml_grammar.specs.Sections.{Raw}
use Rattle.basic_toml_grammar.specs.Entering.{and_then}
use Rattle.basic_toml_grammar.specs.Grammar.{is_wordlike, number_value, word_value, word_offset}
use Rattle.basic_toml_grammar.specs.Reader.{Valued, word_at}
use Rattle.basic_toml_grammar.specs.NumberFaults.{is_prefixed, takes_no_plus, plus_fault, word_fault, number_fault}
use Rattle.basic_toml_grammar.specs.NumberFaults.{without_minus}
use Rattle.basic_toml_grammar.specs.NumberTokens.{behind_word, behind_number, word_rest, number_rest, IsWhole, signed}
use Rattle.basic_toml_grammar.specs.Viable.{FirstRefusal}
use Rattle.basic_toml_explain.specs.Cursor.{IsStopped, Accepts, IsAfterWord}
use Rattle.basic_toml_explain.specs.NumberFault.{IsStoppedBehind, NoneRefused}
use Rattle.basic_toml_grammar.specs.Faults.{Fault}
use Rattle.basic_toml_explain.specs.Number.{IsNumberStop, invalid, refused, goes_on, no_memory}
use Rattle.basic_toml_explain.proofs.RefusedBehind.{accepts_token, none_and}
use Rattle.basic_toml_explain.proofs.TakenTokenStands.{sign_is, refused_over}
use Rattle.basic_toml_explain.proofs.FaultlessNumberHasValue.{run_splits}
use Rattle.basic_toml_explain.proofs.WordStopIsDue.{run_first, offset_of_word}

-- a word that goes on begins with no prefix that it did not begin with
pub second_sign : (c d : ℕ) → (d == 43 || d == 46) ≡ true → (c == 48 && (d == 120 || (d == 111 || d == 98))) ≡ false
second_sign c d h = elim (or_cases (d == 43) (d == 46) h) [
  | inl e ↦ (rw (eqb-true d 43 e) (never (c == 48)))
  | inr e ↦ (rw (eqb-true d 46 e) (never (c == 48)))
]
  where
    never : (b : Bool) → (b && false) ≡ false
    never true = refl
    never false = refl

prefix_same : (t : Text) (c : ℕ) (cs : List ℕ) → run is_keylike t ≡ c ∷ cs → is_prefixed (c ∷ cs) ≡ false
    → is_prefixed (run is_wordlike t) ≡ false
prefix_same [] c cs e h = cc
prefix_same (x ∷ []) c cs e h = go (is_wordlike x.1)
  where
    go : (b : Bool) → is_prefixed (cond b (x.1 ∷ []) []) ≡ false
    go true = refl
    go false = refl
prefix_same (x ∷ y ∷ t) c cs e h = first (is_keylike x.1) e
  where
    second : (k : Bool) → x.1 ∷ cond k (y.1 ∷ run is_keylike t) [] ≡ c ∷ cs
        → is_prefixed (x.1 ∷ cond (k || (y.1 == 43 || y.1 == 46)) (y.1 ∷ run is_wordlike t) []) ≡ false
    second true e = let same : is_prefixed (x.1 ∷ y.1 ∷ run is_keylike t) ≡ is_prefixed (c ∷ cs) = ap is_prefixed e in
        same ∙ h
    second false e = third (y.1 == 43 || y.1 == 46) refl
      where
        third : (b : Bool) → (y.1 == 43 || y.1 == 46) ≡ b
            → is_prefixed (x.1 ∷ cond b (y.1 ∷ run is_wordlike t) []) ≡ false
        third true h = second_sign x.1 y.1 h
        third false h = refl

    first : (b : Bool) → cond b (x.1 ∷ run is_keylike (y ∷ t)) [] ≡ c ∷ cs
        → is_prefixed (cond (b || (x.1 == 43 || x.1 == 46)) (x.1 ∷ run is_wordlike (y ∷ t)) []) ≡ false
    first true e = second (is_keylike y.1) e
    first false e = cc

-- a plus changes nothing
zero_alone : (cs : List ℕ) → is_prefixed (48 ∷ cs) ≡ false → decimal false (48 ∷ cs) ≡ after_zero cs
zero_alone [] h = refl
zero_alone (d ∷ ds) h = go (d == 120) (d == 111) (d == 98) h
  where
    go : (x o b : Bool) → (x || (o || b)) ≡ false
        → None ≡ cond x (in_radix 16 ds) (cond o (in_radix 8 ds) (cond b (in_radix 2 ds) None))
    go false false false h = refl
    go true o b h = cc
    go false true b h = cc
    go false false true h = cc

pub plus_value : (c : ℕ) (cs : List ℕ) → is_keylike c ≡ true → (c == 45) ≡ false → is_prefixed (c ∷ cs) ≡ false
    → word_value (43 ∷ c ∷ cs) ≡ number_value (integer_of (c ∷ cs)) (float_of (c ∷ cs))
plus_value c cs letter no_minus no_prefix =
    let no_plus : (c == 43) ≡ false = ne_eqb c 43 (λ e. both_ways (is_keylike 43) refl (rw e at letter)) in
    let integers : integer_of (43 ∷ c ∷ cs) ≡ integer_of (c ∷ cs) =
    sym (ap (λ (b : Bool). cond b (decimal false cs)
    (cond (c == 45) (decimal true cs) (cond (c == 48) (after_zero cs) (decimal false (c ∷ cs))))) no_plus
    ∙ ap (λ (b : Bool). cond b (decimal true cs) (cond (c == 48) (after_zero cs) (decimal false (c ∷ cs)))) no_minus ∙
    by_zero (c == 48) refl) in
    let signless : without_sign (c ∷ cs) ≡ c ∷ cs = ap (λ (b : Bool). cond (b || c == 45) cs (c ∷ cs)) no_plus ∙
    ap (λ (b : Bool). cond b cs (c ∷ cs)) no_minus in
    let floats : float_of (43 ∷ c ∷ cs) ≡ float_of (c ∷ cs) =
    ap (λ (t : List ℕ). cond (is_unsigned_float t) (Some (canonical (c ∷ cs))) None) (sym signless) in
    ap (λ i. number_value i (float_of (43 ∷ c ∷ cs))) integers ∙ ap (number_value (integer_of (c ∷ cs))) floats
  where
    by_zero : (b : Bool) → (c == 48) ≡ b → cond b (after_zero cs) (decimal false (c ∷ cs)) ≡ decimal false (c ∷ cs)
    by_zero false e = refl
    by_zero true e =
        let same = eqb-true c 48 e in
        sym (zero_alone cs (subst (λ (d : ℕ). is_prefixed (d ∷ cs) ≡ false) same no_prefix)) ∙
        ap (λ (d : ℕ). decimal false (d ∷ cs)) (sym same)

-- where the grammar has no word, it writes no value
pub word_value_none : (t : Text) → word_at t ≡ None → word_value (run is_wordlike t) ≡ None
word_value_none [] e = refl
word_value_none (x ∷ t) e = go (word_value (run is_wordlike (x ∷ t))) e
  where
    go : (o : Option Raw)
        → and_then {B = Valued} o (λ v. Some (record {
          offset = word_offset v x.0 (x ∷ t);
          value = v;
          rest = after_run is_wordlike (x ∷ t);
        })) ≡ None → o ≡ None
    go None e = refl
    go (Some v) e = cc

-- the plus at `start`, and the text after it
module _ (start : ℕ) (old : Reading) (there : text_at old.text start ≡ (start, 43) ∷ text_of old) where
  pub plus_fault_is : (end : ℕ)
      → number_fault end (text_at old.text start) ≡ plus_fault end (run is_keylike (text_of old)) (text_of old)
  plus_fault_is end = ap (number_fault end) there

  -- where no word follows
  pub plus_alone : run is_keylike (text_of old) ≡ [] → behind_number (text_at old.text start) ≡ text_of old ∷ []
  plus_alone none = ap behind_number there
      ∙ ap (λ (v : List ℕ). text_of old ∷ behind_word v v (after_run is_keylike (text_of old))) none

  pub plus_refused : (expected : List ℕ) (fault : Fault) → IsStopped (text_of old) fault
      → IsNumberStop (length old.text) expected (number_fault (length old.text) (text_at old.text start))
      (behind_number (text_at old.text start)) (number_rest (text_at old.text start)) fault
  plus_refused expected fault (inl m) = subst (IsNumberStop (length old.text) expected
      (number_fault (length old.text) (text_at old.text start)) (behind_number (text_at old.text start))
      (number_rest (text_at old.text start))) (sym m) no_memory
  plus_refused expected fault (inr r) =
      let none = keys_over (text_of old) (refused_over (text_of old) r) in
      refused (plus_fault_is (length old.text)
      ∙ ap (λ (w : List ℕ). plus_fault (length old.text) w (text_of old)) none)
      (subst (λ (ts : List Text). FirstRefusal ts fault) (sym (plus_alone none)) (FirstRefusal.this r))
    where
      keys_over : (t : Text) → run is_wordlike t ≡ [] → run is_keylike t ≡ []
      keys_over t e = go (run is_keylike t) refl
        where
          go : (w : List ℕ) → run is_keylike t ≡ w → w ≡ []
          go [] h = refl
          go (c ∷ cs) h =
              let no : c ∷ cs ++ run is_wordlike (after_run is_keylike t) ≡ [] =
              ap (λ (w : List ℕ). w ++ run is_wordlike (after_run is_keylike t)) (sym h) ∙ sym (run_splits t) ∙ e in cc

  -- what a plus and the word after it write
  plus_writes : (w : List ℕ) (mid : Reading) (text : List ℕ) → IsAfterWord old.offset w mid → mid.text ≡ old.text
      → takes_no_plus w ≡ false
      → text ≡ run is_wordlike (text_of old)
      → word_value (43 ∷ run is_wordlike (text_of old)) ≡ number_value (integer_of text) (float_of text)
  plus_writes w mid text b same takes text_is =
      let word_is : run is_keylike (text_of old) ≡ b.some.0 ∷ b.some.1 =
      ap (λ (t : List ℕ). run is_keylike (text_at t old.offset)) (sym same) ∙ b.is ∙ b.some.2 in
      let takes_is : takes_no_plus (b.some.0 ∷ b.some.1) ≡ false = ap takes_no_plus (sym b.some.2) ∙ takes in
      let (no_minus, no_prefix) = or_parts (b.some.0 == 45) (is_prefixed (b.some.0 ∷ b.some.1)) takes_is in
      let whole : run is_wordlike (text_of old) ≡ b.some.0 ∷ b.some.1
      ++ run is_wordlike (after_run is_keylike (text_of old)) =
      run_splits (text_of old) ∙
      ap (λ (v : List ℕ). v ++ run is_wordlike (after_run is_keylike (text_of old))) word_is in
      let prefix : is_prefixed (b.some.0 ∷ b.some.1 ++ run is_wordlike (after_run is_keylike (text_of old))) ≡ false =
      sym (ap is_prefixed whole) ∙ prefix_same (text_of old) b.some.0 b.some.1 word_is no_prefix in
      ap (λ (t : List ℕ). word_value (43 ∷ t)) whole ∙
      plus_value b.some.0 _ (run_first (text_of old) b.some.0 b.some.1 word_is) no_minus prefix
      ∙ ap (λ (t : List ℕ). number_value (integer_of t) (float_of t)) (sym whole ∙ sym text_is)

  -- where the plus begins no value, the word after it writes none
  pub plus_none : (w : List ℕ) (mid : Reading) (text : List ℕ) → IsAfterWord old.offset w mid
      → mid.text ≡ old.text → takes_no_plus w ≡ false → text ≡ run is_wordlike (text_of old)
      → word_at (text_at old.text start) ≡ None → number_value (integer_of text) (float_of text) ≡ None
  plus_none w mid text b same takes text_is none =
      sym (plus_writes w mid text b same takes text_is)
      ∙ ap (λ (t : Text). word_value (run is_wordlike t)) (sym there) ∙ word_value_none (text_at old.text start) none

-- behind a plus and the word after it
module _ (start : ℕ) (old : Reading) (there : text_at old.text start ≡ (start, 43) ∷ text_of old) (w : List ℕ)
    (mid : Reading) (b : IsAfterWord old.offset w mid) (same : mid.text ≡ old.text) where
  text_is : text_at mid.text old.offset ≡ text_of old
  text_is = ap (λ (t : List ℕ). text_at t old.offset) same

  pub plus_run : run is_keylike (text_of old) ≡ w
  plus_run = ap (run is_keylike) (sym text_is) ∙ b.is

  rest_is : text_of mid ≡ after_run is_keylike (text_of old)
  rest_is = b.rest ∙ ap (after_run is_keylike) text_is

  pub plus_accepts : Accepts (text_of old)
  plus_accepts = subst Accepts text_is (accepts_token b.token.1)

  pub behind_plus_is : behind_number (text_at old.text start) ≡ text_of old ∷ behind_word w w (text_of mid)
  behind_plus_is =
      ap behind_number there
      ∙ ap (λ (v : List ℕ). text_of old ∷ behind_word v v (after_run is_keylike (text_of old))) plus_run
      ∙ ap (λ (t : Text). text_of old ∷ behind_word w w t) (sym rest_is)

  -- a word that no plus may stand before
  pub plus_takes : (end : ℕ) → takes_no_plus w ≡ true
      → number_fault end (text_at old.text start) ≡ Some (offset_in end (text_of old))
  plus_takes end takes =
      plus_fault_is start old there end ∙ ap (λ (v : List ℕ). plus_fault end v (text_of old)) plus_run
      ∙ ap (λ (b : Bool). cond b (Some (offset_in end (text_of old)))
      (word_fault end (offset_in end (text_of old)) w (after_run is_keylike (text_of old)))) takes

  pub plus_free : NoneRefused (behind_word w w (text_of mid)) → NoneRefused (behind_number (text_at old.text start))
  plus_free n = subst NoneRefused (sym behind_plus_is) (none_and plus_accepts n)

  pub plus_behind : (expected : List ℕ) (fault : Fault) → takes_no_plus w ≡ true
      → IsStoppedBehind (behind_word w w (text_of mid)) fault
      → IsNumberStop (length old.text) expected (number_fault (length old.text) (text_at old.text start))
      (behind_number (text_at old.text start)) (number_rest (text_at old.text start)) fault
  plus_behind expected fault takes (inl m) = subst (IsNumberStop (length old.text) expected
      (number_fault (length old.text) (text_at old.text start)) (behind_number (text_at old.text start))
      (number_rest (text_at old.text start))) (sym m) no_memory
  plus_behind expected fault takes (inr f) =
      refused (plus_takes (length old.text) takes)
      (subst (λ (ts : List Text). FirstRefusal ts fault) (sym behind_plus_is) (FirstRefusal.later plus_accepts f))

  no_minus : takes_no_plus w ≡ false → without_minus w ≡ w
  no_minus takes = go w takes
    where
      go : (w : List ℕ) → takes_no_plus w ≡ false → without_minus w ≡ w
      go [] e = refl
      go (c ∷ cs) e = ap (λ (b : Bool). cond b cs (c ∷ cs)) (or_parts (c == 45) (is_prefixed (c ∷ cs)) e).0

  -- the number after the plus is over there, too
  plus_rest_is : number_rest (text_at old.text start) ≡ word_rest w (text_of mid)
  plus_rest_is =
      ap number_rest there
      ∙ ap (λ (v : List ℕ). word_rest v (after_run is_keylike (text_of old))) plus_run
      ∙ ap (word_rest w) (sym rest_is)

  -- a stop after the plus
  stop_on : {end : ℕ} {expected : List ℕ} {at : Option ℕ} {behind : List Text} {stop : Text} {fault : Fault}
      → IsNumberStop end expected at behind stop fault → IsNumberStop end expected at (text_of old ∷ behind) stop fault
  stop_on (invalid e n) = invalid e (none_and plus_accepts n)
  stop_on (refused e f) = refused e (FirstRefusal.later plus_accepts f)
  stop_on (goes_on none t j) = goes_on none t j
  stop_on no_memory = no_memory

  pub plus_stop : (expected : List ℕ) (fault : Fault) → takes_no_plus w ≡ false
      → IsNumberStop (length mid.text) expected (word_fault (length mid.text) (mid.offset - length w) w (text_of mid))
      (behind_word w (without_minus w) (text_of mid)) (word_rest w (text_of mid)) fault
      → IsNumberStop (length old.text) expected (number_fault (length old.text) (text_at old.text start))
      (behind_number (text_at old.text start)) (number_rest (text_at old.text start)) fault
  plus_stop expected fault takes h =
      let end = length old.text in
      let stop = word_rest w (text_of mid) in
      let offset_same : mid.offset - length w ≡ old.offset = omega (arith, b.offset) in
      let begins : offset_in end (text_of old) ≡ old.offset = ap (offset_in end) (sym text_is) ∙
      offset_of_word old.offset end w mid b in
      let at_is : number_fault end (text_at old.text start) ≡ word_fault end old.offset w (text_of mid) =
      plus_fault_is start old there end ∙ ap (λ (v : List ℕ). plus_fault end v (text_of old)) plus_run
      ∙ ap (λ (b : Bool). cond b (Some (offset_in end (text_of old)))
      (word_fault end (offset_in end (text_of old)) w (after_run is_keylike (text_of old)))) takes
      ∙ ap (λ (n : ℕ). word_fault end n w (after_run is_keylike (text_of old))) begins ∙
      ap (word_fault end old.offset w) (sym rest_is) in
      let placed = subst (λ (n : ℕ). IsNumberStop (length mid.text) expected
      (word_fault (length mid.text) n w (text_of mid)) (behind_word w (without_minus w) (text_of mid)) stop fault)
      offset_same h in
      let ended = subst (λ (t : List ℕ). IsNumberStop (length t) expected
      (word_fault (length t) old.offset w (text_of mid)) (behind_word w (without_minus w) (text_of mid)) stop fault)
      same placed in
      let plain = subst (λ (v : List ℕ). IsNumberStop end expected (word_fault end old.offset w (text_of mid))
      (behind_word w v (text_of mid)) stop fault) (no_minus takes) ended in
      subst (λ (t : Text). IsNumberStop end expected (number_fault end (text_at old.text start))
      (behind_number (text_at old.text start)) t fault) (sym plus_rest_is)
      (subst (λ (ts : List Text). IsNumberStop end expected (number_fault end (text_at old.text start)) ts stop fault)
      (sym behind_plus_is)
      (subst (λ (o : Option ℕ). IsNumberStop end expected o (text_of old ∷ behind_word w w (text_of mid)) stop fault)
      (sym at_is) (stop_on plain)))

-- a plus that was taken
pub plus_taken : (old new : Reading) (span : Span) (t : Token) → Takes old new span t → lexeme_of t ≡ plus
    → text_at new.text old.offset ≡ (old.offset, 43) ∷ text_of new
plus_taken old new span t h e =
    let (p, there) = sign_is
    (subst (λ (l : Lexeme). IsToken (between old.text old.offset span.end) (text_of old) l
    (text_at old.text span.end)) e h.taken.stands.token) refl in
    let offset : p ≡ old.offset = offset_is old.text old.offset (p, 43) (text_at old.text span.end) there in
    ap (λ (t : List ℕ). text_at t old.offset) (ap (λ (r : Reading). r.text) h.after) ∙ there ∙
    ap (λ (n : ℕ). (n, 43) ∷ text_at old.text span.end) offset
    ∙ ap (λ (t : Text). (old.offset, 43) ∷ t) (sym (ap text_of h.after))

-- what stands where the plus was taken
pub plus_front : (old mid new : Reading) (span : Span) (t : Token) (at : ℕ) → Takes mid new span t → mid ≡ old
    → at ≡ old.offset → text_at new.text at ≡ text_of old
plus_front old mid new span t at h same e =
    ap (λ (n : ℕ). text_at new.text n) e ∙
    ap (λ (u : List ℕ). text_at u old.offset)
    (ap (λ (r : Reading). r.text) h.after ∙ ap (λ (r : Reading). r.text) same)

pub plus_length : (old mid new : Reading) (span : Span) (t : Token) → Takes mid new span t → mid ≡ old
    → length new.text ≡ length old.text
plus_length old mid new span t h same =
    ap length (ap (λ (r : Reading). r.text) h.after ∙ ap (λ (r : Reading). r.text) same)

-- a number that begins with the plus
pub plus_whole : (old mid new : Reading) (span : Span) (t : Token) (at : ℕ) → Takes mid new span t → lexeme_of t ≡ plus
    → mid ≡ old → at ≡ old.offset → number_fault (length old.text) (text_of old) ≡ None
    → IsWhole (length old.text) (text_of old)
plus_whole old mid new span t at h e same at_is none =
    let front = plus_front old mid new span t at h same at_is in
    let sign = ap (text_at new.text) (at_is ∙ sym (ap (λ (r : Reading). r.offset) same)) ∙ plus_taken mid new span t h e in
    let here : text_of old ≡ (mid.offset, 43) ∷ text_of new = sym front ∙ sign in
    subst (IsWhole (length old.text)) (sym here)
    (signed (subst (λ (u : Text). number_fault (length old.text) u ≡ None) here none))
