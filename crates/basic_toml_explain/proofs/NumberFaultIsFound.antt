-- The walk over the tokens of a number, against its fault.
use Rattle.std.proofs.Common.{◌≡◌, ℕ, ◌+◌, ◌-◌, ◌&&◌, Bool, true, false, cond, List, [], ◌∷◌, length, refl, ap, sym, ◌∙◌, subst}
use Rattle.std.proofs.Common.{arith, Option, Some, None, is_some, Result, Ok, Err}
use Rattle.std.specs.Str.{IsUtf8, IsCharBoundary}
use Rattle.std.specs.List.{list_any}
use Rattle.std.specs.Borrow.{Bor}
use Rattle.std.specs.Option.{option_or}
use Rattle.basic_toml_tokens.specs.Text.{Text, offset_in, text_at, run, after_run, is_keylike}
use Rattle.basic_toml_tokens.specs.TokenAt.{Lexeme, punctuation_of, punctuation}
use Rattle.basic_toml_tokens.specs.Reading.{Reading, text_of}
use Rattle.basic_toml_numbers.specs.Numbers.{is_digits, is_whole, part_of, after_part, is_exponent_letter}
use Rattle.basic_toml_grammar.specs.NumberTokens.{plus_rest, mark_rest, period_rest, word_rest}
use Rattle.basic_toml_grammar.specs.Faults.{Fault}
use Rattle.basic_toml_grammar.specs.Reader.{char_at}
use Rattle.basic_toml_grammar.specs.NumberFaults.{is_prefixed, plus_word_fault, plus_power_fault, exponent_fault}
use Rattle.basic_toml_grammar.specs.NumberFaults.{fraction_parts_fault, after_period_fault, unmarked_fault}
use Rattle.basic_toml_grammar.specs.NumberFaults.{word_fault, without_minus, outside, float_fault, whole_fault}
use Rattle.basic_toml_grammar.specs.NumberFaults.{takes_no_plus}
use Rattle.basic_toml_grammar.specs.NumberTokens.{is_letter_alone, behind_sign, behind_letter, behind_period, behind_word}
use Rattle.basic_toml_grammar.proofs.Grammar.ReaderIsSound.{sign_read}
use Rattle.basic_toml_explain.specs.NumberFault.{behind_left, behind_fraction}
use Rattle.basic_toml_explain.specs.NumberFault.{IsTakenTo, IsStoppedBehind, NoneRefused, Finds}
use Rattle.basic_toml_explain.specs.Cursor.{IsStopped, Accepts, EatsPunctuation}
use Rattle.basic_toml_explain.specs.Cursor.{IsAfterWord, TakesWord}
use Rattle.basic_toml_explain.proofs.RefusedBehind.{accepts_token, none_refused, none_and, stopped_at, stopped_later}
use Rattle.basic_toml_explain.proofs.TokensBehind.{parts_none, parts_fine, behind_plain, behind_prefixed, behind_marked}
use Rattle.basic_toml_explain.proofs.TokensBehind.{minus_no_letter, minus_not_whole}
use Rattle.basic_toml_explain.proofs.TakenTokenStands.{offset_here}

pub eaten : (c : ℕ) (old new : Reading) (b : Bool) → EatsPunctuation c old new (Ok b) → b ≡ true
    → EatsPunctuation c old new (Ok true)
eaten c old new b h e = subst (λ (b : Bool). EatsPunctuation c old new (Ok b)) e h

-- a sign that was taken, and what stands behind it
pub sign_accepts : {text rest : Text} {p : ℕ} {l : Lexeme} (c : ℕ) → char_at c text ≡ Some (p, rest)
    → punctuation_of c ≡ Some l → Accepts text
sign_accepts {text = text} {rest = rest} {p = p} c e h =
    accepts_token {source = []} (punctuation (sign_read c text (p, rest) e) h)

pub behind_plus : (old mid : Reading) → EatsPunctuation 43 old mid (Ok true) → Accepts (text_of mid)
    → NoneRefused (text_of old ∷ behind_sign (char_at 43 (text_of old)))
behind_plus old mid s a =
    none_and (sign_accepts 43 s.0 refl)
    (subst (λ o. NoneRefused (behind_sign o)) (sym s.0) (none_and a none_refused))

pub stopped_behind_plus : (old mid : Reading) (fault : Fault) → EatsPunctuation 43 old mid (Ok true)
    → IsStopped (text_of mid) fault
    → IsStoppedBehind (text_of old ∷ behind_sign (char_at 43 (text_of old))) fault
stopped_behind_plus old mid fault s h =
    stopped_later fault (sign_accepts 43 s.0 refl)
    (subst (λ o. IsStoppedBehind (behind_sign o) fault) (sym s.0) (stopped_at fault h))

-- where no plus stands
pub no_plus : (old mid : Reading) → EatsPunctuation 43 old mid (Ok false)
    → NoneRefused (text_of old ∷ behind_sign (char_at 43 (text_of old)))
no_plus old mid s = none_and s.2 (subst (λ o. NoneRefused (behind_sign o)) (sym s.0) none_refused)

pub plus_found : (old mid new : Reading) (w : List ℕ) (start at : ℕ) (found : Option ℕ)
    → EatsPunctuation 43 old mid (Ok true) → IsUtf8 new.text → IsAfterWord mid.offset w new → new.text ≡ mid.text
    → at ≡ new.offset - length w → found ≡ plus_word_fault at start w
    → Finds (plus_power_fault (length old.text) start (char_at 43 (text_of old)))
    (text_of old ∷ behind_sign (char_at 43 (text_of old))) (plus_rest (char_at 43 (text_of old)) (text_of old)) old new
    (Ok found)
plus_found old mid new w start at found s whole b same at_is found_is =
    let there : text_at new.text mid.offset ≡ text_of mid = ap (λ (t : List ℕ). text_at t mid.offset) same in
    let long : length new.text ≡ length old.text = ap length (same ∙ s.1) in
    let offset : offset_in (length old.text) (text_of mid) ≡ at =
    ap (offset_in (length old.text)) (sym there) ∙ ap (λ (n : ℕ). offset_in n (text_at new.text mid.offset)) (sym long)
    ∙ offset_here new.text mid.offset whole b.begins ∙ omega (arith, at_is, b.offset) in
    let word : run is_keylike (text_of mid) ≡ w = ap (run is_keylike) (sym there) ∙ b.is in (
      found_is ∙ sym (ap (plus_power_fault (length old.text) start) s.0 ∙
          ap (λ (n : ℕ). plus_word_fault n start (run is_keylike (text_of mid))) offset ∙
          ap (plus_word_fault at start) word),
      behind_plus old mid s (subst Accepts there (accepts_token b.token.1)),
      λ none. record {
        text = same ∙ s.1;
        rest_is = b.rest ∙ ap (after_run is_keylike) there ∙
            sym (ap (λ (o : Option (ℕ × Text)). plus_rest o (text_of old)) s.0);
      },
    )

pub some_stays : (o p : Option ℕ) → is_some o ≡ true → option_or o p ≡ o
some_stays None p e = cc
some_stays (Some x) p e = refl

pub no_none : (o : Option ℕ) → is_some o ≡ true → o ≡ None → ⊥
no_none o e h = let z : is_some {T = ℕ} None ≡ true = ap is_some (sym h) ∙ e in cc

pub none_from : (o : Option ℕ) → is_some o ≡ false → o ≡ None
none_from None e = refl
none_from (Some x) e = cc

-- what a fraction has, part by part
module _ (old mid : Reading) (start : ℕ) (word w : List ℕ) (whole : IsUtf8 mid.text)
    (b : IsAfterWord old.offset w mid) (same : mid.text ≡ old.text) where
  text_is : text_at mid.text old.offset ≡ text_of old
  text_is = ap (λ (t : List ℕ). text_at t old.offset) same

  run_is : run is_keylike (text_of old) ≡ w
  run_is = ap (run is_keylike) (sym text_is) ∙ b.is

  rest_is : after_run is_keylike (text_of old) ≡ text_of mid
  rest_is = ap (after_run is_keylike) (sym text_is) ∙ sym b.rest

  offset_is : offset_in (length old.text) (text_of old) ≡ old.offset
  offset_is =
      ap (λ (n : ℕ). offset_in n (text_of old)) (ap length (sym same)) ∙
      ap (offset_in (length mid.text)) (sym text_is) ∙ offset_here mid.text old.offset whole b.begins

  unfolded : (v : List ℕ) (at end : ℕ) (rest : Text) → (c : ℕ) (cs : List ℕ) → v ≡ c ∷ cs
      → offset_in (length old.text) (text_of old) ≡ at → after_run is_keylike (text_of old) ≡ rest
      → length old.text ≡ end
      → after_period_fault (length old.text) start word v (text_of old)
      ≡ option_or (fraction_parts_fault start word at v)
      (exponent_fault end start (at + (length v - length (after_part v))) (after_part v) rest)
  unfolded v at end rest c cs e p r l =
      ap (λ (v : List ℕ). after_period_fault (length old.text) start word v (text_of old)) e
      ∙ ap (λ (n : ℕ). option_or (fraction_parts_fault start word n (c ∷ cs))
      (exponent_fault (length old.text) start (n + (length (c ∷ cs) - length (after_part (c ∷ cs))))
      (after_part (c ∷ cs)) (after_run is_keylike (text_of old)))) p
      ∙ ap (λ (t : Text). option_or (fraction_parts_fault start word at (c ∷ cs))
      (exponent_fault (length old.text) start (at + (length (c ∷ cs) - length (after_part (c ∷ cs))))
      (after_part (c ∷ cs)) t)) r
      ∙ ap (λ (n : ℕ). option_or (fraction_parts_fault start word at (c ∷ cs))
      (exponent_fault n start (at + (length (c ∷ cs) - length (after_part (c ∷ cs)))) (after_part (c ∷ cs)) rest)) l
      ∙ ap (λ (v : List ℕ). option_or (fraction_parts_fault start word at v)
      (exponent_fault end start (at + (length v - length (after_part v))) (after_part v) rest)) (sym e)

  pub fraction_is : after_period_fault (length old.text) start word (run is_keylike (text_of old)) (text_of old)
      ≡ option_or (fraction_parts_fault start word old.offset w)
      (exponent_fault (length mid.text) start (old.offset + (length w - length (after_part w))) (after_part w)
      (text_of mid))
  fraction_is =
      ap (λ (v : List ℕ). after_period_fault (length old.text) start word v (text_of old)) run_is
      ∙ unfolded w old.offset (length mid.text) (text_of mid) b.some.0 b.some.1 b.some.2 offset_is rest_is
      (ap length (sym same))

  pub fraction_rest_is : mark_rest (after_part (run is_keylike (text_of old))) (after_run is_keylike (text_of old))
      ≡ mark_rest (after_part w) (text_of mid)
  fraction_rest_is = ap (λ (v : List ℕ). mark_rest (after_part v) (after_run is_keylike (text_of old))) run_is ∙
      ap (mark_rest (after_part w)) rest_is

  accepts_here : Accepts (text_of old)
  accepts_here = subst Accepts text_is (accepts_token b.token.1)

  -- of parts that are fine, what is left of the word
  letters_are : (b c : Bool) → (is_whole (without_minus word) ≡ true → is_digits 10 (part_of w) ≡ true → ⊥)
      → is_whole (without_minus word) ≡ b → is_digits 10 (part_of w) ≡ c
      → cond b (cond (c && is_letter_alone (after_part w)) (text_of mid ∷ behind_sign (char_at 43 (text_of mid))) [])
      [] ≡ []
  letters_are false c n e f = refl
  letters_are true false n e f = refl
  letters_are true true n e f = absurd (n e f)

  here_is : behind_fraction (without_minus word) (text_of old)
      ≡ text_of old ∷ cond (is_whole (without_minus word)) (behind_letter true w (text_of mid)) []
  here_is =
      ap (λ (v : List ℕ). text_of old ∷ cond (is_whole (without_minus word))
      (behind_letter true v (after_run is_keylike (text_of old))) []) run_is
      ∙ ap (λ (t : Text). text_of old ∷ cond (is_whole (without_minus word)) (behind_letter true w t) []) rest_is

  -- a part is at fault
  pub fraction_stops : (new : Reading) (o : Option ℕ) → o ≡ fraction_parts_fault start word old.offset w
      → is_some o ≡ true
      → Finds (after_period_fault (length old.text) start word (run is_keylike (text_of old)) (text_of old))
      (behind_fraction (without_minus word) (text_of old))
      (mark_rest (after_part (run is_keylike (text_of old))) (after_run is_keylike (text_of old))) old new (Ok o)
  fraction_stops new o e s =
      let exponent = exponent_fault (length mid.text) start (old.offset + (length w - length (after_part w)))
      (after_part w) (text_of mid) in (
        sym (fraction_is ∙ ap (λ (o : Option ℕ). option_or o exponent) (sym e) ∙ some_stays o exponent s),
        subst NoneRefused (sym here_is) (none_and accepts_here (subst NoneRefused
            (sym (letters_are (is_whole (without_minus word)) (is_digits 10 (part_of w))
            (λ a d. no_none o s (e ∙ parts_none start old.offset word w a d)) refl refl)) none_refused)),
        λ none. absurd (no_none o s none),
      )

  fine_is : fraction_parts_fault start word old.offset w ≡ None
      → behind_fraction (without_minus word) (text_of old)
      ≡ text_of old ∷ behind_left (after_part w) (text_of mid)
  fine_is parts =
      let fine = parts_fine start old.offset word w parts in
      here_is
      ∙ ap (λ (b : Bool). text_of old ∷ cond b (behind_letter true w (text_of mid)) []) fine.0
      ∙ ap (λ (b : Bool). text_of old ∷ cond (b && is_letter_alone (after_part w))
      (text_of mid ∷ behind_sign (char_at 43 (text_of mid))) []) fine.1

  -- from the exponent on
  pub from_exponent : (new : Reading) (at : ℕ) (result : Result (Option ℕ) Fault)
      → at ≡ old.offset + (length w - length (after_part w)) → fraction_parts_fault start word old.offset w ≡ None
      → Finds (exponent_fault (length mid.text) start at (after_part w) (text_of mid))
      (behind_left (after_part w) (text_of mid)) (mark_rest (after_part w) (text_of mid)) mid new result
      → Finds (after_period_fault (length old.text) start word (run is_keylike (text_of old)) (text_of old))
      (behind_fraction (without_minus word) (text_of old))
      (mark_rest (after_part (run is_keylike (text_of old))) (after_run is_keylike (text_of old))) old new result
  from_exponent new at (Ok found) at_is parts (found_is, free, taken) = (
    found_is ∙ ap (λ (n : ℕ). exponent_fault (length mid.text) start n (after_part w) (text_of mid)) at_is
        ∙ ap (λ (o : Option ℕ). option_or o
        (exponent_fault (length mid.text) start (old.offset + (length w - length (after_part w))) (after_part w)
        (text_of mid))) (sym parts) ∙ sym fraction_is,
    subst NoneRefused (sym (fine_is parts)) (none_and accepts_here free),
    λ none. let t = taken none in record {
      text = t.text ∙ same;
      rest_is = t.rest_is ∙ sym fraction_rest_is;
    },
  )
  from_exponent new at (Err stop) at_is parts h =
      subst (λ (ts : List Text). IsStoppedBehind ts stop) (sym (fine_is parts)) (stopped_later stop accepts_here h)

-- the offset after a period with no word
pub no_fraction : (old : Reading) (start at : ℕ) (word : List ℕ) → IsUtf8 old.text
    → IsCharBoundary old.text old.offset → at ≡ old.offset → run is_keylike (text_of old) ≡ []
    → Some at ≡ after_period_fault (length old.text) start word (run is_keylike (text_of old)) (text_of old)
no_fraction old start at word whole boundary e none =
    ap (λ (n : ℕ). Some n) (e ∙ sym (offset_here old.text old.offset whole boundary)) ∙
    sym (ap (λ (v : List ℕ). after_period_fault (length old.text) start word v (text_of old)) none)

pub none_behind_period : (text : Text) (part : List ℕ) → run is_keylike text ≡ [] → Accepts text
    → NoneRefused (behind_fraction part text)
none_behind_period text part e a = none_and a (subst NoneRefused (sym (go (is_whole part))) none_refused)
  where
    go : (b : Bool) → cond b (behind_letter true (run is_keylike text) (after_run is_keylike text)) [] ≡ []
    go false = refl
    go true = ap (λ (v : List ℕ). behind_letter true v (after_run is_keylike text)) e

-- after a period
pub word_found : (old mid new : Reading) (start : ℕ) (word : List ℕ) (result : Result (Option ℕ) Fault)
    → (word ≡ [] → ⊥) → is_prefixed word ≡ false → list_any is_exponent_letter word ≡ false
    → EatsPunctuation 46 old mid (Ok true)
    → Finds (after_period_fault (length mid.text) start word (run is_keylike (text_of mid)) (text_of mid))
    (behind_fraction (without_minus word) (text_of mid))
    (mark_rest (after_part (run is_keylike (text_of mid))) (after_run is_keylike (text_of mid))) mid new result
    → Finds (word_fault (length old.text) start word (text_of old))
    (behind_word word (without_minus word) (text_of old)) (word_rest word (text_of old)) old new result
word_found old mid new start word result some no_prefix no_mark s h = go result h
  where
    fault_is : word_fault (length old.text) start word (text_of old)
        ≡ after_period_fault (length mid.text) start word (run is_keylike (text_of mid)) (text_of mid)
    fault_is = rw (no_prefix, no_mark) (ap (unmarked_fault (length old.text) start word) s.0
        ∙ ap (λ (n : ℕ). after_period_fault n start word (run is_keylike (text_of mid)) (text_of mid))
        (ap length (sym s.1)))

    rest_is : word_rest word (text_of old)
        ≡ mark_rest (after_part (run is_keylike (text_of mid))) (after_run is_keylike (text_of mid))
    rest_is = rw (no_prefix, no_mark) (ap (λ (o : Option (ℕ × Text)). period_rest o (text_of old)) s.0)

    behind_is : behind_word word (without_minus word) (text_of old)
        ≡ text_of old ∷ behind_fraction (without_minus word) (text_of mid)
    behind_is = behind_plain word (without_minus word) (text_of old) some no_prefix no_mark
        ∙ ap (λ (o : Option (ℕ × Text)). text_of old ∷ behind_period (without_minus word) o) s.0

    go : (result : Result (Option ℕ) Fault)
        → Finds (after_period_fault (length mid.text) start word (run is_keylike (text_of mid)) (text_of mid))
        (behind_fraction (without_minus word) (text_of mid))
        (mark_rest (after_part (run is_keylike (text_of mid))) (after_run is_keylike (text_of mid))) mid new result
        → Finds (word_fault (length old.text) start word (text_of old))
        (behind_word word (without_minus word) (text_of old)) (word_rest word (text_of old)) old new result
    go (Ok found) (found_is, free, taken) = (
      found_is ∙ sym fault_is,
      subst NoneRefused (sym behind_is) (none_and (sign_accepts 46 s.0 refl) free),
      λ none. let t = taken none in record {
        text = t.text ∙ s.1;
        rest_is = t.rest_is ∙ sym rest_is;
      },
    )
    go (Err stop) h = subst (λ (ts : List Text). IsStoppedBehind ts stop) (sym behind_is)
        (stopped_later stop (sign_accepts 46 s.0 refl) h)

-- a word that was taken has characters
pub word_some : {start : ℕ} {word : List ℕ} {r : Reading} → IsAfterWord start word r → word ≡ [] → ⊥
word_some b e = let no : b.some.0 ∷ b.some.1 ≡ [] = sym b.some.2 ∙ e in cc

-- the word alone
alone : (old new : Reading) → new ≡ old → (rest : Text) → rest ≡ text_of old → IsTakenTo rest old new
alone old new same rest e = record {
  text = ap (λ (r : Reading). r.text) same;
  rest_is = ap text_of same ∙ sym e;
}

pub prefixed_found : {at : ℕ} (old new : Reading) (start : ℕ) (word : List ℕ) (found : Option ℕ)
    → IsAfterWord at word old → is_prefixed word ≡ true → new ≡ old → found ≡ outside (start + 2) word
    → Finds (word_fault (length old.text) start word (text_of old))
    (behind_word word (without_minus word) (text_of old)) (word_rest word (text_of old)) old new (Ok found)
prefixed_found {at = at} old new start word found b prefix same e = (
  e ∙ sym (ap (λ (p : Bool). cond p (outside (start + 2) word)
      (cond (list_any is_exponent_letter word) (float_fault (length old.text) start word (text_of old))
      (unmarked_fault (length old.text) start word (char_at 46 (text_of old))))) prefix),
  subst NoneRefused (sym (behind_prefixed word (without_minus word) (text_of old) prefix)) none_refused,
  λ none. alone old new same (word_rest word (text_of old))
      (ap (λ (p : Bool). cond p (text_of old) (cond (list_any is_exponent_letter word)
      (mark_rest (after_part (without_minus word)) (text_of old))
      (period_rest (char_at 46 (text_of old)) (text_of old)))) prefix),
)

pub plain_stopped : (word : List ℕ) (text : Text) (fault : Fault) → (word ≡ [] → ⊥) → is_prefixed word ≡ false
    → list_any is_exponent_letter word ≡ false → IsStopped text fault
    → IsStoppedBehind (behind_word word (without_minus word) text) fault
plain_stopped word text fault some no_prefix no_mark h =
    subst (λ (ts : List Text). IsStoppedBehind ts fault)
    (sym (behind_plain word (without_minus word) text some no_prefix no_mark)) (stopped_at fault h)

-- where no period stands
pub plain_found : {at : ℕ} (old mid new : Reading) (start : ℕ) (word : List ℕ) (found : Option ℕ)
    → IsAfterWord at word old → is_prefixed word ≡ false → list_any is_exponent_letter word ≡ false
    → EatsPunctuation 46 old mid (Ok false) → new ≡ mid → found ≡ whole_fault start word
    → Finds (word_fault (length old.text) start word (text_of old))
    (behind_word word (without_minus word) (text_of old)) (word_rest word (text_of old)) old new (Ok found)
plain_found {at = at} old mid new start word found b no_prefix no_mark s same e = (
  e ∙ sym (rw (no_prefix, no_mark) (ap (unmarked_fault (length old.text) start word) s.0)),
  subst NoneRefused (sym (behind_plain word (without_minus word) (text_of old) (word_some b) no_prefix no_mark
      ∙ ap (λ (o : Option (ℕ × Text)). text_of old ∷ behind_period (without_minus word) o) s.0))
      (none_and s.2 none_refused),
  λ none. alone old new (same ∙ s.1) (word_rest word (text_of old))
      (rw (no_prefix, no_mark) (ap (λ (o : Option (ℕ × Text)). period_rest o (text_of old)) s.0)),
)

-- behind a word that no plus may stand before, the first two tokens count
module _ (word : List ℕ) (takes : takes_no_plus word ≡ true) (no_prefix : is_prefixed word ≡ false) where
  pub none_marked : (text : Text) → list_any is_exponent_letter word ≡ true → NoneRefused (behind_word word word text)
  none_marked text mark = subst NoneRefused
      (sym (behind_marked word word text no_prefix mark ∙ minus_no_letter word text takes no_prefix)) none_refused

  module _ (no_mark : list_any is_exponent_letter word ≡ false) (some : word ≡ [] → ⊥) where
    minus_none : (t : Text) → behind_fraction word t ≡ t ∷ []
    minus_none t = ap (λ (b : Bool). t ∷ cond b (behind_letter true (run is_keylike t) (after_run is_keylike t)) [])
        (minus_not_whole word takes no_prefix)

    pub minus_stopped : (text : Text) (fault : Fault) → IsStopped text fault
        → IsStoppedBehind (behind_word word word text) fault
    minus_stopped text fault h = subst (λ (ts : List Text). IsStoppedBehind ts fault)
        (sym (behind_plain word word text some no_prefix no_mark)) (stopped_at fault h)

    pub minus_alone : (old mid : Reading) → EatsPunctuation 46 old mid (Ok false)
        → NoneRefused (behind_word word word (text_of old))
    minus_alone old mid s = subst NoneRefused
        (sym (behind_plain word word (text_of old) some no_prefix no_mark
        ∙ ap (λ (o : Option (ℕ × Text)). text_of old ∷ behind_period word o) s.0)) (none_and s.2 none_refused)

    two : (old mid : Reading) → EatsPunctuation 46 old mid (Ok true)
        → behind_word word word (text_of old) ≡ text_of old ∷ text_of mid ∷ []
    two old mid s = behind_plain word word (text_of old) some no_prefix no_mark
        ∙ ap (λ (o : Option (ℕ × Text)). text_of old ∷ behind_period word o) s.0
        ∙ ap (λ (ts : List Text). text_of old ∷ ts) (minus_none (text_of mid))

    pub minus_free : (old mid : Reading) → EatsPunctuation 46 old mid (Ok true) → Accepts (text_of mid)
        → NoneRefused (behind_word word word (text_of old))
    minus_free old mid s a =
        subst NoneRefused (sym (two old mid s)) (none_and (sign_accepts 46 s.0 refl) (none_and a none_refused))

    pub minus_refused : (old mid : Reading) (fault : Fault) → EatsPunctuation 46 old mid (Ok true)
        → IsStopped (text_of mid) fault → IsStoppedBehind (behind_word word word (text_of old)) fault
    minus_refused old mid fault s h = subst (λ (ts : List Text). IsStoppedBehind ts fault) (sym (two old mid s))
        (stopped_later fault (sign_accepts 46 s.0 refl) (stopped_at fault h))

-- where a word was looked for no token is refused
pub word_looked : (old new : Reading) (o : Option (Bor (List ℕ))) → TakesWord old new (Ok o) → Accepts (text_of old)
word_looked old new (Some w) h =
    subst (λ (t : List ℕ). Accepts (text_at t old.offset)) h.1 (accepts_token h.0.token.1)
word_looked old new None h = h.1
