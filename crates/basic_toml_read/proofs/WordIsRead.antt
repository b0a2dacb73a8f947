-- Words as values, against the grammar.
use Rattle.basic_toml_read.proofs.Common.{◌≡◌, ℕ, suc, ◌+◌, ◌<◌, ◌≤◌, Bool, true, false, List, ℤ, ◌-◌, [], ◌∷◌, length}
use Rattle.basic_toml_read.proofs.Common.{take, drop, get_or, refl, ap, sym, ◌∙◌, arith, Some, None, IsUtf8}
use Rattle.basic_toml_read.proofs.Common.{IsCharBoundary, encodes-IsAscii, and_parts, or_from, length-drop, nat_tests}
use Rattle.basic_toml_read.proofs.Common.{Text, text_at, run, after_run, between, IsRun, length-between, offset_is, Raw}
use Rattle.basic_toml_read.proofs.Common.{is_wordlike, word_value, word_at, Leaves}
use Rattle.std.proofs.Common.{zero}
use Rattle.std.proofs.lemmas.Str.{IsCharBoundary-after_ascii}
use Rattle.std.proofs.lemmas.List.{at_drop_more, length-take-le}
use Rattle.basic_toml_grammar.specs.Grammar.{word_offset}
use Rattle.std.specs.List.{list_all, prefix_len}
use Rattle.std.proofs.Math.Seq.{take-length}
use Rattle.std.proofs.lemmas.List.Sums.{prefix_len-drop_yes}
use Rattle.basic_toml_numbers.specs.Numbers.{is_decimal, integer_of, first_digits}
use Rattle.basic_toml_numbers.proofs.FirstDigits.{are_first}
use Rattle.basic_toml_tokens.proofs.RestsArePartsOfText.{part_later}
use Rattle.basic_toml_tokens.proofs.RunsAreFound.{IsRunTest, run_by_bytes}
use Rattle.basic_toml_read.specs.Word.{value_offset}
use Rattle.basic_toml_read.proofs.GoesOn.{then_from}

-- a run of characters of words, by bytes
wordlike_wide : (c : ℕ) → 128 ≤ c → is_wordlike c ≡ false
wordlike_wide c h = grind (arith, nat_tests, or_from)

wordlike_test : IsRunTest is_wordlike
wordlike_test = record { feed = refl; return = refl; wide = λ c d h k. wordlike_wide c h ∙ sym (wordlike_wide d k) }

wordlike_small : (c : ℕ) → is_wordlike c ≡ true → c < 128
wordlike_small c e = grind (arith, nat_tests)

-- a run of characters below U+0080
pub run_small : (f : ℕ → Bool) → ((c : ℕ) → f c ≡ true → c < 128) → (text : Text) (i : ℕ)
    → get_or (run f text) i 0 < 128
run_small f small [] i = omega arith
run_small f small (x ∷ text) zero = grind (arith, small x.1)
run_small f small (x ∷ text) (suc i) = grind (arith, run_small f small text i)

-- the bytes of a word, which is not empty
pub word_run : (bytes : List ℕ) (at end : ℕ) → IsUtf8 bytes → IsCharBoundary bytes at
    → Leaves bytes at end (after_run is_wordlike (text_at bytes at)) → (at ≡ end → ⊥)
    → (between bytes at end ≡ run is_wordlike (text_at bytes at)) × (run is_wordlike (text_at bytes at) ≡ [] → ⊥)
word_run bytes at end whole here l some =
    let stop = at + prefix_len is_wordlike (drop at bytes) in
    let r : IsRun is_wordlike bytes at stop = run_by_bytes is_wordlike wordlike_test bytes at whole here in
    let same : text_at bytes stop ≡ text_at bytes end = r.rest ∙ sym l.left in
    let first : stop ≤ end = part_later bytes stop end whole r.boundary.0 l.boundary (0, sym same) in
    let second : end ≤ stop = part_later bytes end stop whole l.boundary.0 r.boundary (0, same) in
    let e : stop ≡ end = omega arith in
    let text : between bytes at end ≡ run is_wordlike (text_at bytes at) =
    rw (← e) (sym r.spelled ∙ encodes-IsAscii (run is_wordlike (text_at bytes at))
    (run_small is_wordlike wordlike_small (text_at bytes at))) in
    let long = length-between bytes at end l.forward l.boundary.0 in
    (text, λ none. some (omega (arith, ap length (text ∙ none), long, l.forward)))

offset_same : (start p : ℕ) (t : Text) (v : Raw) → p ≡ start
    → word_offset v p t ≡ value_offset start start (run is_wordlike t) v
offset_same start p t (Raw.float f) h = grind (arith, h)
offset_same start p t _ h = h

-- what the grammar has at a word
pub word_stands : (bytes : List ℕ) (start end : ℕ) (word : List ℕ) (v : Raw)
    → word ≡ run is_wordlike (text_at bytes start) → (run is_wordlike (text_at bytes start) ≡ [] → ⊥)
    → text_at bytes end ≡ after_run is_wordlike (text_at bytes start) → Some v ≡ word_value word
    → word_at (text_at bytes start)
    ≡ Some (record { offset = value_offset start start word v; value = v; rest = text_at bytes end })
word_stands bytes start end word v is some rest_is told = rw is (go (text_at bytes start) refl)
  where
    go : (t : Text) → text_at bytes start ≡ t → word_at t ≡ Some (record {
      offset = value_offset start start (run is_wordlike t) v;
      value = v;
      rest = text_at bytes end;
    })
    go [] h = absurd (some (ap (run is_wordlike) h))
    go (x ∷ t) h =
        let there : word_value (run is_wordlike (x ∷ t)) ≡ Some v =
        ap (λ (t : Text). word_value (run is_wordlike t)) (sym h) ∙ ap word_value (sym is) ∙ sym told in
        then_from _ there ∙ rw (offset_same start x.0 (x ∷ t) v (offset_is bytes start x t h), rest_is, h) refl

pub word_missing : (t : Text) → word_value (run is_wordlike t) ≡ None → word_at t ≡ None
word_missing [] e = refl
word_missing (x ∷ t) e = then_from _ e

-- digits that a word begins with
decimal_in_word : (c : ℕ) → is_decimal c ≡ true → (c < 128) × (is_wordlike c ≡ true)
decimal_in_word c is = (grind (arith, nat_tests), grind (arith, nat_tests, or_from))

pub known_digits : (bytes : List ℕ) (at count : ℕ) → IsUtf8 bytes → IsCharBoundary bytes at
    → at + count ≤ length bytes → list_all is_decimal (take count (drop at bytes)) ≡ true
    → (prefix_len is_wordlike (drop at bytes) ≡ count + prefix_len is_wordlike (drop (at + count) bytes))
    × IsCharBoundary bytes (at + count)
known_digits bytes at zero whole here fits all =
    let same : at ≡ at + 0 = omega arith in rw (← same) (omega arith, here)
known_digits bytes at (suc n) whole here fits all =
    let within : at < length bytes = omega (arith, fits) in
    let parts = and_parts (is_decimal (get_or bytes at 0)) (list_all is_decimal (take n (drop (at + 1) bytes)))
    (sym (at_drop_more (λ cs. list_all is_decimal (take (suc n) cs)) bytes at 0 within) ∙ all) in
    let first = decimal_in_word (get_or bytes at 0) parts.0 in
    let more = known_digits bytes (at + 1) n whole (IsCharBoundary-after_ascii bytes at whole within first.0)
    (omega (arith, fits)) parts.1 in
    let same : at + 1 + n ≡ at + suc n = omega arith in
    rw (← same) (omega (arith, prefix_len-drop_yes is_wordlike bytes at 0 within first.1, more.0), more.1)

-- digits are neither `true` nor `false`
digits_value : (word : List ℕ) (z : ℤ) → 0 < length word → list_all is_decimal word ≡ true
    → integer_of word ≡ Some z → Some (Raw.integer z) ≡ word_value word
digits_value [] z some all is = absurd (omega (arith, some))
digits_value (c ∷ cs) z some all is =
    let first : is_decimal c ≡ true = (and_parts (is_decimal c) (list_all is_decimal cs) all).0 in
    grind (arith, nat_tests, first, is)

-- digits that the text has at an offset, and the word that they belong to
pub record HasDigits (bytes : List ℕ) (at count : ℕ) (z : ℤ) : Type 0 where
  pub some : 0 < count
  pub within : at + count ≤ length bytes
  pub boundary : IsCharBoundary bytes (at + count)
  pub behind : after_run is_wordlike (text_at bytes (at + count)) ≡ after_run is_wordlike (text_at bytes at)
  pub ends : prefix_len is_wordlike (drop (at + count) bytes) ≡ 0
      → Leaves bytes at (at + count) (after_run is_wordlike (text_at bytes at))
  pub value : Some (Raw.integer z) ≡ word_value (between bytes at (at + count))

pub digits_here : {seen bytes : List ℕ} {count : ℕ} {z : ℤ} (at : ℕ) → seen ≡ bytes → IsUtf8 bytes
    → IsCharBoundary bytes at → Some (z, count) ≡ first_digits (take (length seen - at) (drop at seen))
    → HasDigits bytes at count z
digits_here {seen = seen} {bytes = bytes} {count = count} {z = z} at same whole here told =
    let slice : take (length seen - at) (drop at seen) ≡ drop at bytes =
    rw (same, ← length-drop at bytes) (take-length (drop at bytes)) in
    let first = are_first (drop at bytes) z count (told ∙ ap first_digits slice) in
    let all = first.digits in
    let fits : at + count ≤ length bytes = omega (arith, first.within, length-drop at bytes, here.0) in
    let known = known_digits bytes at count whole here fits all in
    let long : IsRun is_wordlike bytes at (at + prefix_len is_wordlike (drop at bytes)) =
    run_by_bytes is_wordlike wordlike_test bytes at whole here in
    let short : IsRun is_wordlike bytes (at + count) (at + count + prefix_len is_wordlike (drop (at + count) bytes)) =
    run_by_bytes is_wordlike wordlike_test bytes (at + count) whole known.1 in
    record {
      some = first.some;
      within = fits;
      boundary = known.1;
      behind = sym short.rest ∙ ap (text_at bytes) (omega (arith, known.0)) ∙ long.rest;
      ends = λ none. record {
        left = ap (text_at bytes) (omega (arith, known.0, none)) ∙ long.rest;
        boundary = known.1;
        forward = omega arith;
      };
      value =
          digits_value (take count (drop at bytes)) z
          (omega (arith, length-take-le count (drop at bytes), length-drop at bytes, fits, first.some)) all
          first.integer
          ∙ ap (λ (n : ℕ). word_value (take n (drop at bytes))) (omega arith);
    }
