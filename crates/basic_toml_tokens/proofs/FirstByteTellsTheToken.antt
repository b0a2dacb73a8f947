-- The token at an offset, by its first byte.
use Rattle.std.proofs.Common.{◌⊎◌, inl, inr, ◌≡◌, ◌≢◌, ◌↔◌, ℕ, zero, suc, ◌+◌, ◌<◌, ◌≤◌, ◌==◌, Bool, true, false}
use Rattle.std.proofs.Common.{cond, List, [], ◌∷◌, ◌++◌, length, refl, ap, sym, ◌∙◌, subst, arith, get_or, Some}
use Rattle.std.proofs.Common.{None, Option, is_none, not, ◌||◌, encode_utf8_all, Err}
use Rattle.std.specs.Borrow.{Bor}
use Rattle.std.specs.Str.{IsUtf8, IsCharBoundary, IsAscii}
use Rattle.std.specs.Cow.{IsBorrowedStr}
use Rattle.std.specs.declared.alloc.Global.{Global}
use Rattle.std.specs.declared.borrow.CowStr.{CowStr}
use Rattle.std.specs.declared.borrow.CowStr.TheVariants.{Borrowed, Owned}
use Rattle.std.proofs.lemmas.Str.{encodes-IsAscii, encode_ascii}
use Rattle.std.proofs.lemmas.Bool.{or_cases, or_from, ne_eqb, both_ways, cases_lt}
use Rattle.std.proofs.lemmas.Bool.Decides.{nat_tests}
use Rattle.basic_toml_tokens.specs.declared.error.Error.TheVariants.{Unexpected}
use Rattle.basic_toml_tokens.specs.declared.string.Quoted.{Quoted}
use Rattle.basic_toml_tokens.specs.declared.string.TokenStop.{TokenStop}
use Rattle.basic_toml_tokens.specs.declared.token.Token.{Token}
use Rattle.basic_toml_tokens.specs.declared.token.Token.TheVariants as token
use Rattle.basic_toml_tokens.specs.Text.{Text, text_at, run, after_run, is_blank, is_keylike, is_comment}
use Rattle.basic_toml_tokens.specs.Strings.{is_quote}
use Rattle.basic_toml_tokens.specs.TokenAt.{Lexeme, whitespace, comment, keylike, string, punctuation_of, IsToken}
use Rattle.basic_toml_tokens.specs.TokenAt.{punctuation, blanks, word, remark, quoted}
use Rattle.basic_toml_tokens.specs.Faults.{begins_token, unexpected, broken}
use Rattle.basic_toml_tokens.specs.Reading.{between, IsStep, IsRun}
use Rattle.basic_toml_tokens.specs.Copies.{is_copied}
use Rattle.basic_toml_tokens.specs.String.{is_owned, IsQuoted, IsRefused}
use Rattle.basic_toml_tokens.specs.Token.{lexeme_of, HasSource, FaultAt, IsTaken, BorrowsRightly}
use Rattle.basic_toml_tokens.specs.Scan.{IsBare, IsPunctuation, tells_unquoted, IsFound}
use Rattle.basic_toml_tokens.proofs.TextBetweenOffsets.{between_cons}
use Rattle.basic_toml_tokens.proofs.SpacesAreRuns.{length-after}
use Rattle.basic_toml_tokens.proofs.StepIsTheFold.{byte_step}

keylike_small : (c : ℕ) → is_keylike c ≡ true → (c < 128) × (c ≢ 13)
keylike_small c h = (grind (arith, nat_tests, or_cases), λ e. let z : is_keylike 13 ≡ true = rw e at h in cc)

blank_small : (c : ℕ) → is_blank c ≡ true → (c < 128) × (c ≢ 13)
blank_small c h = (grind (arith, nat_tests, or_cases), λ e. let z : is_blank 13 ≡ true = rw e at h in cc)

run_ascii : (p : ℕ → Bool) → ((c : ℕ) → p c ≡ true → c < 128) → (text : Text) → IsAscii (run p text)
run_ascii p small [] i = omega arith
run_ascii p small (x ∷ text) i = go (p x.1) refl i (run_ascii p small text)
  where
    go : (b : Bool) → p x.1 ≡ b → (i : ℕ) → IsAscii (run p text) → get_or (cond b (x.1 ∷ run p text) []) i 0 < 128
    go true e zero h = small x.1 e
    go true e (suc i) h = h i
    go false e i h = omega arith

-- no punctuation stands beyond ASCII
wide_no_punctuation : (c : ℕ) → 128 ≤ c → punctuation_of c ≡ None
wide_no_punctuation c h =
    rw (
      ne_eqb c 10 (λ e. absurd (omega arith)),
      ne_eqb c 61 (λ e. absurd (omega arith)),
      ne_eqb c 46 (λ e. absurd (omega arith)),
      ne_eqb c 44 (λ e. absurd (omega arith)),
      ne_eqb c 58 (λ e. absurd (omega arith)),
      ne_eqb c 43 (λ e. absurd (omega arith)),
      ne_eqb c 123 (λ e. absurd (omega arith)),
      ne_eqb c 125 (λ e. absurd (omega arith)),
      ne_eqb c 91 (λ e. absurd (omega arith)),
      ne_eqb c 93 (λ e. absurd (omega arith)),
    ) refl

punctuation_small : (c : ℕ) (l : Lexeme) → punctuation_of c ≡ Some l → (c < 128) × (c ≢ 13)
punctuation_small c l e = (go (cases_lt c 128), λ k. let z : punctuation_of 13 ≡ Some l = rw k at e in cc)
  where
    go : (c < 128) ⊎ (128 ≤ c) → c < 128
    go (inl h) = h
    go (inr h) = let z : None ≡ Some l = sym (wide_no_punctuation c h) ∙ e in cc

bare_source : (t : Token) (bytes : List ℕ) → IsBare t → HasSource t bytes
bare_source (token.Whitespace text) bytes h = absurd h
bare_source (token.Comment text) bytes h = absurd h
bare_source (token.Keylike text) bytes h = absurd h
bare_source (token.String src val m) bytes h = absurd h
bare_source _ bytes h = tt

bare_borrows : (bytes : List ℕ) (at : ℕ) (t : Token) (end : ℕ) → IsBare t → BorrowsRightly bytes at t end
bare_borrows bytes at (token.String src val m) end h = absurd h
bare_borrows bytes at _ end h = tt

-- a value is borrowed exactly where it is no copy
borrowed_where : (val : CowStr Global) (b : Bool) → is_owned val ≡ b → IsBorrowedStr val ↔ (b ≡ false)
borrowed_where (Borrowed text) b e = (λ _. sym e, λ _. tt)
borrowed_where (Owned text) b e = (λ h. absurd h, λ f. let z : true ≡ false = e ∙ f in absurd (both_ways true z refl))

-- a character of which a first byte tells nothing, and back
pub untold : (c : ℕ) → punctuation_of c ≡ None → is_blank c ≡ false → is_keylike c ≡ false → (c == 35) ≡ false
    → tells_unquoted c ≡ false
untold c s b k h = rw (s, b, k, h) refl

none_of : (o : Option Lexeme) → not (is_none o) ≡ false → o ≡ None
none_of None h = refl
none_of (Some l) h = cc

neither : (a b : Bool) → (a || b) ≡ false → (a ≡ false) × (b ≡ false)
neither false false h = (refl, refl)
neither true b h = cc
neither false true h = cc

-- a character that begins no token
begins_none : (c : ℕ) → punctuation_of c ≡ None → is_blank c ≡ false → is_keylike c ≡ false → (c == 35) ≡ false
    → is_quote c ≡ false → begins_token c ≡ false
begins_none c s b k h q = rw (s, b, k, h, q) refl

wide_none : (c : ℕ) → 128 ≤ c → begins_token c ≡ false
wide_none c h =
    begins_none c (wide_no_punctuation c h) (grind (arith, nat_tests)) (grind (arith, nat_tests, or_from))
    (ne_eqb c 35 (λ e. absurd (omega arith))) (grind (arith, nat_tests))

module _ (bytes : List ℕ) (at : ℕ) (whole : IsUtf8 bytes) (here : IsCharBoundary bytes at)
    (within : at < length bytes) where
  -- a run of ASCII characters, as bytes
  run_source : (p : ℕ → Bool) (end : ℕ) → ((c : ℕ) → p c ≡ true → c < 128) → IsRun p bytes at end
      → run p (text_at bytes at) ≡ between bytes at end
  run_source p end small r = sym (encodes-IsAscii (run p (text_at bytes at)) (run_ascii p small (text_at bytes at))) ∙
      r.spelled

  -- the run goes past its first character
  run_forward : (p : ℕ → Bool) (end c : ℕ) → IsStep bytes at c (at + 1) → p c ≡ true → IsRun p bytes at end → at < end
  run_forward p end c s h r = go (cases_lt at end)
    where
      go : (at < end) ⊎ (end ≤ at) → at < end
      go (inl l) = l
      go (inr l) =
          let same : end ≡ at = omega (arith, r.forward) in
          let longer : length (text_at bytes at) ≡ suc (length (text_at bytes (at + 1))) = ap length s.text in
          let shorter : text_at bytes at ≡ after_run p (text_at bytes (at + 1)) = ap (text_at bytes) (sym same) ∙
          r.rest ∙ ap (after_run p) s.text ∙
          ap (λ (b : Bool). cond b (after_run p (text_at bytes (at + 1))) ((at, c) ∷ text_at bytes (at + 1))) h in
          absurd (omega (arith, longer, ap length shorter, length-after p (text_at bytes (at + 1))))

  pub word_found : (text : Bor (List ℕ)) (end : ℕ) → is_keylike (get_or bytes at 0) ≡ true
      → IsRun is_keylike bytes at end → text.now ≡ between bytes at end → IsTaken bytes at (token.Keylike text) end
  word_found text end h r e =
      let (small, no_return) = keylike_small (get_or bytes at 0) h in
      let s = byte_step bytes at whole here within (get_or bytes at 0) refl small no_return in
      record {
        stands = record {
          token = subst (λ (t : Text). IsToken (between bytes at end) (text_at bytes at) (keylike text.now) t)
              (sym r.rest)
              (subst (λ (t : List ℕ). IsToken (between bytes at end) (text_at bytes at) (keylike t)
              (after_run is_keylike (text_at bytes at)))
              (run_source is_keylike end (λ c k. (keylike_small c k).0) r ∙ sym e) (word s.text h));
          boundary = r.boundary;
          forward = run_forward is_keylike end (get_or bytes at 0) s h r;
        };
        source = e;
        borrows = tt;
      }

  pub blanks_found : (text : Bor (List ℕ)) (end : ℕ) → is_blank (get_or bytes at 0) ≡ true
      → IsRun is_blank bytes at end → text.now ≡ between bytes at end → IsTaken bytes at (token.Whitespace text) end
  blanks_found text end h r e =
      let (small, no_return) = blank_small (get_or bytes at 0) h in
      let s = byte_step bytes at whole here within (get_or bytes at 0) refl small no_return in
      record {
        stands = record {
          token = subst (λ (t : Text). IsToken (between bytes at end) (text_at bytes at) (whitespace text.now) t)
              (sym r.rest)
              (subst (λ (t : List ℕ). IsToken (between bytes at end) (text_at bytes at) (whitespace t)
              (after_run is_blank (text_at bytes at))) (run_source is_blank end (λ c k. (blank_small c k).0) r ∙
              sym e) (blanks s.text h));
          boundary = r.boundary;
          forward = run_forward is_blank end (get_or bytes at 0) s h r;
        };
        source = e;
        borrows = tt;
      }

  hash_step : get_or bytes at 0 ≡ 35 → IsStep bytes at 35 (at + 1)
  hash_step h = byte_step bytes at whole here within 35 h (omega arith) (λ e. absurd (omega arith))

  pub hash_boundary : get_or bytes at 0 ≡ 35 → IsCharBoundary bytes (at + 1)
  hash_boundary h = (hash_step h).boundary

  pub comment_found : (text : Bor (List ℕ)) (end : ℕ) → get_or bytes at 0 ≡ 35 → IsRun is_comment bytes (at + 1) end
      → text.now ≡ between bytes at end → IsTaken bytes at (token.Comment text) end
  comment_found text end h r e =
      let s = hash_step h in
      let spelled : encode_utf8_all (35 ∷ run is_comment (text_at bytes (at + 1))) ≡ text.now =
      ap (λ (t : List ℕ). t ++ encode_utf8_all (run is_comment (text_at bytes (at + 1))))
      (encode_ascii 35 (omega arith)) ∙ ap (λ (t : List ℕ). 35 ∷ t) r.spelled
      ∙ ap (λ (b : ℕ). b ∷ between bytes (at + 1) end) (sym h) ∙
      sym (between_cons bytes at end within (omega (arith, r.forward))) ∙ sym e in
      record {
        stands = record {
          token = subst (λ (t : Text). IsToken (between bytes at end) (text_at bytes at) (comment text.now) t)
              (sym r.rest)
              (subst (λ (t : List ℕ). IsToken (between bytes at end) (text_at bytes at) (comment t)
              (after_run is_comment (text_at bytes (at + 1)))) spelled (remark s.text));
          boundary = r.boundary;
          forward = omega (arith, r.forward);
        };
        source = e;
        borrows = tt;
      }

  pub punctuation_found : (t : Token) → IsPunctuation (get_or bytes at 0) (Some t) → IsTaken bytes at t (at + 1)
  punctuation_found t h =
      let (small, no_return) = punctuation_small (get_or bytes at 0) (lexeme_of t) h.0 in
      let s = byte_step bytes at whole here within (get_or bytes at 0) refl small no_return in
      record {
        stands = record { token = punctuation s.text h.0; boundary = s.boundary; forward = omega arith };
        source = bare_source t (between bytes at (at + 1)) h.1;
        borrows = bare_borrows bytes at t (at + 1) h.1;
      }

  pub feed_found : (next : ℕ) → IsStep bytes at 10 next → IsTaken bytes at token.Newline next
  feed_found next s = record {
    stands =
        record { token = punctuation s.text refl; boundary = s.boundary; forward = s.later };
    source = tt;
    borrows = tt;
  }

  pub string_found : (q : Quoted) → IsQuoted bytes at q → IsTaken bytes at (token.String q.src q.val q.multiline) q.end
  string_found q h = record {
    stands = record {
      token = subst (λ (v : List ℕ). IsToken (between bytes at q.end) (text_at bytes at)
          (string q.src.now v q.multiline) (text_at bytes q.end)) (sym h.spelled)
          (subst (λ (t : List ℕ). IsToken (between bytes at q.end) (text_at bytes at)
          (string t (encode_utf8_all h.value) q.multiline) (text_at bytes q.end)) (sym h.source) (quoted h.string));
      boundary = h.boundary;
      forward = h.forward;
    };
    source = h.source;
    borrows = (
      borrowed_where q.val (is_copied q.multiline q.src.now) (h.copied ∙
          ap (is_copied q.multiline) (sym h.source)),
      h.slice,
    );
  }

  pub string_refused : (stop : TokenStop) → IsRefused bytes at stop → IsFound bytes at (Err stop)
  string_refused stop (inl (b, there, later)) = inl (record { fault_is = broken b; boundary = there; forward = later })
  string_refused stop (inr h) = inr h

  pub other_found : (c next : ℕ) → IsStep bytes at c next → c ≢ 10 → tells_unquoted (get_or bytes at 0) ≡ false
      → get_or bytes at 0 ≢ 34 → get_or bytes at 0 ≢ 39 → FaultAt bytes at (Unexpected at c) next
  other_found c next s ne h q l =
      record { fault_is = unexpected s.text (go (cases_lt c 128)); boundary = s.boundary; forward = s.later }
    where
      go : (c < 128) ⊎ (128 ≤ c) → begins_token c ≡ false
      go (inl small) =
          let b = get_or bytes at 0 in
          let (first, second) = neither _ _ h in
          let (no_punctuation, no_blank) = neither _ _ first in
          let (no_word, no_hash) = neither _ _ second in
          subst (λ (d : ℕ). begins_token d ≡ false) (s.byte small ne)
          (begins_none b (none_of (punctuation_of b) no_punctuation) no_blank no_word no_hash
          (or_from (b == 34) (b == 39) (ne_eqb b 34 q) (ne_eqb b 39 l)))
      go (inr wide) = wide_none c wide
