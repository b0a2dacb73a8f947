-- What is found at an offset is the only thing that stands there.
use Rattle.std.proofs.Common.{inl, inr, ◌≡◌, ℕ, ◌==◌, Bool, cond, List, [], ◌++◌, drop, refl, ap, sym, ◌∙◌, subst}
use Rattle.std.proofs.Common.{arith, encode_utf8, Err}
use Rattle.std.specs.Str.{IsUtf8, IsCharBoundary, chars}
use Rattle.std.proofs.lemmas.Str.{IsCharBoundary-past_char, chars_past_char}
use Rattle.std.proofs.lemmas.Bool.{ne_eqb, eq-eqb}
use Rattle.basic_toml_tokens.specs.declared.error.Error.TheVariants.{OutOfMemory}
use Rattle.basic_toml_tokens.specs.declared.string.TokenStop.{TokenStop}
use Rattle.basic_toml_tokens.specs.Text.{Text, text_at, first_of, start_of}
use Rattle.basic_toml_tokens.specs.TokenAt.{Lexeme, IsToken, punctuation, blanks, word, remark, quoted}
use Rattle.basic_toml_tokens.specs.Reading.{between}
use Rattle.basic_toml_tokens.specs.Token.{TokenAt}
use Rattle.basic_toml_tokens.specs.Scan.{IsFound}
use Rattle.basic_toml_tokens.specs.Tokenizer.{Stops}
use Rattle.basic_toml_tokens.proofs.RestsArePartsOfText.{no_characters, part_later}
use Rattle.basic_toml_tokens.proofs.TokenIsUnique.{token_same, token_or_fault}

-- where a token ends does not hang on its source
with_source : {s s' : List ℕ} {text rest : Text} {l : Lexeme} → IsToken s text l rest → (m : Lexeme)
    × IsToken s' text m rest
with_source (punctuation at e) = (_, punctuation at e)
with_source (blanks at h) = (_, blanks at h)
with_source (word at h) = (_, word at h)
with_source (remark at) = (_, remark at)
with_source (quoted s) = (_, quoted s)

module _ (bytes : List ℕ) (at : ℕ) (whole : IsUtf8 bytes) where
  -- offsets with the same text after them are one
  pub offsets_same : (i j : ℕ) → IsCharBoundary bytes i → IsCharBoundary bytes j → text_at bytes i ≡ text_at bytes j
      → i ≡ j
  offsets_same i j h k e =
      omega (arith, part_later bytes i j whole h.0 k (0, sym e), part_later bytes j i whole k.0 h (0, e))

  pub tokens_same : (l m : Lexeme) (i j : ℕ) → TokenAt bytes at l i → TokenAt bytes at m j → (l ≡ m) × (i ≡ j)
  tokens_same l m i j s t =
      let other = with_source {s' = between bytes at i} t.token in
      let same_rest : text_at bytes i ≡ text_at bytes j = (token_same s.token other.1).1 in
      let same : i ≡ j = offsets_same i j s.boundary t.boundary same_rest in
      let there = subst (λ (n : ℕ). IsToken (between bytes at n) (text_at bytes at) m (text_at bytes j)) (sym same)
      t.token in
      ((token_same s.token there).0, same)

  pub token_or_stop : (l : Lexeme) (end : ℕ) (stop : TokenStop) → TokenAt bytes at l end → IsFound bytes at (Err stop)
      → stop.error ≡ OutOfMemory
  token_or_stop l end stop t (inl f) = absurd (token_or_fault t.token f.fault_is)
  token_or_stop l end stop t (inr h) = h.0

pub stops_found : (text : List ℕ) (at : ℕ) (stop : TokenStop) → IsFound text at (Err stop)
    → Stops (record { text = text; offset = at }) (record { text = text; offset = stop.at }) stop.error
stops_found text at stop (inl f) = inl (stop.at, f, refl)
stops_found text at stop (inr (e, same, needs)) =
    inr (e, ap (λ (n : ℕ). record { text = text; offset = n }) same, needs)

-- a text that begins with the character c
module _ (bytes rest : List ℕ) (c : ℕ) (whole : IsUtf8 bytes) (is : drop 0 bytes ≡ encode_utf8 c ++ rest) where
  first_is : first_of (chars bytes) ≡ c
  first_is = ap first_of (chars_past_char bytes rest c whole is)

  pub start_after : c ≡ 0xFEFF → start_of bytes ≡ 3
  start_after e = ap (λ (b : Bool). cond b 3 0) (eq-eqb (first_of (chars bytes)) 0xFEFF (first_is ∙ e))

  pub boundary_after : c ≡ 0xFEFF → IsCharBoundary bytes 3
  boundary_after e = rw e at (IsCharBoundary-past_char bytes rest 0 c (omega arith) whole is)

  pub start_at : (c ≡ 0xFEFF → ⊥) → start_of bytes ≡ 0
  start_at ne = ap (λ (b : Bool). cond b 3 0) (ne_eqb (first_of (chars bytes)) 0xFEFF (λ e. ne (sym first_is ∙ e)))

pub start_of_nothing : (bytes : List ℕ) → text_at bytes 0 ≡ [] → start_of bytes ≡ 0
start_of_nothing bytes e = ap (λ (cs : List ℕ). cond (first_of cs == 0xFEFF) 3 0) (no_characters 0 (chars bytes) e)
