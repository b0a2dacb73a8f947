-- A string with a backslash before each quote and each backslash, a character at a time.
use Rattle.std.proofs.Common.{◌≡◌, ℕ, suc, ◌<◌, List, [], ◌∷◌, ◌++◌, length, get_or, refl, sym, ap, ◌∙◌}
use Rattle.std.proofs.Common.{arith, append_assoc, append-nil}
use Rattle.std.proofs.lemmas.Bool.Decides.{nat_tests}
use Rattle.std.proofs.lemmas.Grind.{flat_map-append}
use Rattle.std.proofs.lemmas.Str.{inside_one}
use Rattle.std.proofs.Math.Utf8.{encode}
use Rattle.basic_toml_error.specs.NodeFaults.{escaped_quotes, escaped_quote}

-- a byte that is no quote and no backslash
record IsPlain (b : ℕ) : Type 0 where
  no_quote : b ≡ 34 → ⊥
  no_backslash : b ≡ 92 → ⊥

plain_byte : (b : ℕ) → IsPlain b → escaped_quote b ≡ b ∷ []
plain_byte b p = grind (arith, nat_tests, p.no_quote, p.no_backslash)

plain_bytes : (bs : List ℕ) → ((k : ℕ) → k < length bs → IsPlain (get_or bs k 0)) → escaped_quotes bs ≡ bs
plain_bytes [] p = refl
plain_bytes (b ∷ bs) p =
    rw (plain_byte b (p 0 (omega arith)), plain_bytes bs (λ k lt. p (suc k) (omega arith))) refl

byte_of_char : (c k : ℕ) → k < length (encode c) → get_or (encode c) k 0 < 128 → c ≡ get_or (encode c) k 0
byte_of_char c k lt small = inside_one c [] (encode c) k (sym (append-nil (encode c))) lt small

-- the bytes of another character
pub plain_char : (c : ℕ) → (c ≡ 34 → ⊥) → (c ≡ 92 → ⊥) → escaped_quotes (encode c) ≡ encode c
plain_char c q b = plain_bytes (encode c) (λ k lt. record {
  no_quote = λ e. q (byte_of_char c k lt (omega arith) ∙ e);
  no_backslash = λ e. b (byte_of_char c k lt (omega arith) ∙ e);
})

-- a step over a character
pub quoted_step : (c : ℕ) (written old rest all : List ℕ) → old ≡ encode c ++ rest
    → written ++ escaped_quotes old ≡ all → (written ++ escaped_quotes (encode c)) ++ escaped_quotes rest ≡ all
quoted_step c written old rest all step so_far =
    append_assoc written (escaped_quotes (encode c)) (escaped_quotes rest)
    ∙ ap (λ z. written ++ z) (sym (flat_map-append escaped_quote (encode c) rest) ∙ ap escaped_quotes (sym step)) ∙ so_far
