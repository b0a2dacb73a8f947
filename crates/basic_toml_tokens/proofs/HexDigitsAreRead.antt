-- Hexadecimal digits one by one.
use Rattle.std.proofs.Common.{◌≡◌, ℕ, zero, suc, ◌+◌, ◌-◌, ◌*◌, ◌<◌, ◌≤◌, ◌^◌, Bool, cond, ◌∷◌, ap, ◌∙◌, arith}
use Rattle.std.specs.Char.{digit_value}
use Rattle.std.proofs.lemmas.Bool.{lt-ltb, false_from_ne_true, ltb-true}
use Rattle.std.proofs.lemmas.Grind.{pow_more}
use Rattle.basic_toml_tokens.specs.declared.error.Error.TheVariants.{InvalidHexEscape}
use Rattle.basic_toml_tokens.specs.Text.{Text}
use Rattle.basic_toml_tokens.specs.Strings.{is_hex}
use Rattle.basic_toml_tokens.specs.BodyFront.{Front, broken, hex_front}

module _ (start letter u n m at c : ℕ) (text rest : Text) (more : n ≡ suc m) (here : text ≡ (at, c) ∷ rest) where
  abbrev taken : Bool → Front
  taken b = cond b (hex_front start letter (u * 16 + digit_value c) m rest) (broken (InvalidHexEscape at c) rest)

  read : hex_front start letter u n text ≡ taken (is_hex c)
  read = ap (λ (k : ℕ). hex_front start letter u k text) more ∙ ap (hex_front start letter u (suc m)) here

  pub hex_digit : digit_value c < 16
      → hex_front start letter u n text ≡ hex_front start letter (u * 16 + digit_value c) m rest
  hex_digit h = read ∙ ap taken (lt-ltb (digit_value c) 16 h)

  pub hex_other : (digit_value c < 16 → ⊥) → hex_front start letter u n text ≡ broken (InvalidHexEscape at c) rest
  hex_other h = read ∙ ap taken (false_from_ne_true (is_hex c) (λ e. h (ltb-true (digit_value c) 16 e)))

pub hex_grows : (number digit k : ℕ) → number < 16 ^ k → digit < 16 → number * 16 + digit < 16 ^ (k + 1)
hex_grows number digit k h d = omega (arith, pow_more 16 k)

rising : (a b : ℕ) → 16 ^ a ≤ 16 ^ (a + b)
rising a zero = let e : a + 0 ≡ a = omega arith in omega (arith, ap (λ (n : ℕ). 16 ^ n) e)
rising a (suc b) = let e : a + suc b ≡ a + b + 1 = omega arith in
    omega (arith, rising a b, pow_more 16 (a + b), ap (λ (n : ℕ). 16 ^ n) e)

-- at most eight digits write less than 2 ^ 32
pub hex_fits : (number digit k : ℕ) → k < 8 → number < 16 ^ k → digit < 16 → number * 16 + digit < 2 ^ 32
hex_fits number digit k l h d =
    let whole : k + 1 + (7 - k) ≡ 8 = omega arith in
    omega (arith, hex_grows number digit k h d, rising (k + 1) (7 - k), ap (λ (n : ℕ). 16 ^ n) whole)
