-- Bytes that stand for themselves between quotes.
use Rattle.std.proofs.Common.{◌≡◌, ℕ, zero, suc, ◌<◌, Bool, true, false, not, List, [], ◌∷◌}
use Rattle.std.proofs.Common.{get_or, drop, refl, sym, ◌∙◌, ap, arith}
use Rattle.std.specs.Prelude.{◌&&◌, ◌==◌, nat_lt}
use Rattle.std.specs.List.{list_all}
use Rattle.std.proofs.lemmas.Bool.Decides.{nat_tests}
use Rattle.std.proofs.lemmas.Bool.{true≢false}
use Rattle.basic_toml_layout.specs.Texts.{needs_escape, quoted_bytes}
use Rattle.basic_toml_layout.proofs.QuotedUpToEscape.{quoted_byte_plain}

pub zero_is : (n : ℕ) → (n == 0) ≡ true → n ≡ 0
zero_is n e = grind (arith, nat_tests)

-- a byte that is no control character, no quote and no backslash
pub plain_where : (b : ℕ) → nat_lt b 32 ≡ false → (b == 34) ≡ false → (b == 92) ≡ false → (b == 127) ≡ false
    → needs_escape b ≡ false
plain_where b p q r s = grind (arith, nat_tests)

-- where the first bytes stand for themselves, all do where the rest does
pub plain_from : (bs : List ℕ) (n : ℕ) → ((k : ℕ) → k < n → needs_escape (get_or bs k 0) ≡ false)
    → list_all (λ b. not (needs_escape b)) (drop n bs) ≡ list_all (λ b. not (needs_escape b)) bs
plain_from bs zero plain = refl
plain_from [] (suc n) plain = refl
plain_from (b ∷ bs) (suc n) plain =
    plain_from bs n (λ k lt. plain (suc k) (omega arith))
    ∙ ap (λ escapes. not escapes && list_all (λ b. not (needs_escape b)) bs) (sym (plain 0 (omega arith)))

-- they are copied as they are
copied : (b : ℕ) (bs : List ℕ) (escapes : Bool) → needs_escape b ≡ escapes
    → (list_all (λ b. not (needs_escape b)) bs ≡ true → quoted_bytes bs ≡ bs)
    → (not escapes && list_all (λ b. not (needs_escape b)) bs) ≡ true → quoted_bytes (b ∷ bs) ≡ b ∷ bs
copied b bs true is rest plain = absurd (true≢false (sym plain))
copied b bs false is rest plain = rw (quoted_byte_plain b is, rest plain) refl

pub plain_is : (bs : List ℕ) → list_all (λ b. not (needs_escape b)) bs ≡ true → quoted_bytes bs ≡ bs
plain_is [] plain = refl
plain_is (b ∷ bs) plain = copied b bs (needs_escape b) refl (plain_is bs) plain
