-- No two texts have one number; so what stands by numbers stands by texts.
use Rattle.std.proofs.Common.{◌≡◌, ℕ, suc, zero, ◌+◌, ◌*◌, ◌^◌, ◌<◌, ◌==◌, List, [], ◌∷◌, refl, sym, ap, ◌∙◌, arith}
use Rattle.std.proofs.lemmas.Nat.{pow_pos}
use Rattle.std.proofs.Math.Nat.{pow-succ', mul_assoc}
use Rattle.std.proofs.lemmas.Bool.Decides.{same_from_decides, Decides-eqb, Decides-like}
use Rattle.std.proofs.lemmas.Slice.Eq.{bytes_eq-Decides}
use Rattle.std.specs.Str.{bytes_eq}
use Rattle.basic_toml_typed.specs.FieldKeys.{text_number}

twice : (c n : ℕ) → 2 ^ suc c * (2 * n + 1) ≡ 2 * (2 ^ c * (2 * n + 1))
twice c n = rw (pow-succ' 2 c) (mul_assoc 2 (2 ^ c) (2 * n + 1))

-- a power of two times an odd number is so in one way
same_parts : (a b m n : ℕ) → 2 ^ a * (2 * m + 1) ≡ 2 ^ b * (2 * n + 1) → (a ≡ b) × (m ≡ n)
same_parts zero zero m n e = (refl, omega arith)
same_parts zero (suc b) m n e = absurd (omega (arith, e ∙ twice b n))
same_parts (suc a) zero m n e = absurd (omega (arith, sym e ∙ twice a m))
same_parts (suc a) (suc b) m n e =
    let f : 2 * (2 ^ a * (2 * m + 1)) ≡ 2 * (2 ^ b * (2 * n + 1)) = sym (twice a m) ∙ e ∙ twice b n in
    let rest : (a ≡ b) × (m ≡ n) = same_parts a b m n (omega arith) in
    (ap suc rest.0, rest.1)

is_more : (c n : ℕ) → 0 < 2 ^ c * (2 * n + 1)
is_more c n = omega (arith, pow_pos c)

pub same_text : (s t : List ℕ) → text_number s ≡ text_number t → s ≡ t
same_text [] [] e = refl
same_text [] (d ∷ ds) e = absurd (omega (arith, is_more d (text_number ds)))
same_text (c ∷ cs) [] e = absurd (omega (arith, is_more c (text_number cs)))
same_text (c ∷ cs) (d ∷ ds) e =
    let parts : (c ≡ d) × (text_number cs ≡ text_number ds) = same_parts c d (text_number cs) (text_number ds) e in
    let rest : cs ≡ ds = same_text cs ds parts.1 in
    rw (parts.0, rest) refl

pub number_test : (s t : List ℕ) → (text_number s == text_number t) ≡ bytes_eq s t
number_test s t = same_from_decides (text_number s == text_number t) (bytes_eq s t)
    (Decides-like (text_number s == text_number t) (same_text s t) (λ e. ap text_number e)
    (Decides-eqb (text_number s) (text_number t)))
    (bytes_eq-Decides s t)
