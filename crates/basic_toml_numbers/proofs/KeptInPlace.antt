-- A text's canonical form, kept in place byte by byte.
use Rattle.std.proofs.Common.{◌≡◌, ℕ, suc, ◌+◌, ◌<◌, true, ◌==◌, ◌||◌, ◌⊎◌, inl, inr, List, [], ◌∷◌, ◌++◌}
use Rattle.std.proofs.Common.{length, take, drop, get_or, set, subst, sym, ap, ◌∙◌, arith}
use Rattle.std.specs.Str.{IsAscii}
use Rattle.std.proofs.lemmas.Bool.{cases_Bool, eqb-true}
use Rattle.std.proofs.lemmas.Bool.Decides.{nat_tests}
use Rattle.std.proofs.lemmas.List.{append_assoc, at_drop_more, take_more_set}
use Rattle.basic_toml_numbers.specs.Numbers.{plus, underscore, canonical}
use Rattle.basic_toml_numbers.proofs.Canonical.{canonical-keeps, canonical-drops, is_ascii-cons}

-- one more byte is kept
pub kept_next : (t kept left : List ℕ) (len i k : ℕ) → canonical t ≡ take len kept ++ canonical (drop i left)
    → len < length kept → canonical (drop i left) ≡ k ∷ canonical (drop (i + 1) left)
    → canonical t ≡ take (len + 1) (set kept len k) ++ canonical (drop (i + 1) left)
kept_next t kept left len i k same room next =
    let rest = canonical (drop (i + 1) left) in
    same ∙ ap (λ r. take len kept ++ r) next ∙ sym (append_assoc (take len kept) (k ∷ []) rest)
    ∙ ap (λ front. front ++ rest) (sym (take_more_set kept len k room))

-- as it is
pub next_stays : (cs : List ℕ) (i : ℕ) → i < length cs → (get_or cs i 0 ≡ 43 → ⊥) → (get_or cs i 0 ≡ 95 → ⊥)
    → (get_or cs i 0 ≡ 101 → ⊥) → canonical (drop i cs) ≡ get_or cs i 0 ∷ canonical (drop (i + 1) cs)
next_stays cs i lt no_plus no_line no_letter =
    let c = get_or cs i 0 in
    at_drop_more canonical cs i 0 lt
    ∙ canonical-keeps c (drop (i + 1) cs) (grind (arith, nat_tests)) (grind (arith, nat_tests))

canonical-letter : (c : ℕ) (cs : List ℕ) → (c == 101) ≡ true → canonical (c ∷ cs) ≡ 69 ∷ canonical cs
canonical-letter c cs letter = ap (λ l. canonical (l ∷ cs)) (eqb-true c 101 letter)

-- as `E`
pub next_letter : (cs : List ℕ) (i : ℕ) → i < length cs → get_or cs i 0 ≡ 101
    → canonical (drop i cs) ≡ 69 ∷ canonical (drop (i + 1) cs)
next_letter cs i lt is =
    at_drop_more canonical cs i 0 lt ∙ ap (λ c. canonical (c ∷ drop (i + 1) cs)) is

-- or not at all
pub next_drops : (cs : List ℕ) (i : ℕ) → i < length cs → (get_or cs i 0 ≡ 43) ⊎ (get_or cs i 0 ≡ 95)
    → canonical (drop i cs) ≡ canonical (drop (i + 1) cs)
next_drops cs i lt is =
    at_drop_more canonical cs i 0 lt ∙ canonical-drops (get_or cs i 0) (drop (i + 1) cs) (grind (arith, nat_tests))

pub is_ascii-canonical : (cs : List ℕ) → IsAscii cs → IsAscii (canonical cs)
is_ascii-canonical [] is = is
is_ascii-canonical (c ∷ cs) is =
    let more = is_ascii-canonical cs (λ i. is (suc i)) in
    elim (cases_Bool (c == plus || c == underscore)) [
      | inl goes ↦ subst IsAscii (sym (canonical-drops c cs goes)) more
      | inr stays ↦ elim (cases_Bool (c == 101)) [
        | inl letter ↦ subst IsAscii (sym (canonical-letter c cs letter))
            (is_ascii-cons 69 (canonical cs) (omega arith) more)
        | inr same ↦ subst IsAscii (sym (canonical-keeps c cs stays same)) (is_ascii-cons c (canonical cs) (is 0) more)
      ]
    ]
