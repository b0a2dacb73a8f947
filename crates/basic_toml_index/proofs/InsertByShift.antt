-- A vector pushed to, and then shifted up by one from an index on, has room there.
use Rattle.std.proofs.Common.{◌≡◌, ℕ, zero, suc, ◌+◌, ◌-◌, ◌≤◌, List, [], ◌∷◌, ◌++◌, length, length-append, take}
use Rattle.std.proofs.Common.{drop, set, refl, ap, add-one, arith}
use Rattle.std.specs.List.{copy_within, insert}
use Rattle.std.proofs.lemmas.List.{take_at, drop_all, append-nil}

shifted : {A : Type 0} (xs : List A) (x : A) (i : ℕ) → i ≤ length xs →
    set ((take (suc i) (xs ++ x ∷ []) ++ take (length xs - i) (drop i (xs ++ x ∷ [])))
    ++ drop (suc (length xs)) (xs ++ x ∷ [])) i x ≡ take i xs ++ x ∷ drop i xs
shifted [] x zero within = refl
shifted [] x (suc i) within = absurd (omega arith)
shifted (y ∷ ys) x zero within =
    let e : suc (length ys) - 0 ≡ suc (length ys) = omega arith in
    rw (
      e,
      take_at ys (x ∷ []) (length ys) refl,
      drop_all (suc (length ys)) (ys ++ x ∷ []) (omega (arith, length-append ys (x ∷ []))),
    )
    (ap (λ l. x ∷ y ∷ l) (append-nil ys))
shifted (y ∷ ys) x (suc i) within =
    let e : suc (length ys) - suc i ≡ length ys - i = omega arith in
    rw e (ap (λ l. y ∷ l) (shifted ys x i (omega arith)))

pub shifted_up : {A : Type 0} (xs : List A) (x : A) (i len : ℕ) → len ≡ length xs → i ≤ len
    → set (copy_within (xs ++ x ∷ []) i len (i + 1)) i x ≡ insert xs i x
shifted_up xs x i len is within =
    let e : i + 1 + (length xs - i) ≡ suc (length xs) = omega arith in
    rw (is, e, add-one) (shifted xs x i (omega arith))
