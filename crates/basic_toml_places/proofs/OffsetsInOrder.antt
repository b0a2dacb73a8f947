-- Offsets in order: each behind the one before it, and none behind the text that they stand in.
use Rattle.std.proofs.Common.{◌≡◌, ℕ, zero, suc, ◌+◌, ◌≤◌, List, [], ◌∷◌, ◌++◌, arith}
use Rattle.std.specs.List.Sorted.{IsStrictlyIncreasing}
use Rattle.basic_toml_tokens.specs.Text.{Text}
use Rattle.basic_toml_places.proofs.OffsetsRise.{Rises}

-- each behind the one before it, from m on and before n
abbrev pub Between : ℕ → List ℕ → ℕ → Type 0
Between m [] n = m ≤ n
Between m (x ∷ xs) n = (m ≤ x) × Between (suc x) xs n

between_from_less : (m k n : ℕ) (xs : List ℕ) → m ≤ k → Between k xs n → Between m xs n
between_from_less m k n [] h b = omega arith
between_from_less m k n (x ∷ xs) h b = (omega arith, b.1)

pub between_append : (m k n : ℕ) (xs ys : List ℕ) → Between m xs k → Between k ys n → Between m (xs ++ ys) n
between_append m k n [] ys a b = between_from_less m k n ys a b
between_append m k n (x ∷ xs) ys a b = (a.0, between_append (suc x) k n xs ys a.1 b)

pub between_increases : (m n : ℕ) (xs : List ℕ) → Between m xs n → IsStrictlyIncreasing xs
between_increases m n [] b k h = absurd (omega arith)
between_increases m n (x ∷ []) b k h = absurd (omega arith)
between_increases m n (x ∷ y ∷ xs) b zero h = omega arith
between_increases m n (x ∷ y ∷ xs) b (suc k) h =
    let e : suc k + 1 ≡ suc (k + 1) = omega arith in
    rw e (between_increases (suc x) n (y ∷ xs) b.1 k (omega arith))

-- The offsets of values that stand before the rest, from n on. None is behind `end`, and nothing of the rest stands
-- before it.
pub record IsInOrder (n : ℕ) (offsets : List ℕ) (rest : Text) : Type 0 where
  pub end : ℕ
  pub between : Between n offsets (suc end)
  pub behind : Rises end rest

pub none_in_order : (n : ℕ) (rest : Text) → Rises n rest → IsInOrder n [] rest
none_in_order n rest r = record { end = n; between = omega arith; behind = r }

-- offsets, and then others
pub then_in_order : {rest : Text} (n k : ℕ) (xs ys : List ℕ) → Between n xs k → IsInOrder k ys rest
    → IsInOrder n (xs ++ ys) rest
then_in_order n k xs ys a b = record {
  end = b.end;
  between = between_append n k (suc b.end) xs ys a b.between;
  behind = b.behind;
}
