-- Keys that differ, and one more of them.
use Rattle.std.proofs.Common.{◌≡◌, ℕ, suc, zero, ◌+◌, true, false, ◌||◌, List, [], ◌∷◌, ◌++◌, length, take, drop}
use Rattle.std.proofs.Common.{refl, sym, ◌∙◌, IsTrue, arith, Some}
use Rattle.std.specs.List.{slice_get}
use Rattle.std.specs.Str.{bytes_eq}
use Rattle.std.proofs.Math.Bool.{or_comm, or_assoc}
use Rattle.std.proofs.lemmas.List.{append-nil}
use Rattle.std.proofs.lemmas.Slice.Eq.{bytes_eq-Decides}
use Rattle.basic_toml_index.specs.Keys.{is_among, are_distinct}

pub bytes_eq-same : (key : List ℕ) → bytes_eq key key ≡ true
bytes_eq-same key = grind (arith, bytes_eq-Decides key key)

pub bytes_eq_other : (k key : List ℕ) → bytes_eq key k ≡ false → bytes_eq k key ≡ false
bytes_eq_other k key other = grind (arith, bytes_eq-Decides key k, bytes_eq-Decides k key)

pub is_among_at : (keys : List (List ℕ)) (i : ℕ) (key : List ℕ) → slice_get keys i ≡ Some key → is_among keys key ≡ true
is_among_at [] i key at = absurd (cc)
is_among_at (k ∷ ks) zero key at = grind (arith, bytes_eq-Decides key k, at)
is_among_at (k ∷ ks) (suc i) key at = grind (arith, is_among_at ks i key at)

-- the first of distinct keys is none of the later ones
pub first_differs : (k : List ℕ) (ks : List (List ℕ)) (i : ℕ) (key : List ℕ) → IsTrue (are_distinct (k ∷ ks))
    → slice_get ks i ≡ Some key → bytes_eq key k ≡ false
first_differs k ks i key distinct at = grind (arith, bytes_eq-Decides key k, is_among_at ks i key at, distinct)

pub is_among-insert : (xs ys : List (List ℕ)) (key other : List ℕ)
    → is_among (xs ++ key ∷ ys) other ≡ (is_among (xs ++ ys) other || bytes_eq other key)
is_among-insert [] ys key other = or_comm (bytes_eq other key) (is_among ys other)
is_among-insert (x ∷ xs) ys key other =
    rw (is_among-insert xs ys key other)
    (sym (or_assoc (bytes_eq other x) (is_among (xs ++ ys) other) (bytes_eq other key)))

pub is_among-push : (keys : List (List ℕ)) (key other : List ℕ)
    → is_among (keys ++ key ∷ []) other ≡ (is_among keys other || bytes_eq other key)
is_among-push keys key other = is_among-insert keys [] key other ∙ rw (append-nil keys) refl

absent-push : (keys : List (List ℕ)) (key other : List ℕ) → is_among keys other ≡ false → bytes_eq other key ≡ false
    → is_among (keys ++ key ∷ []) other ≡ false
absent-push keys key other absent differs = is_among-push keys key other ∙ rw absent differs

pub are_distinct-push : (keys : List (List ℕ)) (key : List ℕ) → IsTrue (are_distinct keys) → is_among keys key ≡ false
    → IsTrue (are_distinct (keys ++ key ∷ []))
are_distinct-push [] key distinct absent = refl
are_distinct-push (k ∷ ks) key distinct absent =
    grind (arith, are_distinct-push ks key, absent-push ks key k, bytes_eq_other k key, distinct, absent)

-- a key passed over that is not the one looked for leaves the question as it was
pub is_among-drop : (keys : List (List ℕ)) (i : ℕ) (k key : List ℕ) → slice_get keys i ≡ Some k
    → bytes_eq k key ≡ false → is_among (drop i keys) key ≡ is_among (drop (i + 1) keys) key
is_among-drop [] i k key at differs = absurd (cc)
is_among-drop (l ∷ ks) zero k key at differs = let same : l ≡ k = cc in rw (same, bytes_eq_other key k differs) refl
is_among-drop (l ∷ ks) (suc i) k key at differs = let e : suc i + 1 ≡ suc (i + 1) = omega arith in
    rw e (is_among-drop ks i k key at differs)

-- a key is none of those before it
pub is_among-before : (keys : List (List ℕ)) (i : ℕ) (key : List ℕ) → IsTrue (are_distinct keys)
    → slice_get keys i ≡ Some key → is_among (take i keys) key ≡ false
is_among-before [] i key distinct at = absurd (cc)
is_among-before (k ∷ ks) zero key distinct at = refl
is_among-before (k ∷ ks) (suc i) key distinct at =
    grind (arith, is_among-before ks i key, first_differs k ks i key distinct at, distinct, at)

pub slice_get-last : (keys : List (List ℕ)) (key : List ℕ) → slice_get (keys ++ key ∷ []) (length keys) ≡ Some key
slice_get-last [] key = refl
slice_get-last (k ∷ ks) key = slice_get-last ks key

pub ruleset keys_passed = (is_among-drop)
