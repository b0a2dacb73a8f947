-- Keys that are added to others.
use Rattle.std.proofs.Common.{◌≡◌, ℕ, zero, suc, ◌+◌, ◌<◌, Bool, true, false, List, [], ◌∷◌, ◌++◌, IsTrue, Some}
use Rattle.std.proofs.Common.{◌||◌, sym, length, take, get_or, refl, ap, ◌∙◌, cond, arith, add-one, subst}
use Rattle.std.specs.Str.{bytes_eq}
use Rattle.std.specs.List.{slice_get}
use Rattle.std.proofs.lemmas.Slice.Eq.{bytes_eq-Decides}
use Rattle.basic_toml_index.specs.Keys.{is_among, are_distinct}
use Rattle.basic_toml_index.proofs.DistinctKeys.{is_among_at, are_distinct-push}
use Rattle.basic_toml_open_keys.specs.Keys.{PresentKeys, with_key, with_keys}

turn : (a b x : Bool) → cond a true (cond b true x) ≡ cond b true (cond a true x)
turn true true x = refl
turn true false x = refl
turn false true x = refl
turn false false x = refl

-- two keys in either order
pub with_key-turn : (k l : List ℕ) (keys : PresentKeys) → with_key k (with_key l keys) ≡ with_key l (with_key k keys)
with_key-turn k l keys = λ i q. turn (bytes_eq k q) (bytes_eq l q) (keys q) i

-- a key after those of a list
pub with_keys_push : (ks : List (List ℕ)) (k : List ℕ) → with_keys (ks ++ (k ∷ [])) ≡ with_key k (with_keys ks)
with_keys_push [] k = refl
with_keys_push (l ∷ ks) k = ap (with_key l) (with_keys_push ks k) ∙ with_key-turn l k (with_keys ks)

take_more : (ks : List (List ℕ)) (i : ℕ) → i < length ks → take (suc i) ks ≡ take i ks ++ (get_or ks i [] ∷ [])
take_more [] i lt = absurd (omega arith)
take_more (k ∷ ks) zero lt = refl
take_more (k ∷ ks) (suc i) lt = ap (λ z. k ∷ z) (take_more ks i (omega arith))

pub with_keys_take : (ks : List (List ℕ)) (i : ℕ) → i < length ks
    → with_keys (take (i + 1) ks) ≡ with_key (get_or ks i []) (with_keys (take i ks))
with_keys_take ks i lt = rw add-one (ap with_keys (take_more ks i lt) ∙ with_keys_push (take i ks) (get_or ks i []))

cond_same : (b : Bool) → cond b true true ≡ true
cond_same true = refl
cond_same false = refl

-- a key of a list is among its keys
pub with_keys_at : (ks : List (List ℕ)) (i : ℕ) (q : List ℕ) → i < length ks → bytes_eq (get_or ks i []) q ≡ true
    → with_keys ks q ≡ true
with_keys_at [] i q lt e = absurd (omega arith)
with_keys_at (k ∷ ks) zero q lt e = rw e refl
with_keys_at (k ∷ ks) (suc i) q lt e = ap (cond (bytes_eq k q) true) (with_keys_at ks i q (omega arith) e) ∙
    cond_same (bytes_eq k q)

pub same_test : (k q : List ℕ) → bytes_eq k q ≡ bytes_eq q k
same_test k q = grind (arith, bytes_eq-Decides k q, bytes_eq-Decides q k)

or_is : (a b : Bool) → cond a true b ≡ (a || b)
or_is true b = refl
or_is false b = refl

pub with_keys_among : (ks : List (List ℕ)) (q : List ℕ) → with_keys ks q ≡ is_among ks q
with_keys_among [] q = refl
with_keys_among (k ∷ ks) q = or_is (bytes_eq k q) (with_keys ks q) ∙ (λ i. same_test k q i || with_keys_among ks q i)

-- what a search for a key has found
pub key_found : (ks : List (List ℕ)) (i : ℕ) (q : List ℕ) → slice_get ks i ≡ Some q → with_keys ks q ≡ true
key_found ks i q at = with_keys_among ks q ∙ is_among_at ks i q at

pub key_absent : (ks : List (List ℕ)) (q : List ℕ) → is_among ks q ≡ false → with_keys ks q ≡ false
key_absent ks q absent = with_keys_among ks q ∙ absent

pub distinct_push : (ks : List (List ℕ)) (k : List ℕ) → IsTrue (are_distinct ks) → with_keys ks k ≡ false → IsTrue (are_distinct (ks ++ (k ∷ [])))
distinct_push ks k distinct absent = are_distinct-push ks k distinct (sym (with_keys_among ks k) ∙ absent)

among_take : (ks : List (List ℕ)) (n : ℕ) (q : List ℕ) → is_among ks q ≡ false → is_among (take n ks) q ≡ false
among_take [] zero q absent = refl
among_take [] (suc n) q absent = refl
among_take (k ∷ ks) zero q absent = refl
among_take (k ∷ ks) (suc n) q absent = grind (arith, among_take ks n q, absent)

-- the first of distinct keys
pub distinct_take : (ks ks' : List (List ℕ)) (n : ℕ) → ks' ≡ take n ks → IsTrue (are_distinct ks) → IsTrue (are_distinct ks')
distinct_take ks ks' n is distinct = subst (λ l. IsTrue (are_distinct l)) (sym is) (first ks n distinct)
  where
    first : (ks : List (List ℕ)) (n : ℕ) → IsTrue (are_distinct ks) → IsTrue (are_distinct (take n ks))
    first [] zero distinct = refl
    first [] (suc n) distinct = refl
    first (k ∷ ks) zero distinct = refl
    first (k ∷ ks) (suc n) distinct = grind (arith, first ks n, among_take ks n k, distinct)
