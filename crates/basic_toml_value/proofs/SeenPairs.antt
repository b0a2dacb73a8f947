-- The pairs of a table in memory, and what is seen of them.
use Rattle.std.proofs.Common.{◌≡◌, ℕ, suc, zero, ◌+◌, ◌<◌, true, false, List, [], ◌∷◌, ◌++◌, length, drop, refl, sym}
use Rattle.std.proofs.Common.{ap, ◌∙◌, arith, IsTrue, Some, None, get_or, is_some, cond}
use Rattle.std.specs.Str.{bytes_eq}
use Rattle.std.specs.List.{slice_get}
use Rattle.std.proofs.lemmas.List.{map-append}
use Rattle.basic_toml_value.specs.declared.pairs.Pair.{Pair}
use Rattle.basic_toml_value.specs.Text.{text_bytes}
use Rattle.basic_toml_value.specs.Entries.{pair_seen, seen, texts_of}
use Rattle.basic_toml_index.specs.Keys.{is_among, are_distinct}
use Rattle.basic_toml_value.specs.Pairs.{keys_of, has_key, value_at, Gains}
use Rattle.basic_toml_index.proofs.DistinctKeys.{bytes_eq-same, first_differs, is_among_at}

module _ {V : Type 0} where
  pub keys_of-seen : (pairs : List (Pair V)) → keys_of (seen pairs) ≡ texts_of pairs
  keys_of-seen [] = refl
  keys_of-seen (p ∷ ps) = ap (λ keys. text_bytes p.key ∷ keys) (keys_of-seen ps)

  pub has_key-seen : (pairs : List (Pair V)) (key : List ℕ) → has_key (seen pairs) key ≡ is_among (texts_of pairs) key
  has_key-seen pairs key = ap (λ keys. is_among keys key) (keys_of-seen pairs)

  -- a key is there exactly where it has a value
  pub has_key-value_at : (pairs : List (List ℕ × V)) (key : List ℕ) → has_key pairs key ≡ is_some (value_at pairs key)
  has_key-value_at [] key = refl
  has_key-value_at (p ∷ ps) key = grind (arith, has_key-value_at ps key)

  -- the value of the pair that has the key
  pub value_at-found : (pairs : List (Pair V)) (i : ℕ) (pair : Pair V) (key : List ℕ)
      → IsTrue (are_distinct (texts_of pairs)) → slice_get (texts_of pairs) i ≡ Some key → pair ≡ get_or pairs i pair
      → value_at (seen pairs) key ≡ Some pair.value
  value_at-found [] i pair key distinct at read = absurd (cc)
  value_at-found (p ∷ ps) zero pair key distinct at read = grind (arith, bytes_eq-same (text_bytes p.key), at, read)
  value_at-found (p ∷ ps) (suc i) pair key distinct at read =
      rw (first_differs (text_bytes p.key) (texts_of ps) i key distinct at)
      (value_at-found ps i pair key (grind (arith, distinct)) at read)

  pub value_at-absent : (pairs : List (Pair V)) (key : List ℕ) → is_among (texts_of pairs) key ≡ false
      → value_at (seen pairs) key ≡ None
  value_at-absent [] key absent = refl
  value_at-absent (p ∷ ps) key absent = grind (arith, value_at-absent ps key, absent)

  pub has_key-found : (pairs : List (Pair V)) (i : ℕ) (key : List ℕ) → slice_get (texts_of pairs) i ≡ Some key
      → has_key (seen pairs) key ≡ true
  has_key-found pairs i key at = has_key-seen pairs key ∙ is_among_at (texts_of pairs) i key at

  pub seen-push : (pairs : List (Pair V)) (pair : Pair V) → seen (pairs ++ pair ∷ []) ≡ seen pairs ++ pair_seen pair ∷ []
  seen-push pairs pair = map-append pair_seen pairs (pair ∷ [])

  pub texts_of-push : (pairs : List (Pair V)) (pair : Pair V) → texts_of (pairs ++ pair ∷ []) ≡ texts_of pairs
      ++ text_bytes pair.key ∷ []
  texts_of-push pairs pair = map-append (λ p. text_bytes p.key) pairs (pair ∷ [])

  -- the pair at an index, and the pairs after it
  pub seen-drop : (pairs : List (Pair V)) (i : ℕ) (pair : Pair V) → i < length pairs → pair ≡ get_or pairs i pair
      → drop i (seen pairs) ≡ pair_seen pair ∷ drop (i + 1) (seen pairs)
  seen-drop [] i pair within read = absurd (omega arith)
  seen-drop (p ∷ ps) zero pair within read = ap (λ q. pair_seen q ∷ seen ps) (sym read)
  seen-drop (p ∷ ps) (suc i) pair within read = let e : suc i + 1 ≡ suc (i + 1) = omega arith in
      rw e (seen-drop ps i pair (omega arith) read)

  value_at-pushed : (pairs : List (List ℕ × V)) (key : List ℕ) (value : V) → has_key pairs key ≡ false
      → value_at (pairs ++ (key, value) ∷ []) key ≡ Some value
  value_at-pushed [] key value absent = grind (arith, bytes_eq-same key)
  value_at-pushed (p ∷ ps) key value absent = grind (arith, value_at-pushed ps key value, absent)

  value_at-other : (pairs : List (List ℕ × V)) (key : List ℕ) (value : V) (other : List ℕ)
      → bytes_eq other key ≡ false → value_at (pairs ++ (key, value) ∷ []) other ≡ value_at pairs other
  value_at-other [] key value other differs = grind (arith, differs)
  value_at-other (p ∷ ps) key value other differs =
      ap (cond (bytes_eq other p.0) (Some p.1)) (value_at-other ps key value other differs)

  -- a pair put last, whose key is not there yet
  pub pushed_gains : (old new : List (List ℕ × V)) (key : List ℕ) (value : V) → has_key old key ≡ false
      → new ≡ old ++ (key, value) ∷ [] → Gains old key value new
  pushed_gains old new key value absent last = record {
    absent = absent;
    there = ap (λ ps. value_at ps key) last ∙ value_at-pushed old key value absent;
    others = λ other differs. ap (λ ps. value_at ps other) last ∙ value_at-other old key value other differs;
  }

pub ruleset seen_pairs = (keys_of-seen, has_key-seen, has_key-found, value_at-found, value_at-absent, pushed_gains)
