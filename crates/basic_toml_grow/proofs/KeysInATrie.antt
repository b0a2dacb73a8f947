-- A key that is entered among keys with their values, and what stands at it in the trie of these.
use Rattle.std.proofs.Common.{◌≡◌, ℕ, suc, zero, false, List, [], ◌∷◌, ◌++◌, refl, take, arith, inl, inr, ap, Some, map}
use Rattle.std.proofs.Common.{slice_get, bytes_eq}
use Rattle.std.proofs.lemmas.Bool.{cases_Bool}
use Rattle.basic_toml_index.specs.Keys.{is_among}
use Rattle.basic_toml_value.specs.Pairs.{keys_of, has_key}
use Rattle.basic_toml_index.proofs.DistinctKeys.{bytes_eq-same, bytes_eq_other}
use Rattle.basic_toml_grammar.specs.Steps as steps
use Rattle.basic_toml_grammar.specs.Trie.{Trie, nothing}
use Rattle.basic_toml_plain.specs.Tries.{by_keys}
use Rattle.basic_toml_grow.specs.Item.{trie_before}
use Rattle.basic_toml_value.specs.Growth.{with_value, values_of, FindsOrAdds}
use Rattle.basic_toml_value.specs.declared.pairs.growth.Place.{Place}
use Rattle.basic_toml_grow.proofs.LatestInATrie.{StandsAt, behind}

-- a value that stays
pub with_same : {V : Type 0} (ps : List (List ℕ × V)) (i : ℕ) (v : V) → slice_get (values_of ps) i ≡ Some v
    → with_value ps i v ≡ ps
with_same [] i v at = refl
with_same (p ∷ ps) zero v at = grind arith
with_same (p ∷ ps) (suc i) v at = grind (arith, with_same ps i v)

module _ {V : Type 0} (f : V → Trie) where
  -- keys with the tries of their values
  unfoldable pub tries_of : List (List ℕ × V) → List (List ℕ × Trie)
  tries_of ps = map (λ p. (p.0, f p.1)) ps

  pub with_mapped : (ps : List (List ℕ × V)) (i : ℕ) (v : V)
      → tries_of (with_value ps i v) ≡ with_value (tries_of ps) i (f v)
  unfolding tries_of
  with_mapped [] i v = refl
  with_mapped (p ∷ ps) zero v = refl
  with_mapped (p ∷ ps) (suc i) v = ap (λ ps. (p.0, f p.1) ∷ ps) (with_mapped ps i v)

  -- at the first position of a key
  at_first : (ps : List (List ℕ × V)) (i : ℕ) (k : List ℕ) (v : V) → slice_get (keys_of ps) i ≡ Some k
      → is_among (take i (keys_of ps)) k ≡ false → slice_get (values_of ps) i ≡ Some v
      → StandsAt (steps.key k) (by_keys (tries_of ps)) (f v) (λ u. by_keys (with_value (tries_of ps) i u))
  unfolding tries_of
  at_first [] i k v at first there = absurd (cc)
  at_first (p ∷ ps) zero k v at first there =
      let same : p.0 ≡ k = cc in
      let here : p.1 ≡ v = cc in
      rw (same, bytes_eq-same k, here) (refl, λ g. refl)
  at_first (p ∷ ps) (suc i) k v at first there =
      let other : bytes_eq k p.0 ≡ false = grind (arith, first) in
      behind (steps.key p.0) (steps.key k) (f p.1) _ (f v) _ (bytes_eq_other p.0 k other)
      (at_first ps i k v at (grind (arith, first)) there)

  -- at a key that is none of these, and goes last
  at_last : (ps : List (List ℕ × V)) (i : ℕ) (k : List ℕ) (v : V) → has_key ps k ≡ false
      → slice_get (keys_of (ps ++ (k, v) ∷ [])) i ≡ Some k → StandsAt (steps.key k) (by_keys (tries_of ps)) nothing
      (λ u. by_keys (with_value (tries_of (ps ++ (k, v) ∷ [])) i u))
  unfolding tries_of
  at_last [] zero k v absent at = (refl, λ g. refl)
  at_last [] (suc i) k v absent at = absurd (cc)
  at_last (p ∷ ps) zero k v absent at = absurd (grind (arith, bytes_eq-same k))
  at_last (p ∷ ps) (suc i) k v absent at =
      let other : bytes_eq k p.0 ≡ false = grind (arith, absent) in
      behind (steps.key p.0) (steps.key k) (f p.1) _ nothing _ (bytes_eq_other p.0 k other)
      (at_last ps i k v (grind (arith, absent)) at)

  -- at a key that is entered
  pub at_entered : {gives : V → Type 0} (k : List ℕ) (old new : List (List ℕ × V)) (p : Place)
      (e : FindsOrAdds gives k old new p) (there : V) → slice_get (values_of new) p.position ≡ Some there
      → StandsAt (steps.key k) (by_keys (tries_of old)) (trie_before p.is_new (f there))
      (λ u. by_keys (with_value (tries_of new) p.position u))
  at_entered k old new p e there stands = elim (cases_Bool (has_key old k)) [
    | inl is ↦
        let same : new ≡ old = rw is at e.entered.pairs in
        rw (e.is_new, is, ← same) (at_first new p.position k there e.entered.at e.entered.first stands)
    | inr is ↦
        let same : new ≡ old ++ (k, e.there) ∷ [] = rw is at e.entered.pairs in
        rw (e.is_new, is, same) (at_last old p.position k e.there is (rw same at e.entered.at))
  ]
