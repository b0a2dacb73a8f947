-- What stands at a key, where keys are entered and values are changed.
use Rattle.std.proofs.Common.{◌≡◌, ◌⊎◌, inl, inr, ℕ, suc, zero, true, false, List, [], ◌∷◌, ◌++◌, refl, sym, take}
use Rattle.std.proofs.Common.{ap, ◌∙◌, arith, Some, None, option_map, map, if◌then◌else◌, Bool}
use Rattle.std.specs.Prelude.{not}
use Rattle.std.specs.List.{slice_get}
use Rattle.std.specs.Str.{bytes_eq}
use Rattle.basic_toml_index.specs.Keys.{is_among}
use Rattle.basic_toml_value.specs.Pairs.{keys_of, has_key, value_at}
use Rattle.basic_toml_index.proofs.DistinctKeys.{bytes_eq-same}
use Rattle.basic_toml_value.specs.Growth.{with_value, values_of, EntersKey, FindsOrAdds}
use Rattle.basic_toml_value.specs.declared.pairs.growth.Place.{Place}

module _ {V : Type 0} where
  -- what stands at the first position of a key
  pub first_at : (ps : List (List ℕ × V)) (i : ℕ) (k : List ℕ) (v : V)
      → slice_get (keys_of ps) i ≡ Some k → is_among (take i (keys_of ps)) k ≡ false
      → slice_get (values_of ps) i ≡ Some v → value_at ps k ≡ Some v
  first_at [] i k v at first there = absurd (cc)
  first_at (p ∷ ps) zero k v at first there =
      let same : p.0 ≡ k = cc in
      let here : p.1 ≡ v = cc in
      rw (same, bytes_eq-same k, here) refl
  first_at (p ∷ ps) (suc i) k v at first there =
      let other : bytes_eq k p.0 ≡ false = grind (arith, first) in
      let rest : is_among (take i (keys_of ps)) k ≡ false = grind (arith, first) in
      rw other (first_at ps i k v at rest there)

  -- a value that is changed at the first position of a key, and at other keys
  changed_at : (ps : List (List ℕ × V)) (i : ℕ) (k : List ℕ) (v : V)
      → slice_get (keys_of ps) i ≡ Some k → is_among (take i (keys_of ps)) k ≡ false
      → value_at (with_value ps i v) k ≡ Some v
  changed_at [] i k v at first = absurd (cc)
  changed_at (p ∷ ps) zero k v at first =
      let same : p.0 ≡ k = cc in
      rw (same, bytes_eq-same k) refl
  changed_at (p ∷ ps) (suc i) k v at first =
      let other : bytes_eq k p.0 ≡ false = grind (arith, first) in
      let rest : is_among (take i (keys_of ps)) k ≡ false = grind (arith, first) in
      rw other (changed_at ps i k v at rest)

  changed_elsewhere : (ps : List (List ℕ × V)) (i : ℕ) (k l : List ℕ) (v : V)
      → slice_get (keys_of ps) i ≡ Some k → bytes_eq l k ≡ false → value_at (with_value ps i v) l ≡ value_at ps l
  changed_elsewhere [] i k l v at other = refl
  changed_elsewhere (p ∷ ps) zero k l v at other =
      let same : p.0 ≡ k = cc in
      rw (same, other) refl
  changed_elsewhere (p ∷ ps) (suc i) k l v at other =
      ap (λ x. if bytes_eq l p.0 then Some p.1 else x) (changed_elsewhere ps i k l v at other)

  -- a value that is put at a position stands there
  pub value_put : (ps : List (List ℕ × V)) (i : ℕ) (v w : V) → slice_get (values_of ps) i ≡ Some v
      → slice_get (values_of (with_value ps i w)) i ≡ Some w
  value_put [] i v w there = absurd (cc)
  value_put (p ∷ ps) zero v w there = refl
  value_put (p ∷ ps) (suc i) v w there = value_put ps i v w there

  -- a key that is entered last
  last_at : (ps : List (List ℕ × V)) (k : List ℕ) (v : V) → has_key ps k ≡ false
      → value_at (ps ++ (k, v) ∷ []) k ≡ Some v
  last_at [] k v absent = rw (bytes_eq-same k) refl
  last_at (p ∷ ps) k v absent =
      let other : bytes_eq k p.0 ≡ false = grind (arith, absent) in
      let rest : has_key ps k ≡ false = grind (arith, absent) in
      rw other (last_at ps k v rest)

  last_elsewhere : (ps : List (List ℕ × V)) (k l : List ℕ) (v : V) → bytes_eq l k ≡ false
      → value_at (ps ++ (k, v) ∷ []) l ≡ value_at ps l
  last_elsewhere [] k l v other = rw other refl
  last_elsewhere (p ∷ ps) k l v other =
      ap (λ x. if bytes_eq l p.0 then Some p.1 else x) (last_elsewhere ps k l v other)

  pub none_at : (ps : List (List ℕ × V)) (k : List ℕ) → has_key ps k ≡ false → value_at ps k ≡ None
  none_at [] k absent = refl
  none_at (p ∷ ps) k absent =
      let other : bytes_eq k p.0 ≡ false = grind (arith, absent) in
      let rest : has_key ps k ≡ false = grind (arith, absent) in
      rw other (none_at ps k rest)

  absent_at : (ps : List (List ℕ × V)) (k : List ℕ) → value_at ps k ≡ None → has_key ps k ≡ false
  absent_at [] k none = refl
  absent_at (p ∷ ps) k none = go (bytes_eq k p.0) refl none (absent_at ps k)
    where
      go : (b : Bool) → bytes_eq k p.0 ≡ b → (if b then Some p.1 else value_at ps k) ≡ None
          → (value_at ps k ≡ None → has_key ps k ≡ false) → has_key (p ∷ ps) k ≡ false
      go true is none rest = absurd (cc)
      go false is none rest = rw is (rest none)

  -- where nothing stood at a key that is entered, its value was made for it
  pub made_first : (gives : V → Type 0) (k : List ℕ) (old new : List (List ℕ × V)) (p : Place)
      (e : FindsOrAdds gives k old new p) → value_at old k ≡ None → gives e.there
  made_first gives k old new p e none = e.made (e.is_new ∙ ap not (absent_at old k none))

  -- a key is entered, and another value put in the place of what stands there then
  module _ (k : List ℕ) (fresh : V) (old new : List (List ℕ × V)) (i : ℕ) (entered : EntersKey k fresh old new i)
      (there : V) (stands : slice_get (values_of new) i ≡ Some there) where
    -- it stood there before, or it is the value that is entered
    pub stood_or_fresh : (value_at old k ≡ Some there) ⊎ ((value_at old k ≡ None) × (there ≡ fresh))
    stood_or_fresh = go (has_key old k) refl entered.pairs
      where
        now_at : value_at new k ≡ Some there
        now_at = first_at new i k there entered.at entered.first stands

        go : (b : Bool) → has_key old k ≡ b → new ≡ (if b then old else old ++ (k, fresh) ∷ [])
            → (value_at old k ≡ Some there) ⊎ ((value_at old k ≡ None) × (there ≡ fresh))
        go true is pairs = inl (ap (λ ps. value_at ps k) (sym pairs) ∙ now_at)
        go false is pairs =
            let last : value_at new k ≡ Some fresh = ap (λ ps. value_at ps k) pairs ∙ last_at old k fresh is in
            let both : Some there ≡ Some fresh = sym now_at ∙ last in
            let same : there ≡ fresh = cc in
            inr (none_at old k is, same)

    pub put_at : (v : V) → value_at (with_value new i v) k ≡ Some v
    put_at v = changed_at new i k v entered.at entered.first

    pub kept_elsewhere : (v : V) (l : List ℕ) → bytes_eq l k ≡ false → value_at (with_value new i v) l ≡ value_at old l
    kept_elsewhere v l other = changed_elsewhere new i k l v entered.at other ∙ go (has_key old k) entered.pairs
      where
        go : (b : Bool) → new ≡ (if b then old else old ++ (k, fresh) ∷ []) → value_at new l ≡ value_at old l
        go true pairs = ap (λ ps. value_at ps l) pairs
        go false pairs = ap (λ ps. value_at ps l) pairs ∙ last_elsewhere old k l fresh other

-- what stands at a key, seen
pub value_at-map : {V W : Type 0} (f : V → W) (ps : List (List ℕ × V)) (k : List ℕ)
    → value_at (map (λ p. (p.0, f p.1)) ps) k ≡ option_map f (value_at ps k)
value_at-map f [] k = refl
value_at-map f (p ∷ ps) k = go (bytes_eq k p.0) (value_at-map f ps k)
  where
    go : (b : Bool) → value_at (map (λ p. (p.0, f p.1)) ps) k ≡ option_map f (value_at ps k)
        → (if b then Some (f p.1) else value_at (map (λ p. (p.0, f p.1)) ps) k)
        ≡ option_map f (if b then Some p.1 else value_at ps k)
    go true same = refl
    go false same = same
