-- Keys with their values, in order: how they change.
use Rattle.std.specs.Prelude.{◌≡◌, ℕ, zero, suc, List, [], ◌∷◌, ◌++◌, true, false, not, Some, if◌then◌else◌, slice_get}
use Rattle.std.specs.Prelude.{map, take, Result, Ok}
use Rattle.basic_toml_index.specs.Keys.{is_among}
use Rattle.basic_toml_value.specs.Pairs.{keys_of, has_key}
use Rattle.basic_toml_value.specs.declared.pairs.growth.Place.{Place}

-- the values of pairs
abbrev pub values_of : {V : Type 0} → List (List ℕ × V) → List V
values_of pairs = map (λ p. p.1) pairs

-- pairs with another value at a position
abbrev pub with_value : {V : Type 0} → List (List ℕ × V) → ℕ → V → List (List ℕ × V)
with_value [] i v = []
with_value (p ∷ ps) zero v = (p.0, v) ∷ ps
with_value (p ∷ ps) (suc i) v = p ∷ with_value ps i v

-- pairs with a key, which goes last with this value where it is not there
abbrev pub with_key : {V : Type 0} → List (List ℕ × V) → List ℕ → V → List (List ℕ × V)
with_key pairs key v = if has_key pairs key then pairs else pairs ++ (key, v) ∷ []

-- the pairs are those before with the key, which stands at the position, and nowhere before it
pub record EntersKey {V : Type 0} (key : List ℕ) (v : V) (old new : List (List ℕ × V)) (position : ℕ) : Type 0 where
  pub at : slice_get (keys_of new) position ≡ Some key
  pub first : is_among (take position (keys_of new)) key ≡ false
  pub pairs : new ≡ with_key old key v

-- what a call gives, whatever it is handed
abbrev pub Gives : {A V E : Type 0} → (A → Result V E → Type 0) → V → Type 0
Gives {A = A} post v = (x : A) × post x (Ok v)

-- the place of a new key
abbrev pub new_place : ℕ → Place
new_place i = record { position = i; is_new = true }

-- a key stands at this place then, with this value: where it is new, one that was made for it
pub record FindsOrAdds {V : Type 0} (gives : V → Type 0) (key : List ℕ) (old new : List (List ℕ × V)) (p : Place)
    : Type 0 where
  pub there : V
  pub stands : slice_get (values_of new) p.position ≡ Some there
  pub entered : EntersKey key there old new p.position
  pub is_new : p.is_new ≡ not (has_key old key)
  pub made : p.is_new ≡ true → gives there
