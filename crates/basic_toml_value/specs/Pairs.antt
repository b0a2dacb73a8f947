-- A table as contracts see it: the list of its pairs, each a key in bytes with its value, in order.
use Rattle.std.specs.Prelude.{◌≡◌, ℕ, List, [], ◌∷◌, Bool, false, Option, Some, None, cond, map}
use Rattle.std.specs.Str.{bytes_eq}
use Rattle.std.specs.Coded.{Coded, coded×, coded_ℕ, coded_list}
use Rattle.basic_toml_index.specs.Keys.{is_among}

abbrev pub pairs_code : {V : Type 0} → Coded V → Coded (List (List ℕ × V))
pairs_code c = coded_list (coded× (coded_list coded_ℕ) c)

abbrev pub keys_of : {V : Type 0} → List (List ℕ × V) → List (List ℕ)
keys_of pairs = map (λ p. p.0) pairs

-- whether a pair has the key
abbrev pub has_key : {V : Type 0} → List (List ℕ × V) → List ℕ → Bool
has_key pairs key = is_among (keys_of pairs) key

-- the value at a key
abbrev pub value_at : {V : Type 0} → List (List ℕ × V) → List ℕ → Option V
value_at [] key = None
value_at (p ∷ ps) key = cond (bytes_eq key p.0) (Some p.1) (value_at ps key)

-- a key that was not there has this value now, and every other key what it had
pub record Gains {V : Type 0} (old : List (List ℕ × V)) (key : List ℕ) (value : V) (new : List (List ℕ × V))
    : Type 0 where
  pub absent : has_key old key ≡ false
  pub there : value_at new key ≡ Some value
  pub others : (other : List ℕ) → bytes_eq other key ≡ false → value_at new other ≡ value_at old other
