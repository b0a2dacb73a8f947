-- Which keys have a present entry, and lists of keys.
use Rattle.std.specs.Prelude.{◌≡◌, ℕ, zero, suc, Bool, true, false, cond, bytes_eq, List, [], ◌∷◌, slice_index_or}
use Rattle.std.specs.Ordering.{is_lt, nat_cmp}
use Rattle.std.specs.Cmp.Lexicographic.{slice_cmp}

-- whether a key has a present entry
abbrev pub PresentKeys : Type 0
PresentKeys = List ℕ → Bool

abbrev pub no_keys : PresentKeys
no_keys k = false

abbrev pub with_key : List ℕ → PresentKeys → PresentKeys
with_key l keys k = cond (bytes_eq l k) true (keys k)

-- the order of keys: byte by byte
abbrev pub is_below : List ℕ → List ℕ → Bool
is_below a b = is_lt (slice_cmp nat_cmp a b)

abbrev pub with_keys : List (List ℕ) → PresentKeys
with_keys [] = no_keys
with_keys (k ∷ ks) = with_key k (with_keys ks)

-- the last of so many keys; of none, the least text
abbrev pub key_before : ℕ → List (List ℕ) → List ℕ
key_before zero ks = []
key_before (suc position) ks = slice_index_or ks position []

-- no key that is there is above this one
abbrev pub IsGreatest : List ℕ → PresentKeys → Type 0
IsGreatest greatest keys = (key : List ℕ) → keys key ≡ true → is_below greatest key ≡ false

-- the one at this place and the one behind it, the other way round
abbrev pub turned : {A : Type 0} → ℕ → List A → List A
turned zero [] = []
turned zero (x ∷ []) = x ∷ []
turned zero (x ∷ y ∷ xs) = y ∷ x ∷ xs
turned (suc position) [] = []
turned (suc position) (x ∷ xs) = x ∷ turned position xs
