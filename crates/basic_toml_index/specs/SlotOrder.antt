-- The order of slots: by their endings, and by the keys that they stand for where these are the same.
use Rattle.std.specs.Prelude.{◌≡◌, ℕ, ◌+◌, ◌<◌, List, ◌∷◌, Bool, true, ◌≤◌, length, map, take, nat_lt, IsTrue}
use Rattle.std.specs.List.{list_all}
use Rattle.std.specs.List.Sorted.{IsPermutation}
use Rattle.std.specs.Ordering.{is_lt, nat_cmp}
use Rattle.std.specs.declared.cmp.Ordering.{Ordering}
use Rattle.std.specs.Cmp.Lexicographic.{slice_cmp}
use Rattle.basic_toml_index.specs.Index.{key_of, slot_at, is_sound, are_rising, are_filled, joined}
use Rattle.basic_toml_index.specs.declared.leaves.Slot.{Slot}

abbrev pub slot_cmp : List (List ℕ) → Slot → Slot → Ordering
slot_cmp keys a b = slice_cmp nat_cmp (a.ending ∷ key_of keys a) (b.ending ∷ key_of keys b)

abbrev pub is_before : List (List ℕ) → Slot → Slot → Bool
is_before keys a b = is_lt (slot_cmp keys a b)

-- each slot is before the next one
abbrev pub AreInOrder : List (List ℕ) → List Slot → Type 0
AreInOrder keys slots = (k : ℕ) → k + 1 < length slots
    → IsTrue (is_before keys (slot_at slots k) (slot_at slots (k + 1)))

-- sound slots whose keys rise
pub record IsRun (keys : List (List ℕ)) (slots : List Slot) : Type 0 where
  pub sound : list_all (is_sound keys) slots ≡ true
  pub rising : are_rising (map (key_of keys) slots) ≡ true

-- a slot stands for one of so many keys from the first on
abbrev pub is_low : ℕ → Slot → Bool
is_low count slot = nat_lt slot.position count

-- a run of the first keys, as many as `count`
pub record IsRunOfFirst (keys : List (List ℕ)) (count : ℕ) (slots : List Slot) : Type 0 where
  pub run : IsRun keys slots
  pub low : list_all (is_low count) slots ≡ true
  pub all : IsPermutation (take count keys) (map (key_of keys) slots)
  pub within : count ≤ length keys

-- the same in leaves, none of which is empty
pub record AreFirst (keys : List (List ℕ)) (count : ℕ) (leaves : List (List Slot)) : Type 0 where
  pub some : 0 < length leaves
  pub filled : are_filled leaves ≡ true
  pub first : IsRunOfFirst keys count (joined leaves)
