-- An index of texts: their positions, each with an ending of its text, sorted in leaves of bounded size. Callers go by
-- `IsIndex` and `IsGap` alone; what stands before these is the index's own.
use Rattle.std.specs.Prelude.{◌≡◌, ◌==◌, ℕ, suc, ◌<◌, ◌≤◌, List, [], ◌∷◌, ◌++◌, Bool, true, false, ◌&&◌, nat_lt, None}
use Rattle.std.specs.Prelude.{length, map, take, drop, replicate, IsTrue, Vec, slice_index_or, slice_set, insert}
use Rattle.std.specs.List.{list_all, flat_map}
use Rattle.std.specs.Option.{ForSome}
use Rattle.std.specs.Ordering.{is_lt, nat_cmp}
use Rattle.std.specs.Cmp.Lexicographic.{slice_cmp}
use Rattle.std.specs.Int.{w64, from_be_bytes}
use Rattle.std.specs.declared.alloc.Global.{Global}
use Rattle.basic_toml_index.specs.Keys.{are_distinct, is_among}
use Rattle.basic_toml_index.specs.declared.Found.{Found}
use Rattle.basic_toml_index.specs.declared.Found.TheVariants.{At, Absent}
use Rattle.basic_toml_index.specs.declared.Gap.{Gap}
use Rattle.basic_toml_index.specs.declared.Index.{Index}
use Rattle.basic_toml_index.specs.declared.leaves.Slot.{Slot}

-- the last eight bytes of a key, zeros before a shorter one
abbrev pub last_eight : List ℕ → List ℕ
last_eight key = drop (length key) (replicate 8 0 ++ key)

-- the ending of a key: these bytes as one number
unfoldable pub ending_of : List ℕ → ℕ
ending_of key = from_be_bytes w64 (last_eight key)

-- the order of an index: by endings, and byte by byte where these are the same
abbrev pub is_below : List ℕ → List ℕ → Bool
is_below a b = is_lt (slice_cmp nat_cmp (ending_of a ∷ a) (ending_of b ∷ b))

-- each key is below all that follow
abbrev pub are_rising : List (List ℕ) → Bool
are_rising [] = true
are_rising (k ∷ ks) = list_all (is_below k) ks && are_rising ks

-- all keys are below another, or above it
abbrev pub all_below : List (List ℕ) → List ℕ → Bool
all_below keys key = list_all (λ k. is_below k key) keys

abbrev pub all_above : List (List ℕ) → List ℕ → Bool
all_above keys key = list_all (is_below key) keys

-- the slots leaf by leaf
abbrev pub leaves_of : List (Vec Slot Global) → List (List Slot)
leaves_of leaves = map (λ leaf. leaf.items) leaves

abbrev pub leaf_at : List (List Slot) → ℕ → List Slot
leaf_at leaves at = slice_index_or leaves at []

abbrev pub slot_at : List Slot → ℕ → Slot
slot_at leaf at = slice_index_or leaf at (record { ending = 0; position = 0 })

-- the key at a position, and the key that a slot stands for
abbrev pub key_at : List (List ℕ) → ℕ → List ℕ
key_at keys position = slice_index_or keys position []

abbrev pub key_of : List (List ℕ) → Slot → List ℕ
key_of keys slot = key_at keys slot.position

-- a slot has the position of a key, and that key's ending
abbrev pub is_sound : List (List ℕ) → Slot → Bool
is_sound keys slot = nat_lt slot.position (length keys) && (slot.ending == ending_of (key_of keys slot))

-- no leaf is empty
abbrev pub are_filled : {A : Type 0} → List (List A) → Bool
are_filled leaves = list_all (λ leaf. nat_lt 0 (length leaf)) leaves

-- leaves in a row; what stands before and after a place in them
abbrev pub joined : {A : Type 0} → List (List A) → List A
joined leaves = flat_map (λ leaf. leaf) leaves

abbrev pub before : {A : Type 0} → List (List A) → ℕ → ℕ → List A
before leaves at slot = joined (take at leaves) ++ take slot (slice_index_or leaves at [])

abbrev pub after : {A : Type 0} → List (List A) → ℕ → ℕ → List A
after leaves at slot = drop slot (slice_index_or leaves at []) ++ joined (drop (suc at) leaves)

-- leaves with a slot more in one of them
abbrev pub with_slot : {A : Type 0} → List (List A) → ℕ → ℕ → A → List (List A)
with_slot leaves at index slot = slice_set leaves at (insert (slice_index_or leaves at []) index slot)

-- all slots, with one for a position in the gap
abbrev pub row_with : List (List Slot) → Gap → ℕ → List Slot
row_with leaves gap position =
    before leaves gap.leaf gap.slot ++ record { ending = gap.ending; position = position }
    ∷ after leaves gap.leaf gap.slot

-- the keys that the slots stand for, leaf by leaf and in a row
abbrev pub leaf_keys : List (List ℕ) → List (List Slot) → List (List (List ℕ))
leaf_keys keys leaves = map (map (key_of keys)) leaves

abbrev pub row_of : List (List ℕ) → List (List Slot) → List (List ℕ)
row_of keys leaves = joined (leaf_keys keys leaves)

abbrev pub first_key : List (List ℕ) → List (List Slot) → ℕ → List ℕ
first_key keys leaves at = slice_index_or (slice_index_or (leaf_keys keys leaves) at []) 0 []

-- sound slots whose keys rise
pub record IsRow (keys : List (List ℕ)) (leaves : List (List Slot)) : Type 0 where
  pub some : 0 < length leaves
  pub filled : IsTrue (are_filled leaves)
  pub sound : IsTrue (list_all (is_sound keys) (joined leaves))
  pub rising : IsTrue (are_rising (row_of keys leaves))

-- such a row of all the keys
pub record IsSorted (keys : List (List ℕ)) (leaves : List (List Slot)) : Type 0 where
  pub row : IsRow keys leaves
  pub same : (key : List ℕ) → is_among (row_of keys leaves) key ≡ is_among keys key

-- a gap is after all lower keys and before all higher ones, and there are no others
pub record IsPlace (keys : List (List ℕ)) (leaves : List (List Slot)) (gap : Gap) (key : List ℕ) : Type 0 where
  pub in_leaves : gap.leaf < length leaves
  pub in_leaf : gap.slot ≤ length (leaf_at leaves gap.leaf)
  pub ending : gap.ending ≡ ending_of key
  pub lower : IsTrue (all_below (before (leaf_keys keys leaves) gap.leaf gap.slot) key)
  pub higher : IsTrue (all_above (after (leaf_keys keys leaves) gap.leaf gap.slot) key)

-- the slot after a gap stands for the key
pub record HoldsAt (keys : List (List ℕ)) (leaves : List (List Slot)) (gap : Gap) (key : List ℕ) : Type 0 where
  pub in_leaf : gap.slot < length (leaf_at leaves gap.leaf)
  pub holds : key_of keys (slot_at (leaf_at leaves gap.leaf) gap.slot) ≡ key

-- so many keys at most stand without an index
abbrev pub few : ℕ
few = 16

-- the keys differ, and the index is one of them, or there is none and they are a few
pub record IsIndex (keys : List (List ℕ)) (index : Index) : Type 0 where
  pub distinct : IsTrue (are_distinct keys)
  pub sorted : ForSome index.leaves (λ leaves. IsSorted keys (leaves_of leaves.value.items))
  pub unsorted : index.leaves ≡ None → length keys ≤ few

-- a key is none of the keys, and goes into the gap
pub record IsGap (keys : List (List ℕ)) (index : Index) (key : List ℕ) (gap : Gap) : Type 0 where
  pub absent : is_among keys key ≡ false
  pub place : ForSome index.leaves (λ leaves. IsPlace keys (leaves_of leaves.value.items) gap key)

-- what a search answers, where it has found the key and where not
abbrev pub IfAt : Found → (ℕ → Type 0) → Type 0
IfAt (At position) P = P position
IfAt (Absent gap) P = Unit {0}

abbrev pub IfAbsent : Found → (Gap → Type 0) → Type 0
IfAbsent (At position) P = Unit {0}
IfAbsent (Absent gap) P = P gap
