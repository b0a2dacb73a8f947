-- Slots and the keys that they stand for.
use Rattle.std.proofs.Common.{◌≡◌, ℕ, ◌<◌, true, ◌==◌, nat_lt, List, [], ◌∷◌, ◌++◌, length, map, get_or, refl, sym}
use Rattle.std.proofs.Common.{ap, ◌∙◌, Some, arith}
use Rattle.std.specs.List.{list_all, slice_get}
use Rattle.std.proofs.lemmas.Bool.{ltb-true, lt-ltb, and_parts, and_from}
use Rattle.std.proofs.lemmas.Bool.Decides.{Decides-eqb}
use Rattle.std.proofs.lemmas.List.{get_or-map, get_or_append_left, length-map, length-append, map-append}
use Rattle.std.proofs.Math.ListN.{get_or-map as get_or-map-same}
use Rattle.std.proofs.lemmas.List.Folds.{list_all-append}
use Rattle.std.proofs.lemmas.Option.{slice_get-get_or, slice_get_within, get_or_from_slice_get}
use Rattle.basic_toml_index.specs.Index.{ending_of, is_sound, key_at, key_of, leaf_keys, leaf_at, slot_at, row_of}
use Rattle.basic_toml_index.specs.Index.{joined, before, after, are_filled}
use Rattle.basic_toml_index.specs.declared.leaves.Slot.{Slot}
use Rattle.basic_toml_index.proofs.SlotsInLeaves.{part_at, joined-map, before-map, after-map}

-- what a sound slot says

pub sound_position : (keys : List (List ℕ)) (slot : Slot) → is_sound keys slot ≡ true → slot.position < length keys
sound_position keys slot sound =
    ltb-true slot.position (length keys)
    (and_parts (nat_lt slot.position (length keys)) (slot.ending == ending_of (key_of keys slot)) sound).0

pub key_from : (keys : List (List ℕ)) (position : ℕ) (key : List ℕ) → slice_get keys position ≡ Some key
    → key_at keys position ≡ key
key_from keys position key at = get_or_from_slice_get keys position key [] at

pub sound_from : (keys : List (List ℕ)) (slot : Slot) (key : List ℕ) → slice_get keys slot.position ≡ Some key
    → slot.ending ≡ ending_of key → is_sound keys slot ≡ true
sound_from keys slot key at ending =
    and_from (nat_lt slot.position (length keys)) (slot.ending == ending_of (key_of keys slot))
    (lt-ltb slot.position (length keys) (slice_get_within keys slot.position key at))
    (rw (key_from keys slot.position key at, ending) ((Decides-eqb (ending_of key) (ending_of key)).1 refl))

pub slice_get-key_of : (keys : List (List ℕ)) (slot : Slot) → is_sound keys slot ≡ true
    → slice_get keys slot.position ≡ Some (key_of keys slot)
slice_get-key_of keys slot sound = slice_get-get_or keys slot.position [] (sound_position keys slot sound)

-- keys put after do not change what slots stand for

pub key_of-push : (keys more : List (List ℕ)) (slot : Slot) → is_sound keys slot ≡ true
    → key_of (keys ++ more) slot ≡ key_of keys slot
key_of-push keys more slot sound = get_or_append_left keys more [] slot.position (sound_position keys slot sound)

pub is_sound-push : (keys more : List (List ℕ)) (slot : Slot) → is_sound keys slot ≡ true
    → is_sound (keys ++ more) slot ≡ true
is_sound-push keys more slot sound =
    let position = sound_position keys slot sound in
    let parts = and_parts (nat_lt slot.position (length keys)) (slot.ending == ending_of (key_of keys slot)) sound in
    rw (
      key_of-push keys more slot sound,
      parts.1,
      lt-ltb slot.position (length (keys ++ more)) (rw (length-append keys more) (omega arith)),
    ) refl

pub all_sound-push : (keys more : List (List ℕ)) (slots : List Slot) → list_all (is_sound keys) slots ≡ true
    → list_all (is_sound (keys ++ more)) slots ≡ true
all_sound-push keys more [] sound = refl
all_sound-push keys more (s ∷ ss) sound =
    let parts = and_parts (is_sound keys s) (list_all (is_sound keys) ss) sound in
    rw (is_sound-push keys more s parts.0) (all_sound-push keys more ss parts.1)

pub keys_of-push : (keys more : List (List ℕ)) (slots : List Slot) → list_all (is_sound keys) slots ≡ true
    → map (key_of (keys ++ more)) slots ≡ map (key_of keys) slots
keys_of-push keys more [] sound = refl
keys_of-push keys more (s ∷ ss) sound =
    let parts = and_parts (is_sound keys s) (list_all (is_sound keys) ss) sound in
    rw (key_of-push keys more s parts.0, keys_of-push keys more ss parts.1) refl

pub leaf_keys-push : (keys more : List (List ℕ)) (leaves : List (List Slot))
    → list_all (is_sound keys) (joined leaves) ≡ true → leaf_keys (keys ++ more) leaves ≡ leaf_keys keys leaves
leaf_keys-push keys more [] sound = refl
leaf_keys-push keys more (l ∷ ls) sound =
    let parts = and_parts (list_all (is_sound keys) l) (list_all (is_sound keys) (joined ls))
    (sym (list_all-append (is_sound keys) l (joined ls)) ∙ sound) in
    rw (keys_of-push keys more l parts.0, leaf_keys-push keys more ls parts.1) refl

-- the keys of leaves, leaf by leaf

pub part_at-leaf_keys : (keys : List (List ℕ)) (leaves : List (List Slot)) (at : ℕ)
    → part_at (leaf_keys keys leaves) at ≡ map (key_of keys) (leaf_at leaves at)
part_at-leaf_keys keys leaves at = get_or-map-same (map (key_of keys)) leaves at []

pub length_part : (keys : List (List ℕ)) (leaves : List (List Slot)) (at : ℕ)
    → length (part_at (leaf_keys keys leaves) at) ≡ length (leaf_at leaves at)
length_part keys leaves at = rw (part_at-leaf_keys keys leaves at) (length-map (leaf_at leaves at) (key_of keys))

pub key_in_part : (keys : List (List ℕ)) (leaves : List (List Slot)) (at index : ℕ)
    → index < length (leaf_at leaves at)
    → get_or (part_at (leaf_keys keys leaves) at) index [] ≡ key_of keys (slot_at (leaf_at leaves at) index)
key_in_part keys leaves at index within =
    rw (part_at-leaf_keys keys leaves at)
    (get_or-map (key_of keys) (leaf_at leaves at) index (record { ending = 0; position = 0 }) [] within)

pub are_filled-leaf_keys : (keys : List (List ℕ)) (leaves : List (List Slot)) → are_filled leaves ≡ true
    → are_filled (leaf_keys keys leaves) ≡ true
are_filled-leaf_keys keys [] filled = refl
are_filled-leaf_keys keys (l ∷ ls) filled =
    let parts = and_parts (nat_lt 0 (length l)) (are_filled ls) filled in
    rw (length-map l (key_of keys), parts.0) (are_filled-leaf_keys keys ls parts.1)

-- a slot more is a key more
pub row_of-with_slot : (keys : List (List ℕ)) (leaves next : List (List Slot)) (at index : ℕ) (slot : Slot)
    → at < length leaves → joined next ≡ before leaves at index ++ slot ∷ after leaves at index →
    row_of keys next ≡ before (leaf_keys keys leaves) at index ++ key_of keys slot
    ∷ after (leaf_keys keys leaves) at index
row_of-with_slot keys leaves next at index slot within is =
    joined-map (key_of keys) next ∙ ap (map (key_of keys)) is ∙
    map-append (key_of keys) (before leaves at index) (slot ∷ after leaves at index)
    ∙ rw (before-map (key_of keys) leaves at index within, after-map (key_of keys) leaves at index within) refl
