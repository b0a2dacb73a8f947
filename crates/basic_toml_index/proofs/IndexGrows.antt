-- A slot put where its key goes: the row stays one of rising keys, and has one key more.
use Rattle.std.proofs.Common.{◌≡◌, ℕ, ◌+◌, ◌<◌, true, false, ◌||◌, List, [], ◌∷◌, ◌++◌, length, take, refl, sym, ◌∙◌}
use Rattle.std.proofs.Common.{IsTrue, Some, arith}
use Rattle.std.specs.List.{list_all, slice_get}
use Rattle.std.specs.Str.{bytes_eq}
use Rattle.std.proofs.lemmas.List.{length-map, take_all, take_more}
use Rattle.std.proofs.lemmas.List.Folds.{list_all-append}
use Rattle.std.proofs.lemmas.Option.{slice_get_within, get_or_from_slice_get}
use Rattle.basic_toml_index.specs.Keys.{is_among, are_distinct}
use Rattle.basic_toml_index.specs.Index.{is_sound, leaf_keys, row_of, joined, before, after, are_filled, IsRow}
use Rattle.basic_toml_index.specs.Index.{IsSorted, IsPlace}
use Rattle.basic_toml_index.specs.declared.Gap.{Gap}
use Rattle.basic_toml_index.specs.declared.leaves.Slot.{Slot}
use Rattle.std.proofs.lemmas.Bool.{and_parts}
use Rattle.basic_toml_index.proofs.DistinctKeys.{is_among-insert, is_among-push, is_among-before, slice_get-last}
use Rattle.basic_toml_index.proofs.Order.{rising-insert}
use Rattle.basic_toml_index.proofs.SlotsInLeaves.{located}
use Rattle.basic_toml_index.proofs.KeysOfSlots.{key_from, sound_from, all_sound-push, leaf_keys-push, row_of-with_slot}

-- keys put after change nothing of a row

pub IsRow-push : (keys more : List (List ℕ)) (leaves : List (List Slot)) → IsRow keys leaves
    → IsRow (keys ++ more) leaves
IsRow-push keys more leaves row = record {
  some = row.some;
  filled = row.filled;
  sound = all_sound-push keys more (joined leaves) row.sound;
  rising = rw (leaf_keys-push keys more leaves row.sound) row.rising;
}

pub IsPlace-push : (keys more : List (List ℕ)) (leaves : List (List Slot)) (gap : Gap) (key : List ℕ)
    → IsRow keys leaves → IsPlace keys leaves gap key → IsPlace (keys ++ more) leaves gap key
IsPlace-push keys more leaves gap key row place = record {
  in_leaves = place.in_leaves;
  in_leaf = place.in_leaf;
  ending = place.ending;
  lower = rw (leaf_keys-push keys more leaves row.sound) place.lower;
  higher = rw (leaf_keys-push keys more leaves row.sound) place.higher;
}

-- one slot more

abbrev pub slot_in : Gap → ℕ → Slot
slot_in gap position = record { ending = gap.ending; position = position }

module _ (keys : List (List ℕ)) (leaves next : List (List Slot)) (gap : Gap) (position : ℕ) (key : List ℕ)
    (row : IsRow keys leaves) (place : IsPlace keys leaves gap key) (at : slice_get keys position ≡ Some key)
    (joined_is : joined next ≡ before leaves gap.leaf gap.slot ++ slot_in gap position
    ∷ after leaves gap.leaf gap.slot) where
  abbrev front : List (List ℕ)
  front = before (leaf_keys keys leaves) gap.leaf gap.slot

  abbrev back : List (List ℕ)
  back = after (leaf_keys keys leaves) gap.leaf gap.slot

  row_was : row_of keys leaves ≡ front ++ back
  row_was = located (leaf_keys keys leaves) gap.leaf gap.slot (rw (length-map leaves _) place.in_leaves)

  row_is : row_of keys next ≡ front ++ key ∷ back
  row_is = row_of-with_slot keys leaves next gap.leaf gap.slot (slot_in gap position) place.in_leaves joined_is ∙
      rw (key_from keys position key at) refl

  all_sound : list_all (is_sound keys) (joined next) ≡ true
  all_sound =
      let was = rw (
        located leaves gap.leaf gap.slot place.in_leaves,
        list_all-append (is_sound keys) (before leaves gap.leaf gap.slot) (after leaves gap.leaf gap.slot),
      ) at
      row.sound in
      let parts = and_parts (list_all (is_sound keys) (before leaves gap.leaf gap.slot))
      (list_all (is_sound keys) (after leaves gap.leaf gap.slot)) was in
      rw (
        joined_is,
        list_all-append (is_sound keys) (before leaves gap.leaf gap.slot) (slot_in gap position
            ∷ after leaves gap.leaf gap.slot),
        parts.0,
        sound_from keys (slot_in gap position) key at place.ending,
      ) parts.1

  pub IsRow-insert : 0 < length next → are_filled next ≡ true → IsRow keys next
  IsRow-insert some filled = record {
    some = some;
    filled = filled;
    sound = all_sound;
    rising = rw row_is (rising-insert front back key (rw row_was at row.rising) place.lower place.higher);
  }

  pub is_among-row : (other : List ℕ)
      → is_among (row_of keys next) other ≡ (is_among (row_of keys leaves) other || bytes_eq other key)
  is_among-row other = rw (row_is, row_was) (is_among-insert front back key other)

-- an index takes in the key that is put after the others
pub IsSorted-insert : (keys : List (List ℕ)) (leaves next : List (List Slot)) (gap : Gap) (position : ℕ)
    (key : List ℕ) → position ≡ length keys → IsSorted keys leaves → IsPlace keys leaves gap key →
    joined next ≡ before leaves gap.leaf gap.slot ++ slot_in gap position ∷ after leaves gap.leaf gap.slot
    → 0 < length next → are_filled next ≡ true → IsSorted (keys ++ key ∷ []) next
IsSorted-insert keys leaves next gap position key counted sorted place joined_is some filled =
    let more = keys ++ key ∷ [] in
    let row = IsRow-push keys (key ∷ []) leaves sorted.row in
    let placed = IsPlace-push keys (key ∷ []) leaves gap key sorted.row place in
    let at : slice_get more position ≡ Some key = rw counted (slice_get-last keys key) in
    record {
      row = IsRow-insert more leaves next gap position key row placed at joined_is some filled;
      same = λ other.
          is_among-row more leaves next gap position key row placed at joined_is other
          ∙ rw (leaf_keys-push keys (key ∷ []) leaves sorted.row.sound, sorted.same other)
          (sym (is_among-push keys key other));
    }

-- a row of the first of distinct keys, as it is built

pub record IsRowOf (keys : List (List ℕ)) (count : ℕ) (leaves : List (List Slot)) : Type 0 where
  pub row : IsRow keys leaves
  pub same : (other : List ℕ) → is_among (row_of keys leaves) other ≡ is_among (take count keys) other

pub IsSorted-whole : (keys : List (List ℕ)) (leaves : List (List Slot)) → IsRowOf keys (length keys) leaves
    → IsSorted keys leaves
IsSorted-whole keys leaves whole =
    record { row = whole.row; same = λ other. whole.same other ∙ rw (take_all (length keys) keys (omega arith)) refl }

pub absent_from_row : (keys : List (List ℕ)) (count : ℕ) (leaves : List (List Slot)) (key : List ℕ)
    → IsRowOf keys count leaves → IsTrue (are_distinct keys) → slice_get keys count ≡ Some key
    → is_among (row_of keys leaves) key ≡ false
absent_from_row keys count leaves key before_it distinct at = before_it.same key ∙
    is_among-before keys count key distinct at

pub IsRowOf-insert : (keys : List (List ℕ)) (count : ℕ) (leaves next : List (List Slot)) (gap : Gap) (key : List ℕ)
    → IsRowOf keys count leaves → IsPlace keys leaves gap key → slice_get keys count ≡ Some key →
    joined next ≡ before leaves gap.leaf gap.slot ++ slot_in gap count ∷ after leaves gap.leaf gap.slot
    → 0 < length next → are_filled next ≡ true → IsRowOf keys (count + 1) next
IsRowOf-insert keys count leaves next gap key before_it place at joined_is some filled =
    let one_more : take (count + 1) keys ≡ take count keys ++ key ∷ [] =
    take_more keys count [] (slice_get_within keys count key at) ∙
    rw (get_or_from_slice_get keys count key [] at) refl in
    record {
      row = IsRow-insert keys leaves next gap count key before_it.row place at joined_is some filled;
      same = λ other.
          is_among-row keys leaves next gap count key before_it.row place at joined_is other
          ∙ rw (before_it.same other, one_more) (sym (is_among-push (take count keys) key other));
    }
