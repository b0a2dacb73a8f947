-- What the two searches of a walk say, together: where a key goes that is none of a row's, or the slot that holds it.
use Rattle.std.proofs.Common.{◌≡◌, ℕ, suc, ◌+◌, ◌-◌, ◌<◌, ◌≤◌, true, false, List, [], ◌++◌, length, drop, get_or}
use Rattle.std.proofs.Common.{refl, sym, ◌∙◌, ◌⊎◌, inl, inr, add-one, arith}
use Rattle.std.specs.Str.{bytes_eq}
use Rattle.std.proofs.Math.Bool.{or-true}
use Rattle.std.proofs.lemmas.Bool.{cases_lt}
use Rattle.std.proofs.lemmas.List.{length-map}
use Rattle.std.proofs.lemmas.List.Folds.{list_any-append}
use Rattle.basic_toml_index.specs.Keys.{is_among}
use Rattle.basic_toml_index.specs.Index.{ending_of, is_below, all_below, all_above, key_of, slot_at, leaf_at}
use Rattle.basic_toml_index.specs.Index.{leaf_keys, first_key, row_of, joined, before, after, IsRow, IsPlace}
use Rattle.basic_toml_index.specs.Index.{HoldsAt}
use Rattle.basic_toml_index.specs.declared.Gap.{Gap}
use Rattle.basic_toml_index.specs.declared.leaves.Slot.{Slot}
use Rattle.basic_toml_index.proofs.DistinctKeys.{bytes_eq-same, is_among-insert}
use Rattle.basic_toml_index.proofs.RisingAroundGap.{before_below, before_below_at, after_above}
use Rattle.basic_toml_index.proofs.Order.{order_cases, none_below, none_above}
use Rattle.basic_toml_index.proofs.SlotsInLeaves.{part_at, located, at_place, after_end}
use Rattle.basic_toml_index.proofs.KeysOfSlots.{length_part, key_in_part, are_filled-leaf_keys}

-- what the searches for a leaf and in it say
pub record IsSearched (keys : List (List ℕ)) (leaves : List (List Slot)) (at slot : ℕ) (key : List ℕ) : Type 0 where
  pub in_leaves : at < length leaves
  pub in_leaf : slot ≤ length (leaf_at leaves at)
  pub not_above : 0 < at → is_below key (first_key keys leaves at) ≡ false
  pub next_above : at + 1 < length leaves → is_below key (first_key keys leaves (at + 1)) ≡ true
  pub lower : 0 < slot → is_below (key_of keys (slot_at (leaf_at leaves at) (slot - 1))) key ≡ true
  pub not_lower : slot < length (leaf_at leaves at)
      → is_below (key_of keys (slot_at (leaf_at leaves at) slot)) key ≡ false

module _ (keys : List (List ℕ)) (leaves : List (List Slot)) (at slot : ℕ) (key : List ℕ) (row : IsRow keys leaves) where
  abbrev parts : List (List (List ℕ))
  parts = leaf_keys keys leaves

  within_parts : at < length leaves → at < length parts
  within_parts within = rw (length-map leaves _) within

  -- a row in which all before are lower and all after are higher lacks the key
  lacks : at < length leaves → all_below (before parts at slot) key ≡ true
      → all_above (after parts at slot) key ≡ true → is_among (row_of keys leaves) key ≡ false
  lacks within lower higher =
      rw (
        located parts at slot (within_parts within),
        list_any-append (bytes_eq key) (before parts at slot) (after parts at slot),
        none_below (before parts at slot) key lower,
        none_above (after parts at slot) key higher,
      ) refl

  -- a row has the key of each of its slots
  pub has : at < length leaves → slot < length (leaf_at leaves at) → key_of keys (slot_at (leaf_at leaves at) slot) ≡ key
      → is_among (row_of keys leaves) key ≡ true
  has within in_leaf is =
      let here : get_or (part_at parts at) slot [] ≡ key = key_in_part keys leaves at slot in_leaf ∙ is in
      let rest = drop (suc slot) (part_at parts at) ++ joined (drop (suc at) parts) in
      rw (
        at_place parts at slot [] (within_parts within) (rw (length_part keys leaves at) in_leaf),
        here,
        is_among-insert (before parts at slot) rest key key,
        bytes_eq-same key,
        or-true,
      ) refl

  module _ (searched : IsSearched keys leaves at slot key) where
    all_lower : all_below (before parts at slot) key ≡ true
    all_lower =
        before_below parts at slot key row.rising (are_filled-leaf_keys keys leaves row.filled)
        (within_parts searched.in_leaves) (rw (length_part keys leaves at) searched.in_leaf)
        searched.not_above (λ some. let inside = searched.in_leaf in
        rw (key_in_part keys leaves at (slot - 1) (omega arith)) (searched.lower some))

    all_higher : (slot < length (leaf_at leaves at)
        → is_below key (key_of keys (slot_at (leaf_at leaves at) slot)) ≡ true)
        → all_above (after parts at slot) key ≡ true
    all_higher higher =
        after_above parts at slot key row.rising (are_filled-leaf_keys keys leaves row.filled)
        (within_parts searched.in_leaves)
        (λ inside. let low : slot < length (leaf_at leaves at) = rw (length_part keys leaves at) at inside in
        rw (key_in_part keys leaves at slot low) (higher low))
        (λ more. let low : suc at < length leaves = rw (length-map leaves _) at more in
        rw add-one at (searched.next_above (omega arith)))

    -- the slot holds the key, or all from it on are higher
    holds_or_higher : ((slot < length (leaf_at leaves at)) × (key_of keys (slot_at (leaf_at leaves at) slot) ≡ key))
        ⊎ (all_above (after parts at slot) key ≡ true)
    holds_or_higher = elim (cases_lt slot (length (leaf_at leaves at))) [
      | inl low ↦ elim (order_cases key (key_of keys (slot_at (leaf_at leaves at) slot))) [
        | inl below ↦ inr (all_higher (λ _. below))
        | inr (inl same) ↦ inl (low, sym same)
        | inr (inr above) ↦ absurd (cc (above, searched.not_lower low))
      ]
      | inr past ↦ inr (all_higher (λ low. absurd (omega arith)))
    ]

    pub place_of_searched : (gap : Gap) → gap.leaf ≡ at → gap.slot ≡ slot → gap.ending ≡ ending_of key
        → is_among (row_of keys leaves) key ≡ false → IsPlace keys leaves gap key
    place_of_searched gap leaf_is slot_is ending absent = elim holds_or_higher [
      | inl held ↦ absurd (cc (has searched.in_leaves held.0 held.1, absent))
      | inr higher ↦ record {
        in_leaves = rw leaf_is searched.in_leaves;
        in_leaf = rw (leaf_is, slot_is) searched.in_leaf;
        ending = ending;
        lower = rw (leaf_is, slot_is) all_lower;
        higher = rw (leaf_is, slot_is) higher;
      }
    ]

    pub holds_of_searched : (gap : Gap) → gap.leaf ≡ at → gap.slot ≡ slot → is_among (row_of keys leaves) key ≡ true
        → HoldsAt keys leaves gap key
    holds_of_searched gap leaf_is slot_is among = elim holds_or_higher [
      | inl held ↦ record { in_leaf = rw (leaf_is, slot_is) held.0; holds = rw (leaf_is, slot_is) held.1 }
      | inr higher ↦ absurd (cc (lacks searched.in_leaves all_lower higher, among))
    ]

  -- a key that the greatest of the row is below goes after them all
  module _ (last : ℕ) (at_end : at + 1 ≡ length leaves) (last_is : last + 1 ≡ length (leaf_at leaves at))
      (greatest : is_below (key_of keys (slot_at (leaf_at leaves at) last)) key ≡ true) where
    ends_lower : slot ≡ length (leaf_at leaves at) → all_below (before parts at slot) key ≡ true
    ends_lower end =
        let e : slot ≡ suc last = omega arith in
        let low : last < length (leaf_at leaves at) = omega arith in
        rw e (before_below_at parts at last key row.rising (within_parts (omega arith))
        (rw (length_part keys leaves at) low) (rw (key_in_part keys leaves at last low) greatest))

    ends_higher : slot ≡ length (leaf_at leaves at) → all_above (after parts at slot) key ≡ true
    ends_higher end = rw (after_end parts at slot (at_end ∙ sym (length-map leaves _)) (end ∙
        sym (length_part keys leaves at))) refl

    pub place_at_end : (gap : Gap) → gap.leaf ≡ at → gap.slot ≡ slot → gap.ending ≡ ending_of key
        → slot ≡ length (leaf_at leaves at) → IsPlace keys leaves gap key
    place_at_end gap leaf_is slot_is ending end = record {
      in_leaves = rw leaf_is (omega arith);
      in_leaf = rw (leaf_is, slot_is) (omega arith);
      ending = ending;
      lower = rw (leaf_is, slot_is) (ends_lower end);
      higher = rw (leaf_is, slot_is) (ends_higher end);
    }

    pub none_at_end : slot ≡ length (leaf_at leaves at) → is_among (row_of keys leaves) key ≡ false
    none_at_end end = lacks (omega arith) (ends_lower end) (ends_higher end)
