-- Where a key goes among rising keys that stand in parts: after the lower ones and before the higher ones.
use Rattle.std.proofs.Common.{◌≡◌, ℕ, zero, suc, ◌-◌, ◌<◌, ◌≤◌, true, false, List, [], ◌∷◌, ◌++◌, length, take, drop}
use Rattle.std.proofs.Common.{get_or, refl, inl, inr, append_assoc, drop-cons, add-one, sub-one, arith}
use Rattle.std.proofs.lemmas.Bool.{cases_lt, and_from}
use Rattle.std.proofs.lemmas.List.{take_more, drop_all}
use Rattle.std.proofs.lemmas.List.Folds.{list_all-append}
use Rattle.basic_toml_index.specs.Index.{is_below, are_rising, all_below, all_above, are_filled, joined, before, after}
use Rattle.basic_toml_index.proofs.SlotsInLeaves.{part_at, at_place, filled_at}
use Rattle.basic_toml_index.proofs.Order.{rising-left, rising-right, all_below-through, all_above-through}
use Rattle.basic_toml_index.proofs.Order.{below_asymmetric}

abbrev Key : Type 0
Key = List ℕ

-- the key at a slot that is below another has all before it below that one
pub before_below_at : (parts : List (List Key)) (j i : ℕ) (key : Key) → are_rising (joined parts) ≡ true
    → j < length parts → i < length (part_at parts j) →
    is_below (get_or (part_at parts j) i []) key ≡ true → all_below (before parts j (suc i)) key ≡ true
before_below_at parts j i key rising within in_part last_below =
    let part = part_at parts j in
    let last = get_or part i [] in
    let split = at_place parts j i [] within in_part in
    let below = all_below-through (before parts j i) last key
    (rising-left (before parts j i) last _ (rw split at rising)) (below_asymmetric last key last_below) in
    let one_more : take (suc i) part ≡ take i part ++ last ∷ [] = rw add-one at (take_more part i [] in_part) in
    rw (
      one_more,
      ← append_assoc (joined (take j parts)) (take i part) (last ∷ []),
      list_all-append (λ k. is_below k key) (before parts j i) (last ∷ []),
      below,
      last_below,
    ) refl

pub before_below : (parts : List (List Key)) (j i : ℕ) (key : Key) → are_rising (joined parts) ≡ true
    → are_filled parts ≡ true → j < length parts → i ≤ length (part_at parts j) →
    (0 < j → is_below key (get_or (part_at parts j) 0 []) ≡ false)
    → (0 < i → is_below (get_or (part_at parts j) (i - 1) []) key ≡ true) → all_below (before parts j i) key ≡ true
before_below parts zero zero key rising filled within in_part not_above lower = refl
before_below parts (suc j) zero key rising filled within in_part not_above lower =
    let first = get_or (part_at parts (suc j)) 0 [] in
    let rest = drop 1 (part_at parts (suc j)) ++ joined (drop (suc (suc j)) parts) in
    let split = at_place parts (suc j) 0 [] within (filled_at parts (suc j) filled within) in
    all_below-through (before parts (suc j) 0) first key
    (rising-left (before parts (suc j) 0) first rest (rw split at rising)) (not_above (omega arith))
before_below parts j (suc i) key rising filled within in_part not_above lower =
    before_below_at parts j i key rising within (omega arith) (rw sub-one at (lower (omega arith)))

after_in_part : (parts : List (List Key)) (j i : ℕ) (key : Key) → are_rising (joined parts) ≡ true → j < length parts
    → i < length (part_at parts j) →
    is_below key (get_or (part_at parts j) i []) ≡ true → all_above (after parts j i) key ≡ true
after_in_part parts j i key rising within in_part higher =
    let part = part_at parts j in
    let next = get_or part i [] in
    let rest = drop (suc i) part ++ joined (drop (suc j) parts) in
    let above = rising-right (before parts j i) next rest (rw (at_place parts j i [] within in_part) at rising) in
    rw (drop-cons part i [] in_part)
    (and_from (is_below key next) (all_above rest key) higher
    (all_above-through rest next key above (below_asymmetric key next higher)))

pub after_above : (parts : List (List Key)) (j i : ℕ) (key : Key) → are_rising (joined parts) ≡ true
    → are_filled parts ≡ true → j < length parts →
    (i < length (part_at parts j) → is_below key (get_or (part_at parts j) i []) ≡ true)
    → (suc j < length parts → is_below key (get_or (part_at parts (suc j)) 0 []) ≡ true)
    → all_above (after parts j i) key ≡ true
after_above parts j i key rising filled within higher next_above =
    elim (cases_lt i (length (part_at parts j))) [
      | inl in_part ↦ after_in_part parts j i key rising within in_part (higher in_part)
      | inr past ↦ elim (cases_lt (suc j) (length parts)) [
        | inl more ↦
            let above = after_in_part parts (suc j) 0 key rising more (filled_at parts (suc j) filled more)
            (next_above more) in
            rw (drop_all i (part_at parts j) past, drop-cons parts (suc j) [] more) above
        | inr last ↦ rw (drop_all i (part_at parts j) past, drop_all (suc j) parts last) refl
      ]
    ]
