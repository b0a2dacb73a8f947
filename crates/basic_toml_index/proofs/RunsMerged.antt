-- Runs of slots: two of them merged slot by slot, or put one after the other.
use Rattle.std.proofs.Common.{◌≡◌, ℕ, suc, ◌+◌, ◌-◌, ◌<◌, true, List, [], ◌∷◌, ◌++◌, length, map, take, drop, get_or, Some}
use Rattle.std.proofs.Common.{refl, sym, ap, ap₂, ◌∙◌, subst, arith, append_assoc, add-one, Bool, ◌≤◌, Option, None, Result, Ok, Err, IfOk, IfSome}
use Rattle.std.specs.List.{list_all}
use Rattle.std.specs.List.Sorted.{IsPermutation}
use Rattle.std.proofs.lemmas.List.{map-append, append-nil, length-map, get_or-map, get_or-drop, take_more}
use Rattle.std.proofs.lemmas.List.Folds.{list_all-append}
use Rattle.std.proofs.lemmas.List.Sums.{AllPass-from_list_all, list_all-from_AllPass}
use Rattle.std.proofs.lemmas.List.Sorted.{IsPermutation-map, IsPermutation-trans, IsPermutation-middle}
use Rattle.std.proofs.lemmas.List.Sorted.{IsPermutation-append, All-permutation}
use Rattle.std.proofs.lemmas.List.Sorted.{IsPermutation-append_right}
use Rattle.basic_toml_index.specs.Index.{is_below, are_rising, all_above, is_sound, key_of, slot_at}
use Rattle.basic_toml_index.specs.SlotOrder.{is_before, IsRun, AreInOrder}
use Rattle.basic_toml_index.specs.declared.leaves.Slot.{Slot}
use Rattle.std.proofs.lemmas.Bool.{and_parts, and_from}
use Rattle.std.specs.Cmp.{nat_cmp_is}
use Rattle.std.specs.Cmp.Lexicographic.{slice_cmp}
use Rattle.std.specs.Ordering.{is_lt, nat_cmp, ordering_then, ordering_reverse}
use Rattle.std.specs.declared.cmp.Ordering.{Ordering}
use Rattle.std.specs.declared.cmp.Ordering.TheVariants.{Less, Equal, Greater}
use Rattle.std.proofs.lemmas.Cmp.{nat_list_cmp_total}
use Rattle.std.proofs.lemmas.List.{drop_more, take_all, length-drop}
use Rattle.std.specs.List.{slice_get}
use Rattle.basic_toml_index.proofs.KeysOfSlots.{key_from}
use Rattle.basic_toml_index.proofs.SlotsInLeaves.{all_at}
use Rattle.basic_toml_index.proofs.Order.{rising-left, rising-right, rising-insert, all_above-through, below_asymmetric}
use Rattle.basic_toml_index.proofs.SlotsSorted.{before_is_below, rising_from_beside}

-- a key between two rising lists: before it all that is below, after it what is above it and above another
above_more : (key k : List ℕ) (ks : List (List ℕ)) → is_below key k ≡ true → all_above ks k ≡ true
    → all_above (k ∷ ks) key ≡ true
above_more key k ks below above = rw (below, all_above-through ks k key above (below_asymmetric key k below)) refl

tail_above : (xs : List (List ℕ)) (k : List ℕ) (ks : List (List ℕ)) → are_rising (xs ++ k ∷ ks) ≡ true
    → all_above ks k ≡ true
tail_above xs k ks rising = rising-right xs k ks rising

-- the key that comes first goes between what is merged and what is left of the other run
goes_between : (out : List (List ℕ)) (a : List ℕ) (more : List (List ℕ)) (b : List ℕ) (others : List (List ℕ))
    → are_rising (out ++ a ∷ more) ≡ true → are_rising (out ++ b ∷ others) ≡ true → is_below a b ≡ true
    → are_rising (out ++ a ∷ b ∷ others) ≡ true
goes_between out a more b others left right below =
    rising-insert out (b ∷ others) a right (rising-left out a more left)
    (above_more a b others below (tail_above out b others right))

-- two rising lists, the last of one below the first of the other
rising-append : (xs : List (List ℕ)) (y z : List ℕ) (zs : List (List ℕ)) → are_rising (xs ++ y ∷ []) ≡ true
    → are_rising (z ∷ zs) ≡ true → is_below y z ≡ true → are_rising (xs ++ y ∷ z ∷ zs) ≡ true
rising-append [] y z zs left right below =
    let parts = and_parts (all_above zs z) (are_rising zs) right in
    and_from (all_above (z ∷ zs) y) (are_rising (z ∷ zs)) (above_more y z zs below parts.0) right
rising-append (x ∷ xs) y z zs left right below =
    let parts = and_parts (all_above (xs ++ y ∷ []) x) (are_rising (xs ++ y ∷ [])) left in
    let own = and_parts (all_above xs x) (all_above (y ∷ []) x)
    (sym (list_all-append (is_below x) xs (y ∷ [])) ∙ parts.0) in
    let below_y = (and_parts (is_below x y) true own.1).0 in
    let first = and_parts (all_above zs z) (are_rising zs) right in
    let rest = above_more x y (z ∷ zs) below_y (above_more y z zs below first.0) in
    and_from (all_above (xs ++ y ∷ z ∷ zs) x) (are_rising (xs ++ y ∷ z ∷ zs))
    (list_all-append (is_below x) xs (y ∷ z ∷ zs) ∙ and_from (all_above xs x) (all_above (y ∷ z ∷ zs) x) own.0 rest)
    (rising-append xs y z zs parts.1 right below)

-- what is merged so far of two runs, and what is left of each
pub record Merging (keys : List (List ℕ)) (whole out left right : List Slot) : Type 0 where
  pub moved : IsPermutation whole (out ++ (left ++ right))
  pub rising_left : are_rising (map (key_of keys) (out ++ left)) ≡ true
  pub rising_right : are_rising (map (key_of keys) (out ++ right)) ≡ true

module _ (keys : List (List ℕ)) (whole out : List Slot) (a : Slot) (more : List Slot) (b : Slot) (others : List Slot)
    (now : Merging keys whole out (a ∷ more) (b ∷ others)) where
  abbrev key : Slot → List ℕ
  key slot = key_of keys slot

  one_more : (c : Slot) (rest : List Slot) → (out ++ c ∷ []) ++ rest ≡ out ++ c ∷ rest
  one_more c rest = append_assoc out (c ∷ []) rest

  keyed : (rest : List Slot) → map key (out ++ rest) ≡ map key out ++ map key rest
  keyed rest = map-append key out rest

  left_now : are_rising (map key out ++ key a ∷ map key more) ≡ true
  left_now = subst (λ (ks : List (List ℕ)). are_rising ks ≡ true) (keyed (a ∷ more)) now.rising_left

  right_now : are_rising (map key out ++ key b ∷ map key others) ≡ true
  right_now = subst (λ (ks : List (List ℕ)). are_rising ks ≡ true) (keyed (b ∷ others)) now.rising_right

  rises : (c : Slot) (rest : List Slot) → are_rising (map key out ++ key c ∷ map key rest) ≡ true
      → are_rising (map key ((out ++ c ∷ []) ++ rest)) ≡ true
  rises c rest rising = ap (λ ss. are_rising (map key ss)) (one_more c rest) ∙ ap are_rising (keyed (c ∷ rest)) ∙ rising

  pub take_left : is_below (key a) (key b) ≡ true → Merging keys whole (out ++ a ∷ []) more (b ∷ others)
  take_left below = record {
    moved = subst (λ (ss : List Slot). IsPermutation whole ss) (sym (one_more a (more ++ b ∷ others))) now.moved;
    rising_left = rises a more left_now;
    rising_right = rises a (b ∷ others)
        (goes_between (map key out) (key a) (map key more) (key b) (map key others) left_now right_now below);
  }

  pub take_right : is_below (key b) (key a) ≡ true → Merging keys whole (out ++ b ∷ []) (a ∷ more) others
  take_right below = record {
    moved = subst (λ (ss : List Slot). IsPermutation whole ss) (sym (one_more b ((a ∷ more) ++ others)))
        (IsPermutation-trans whole (out ++ ((a ∷ more) ++ b ∷ others)) (out ++ b ∷ ((a ∷ more) ++ others)) now.moved
        (IsPermutation-append_right out ((a ∷ more) ++ b ∷ others) (b ∷ ((a ∷ more) ++ others))
        (IsPermutation-middle (a ∷ more) b others)));
    rising_left = rises b (a ∷ more)
        (goes_between (map key out) (key b) (map key others) (key a) (map key more) right_now left_now below);
    rising_right = rises b others right_now;
  }

-- which of two slots comes first
module _ (keys : List (List ℕ)) (a b : Slot) (sound_a : is_sound keys a ≡ true) (sound_b : is_sound keys b ≡ true) where
  by_ending : (o : Ordering) → o ≡ nat_cmp a.ending b.ending
      → is_below (key_of keys a) (key_of keys b)
      ≡ is_lt (ordering_then o (slice_cmp nat_cmp (key_of keys a) (key_of keys b)))
  by_ending o is =
      sym (before_is_below keys a b sound_a sound_b)
      ∙ ap (λ o. is_lt (ordering_then o (slice_cmp nat_cmp (key_of keys a) (key_of keys b)))) (sym is)

  pub lower_ending : a.ending < b.ending → is_below (key_of keys a) (key_of keys b) ≡ true
  lower_ending less = by_ending Less (nat_cmp_is a.ending b.ending Less less)

  pub lower_text : (x y : List ℕ) → slice_get keys a.position ≡ Some x → slice_get keys b.position ≡ Some y
      → a.ending ≡ b.ending → slice_cmp nat_cmp x y ≡ Less → is_below (key_of keys a) (key_of keys b) ≡ true
  lower_text x y at_a at_b same less =
      let texts : slice_cmp nat_cmp (key_of keys a) (key_of keys b) ≡ Less =
      ap₂ (slice_cmp nat_cmp) (key_from keys a.position x at_a) (key_from keys b.position y at_b) ∙ less in
      by_ending Equal (nat_cmp_is a.ending b.ending Equal same) ∙ ap (λ o. is_lt o) texts

reversed : (x y : List ℕ) → slice_cmp nat_cmp x y ≡ Greater → slice_cmp nat_cmp y x ≡ Less
reversed x y more = nat_list_cmp_total.antisymm y x ∙ ap ordering_reverse more

pub higher_text : (keys : List (List ℕ)) (a b : Slot) → is_sound keys a ≡ true → is_sound keys b ≡ true
    → (x y : List ℕ) → slice_get keys a.position ≡ Some x → slice_get keys b.position ≡ Some y
    → a.ending ≡ b.ending → slice_cmp nat_cmp x y ≡ Greater → is_below (key_of keys b) (key_of keys a) ≡ true
higher_text keys a b sound_a sound_b x y at_a at_b same more =
    lower_text keys b a sound_b sound_a y x at_b at_a (sym same) (reversed x y more)

-- one step on in one of the runs
module _ (keys : List (List ℕ)) (whole out next left right : List Slot) (i j : ℕ) (low_i : i < length left)
    (low_j : j < length right) (now : Merging keys whole out (drop i left) (drop j right)) where
  abbrev first : Slot
  first = slot_at left i

  abbrev second : Slot
  second = slot_at right j

  left_is : drop i left ≡ first ∷ drop (i + 1) left
  left_is = drop_more left i (record { ending = 0; position = 0 }) low_i

  right_is : drop j right ≡ second ∷ drop (j + 1) right
  right_is = drop_more right j (record { ending = 0; position = 0 }) low_j

  both : Merging keys whole out (first ∷ drop (i + 1) left) (second ∷ drop (j + 1) right)
  both =
      subst (λ (r : List Slot). Merging keys whole out (first ∷ drop (i + 1) left) r) right_is
      (subst (λ (l : List Slot). Merging keys whole out l (drop j right)) left_is now)

  pub left_taken : next ≡ out ++ first ∷ [] → is_below (key_of keys first) (key_of keys second) ≡ true
      → Merging keys whole next (drop (i + 1) left) (drop j right)
  left_taken is below =
      subst (λ (o : List Slot). Merging keys whole o (drop (i + 1) left) (drop j right)) (sym is)
      (subst (λ (r : List Slot). Merging keys whole (out ++ first ∷ []) (drop (i + 1) left) r) (sym right_is)
      (take_left keys whole out first (drop (i + 1) left) second (drop (j + 1) right) both below))

  pub right_taken : next ≡ out ++ second ∷ [] → is_below (key_of keys second) (key_of keys first) ≡ true
      → Merging keys whole next (drop i left) (drop (j + 1) right)
  right_taken is below =
      subst (λ (o : List Slot). Merging keys whole o (drop i left) (drop (j + 1) right)) (sym is)
      (subst (λ (l : List Slot). Merging keys whole (out ++ second ∷ []) l (drop (j + 1) right)) (sym left_is)
      (take_right keys whole out first (drop (i + 1) left) second (drop (j + 1) right) both below))

-- what holds of all slots holds of them moved, and of the slot at a place
pub all_moved : {A : Type 0} (test : A → Bool) (xs ys : List A) → IsPermutation xs ys → list_all test xs ≡ true
    → list_all test ys ≡ true
all_moved test xs ys moved all =
    list_all-from_AllPass test ys (All-permutation (λ s. test s ≡ true) xs ys moved (AllPass-from_list_all test xs all))

pub sound_at : (keys : List (List ℕ)) (slots : List Slot) (i : ℕ) → list_all (is_sound keys) slots ≡ true
    → i < length slots → is_sound keys (slot_at slots i) ≡ true
sound_at keys slots i sound low = all_at (is_sound keys) slots i (record { ending = 0; position = 0 }) sound low

sound_both : (keys : List (List ℕ)) (left right : List Slot) → list_all (is_sound keys) left ≡ true
    → list_all (is_sound keys) right ≡ true → list_all (is_sound keys) (left ++ right) ≡ true
sound_both keys left right l r =
    list_all-append (is_sound keys) left right
    ∙ and_from (list_all (is_sound keys) left) (list_all (is_sound keys) right) l r

pub run_of_both : (keys : List (List ℕ)) (left right run : List Slot) → IsRun keys left → IsRun keys right
    → IsPermutation (left ++ right) run → are_rising (map (key_of keys) run) ≡ true → IsRun keys run
run_of_both keys left right run l r moved rising = record {
  sound = all_moved (is_sound keys) (left ++ right) run moved (sound_both keys left right l.sound r.sound);
  rising = rising;
}

-- where one of the runs is used up, what is merged and the rest of the other are all, in order
pub run_without_right : (keys : List (List ℕ)) (left right out rest none : List Slot) → IsRun keys left
    → IsRun keys right → Merging keys (left ++ right) out rest none → none ≡ [] → IsRun keys (out ++ (rest ++ none))
run_without_right keys left right out rest none l r now used =
    run_of_both keys left right (out ++ (rest ++ none)) l r now.moved
    (ap (λ n. are_rising (map (key_of keys) (out ++ (rest ++ n)))) used
    ∙ ap (λ n. are_rising (map (key_of keys) (out ++ n))) (append-nil rest) ∙ now.rising_left)

pub run_without_left : (keys : List (List ℕ)) (left right out none rest : List Slot) → IsRun keys left
    → IsRun keys right → Merging keys (left ++ right) out none rest → none ≡ [] → IsRun keys (out ++ (none ++ rest))
run_without_left keys left right out none rest l r now used =
    run_of_both keys left right (out ++ (none ++ rest)) l r now.moved
    (ap (λ n. are_rising (map (key_of keys) (out ++ (n ++ rest)))) used ∙ now.rising_right)

-- a run and a run after it
pub run_append : (keys : List (List ℕ)) (left right : List Slot) → IsRun keys left → IsRun keys right
    → 0 < length left → 0 < length right
    → is_before keys (slot_at left (length left - 1)) (slot_at right 0) ≡ true → IsRun keys (left ++ right)
run_append keys left right l r some_left some_right before =
    let none : Slot = record { ending = 0; position = 0 } in
    let last = slot_at left (length left - 1) in
    let first = slot_at right 0 in
    let front = take (length left - 1) left in
    let rest = drop 1 right in
    let left_is : left ≡ front ++ last ∷ [] =
    sym (take_all (length left - 1 + 1) left (omega (arith, some_left)))
    ∙ take_more left (length left - 1) none (omega (arith, some_left)) in
    let right_is : right ≡ first ∷ rest = drop_more right 0 none some_right in
    let below = sym (before_is_below keys last first (sound_at keys left (length left - 1) l.sound (omega (arith, some_left)))
    (sound_at keys right 0 r.sound some_right)) ∙ before in
    let key = key_of keys in
    let low = sym (ap (λ ss. are_rising (map key ss)) left_is ∙ ap are_rising (map-append key front (last ∷ []))) ∙ l.rising in
    let high = sym (ap (λ ss. are_rising (map key ss)) right_is) ∙ r.rising in
    record {
      sound = sound_both keys left right l.sound r.sound;
      rising = ap₂ (λ xs ys. are_rising (map key (xs ++ ys))) left_is right_is
          ∙ ap (λ ss. are_rising (map key ss)) (append_assoc front (last ∷ []) (first ∷ rest))
          ∙ ap are_rising (map-append key front (last ∷ first ∷ rest))
          ∙ rising-append (map key front) (key last) (key first) (map key rest) low high below;
    }

-- slots of which each is before the next one
pub run_in_order : (keys : List (List ℕ)) (slots : List Slot) → list_all (is_sound keys) slots ≡ true
    → AreInOrder keys slots → IsRun keys slots
run_in_order keys slots sound up = record {
  sound = sound;
  rising = rising_from_beside (map (key_of keys) slots) (λ i within. (
      let counted = length-map slots (key_of keys) in
      let low : i < length slots = omega (arith, counted, within) in
      let next : suc i < length slots = omega (arith, counted, within) in
      let here : i + 1 < length slots = omega (arith, next) in
      rw (
        row_at i low,
        row_at (suc i) next,
        ← before_is_below keys (slot_at slots i) (slot_at slots (suc i))
            (sound_at keys slots i sound low) (sound_at keys slots (suc i) sound next),
      ) (rw add-one at (up i here))));
}
  where
    row_at : (i : ℕ) → i < length slots → get_or (map (key_of keys) slots) i [] ≡ key_of keys (slot_at slots i)
    row_at i within = get_or-map (key_of keys) slots i (record { ending = 0; position = 0 }) [] within

-- a slot more, for the next of the keys from a place on
pub slot_more : (keys : List (List ℕ)) (slots next : List Slot) (slot : Slot) (from position : ℕ)
    → from ≤ position → position < length keys → slot.position ≡ position → next ≡ slots ++ slot ∷ []
    → map (key_of keys) slots ≡ take (position - from) (drop from keys)
    → map (key_of keys) next ≡ take (position + 1 - from) (drop from keys)
slot_more keys slots next slot from position low within at is all =
    let one : take (position - from + 1) (drop from keys)
    ≡ take (position - from) (drop from keys) ++ get_or (drop from keys) (position - from) [] ∷ [] =
    take_more (drop from keys) (position - from) [] (omega (arith, length-drop from keys)) in
    let here : get_or (drop from keys) (position - from) [] ≡ key_of keys slot =
    get_or-drop from keys (position - from) []
    ∙ ap (λ p. get_or keys p []) (omega (arith, low)) ∙ ap (λ p. get_or keys p []) (sym at) in
    ap (map (key_of keys)) is ∙ map-append (key_of keys) slots (slot ∷ [])
    ∙ ap (λ ks. ks ++ key_of keys slot ∷ []) all
    ∙ ap (λ k. take (position - from) (drop from keys) ++ k ∷ []) (sym here) ∙ sym one
    ∙ ap (λ n. take n (drop from keys)) (omega (arith, low))

pub all_more : {A : Type 0} (test : A → Bool) (xs next : List A) (x : A) → next ≡ xs ++ x ∷ []
    → list_all test xs ≡ true → test x ≡ true → list_all test next ≡ true
all_more test xs next x is all here =
    ap (list_all test) is ∙ list_all-append test xs (x ∷ [])
    ∙ and_from (list_all test xs) (list_all test (x ∷ [])) all (and_from (test x) true here refl)

-- the keys of slots that are moved
pub keys_moved : (keys part : List (List ℕ)) (made run : List Slot) → map (key_of keys) made ≡ part
    → IsPermutation made run → IsPermutation part (map (key_of keys) run)
keys_moved keys part made run whole moved =
    subst (λ (ks : List (List ℕ)). IsPermutation ks (map (key_of keys) run)) whole
    (IsPermutation-map (key_of keys) made run moved)

-- halves that are moved, and put together
pub halves_moved : {A : Type 0} (whole left right sorted_left sorted_right run : List A) → whole ≡ left ++ right
    → IsPermutation left sorted_left → IsPermutation right sorted_right
    → IsPermutation (sorted_left ++ sorted_right) run → IsPermutation whole run
halves_moved whole left right sorted_left sorted_right run is l r moved =
    subst (λ (w : List _). IsPermutation w run) (sym is)
    (IsPermutation-trans (left ++ right) (sorted_left ++ sorted_right) run
    (IsPermutation-append left sorted_left right sorted_right l r) moved)

-- what follows of each thing found follows where one is found
pub found_weaker : {A E : Type 0} (r : Result (Option A) E) (P Q : A → Type 0) → ((x : A) → P x → Q x)
    → IfOk r (λ found. IfSome found P) → IfOk r (λ found. IfSome found Q)
found_weaker (Ok (Some x)) P Q so holds = so x holds
found_weaker (Ok None) P Q so holds = tt
found_weaker (Err e) P Q so holds = tt
