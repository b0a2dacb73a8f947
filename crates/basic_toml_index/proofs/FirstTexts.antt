-- Slots of the first texts: one more, a part more, and an index of these texts.
use Rattle.std.proofs.Common.{◌≡◌, ℕ, ◌+◌, ◌-◌, ◌<◌, ◌≤◌, true, ◌==◌, nat_lt, List, [], ◌∷◌, ◌++◌, length, map, take, drop, get_or, Some}
use Rattle.std.proofs.Common.{refl, sym, ap, ap₂, ◌∙◌, subst, arith}
use Rattle.std.specs.List.{list_all, slice_get}
use Rattle.std.specs.List.Sorted.{IsPermutation}
use Rattle.std.specs.Str.{bytes_eq}
use Rattle.std.proofs.lemmas.Bool.{ltb-true, lt-ltb, and_parts, and_from}
use Rattle.std.proofs.lemmas.Option.{slice_get_within}
use Rattle.std.proofs.lemmas.List.{map-append, length-map, length-append, length-take-le, take_more, get_or-take, length-drop}
use Rattle.std.proofs.Math.Seq.{take-add}
use Rattle.std.proofs.lemmas.List.Folds.{list_all-append}
use Rattle.std.proofs.lemmas.List.Sorted.{IsPermutation-refl, IsPermutation-trans, IsPermutation-sym, IsPermutation-map}
use Rattle.std.proofs.lemmas.List.Sorted.{IsPermutation-append, IsPermutation-middle, IsPermutation-to_front, length_permutation}
use Rattle.std.proofs.lemmas.List.Sorted.{list_any-IsPermutation}
use Rattle.basic_toml_index.specs.Keys.{is_among, are_distinct}
use Rattle.basic_toml_index.specs.Index.{ending_of, is_sound, key_of, slot_at, joined, before, after, row_of, are_filled, are_rising}
use Rattle.basic_toml_index.specs.Index.{IsRow, IsSorted, IsPlace}
use Rattle.basic_toml_index.specs.SlotOrder.{IsRun, IsRunOfFirst, AreFirst, is_low, is_before}
use Rattle.basic_toml_index.specs.declared.Gap.{Gap}
use Rattle.basic_toml_index.specs.declared.leaves.Slot.{Slot}
use Rattle.basic_toml_index.proofs.RunsMerged.{run_append, all_moved, all_more}
use Rattle.basic_toml_index.proofs.SlotsSorted.{distinct_moved, rising_distinct}
use Rattle.basic_toml_index.proofs.SlotsInLeaves.{joined-map, located}
use Rattle.basic_toml_index.proofs.KeysOfSlots.{key_from}
use Rattle.basic_toml_index.proofs.IndexGrows.{IsRow-insert, slot_in}

-- slots of fewer texts are slots of more
low_more : (n m : ℕ) (slots : List Slot) → n ≤ m → list_all (is_low n) slots ≡ true → list_all (is_low m) slots ≡ true
low_more n m [] few low = refl
low_more n m (s ∷ ss) few low =
    let parts = and_parts (is_low n s) (list_all (is_low n) ss) low in
    and_from (is_low m s) (list_all (is_low m) ss)
    (lt-ltb s.position m (omega (arith, ltb-true s.position n parts.0, few))) (low_more n m ss few parts.1)

-- a slot that is before none of them, for the next text
pub run_push : (keys : List (List ℕ)) (count : ℕ) (slots : List Slot) (slot : Slot) → count < length keys
    → slot.position ≡ count → is_sound keys slot ≡ true → 0 < length slots
    → is_before keys (slot_at slots (length slots - 1)) slot ≡ true → IsRunOfFirst keys count slots
    → IsRunOfFirst keys (count + 1) (slots ++ slot ∷ [])
run_push keys count slots slot within at sound some before first =
    let key = key_of keys in
    let one : take (count + 1) keys ≡ take count keys ++ key slot ∷ [] =
    take_more keys count [] within ∙ ap (λ p. take count keys ++ get_or keys p [] ∷ []) (sym at) in
    let alone : IsRun keys (slot ∷ []) = record { sound = and_from (is_sound keys slot) true sound refl; rising = refl } in
    record {
      run = run_append keys slots (slot ∷ []) first.run alone some (omega arith) before;
      low = all_more (is_low (count + 1)) slots (slots ++ slot ∷ []) slot refl
          (low_more count (count + 1) slots (omega arith) first.low) (lt-ltb slot.position (count + 1) (omega (arith, at)));
      all = subst (λ (ks : List (List ℕ)). IsPermutation ks (map key (slots ++ slot ∷ []))) (sym one)
          (subst (λ (ks : List (List ℕ)). IsPermutation (take count keys ++ key slot ∷ []) ks)
          (sym (map-append key slots (slot ∷ [])))
          (IsPermutation-append (take count keys) (map key slots) (key slot ∷ []) (key slot ∷ []) first.all
          (IsPermutation-refl (key slot ∷ []))));
      within = omega (arith, within);
    }

take_on : {A : Type 0} (n m : ℕ) (xs : List A) → n ≤ m → take m xs ≡ take n xs ++ take (m - n) (drop n xs)
take_on n m xs few =
    let more : m ≡ n + (m - n) = omega (arith, few) in ap (λ k. take k xs) more ∙ take-add n (m - n) xs

-- a part of the texts that follow, merged with them
pub run_merged : (keys : List (List ℕ)) (count next : ℕ) (run part more : List Slot) → count ≤ next
    → next ≤ length keys → IsRunOfFirst keys count run
    → IsPermutation (take (next - count) (drop count keys)) (map (key_of keys) part)
    → list_all (is_low next) part ≡ true → IsPermutation (run ++ part) more → IsRun keys more
    → IsRunOfFirst keys next more
run_merged keys count next run part more few within first keyed low moved is =
    let key = key_of keys in
    let part_keys = take (next - count) (drop count keys) in
    let split : take next keys ≡ take count keys ++ part_keys = take_on count next keys few in
    record {
      run = is;
      low = all_moved (is_low next) (run ++ part) more moved
          (list_all-append (is_low next) run part
          ∙ and_from (list_all (is_low next) run) (list_all (is_low next) part) (low_more count next run few first.low) low);
      all = subst (λ (ks : List (List ℕ)). IsPermutation ks (map key more)) (sym split)
          (IsPermutation-trans (take count keys ++ part_keys) (map key (run ++ part)) (map key more)
          (subst (λ (ks : List (List ℕ)). IsPermutation (take count keys ++ part_keys) ks) (sym (map-append key run part))
          (IsPermutation-append (take count keys) (map key run) part_keys (map key part) first.all keyed))
          (IsPermutation-map key (run ++ part) more moved));
      within = within;
    }

-- how many slots there are
pub run_length : (keys : List (List ℕ)) (count : ℕ) (slots : List Slot) → IsRunOfFirst keys count slots
    → length slots ≡ count
run_length keys count slots first =
    sym (length-map slots (key_of keys)) ∙ length_permutation (take count keys) (map (key_of keys) slots) first.all
    ∙ length-take-le count keys first.within

pub part_length : (keys : List (List ℕ)) (count next : ℕ) (part : List Slot) → next ≤ length keys
    → IsPermutation (take (next - count) (drop count keys)) (map (key_of keys) part) → length part ≡ next - count
part_length keys count next part within keyed =
    sym (length-map part (key_of keys))
    ∙ length_permutation (take (next - count) (drop count keys)) (map (key_of keys) part) keyed
    ∙ length-take-le (next - count) (drop count keys) (let rest = length-drop count keys in omega (arith, rest, within))

-- the last of some slots
last_at : (xs : List Slot) (x : Slot) → slot_at (xs ++ x ∷ []) (length xs) ≡ x
last_at [] x = refl
last_at (y ∷ xs) x = last_at xs x

pub last_of : (xs : List Slot) (x : Slot) → slot_at (xs ++ x ∷ []) (length (xs ++ x ∷ []) - 1) ≡ x
last_of xs x =
    let place : length (xs ++ x ∷ []) - 1 ≡ length xs = omega (arith, length-append xs (x ∷ [])) in
    ap (slot_at (xs ++ x ∷ [])) place ∙ last_at xs x

pub some_last : (xs : List Slot) (x : Slot) → 0 < length (xs ++ x ∷ [])
some_last xs x = omega (arith, length-append xs (x ∷ []))

-- in leaves
some_leaf : (leaves : List (List Slot)) → 0 < length (joined leaves) → 0 < length leaves
some_leaf [] some = absurd (omega (arith, some))
some_leaf (l ∷ ls) some = omega arith

pub first_in_leaves : (keys : List (List ℕ)) (count : ℕ) (leaves : List (List Slot)) (run : List Slot) → 0 < count
    → joined leaves ≡ run → are_filled leaves ≡ true → IsRunOfFirst keys count run → AreFirst keys count leaves
first_in_leaves keys count leaves run some is filled first = record {
  some = some_leaf leaves (omega (arith, ap (λ s. length s) is, run_length keys count run first, some));
  filled = filled;
  first = subst (λ (ss : List Slot). IsRunOfFirst keys count ss) (sym is) first;
}

pub row_of_first : (keys : List (List ℕ)) (count : ℕ) (leaves : List (List Slot)) → AreFirst keys count leaves
    → IsRow keys leaves
row_of_first keys count leaves first = record {
  some = first.some;
  filled = first.filled;
  sound = first.first.run.sound;
  rising = ap are_rising (joined-map (key_of keys) leaves) ∙ first.first.run.rising;
}

-- whether a key is one of the first texts
pub among_first : (keys : List (List ℕ)) (count : ℕ) (leaves : List (List Slot)) (key : List ℕ)
    → AreFirst keys count leaves → is_among (row_of keys leaves) key ≡ is_among (take count keys) key
among_first keys count leaves key first =
    ap (λ ks. is_among ks key) (joined-map (key_of keys) leaves)
    ∙ sym (list_any-IsPermutation (bytes_eq key) (take count keys) (map (key_of keys) (joined leaves)) first.first.all)

pub distinct_first : (keys : List (List ℕ)) (count : ℕ) (leaves : List (List Slot)) → AreFirst keys count leaves
    → are_distinct (take count keys) ≡ true
distinct_first keys count leaves first =
    let row = map (key_of keys) (joined leaves) in
    distinct_moved row (take count keys) (IsPermutation-sym (take count keys) row first.first.all)
    (rising_distinct row first.first.run.rising)

-- the next text, put where it goes
pub first_insert : (keys : List (List ℕ)) (count : ℕ) (leaves next : List (List Slot)) (gap : Gap) (key : List ℕ)
    → AreFirst keys count leaves → IsPlace keys leaves gap key → slice_get keys count ≡ Some key
    → joined next ≡ before leaves gap.leaf gap.slot ++ slot_in gap count ∷ after leaves gap.leaf gap.slot
    → 0 < length next → are_filled next ≡ true → AreFirst keys (count + 1) next
first_insert keys count leaves next gap key first place at is some filled =
    let row = IsRow-insert keys leaves next gap count key (row_of_first keys count leaves first) place at is some filled in
    let slot = slot_in gap count in
    let front = before leaves gap.leaf gap.slot in
    let back = after leaves gap.leaf gap.slot in
    let seen = key_of keys in
    let was : joined leaves ≡ front ++ back = located leaves gap.leaf gap.slot place.in_leaves in
    let within = slice_get_within keys count key at in
    let one : take (count + 1) keys ≡ take count keys ++ key ∷ [] =
    take_more keys count [] within ∙ ap (λ k. take count keys ++ k ∷ []) (key_from keys count key at) in
    let moved : IsPermutation (joined leaves ++ slot ∷ []) (joined next) =
    subst (λ (ss : List Slot). IsPermutation (joined leaves ++ slot ∷ []) ss) (sym is)
    (subst (λ (ss : List Slot). IsPermutation (ss ++ slot ∷ []) (front ++ slot ∷ back)) (sym was)
    (IsPermutation-trans ((front ++ back) ++ slot ∷ []) (slot ∷ (front ++ back)) (front ++ slot ∷ back)
    (IsPermutation-to_front (front ++ back) slot)
    (IsPermutation-sym (front ++ slot ∷ back) (slot ∷ (front ++ back)) (IsPermutation-middle front slot back)))) in
    record {
      some = some;
      filled = filled;
      first = record {
        run = record {
          sound = row.sound;
          rising = sym (ap are_rising (joined-map seen next)) ∙ row.rising;
        };
        low = all_moved (is_low (count + 1)) (joined leaves ++ slot ∷ []) (joined next) moved
            (all_more (is_low (count + 1)) (joined leaves) (joined leaves ++ slot ∷ []) slot refl
            (low_more count (count + 1) (joined leaves) (omega arith) first.first.low) (lt-ltb count (count + 1) (omega arith)));
        all = subst (λ (ks : List (List ℕ)). IsPermutation ks (map seen (joined next))) (sym one)
            (IsPermutation-trans (take count keys ++ key ∷ []) (map seen (joined leaves ++ slot ∷ [])) (map seen (joined next))
            (subst (λ (ks : List (List ℕ)). IsPermutation (take count keys ++ key ∷ []) ks)
            (sym (map-append seen (joined leaves) (slot ∷ [])
            ∙ ap (λ k. map seen (joined leaves) ++ k ∷ []) (key_from keys count key at)))
            (IsPermutation-append (take count keys) (map seen (joined leaves)) (key ∷ []) (key ∷ []) first.first.all
            (IsPermutation-refl (key ∷ []))))
            (IsPermutation-map seen (joined leaves ++ slot ∷ []) (joined next) moved));
        within = omega (arith, within);
      };
    }

-- an index of the first texts
low_key : (keys : List (List ℕ)) (count : ℕ) (slot : Slot) → count ≤ length keys → is_low count slot ≡ true
    → key_of (take count keys) slot ≡ key_of keys slot
low_key keys count slot within low = get_or-take count keys slot.position [] (ltb-true slot.position count low)

low_sound : (keys : List (List ℕ)) (count : ℕ) (slot : Slot) → count ≤ length keys → is_low count slot ≡ true
    → is_sound keys slot ≡ true → is_sound (take count keys) slot ≡ true
low_sound keys count slot within low sound =
    let parts = and_parts (nat_lt slot.position (length keys)) (slot.ending == ending_of (key_of keys slot)) sound in
    and_from (nat_lt slot.position (length (take count keys))) (slot.ending == ending_of (key_of (take count keys) slot))
    (lt-ltb slot.position (length (take count keys))
    (omega (arith, length-take-le count keys within, ltb-true slot.position count low)))
    (ap (λ k. slot.ending == ending_of k) (low_key keys count slot within low) ∙ parts.1)

all_low_sound : (keys : List (List ℕ)) (count : ℕ) (slots : List Slot) → count ≤ length keys
    → list_all (is_low count) slots ≡ true → list_all (is_sound keys) slots ≡ true
    → (list_all (is_sound (take count keys)) slots ≡ true) × (map (key_of (take count keys)) slots ≡ map (key_of keys) slots)
all_low_sound keys count [] within low sound = (refl, refl)
all_low_sound keys count (s ∷ ss) within low sound =
    let l = and_parts (is_low count s) (list_all (is_low count) ss) low in
    let d = and_parts (is_sound keys s) (list_all (is_sound keys) ss) sound in
    let rest = all_low_sound keys count ss within l.1 d.1 in (
      and_from (is_sound (take count keys) s) (list_all (is_sound (take count keys)) ss)
          (low_sound keys count s within l.0 d.0) rest.0,
      ap₂ (λ k ks. k ∷ ks) (low_key keys count s within l.0) rest.1,
    )

pub sorted_first : (keys : List (List ℕ)) (count : ℕ) (leaves : List (List Slot)) → AreFirst keys count leaves
    → IsSorted (take count keys) leaves
sorted_first keys count leaves first =
    let few = take count keys in
    let both = all_low_sound keys count (joined leaves) first.first.within first.first.low first.first.run.sound in
    let row_is : row_of few leaves ≡ row_of keys leaves =
    joined-map (key_of few) leaves ∙ both.1 ∙ sym (joined-map (key_of keys) leaves) in
    record {
      row = record {
        some = first.some;
        filled = first.filled;
        sound = both.0;
        rising = ap are_rising row_is ∙ (row_of_first keys count leaves first).rising;
      };
      same = λ key. ap (λ ks. is_among ks key) row_is ∙ among_first keys count leaves key first;
    }

-- where there is a leaf, there is a text
pub count_some : (keys : List (List ℕ)) (count : ℕ) (leaves : List (List Slot)) → AreFirst keys count leaves → 0 < count
count_some keys count [] first = absurd (omega (arith, first.some))
count_some keys count (l ∷ ls) first =
    let filled = and_parts (nat_lt 0 (length l)) (are_filled ls) first.filled in
    let low = ltb-true 0 (length l) filled.0 in
    let all = length-append l (joined ls) in
    omega (arith, low, all, run_length keys count (l ++ joined ls) first.first)
