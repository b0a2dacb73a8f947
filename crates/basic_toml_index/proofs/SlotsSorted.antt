-- Keys in another order differ as before, and keys that rise differ; slots stand in the order of their keys.
use Rattle.std.proofs.Common.{◌≡◌, ℕ, suc, ◌+◌, ◌<◌, ◌≤◌, true, false, Bool, cond, not, ◌||◌, nat_lt, ◌==◌, List, [], ◌∷◌, length, get_or}
use Rattle.std.proofs.Common.{refl, ap, ◌∙◌, arith}
use Rattle.std.specs.List.{list_all, sum_by}
use Rattle.std.specs.List.Sorted.{IsPermutation}
use Rattle.std.specs.Str.{bytes_eq}
use Rattle.std.proofs.lemmas.Bool.Decides.{Decides-eqb}
use Rattle.std.proofs.lemmas.List.Sums.{sum_by-cons}
use Rattle.std.proofs.lemmas.List.Sorted.{sum_by-IsPermutation}
use Rattle.std.proofs.lemmas.Slice.Eq.{bytes_eq-Decides}
use Rattle.basic_toml_index.specs.Keys.{is_among, are_distinct}
use Rattle.basic_toml_index.specs.Index.{ending_of, is_below, are_rising, is_sound, key_of}
use Rattle.basic_toml_index.specs.SlotOrder.{is_before}
use Rattle.basic_toml_index.specs.declared.leaves.Slot.{Slot}
use Rattle.std.proofs.lemmas.Bool.{and_parts}
use Rattle.basic_toml_index.proofs.DistinctKeys.{bytes_eq-same}
use Rattle.basic_toml_index.proofs.Order.{all_above-through, below_asymmetric, none_above}

or_cases : (a b : Bool) → (a || b) ≡ false → (a ≡ false) × (b ≡ false)
or_cases true b neither = absurd (cc)
or_cases false b neither = (refl, neither)

not_true : (b : Bool) → not b ≡ true → b ≡ false
not_true true differs = absurd (cc)
not_true false differs = refl

-- how often a key stands among others

abbrev times : List ℕ → List (List ℕ) → ℕ
times key keys = sum_by (λ k. cond (bytes_eq key k) 1 0) keys

times-cons : (key k : List ℕ) (ks : List (List ℕ)) → times key (k ∷ ks) ≡ cond (bytes_eq key k) 1 0 + times key ks
times-cons key k ks = sum_by-cons (λ k. cond (bytes_eq key k) 1 0) k ks

none_there : (b : Bool) (n m : ℕ) → m ≡ cond b 1 0 + n → n ≡ 0 → b ≡ false → m ≡ 0
none_there b n m is none differs = is ∙ rw (differs, none) refl

none_times : (key : List ℕ) (ks : List (List ℕ)) → is_among ks key ≡ false → times key ks ≡ 0
none_times key [] absent = refl
none_times key (k ∷ ks) absent =
    let parts = or_cases (bytes_eq key k) (is_among ks key) absent in
    none_there (bytes_eq key k) (times key ks) (times key (k ∷ ks)) (times-cons key k ks) (none_times key ks parts.1) parts.0

-- distinct keys stand once each at most, and keys that do are distinct

once : (b : Bool) (n m : ℕ) → m ≡ cond b 1 0 + n → (b ≡ true → n ≡ 0) → n ≤ 1 → m ≤ 1
once true n m is none low = let zero = none refl in omega (arith, is, zero)
once false n m is none low = omega (arith, is, low)

pub at_most_once : (ks : List (List ℕ)) → are_distinct ks ≡ true → (key : List ℕ) → times key ks ≤ 1
at_most_once [] distinct key = omega arith
at_most_once (k ∷ ks) distinct key =
    let parts = and_parts (not (is_among ks k)) (are_distinct ks) distinct in
    once (bytes_eq key k) (times key ks) (times key (k ∷ ks)) (times-cons key k ks)
    (λ same. none_times key ks (ap (is_among ks) ((bytes_eq-Decides key k).0 same) ∙ not_true (is_among ks k) parts.0))
    (at_most_once ks parts.1 key)

not_there : (b : Bool) (n m : ℕ) → m ≡ cond b 1 0 + n → m ≡ 0 → (b ≡ false) × (n ≡ 0)
not_there true n m is none = absurd (omega arith)
not_there false n m is none = (refl, omega arith)

none_among : (key : List ℕ) (ks : List (List ℕ)) → times key ks ≡ 0 → is_among ks key ≡ false
none_among key [] none = refl
none_among key (k ∷ ks) none =
    let parts = not_there (bytes_eq key k) (times key ks) (times key (k ∷ ks)) (times-cons key k ks) none in
    rw parts.0 (none_among key ks parts.1)

distinct_from_times : (ks : List (List ℕ)) → ((key : List ℕ) → times key ks ≤ 1) → are_distinct ks ≡ true
distinct_from_times [] low = refl
distinct_from_times (k ∷ ks) low =
    let here : times k (k ∷ ks) ≡ 1 + times k ks =
    times-cons k k ks ∙ ap (λ b. cond b 1 0 + times k ks) (bytes_eq-same k) in
    let first = low k in
    let none : times k ks ≡ 0 = omega (arith, here, first) in
    rw (none_among k ks none)
    (distinct_from_times ks (λ key. (let more = times-cons key k ks in let bound = low key in omega (arith, more, bound))))

pub distinct_moved : (xs ys : List (List ℕ)) → IsPermutation xs ys → are_distinct xs ≡ true → are_distinct ys ≡ true
distinct_moved xs ys moved distinct =
    distinct_from_times ys (λ key. (
    let same = sum_by-IsPermutation (λ k. cond (bytes_eq key k) 1 0) xs ys moved in
    let low = at_most_once xs distinct key in omega (arith, same, low)))

-- rising keys are distinct

pub rising_distinct : (ks : List (List ℕ)) → are_rising ks ≡ true → are_distinct ks ≡ true
rising_distinct [] rising = refl
rising_distinct (k ∷ ks) rising =
    let parts = and_parts (list_all (is_below k) ks) (are_rising ks) rising in
    rw (none_above ks k parts.0) (rising_distinct ks parts.1)

-- keys each below the next one rise
pub rising_from_beside : (ks : List (List ℕ))
    → ((i : ℕ) → suc i < length ks → is_below (get_or ks i []) (get_or ks (suc i) []) ≡ true) → are_rising ks ≡ true
rising_from_beside [] up = refl
rising_from_beside (k ∷ []) up = refl
rising_from_beside (k ∷ j ∷ ks) up =
    let rest = rising_from_beside (j ∷ ks) (λ i within. up (suc i) (omega arith)) in
    let parts = and_parts (list_all (is_below j) ks) (are_rising ks) rest in
    let first = up 0 (omega arith) in
    rw (first, all_above-through ks j k parts.0 (below_asymmetric k j first)) rest

ending_from : (keys : List (List ℕ)) (slot : Slot) → is_sound keys slot ≡ true → slot.ending ≡ ending_of (key_of keys slot)
ending_from keys slot sound =
    (Decides-eqb slot.ending (ending_of (key_of keys slot))).0
    (and_parts (nat_lt slot.position (length keys)) (slot.ending == ending_of (key_of keys slot)) sound).1

-- sound slots stand in the order of their keys
pub before_is_below : (keys : List (List ℕ)) (a b : Slot) → is_sound keys a ≡ true → is_sound keys b ≡ true
    → is_before keys a b ≡ is_below (key_of keys a) (key_of keys b)
before_is_below keys a b sound_a sound_b = rw (ending_from keys a sound_a, ending_from keys b sound_b) refl
