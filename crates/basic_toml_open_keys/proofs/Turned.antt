-- Two keys of a list that changed places.
use Rattle.std.proofs.Common.{◌≡◌, ℕ, zero, suc, ◌+◌, ◌<◌, ◌≤◌, Bool, true, false, not, List, [], ◌∷◌, IsTrue}
use Rattle.std.proofs.Common.{length, take, get_or, set, map, refl, sym, ap, ◌∙◌, subst, arith, add-one, inl, inr}
use Rattle.std.specs.Prelude.{◌&&◌, ◌||◌}
use Rattle.std.specs.List.{All, swap}
use Rattle.std.specs.Str.{bytes_eq}
use Rattle.std.specs.Cmp.Lexicographic.{same_text}
use Rattle.std.proofs.lemmas.Bool.{cases_eq}
use Rattle.std.proofs.lemmas.List.{get_or_default, length-map}
use Rattle.std.proofs.lemmas.List.Edits.{swap_is}
use Rattle.basic_toml_index.specs.Keys.{is_among, are_distinct}
use Rattle.basic_toml_open_keys.specs.Names.{name_at, IsPlace}
use Rattle.basic_toml_open_keys.specs.declared.names.Place.{Place}
use Rattle.basic_toml_open_keys.specs.Keys.{with_key, with_keys, key_before, turned, IsGreatest}
use Rattle.basic_toml_open_keys.proofs.KeyIsAdded.{with_key-turn, with_keys_among, same_test}

set_twice : {A : Type 0} (xs : List A) (i : ℕ) (d : A) → suc i < length xs
    → set (set xs i (get_or xs (suc i) d)) (suc i) (get_or xs i d) ≡ turned i xs
set_twice [] i d lt = absurd (omega arith)
set_twice (x ∷ []) i d lt = absurd (omega arith)
set_twice (x ∷ y ∷ xs) zero d lt = refl
set_twice (x ∷ y ∷ xs) (suc i) d lt = ap (λ l. x ∷ l) (set_twice (y ∷ xs) i d (omega arith))

swapped_is : {A : Type 0} (xs : List A) (i : ℕ) (d : A) → i + 1 < length xs → swap xs i (i + 1) ≡ turned i xs
swapped_is xs i d lt =
    sym (swap_is xs i (i + 1) d (omega arith) lt)
    ∙ (rw add-one (set_twice xs i d (omega arith)))

map_turned : {A B : Type 0} (f : A → B) (i : ℕ) (xs : List A) → map f (turned i xs) ≡ turned i (map f xs)
map_turned f zero [] = refl
map_turned f zero (x ∷ []) = refl
map_turned f zero (x ∷ y ∷ xs) = refl
map_turned f (suc i) [] = refl
map_turned f (suc i) (x ∷ xs) = ap (λ l. f x ∷ l) (map_turned f i xs)

pub length_turned : {A : Type 0} (i : ℕ) (xs : List A) → length (turned i xs) ≡ length xs
length_turned zero [] = refl
length_turned zero (x ∷ []) = refl
length_turned zero (x ∷ y ∷ xs) = refl
length_turned (suc i) [] = refl
length_turned (suc i) (x ∷ xs) = omega (arith, length_turned i xs)

take_turned : {A : Type 0} (i : ℕ) (xs : List A) → take i (turned i xs) ≡ take i xs
take_turned zero [] = refl
take_turned zero (x ∷ []) = refl
take_turned zero (x ∷ y ∷ xs) = refl
take_turned (suc i) [] = refl
take_turned (suc i) (x ∷ xs) = ap (λ l. x ∷ l) (take_turned i xs)

get_at : {A : Type 0} (xs : List A) (i : ℕ) (d : A) → suc i < length xs → get_or (turned i xs) i d ≡ get_or xs (suc i) d
get_at [] i d lt = absurd (omega arith)
get_at (x ∷ []) i d lt = absurd (omega arith)
get_at (x ∷ y ∷ xs) zero d lt = refl
get_at (x ∷ y ∷ xs) (suc i) d lt = get_at (y ∷ xs) i d (omega arith)

get_after : {A : Type 0} (xs : List A) (i : ℕ) (d : A) → suc i < length xs
    → get_or (turned i xs) (suc i) d ≡ get_or xs i d
get_after [] i d lt = absurd (omega arith)
get_after (x ∷ []) i d lt = absurd (omega arith)
get_after (x ∷ y ∷ xs) zero d lt = refl
get_after (x ∷ y ∷ xs) (suc i) d lt = get_after (y ∷ xs) i d (omega arith)

get_other : {A : Type 0} (xs : List A) (i k : ℕ) (d : A) → (k ≡ i → ⊥) → (k ≡ suc i → ⊥)
    → get_or (turned i xs) k d ≡ get_or xs k d
get_other [] zero k d here behind = refl
get_other (x ∷ []) zero k d here behind = refl
get_other (x ∷ y ∷ xs) zero zero d here behind = absurd (here refl)
get_other (x ∷ y ∷ xs) zero (suc zero) d here behind = absurd (behind refl)
get_other (x ∷ y ∷ xs) zero (suc (suc k)) d here behind = refl
get_other [] (suc i) k d here behind = refl
get_other (x ∷ xs) (suc i) zero d here behind = refl
get_other (x ∷ xs) (suc i) (suc k) d here behind =
    get_other xs i k d (λ e. here (ap suc e)) (λ e. behind (ap suc e))

all_turned : {A : Type 0} (P : A → Type 0) (xs : List A) (i : ℕ) → suc i < length xs → All P xs → All P (turned i xs)
all_turned P xs i lt all = λ k d within. elim (cases_eq k i) [
  | inl here ↦ subst (λ n. P (get_or (turned i xs) n d)) (sym here)
      (subst P (sym (get_at xs i d lt)) (all (suc i) d lt))
  | inr other ↦ elim (cases_eq k (suc i)) [
    | inl behind ↦ subst (λ n. P (get_or (turned i xs) n d)) (sym behind)
        (subst P (sym (get_after xs i d lt)) (all i d (omega arith)))
    | inr apart ↦ subst P (sym (get_other xs i k d other apart)) (all k d (omega (arith, length_turned i xs)))
  ]
]

-- names that change places
pub places_turned : (text : List ℕ) (held : ℕ) (ps qs : List Place) (i : ℕ) → qs ≡ swap ps i (i + 1)
    → i + 1 < length (map (name_at text) ps) → All (IsPlace text held) ps → All (IsPlace text held) qs
places_turned text held [] qs i is lt fits = absurd (omega arith)
places_turned text held (p ∷ ps) qs i is lt fits =
    let more : i + 1 < length (p ∷ ps) = omega (arith, length-map (p ∷ ps) (name_at text)) in
    subst (λ l. All (IsPlace text held) l) (sym (is ∙ swapped_is (p ∷ ps) i p more))
    (all_turned (IsPlace text held) (p ∷ ps) i (omega arith) fits)

pub names_turned : (text : List ℕ) (ps qs : List Place) (i : ℕ) → qs ≡ swap ps i (i + 1)
    → i + 1 < length (map (name_at text) ps) → map (name_at text) qs ≡ turned i (map (name_at text) ps)
names_turned text [] qs i is lt = absurd (omega arith)
names_turned text (p ∷ ps) qs i is lt =
    ap (map (name_at text)) (is ∙ swapped_is (p ∷ ps) i p (omega (arith, length-map (p ∷ ps) (name_at text))))
    ∙ map_turned (name_at text) i (p ∷ ps)

-- keys that change places
keys_turned : (i : ℕ) (ks : List (List ℕ)) → with_keys (turned i ks) ≡ with_keys ks
keys_turned zero [] = refl
keys_turned zero (k ∷ []) = refl
keys_turned zero (k ∷ l ∷ ks) = with_key-turn l k (with_keys ks)
keys_turned (suc i) [] = refl
keys_turned (suc i) (k ∷ ks) = ap (with_key k) (keys_turned i ks)

among_turned : (i : ℕ) (ks : List (List ℕ)) (q : List ℕ) → is_among (turned i ks) q ≡ is_among ks q
among_turned i ks q =
    sym (with_keys_among (turned i ks) q) ∙ (ap (λ keys. keys q) (keys_turned i ks) ∙ with_keys_among ks q)

either_way : (e a b d : Bool) → (not (e || b) && (not a && d)) ≡ (not (e || a) && (not b && d))
either_way true a b d = refl
either_way false true true d = refl
either_way false true false true = refl
either_way false true false false = refl
either_way false false true true = refl
either_way false false true false = refl
either_way false false false d = refl

still_distinct : (i : ℕ) (ks : List (List ℕ)) → are_distinct (turned i ks) ≡ are_distinct ks
still_distinct zero [] = refl
still_distinct zero (k ∷ []) = refl
still_distinct zero (k ∷ l ∷ ks) =
    either_way (bytes_eq l k) (is_among ks k) (is_among ks l) (are_distinct ks)
    ∙ ap (λ e. not (e || is_among ks k) && (not (is_among ks l) && are_distinct ks)) (same_test l k)
still_distinct (suc i) [] = refl
still_distinct (suc i) (k ∷ ks) = λ j. not (among_turned i ks k j) && still_distinct i ks j

pub distinct_turned : (i : ℕ) (ks ks' : List (List ℕ)) → ks' ≡ turned i ks → IsTrue (are_distinct ks)
    → IsTrue (are_distinct ks')
distinct_turned i ks ks' is distinct =
    subst (λ l. IsTrue (are_distinct l)) (sym is) (subst IsTrue (sym (still_distinct i ks)) distinct)

-- the key that so many of them end in
pub before_other : (ks : List (List ℕ)) (i count : ℕ) → (count ≡ i + 1 → ⊥) → (count ≡ i + 2 → ⊥)
    → key_before count (turned i ks) ≡ key_before count ks
before_other ks i zero at after = refl
before_other ks i (suc count) at after =
    get_other ks i count [] (λ e. at (omega arith)) (λ e. after (omega arith))

key_at : (ks : List (List ℕ)) (i n : ℕ) → n ≡ suc i → key_before n ks ≡ get_or ks i []
key_at ks i n is = ap (λ m. key_before m ks) is

pub before_at : (ks : List (List ℕ)) (i count : ℕ) → i + 1 < length ks → count ≡ i + 1
    → key_before (i + 2) (turned i ks) ≡ key_before count ks
before_at ks i count lt is =
    key_at (turned i ks) (suc i) (i + 2) (omega arith)
    ∙ (get_after ks i [] (omega arith) ∙ sym (key_at ks i count (omega arith)))

pub before_after : (ks : List (List ℕ)) (i count : ℕ) → i + 1 < length ks → count ≡ i + 2
    → key_before (i + 1) (turned i ks) ≡ key_before count ks
before_after ks i count lt is =
    key_at (turned i ks) i (i + 1) (omega arith)
    ∙ (get_at ks i [] (omega arith) ∙ sym (key_at ks (suc i) count (omega arith)))

pub within_turned : (i count : ℕ) (ks ks' : List (List ℕ)) → ks' ≡ turned i ks → count ≤ length ks → count ≤ length ks'
within_turned i count ks ks' is le = omega (arith, ap length is, length_turned i ks)

pub greatest_turned : (i g g' : ℕ) (ks ks' : List (List ℕ)) → ks' ≡ turned i ks
    → key_before g' (turned i ks) ≡ key_before g ks → IsGreatest (key_before g ks) (with_keys ks)
    → IsGreatest (key_before g' ks') (with_keys ks')
greatest_turned i g g' ks ks' is same top =
    subst (λ l. IsGreatest (key_before g' l) (with_keys l)) (sym is)
    (subst (λ key. IsGreatest key (with_keys (turned i ks))) (sym same)
    (subst (λ keys. IsGreatest (key_before g ks) keys) (sym (keys_turned i ks)) top))

-- the first of them, and the next one
pub first_turned : (ks ks' : List (List ℕ)) (i : ℕ) → ks' ≡ turned i ks → take i ks' ≡ take i ks
first_turned ks ks' i is = ap (take i) is ∙ take_turned i ks

pub next_turned : (ks ks' : List (List ℕ)) (i : ℕ) (key q : List ℕ) → ks' ≡ turned i ks → i + 1 < length ks
    → bytes_eq (get_or ks (i + 1) []) q ≡ true → get_or ks' i key ≡ q
next_turned ks ks' i key q is lt same =
    let next : i + 1 ≡ suc i = omega arith in
    ap (λ l. get_or l i key) is
    ∙ (get_at ks i key (omega arith)
    ∙ (get_or_default ks (suc i) key [] (omega arith)
    ∙ same_text (get_or ks (suc i) []) q (sym (subst (λ n. bytes_eq (get_or ks n []) q ≡ true) next same))))
