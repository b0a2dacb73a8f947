-- The tables of blocks: how many they are, and where each stands.
use Rattle.std.proofs.Common.{◌≡◌, ℕ, ◌+◌, ◌*◌, ◌<◌, true, List, [], ◌∷◌, ◌++◌, length, refl, sym, zero, suc}
use Rattle.std.proofs.Common.{Option, None, Some, append-nil, nat_eq, slice_get, arith, append_assoc, length-append}
use Rattle.std.specs.Option.{MatchOption}
use Rattle.std.proofs.lemmas.Bool.{and_parts}
use Rattle.basic_toml_plain.specs.PlainTables.{SectionTable, SectionTables, all_in, are_full, tables_in}

-- an item of the first list
of_first : {A : Type 0} (xs ys : List A) (n : ℕ) → n < length xs → slice_get (xs ++ ys) n ≡ slice_get xs n
of_first [] ys n within = absurd (omega arith)
of_first (x ∷ xs) ys zero within = refl
of_first (x ∷ xs) ys (suc n) within = of_first xs ys n (omega arith)

-- and one of the second
of_second : {A : Type 0} (xs ys : List A) (n : ℕ) → slice_get (xs ++ ys) (n + length xs) ≡ slice_get ys n
of_second [] ys n = let same : n + 0 ≡ n = omega arith in rw same refl
of_second (x ∷ xs) ys n =
    let same : n + length (x ∷ xs) ≡ suc (n + length xs) = omega arith in
    rw same (of_second xs ys n)

first_full : (b : SectionTables) (bs : List SectionTables) → are_full (b ∷ bs) ≡ true
    → (length (tables_in b) ≡ 64) × (are_full bs ≡ true)
first_full b bs full = let both = and_parts (nat_eq (length (tables_in b)) 64) (are_full bs) full in (grind (arith, both.0), both.1)

pub tables_count : (bs : List SectionTables) → are_full bs ≡ true → length (all_in bs) ≡ length bs * 64
tables_count [] full = refl
tables_count (b ∷ bs) full =
    let first = first_full b bs full in
    let others = tables_count bs first.1 in
    omega (arith, length-append (tables_in b) (all_in bs))

pub one_block_more : (bs : List SectionTables) (b : SectionTables) → all_in (bs ++ b ∷ []) ≡ all_in bs ++ tables_in b
one_block_more [] b = rw append-nil refl
one_block_more (c ∷ bs) b = rw (one_block_more bs b) (sym (append_assoc (tables_in c) (all_in bs) (tables_in b)))

-- a table of a full block
pub in_block : (bs : List SectionTables) (ts : List SectionTable) (n r : ℕ) (b : SectionTables) → are_full bs ≡ true
    → slice_get bs n ≡ Some b → r < 64
    → (slice_get (all_in bs ++ ts) (n * 64 + r) ≡ slice_get (tables_in b) r) × (length (tables_in b) ≡ 64)
in_block [] ts n r b full there within = absurd (cc)
in_block (c ∷ bs) ts zero r b full there within =
    let same : c ≡ b = cc in
    let count = (first_full c bs full).0 in
    let at : 0 * 64 + r ≡ r = omega arith in
    rw (append_assoc, at, ← same) (of_first (tables_in c) (all_in bs ++ ts) r (omega arith), count)
in_block (c ∷ bs) ts (suc n) r b full there within =
    let first = first_full c bs full in
    let at : suc n * 64 + r ≡ n * 64 + r + length (tables_in c) = omega (arith, first.0) in
    rw (append_assoc, at, of_second (tables_in c) (all_in bs ++ ts) (n * 64 + r))
    (in_block bs ts n r b first.1 there within)

-- and one after all full blocks
pub after_blocks : (bs : List SectionTables) (ts : List SectionTable) (n : ℕ) → are_full bs ≡ true
    → slice_get (all_in bs ++ ts) (n + length bs * 64) ≡ slice_get ts n
after_blocks bs ts n full = rw (← tables_count bs full) (of_second (all_in bs) ts n)

-- what is told of a table by its place in one list holds of its place in another
module _ {T A B : Type 0} (table : T → SectionTable) (xs ys : List SectionTable) (i j : ℕ) where
  pub is_told : (found : Option T) → slice_get xs i ≡ slice_get ys j → (A → B)
      → MatchOption found A (λ t. slice_get xs i ≡ Some (table t))
      → MatchOption found B (λ t. slice_get ys j ≡ Some (table t))
  is_told None same past told = past told
  is_told (Some t) same past told = rw (← same) told
