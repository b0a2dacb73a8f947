-- What a section meets first tells what it comes to: a stop is what stops it without levels, a level is met only where
-- one is above the limit, and where nothing is met, it goes on within the limit. So a row that is put within the limit
-- meets nothing, nor does a value without clashes; and keyed rows meet the same, whatever stands above them.
use Rattle.std.proofs.Common.{◌≡◌, ◌≤◌, ◌<◌, ◌+◌, ◌-◌, ℕ, zero, suc, Bool, true, false, List, [], ◌∷◌, Option, Some}
use Rattle.std.proofs.Common.{None, refl, inl, inr, arith, max, length, option_map, add-zero}
use Rattle.basic_toml_value.specs.Data.{Data}
use Rattle.basic_toml_grammar.specs.Entering.{rows_keyed, value_keyed}
use Rattle.basic_toml_grammar.specs.RowClash.{value_clashes}
use Rattle.basic_toml_grammar.proofs.Naming.WhatIsPutGoesOn.{Goes, row_goes, value_goes}
use Rattle.std.specs.Option.{option_or}
use Rattle.std.proofs.lemmas.Bool.{cases_Bool, cases_lt}
use Rattle.basic_toml_value.specs.Nesting.{nesting_limit}
use Rattle.basic_toml_grammar.specs.Sections.{Key, KeyTexts, Raw, Elements, no_elements, element, Rows, no_rows, row}
use Rattle.basic_toml_grammar.specs.Sections.{Section, texts}
use Rattle.basic_toml_grammar.specs.Steps.{Step, key, number, step_eq}
use Rattle.basic_toml_grammar.specs.Mentions.{finished}
use Rattle.basic_toml_grammar.specs.Marks.{MarkKind, passed, by_latest, named, added}
use Rattle.basic_toml_grammar.specs.Standing.{Standing, fits, taken, value_of}
use Rattle.basic_toml_grammar.specs.Levels.{rows_level, value_level, elements_level}
use Rattle.basic_toml_grammar.specs.Trie.{Trie, trie, Tries, no_tries, by, nothing, find, below, count, steps_to}
use Rattle.basic_toml_grammar.specs.Trie.{steps_on, section_level_in, put_row}
use Rattle.basic_toml_grammar.specs.Stops.{Stop, header_stop, Outcome, goes_on, stops, and_on, held, held_stop}
use Rattle.basic_toml_grammar.specs.TrieStops.{outcome_map, try_here, try_among, try_step, try_put_row, try_put_rows}
use Rattle.basic_toml_grammar.specs.TrieStops.{try_put_value, try_put_elements, try_put_table, try_go_on, try_by_keys}
use Rattle.basic_toml_grow.specs.Clash.{Obstacle, too_deep, in_the_way}
use Rattle.basic_toml_grow.specs.Headers.{highest}
use Rattle.basic_toml_grow.specs.Obstacles.{above, and_behind, held_obstacle, value_obstacle, elements_obstacle}
use Rattle.basic_toml_grow.specs.Obstacles.{rows_obstacle, table_obstacle, obstacle_on, keys_obstacle, first_obstacle}
use Rattle.basic_toml_grow.proofs.ObstaclesPassOn.{low, high}

-- what is met first, of something with this highest level
pub data Tells {A : Type 0} : Option Obstacle → Outcome A → ℕ → Type 0 where
  none_met : (a : A) {l : ℕ} → l ≤ nesting_limit → Tells None (goes_on a) l
  level_met : {o : Outcome A} {l : ℕ} → nesting_limit < l → Tells (Some too_deep) o l
  stop_met : (x : Stop) {l : ℕ} → Tells (Some (in_the_way x)) (stops x) l

-- one thing after another, and after a level
first_tells : {A B : Type 0} {m n : Option Obstacle} {o : Outcome A} {p : Outcome B} {k l : ℕ} → Tells m o k
    → Tells n p l → Tells (option_or m n) (and_on o (λ _. p)) (max k l)
first_tells (none_met a low) (none_met b within) = none_met b (omega arith)
first_tells (none_met a low) (level_met over) = level_met (omega arith)
first_tells (none_met a low) (stop_met x) = stop_met x
first_tells (level_met over) next = level_met (omega arith)
first_tells (stop_met x) next = stop_met x

level_tells : {A : Type 0} {k : ℕ} {m : Option Obstacle} {o : Outcome A} (l : ℕ) → Tells m o k
    → Tells (option_or (above l) m) o (max l k)
level_tells l tells = elim (cases_lt nesting_limit l) [
  | inl over ↦ rw (high l over) (first_tells (level_met {o = goes_on nothing} over) tells)
  | inr within ↦ rw (low l within) (first_tells (none_met nothing within) tells)
]

-- what is changed after it, and what is told of the row that holds it
map_tells : {A B : Type 0} {m : Option Obstacle} {o : Outcome A} {l : ℕ} (f : A → B) → Tells m o l
    → Tells m (outcome_map f o) l
map_tells f (none_met a within) = none_met (f a) within
map_tells f (level_met over) = level_met over
map_tells f (stop_met x) = stop_met x

held_tells : {A : Type 0} {m : Option Obstacle} {o : Outcome A} {l : ℕ} (keys : List Key) → Tells m o l
    → Tells (option_map (held_obstacle keys) m) (held keys o) l
held_tells keys (none_met a within) = none_met a within
held_tells keys (level_met over) = level_met over
held_tells keys (stop_met x) = stop_met (held_stop keys x)

behind_tells : {f : Trie → Option Obstacle} {g : Trie → Outcome Trie} {l : ℕ} (o : Outcome Trie)
    → ((t : Trie) → Tells (f t) (g t) l) → Tells (and_behind o f) (and_on o g) l
behind_tells (stops x) more = stop_met x
behind_tells (goes_on t) more = more t

-- a step
among_tells : {m : Option Obstacle} {l : ℕ} (s : Step) (f : Trie → Outcome Trie) (ts : Tries)
    → Tells m (f (find s ts)) l → Tells m (try_among s f ts) l
among_tells s f no_tries tells = map_tells (λ t. by s t no_tries) tells
among_tells s f (by r t ts) tells = elim (cases_Bool (step_eq r s)) [
  | inl same ↦ rw same (map_tells (λ t. by r t ts) (rw same at tells))
  | inr other ↦ rw other (map_tells (λ ts. by r t ts) (among_tells s f ts (rw other at tells)))
]

mutual
  rows_tell : (l : ℕ) (rows : Rows) (t : Trie)
      → Tells (rows_obstacle l rows t) (try_put_rows rows t) (rows_level l rows)
  rows_tell l no_rows t = none_met t (omega arith)
  rows_tell l (row keys at v rows) t =
      level_tells (l + length keys - 1) (first_tells (held_tells keys (value_tells (l + length keys - 1) v))
      (behind_tells (try_put_row [] keys (finished v) t) (λ t. rows_tell l rows t)))

  pub value_tells : (l : ℕ) (v : Raw) → Tells (value_obstacle l v) (try_put_value v) (value_level l v)
  value_tells l (Raw.array es) = level_tells (l + 1) (elements_tell (l + 1) es)
  value_tells l (Raw.inline rs) = level_tells (l + 1) (rows_tell (l + 1) rs nothing)
  value_tells l _ = none_met nothing (omega arith)

  elements_tell : (l : ℕ) (es : Elements)
      → Tells (elements_obstacle l es) (try_put_elements es) (elements_level l es)
  elements_tell l no_elements = none_met nothing (omega arith)
  elements_tell l (element at v es) = first_tells (value_tells l v) (elements_tell l es)

-- A change of a trie on each level, behind which the table of these rows is on a level that the trie tells.
module _ (rows : Rows) where
  abbrev TellsOn : (ℕ → Trie → Option Obstacle) → (Trie → Outcome Trie) → (Trie → ℕ) → Type 0
  TellsOn f g h = (l m : ℕ) (t : Trie) → l + h t ≡ m → Tells (f l t) (g t) (highest m rows)

  table_tells : TellsOn (λ l t. table_obstacle l rows t) (λ t. try_put_table rows t) (λ t. 0)
  table_tells l m t same =
      rw (← same, add-zero)
      (level_tells l (behind_tells (try_here named (header_stop named 0) t) (λ t. rows_tell l rows t)))

  module _ {f : ℕ → Trie → Option Obstacle} {g : Trie → Outcome Trie} (h : Trie → ℕ) (on : TellsOn f g h) where
    -- a mark and a step before it: the mark changes nothing below
    step_tells : (k : MarkKind) (left : ℕ) (s : Step) (l m : ℕ) (t : Trie) → l + suc (h (below s t)) ≡ m
        → Tells (option_or (above l) (and_behind (try_here k (header_stop k left) t) (λ u. f (l + 1) (below s u))))
        (and_on (try_here k (header_stop k left) t) (λ u. try_step s g u)) (highest m rows)
    step_tells k left s l m (trie st v ts) same =
        let top : max l (highest m rows) ≡ highest m rows = omega arith in
        rw (← top) (level_tells l (elim (cases_Bool (fits k st)) [
          | inl is ↦ rw is (map_tells (λ ts. trie (Some (taken k st)) (option_or v (value_of k)) ts)
              (among_tells s g ts (on (l + 1) m (find s ts) (omega arith))))
          | inr other ↦ rw other (stop_met (header_stop k left st))
        ]))

    -- into the latest of so many elements
    on_tells : (left n l m : ℕ) (t : Trie) → l + steps_on h n t ≡ m
        → Tells (obstacle_on f left l n t) (try_go_on g left n t) (highest m rows)
    on_tells left zero l m t same = on l m t same
    on_tells left (suc n) l m t same = step_tells by_latest left (number n) l m t same

  -- on by the keys of a header
  keys_tell : (a : Bool) (keys : KeyTexts)
      → TellsOn (λ l t. keys_obstacle a rows keys l t) (λ t. try_by_keys a rows keys t) (λ t. steps_to a keys t)
  keys_tell a [] l m t same = table_tells l m t same
  keys_tell true (k ∷ []) l m t same =
      step_tells (λ t. 1) (λ l m t. step_tells _ table_tells added 0 (number (count t)) l m t) passed 1 (key k) l m t
      (omega arith)
  keys_tell false (k ∷ []) l m t same =
      step_tells _ (λ l m t. on_tells _ table_tells 0 (count t) l m t) passed 1 (key k) l m t (omega arith)
  keys_tell a (k ∷ j ∷ keys) l m t same =
      step_tells _ (λ l m t. on_tells _ (keys_tell a (j ∷ keys)) (length (j ∷ keys)) (count t) l m t) passed
      (length (k ∷ j ∷ keys)) (key k) l m t (omega arith)

-- a stop that is met first stops without levels, and a level is met first only where one is above the limit
the_stop : {A : Type 0} {o : Outcome A} {x : Stop} {l : ℕ} → Tells (Some (in_the_way x)) o l → o ≡ stops x
the_stop (stop_met x) = refl

pub met_stops : (a : Bool) (rows : Rows) (keys : KeyTexts) (l : ℕ) (t : Trie) (x : Stop)
    → keys_obstacle a rows keys l t ≡ Some (in_the_way x) → try_by_keys a rows keys t ≡ stops x
met_stops a rows keys l t x is = the_stop (rw is at (keys_tell rows a keys l (l + steps_to a keys t) t refl))

above_limit : {A : Type 0} {o : Outcome A} {l : ℕ} → Tells (Some too_deep) o l → nesting_limit < l
above_limit (level_met over) = over

pub met_deep : (s : Section) (t : Trie) → first_obstacle s t ≡ Some too_deep → nesting_limit < section_level_in t s
met_deep s t is = above_limit (rw is at (keys_tell s.rows s.is_array (texts s.header) 1
    (suc (steps_to s.is_array (texts s.header) t)) t (omega arith)))

-- a row behind which rows are met, where it is put, its value meets nothing, and it is not above the limit
pub row_behind : (l : ℕ) (keys : List Key) (at : ℕ) (v : Raw) (rows : Rows) (t u : Trie)
    → l + length keys - 1 ≤ nesting_limit → value_obstacle (l + length keys - 1) v ≡ None
    → put_row (texts keys) (finished v) t ≡ Some u
    → rows_obstacle l (row keys at v rows) t ≡ rows_obstacle l rows u
row_behind l keys at v rows t u within free put =
    rw (low (l + length keys - 1) within, free, row_goes [] keys (finished v) t u put) refl

-- a value without clashes meets nothing within the limit
pub value_free : (l : ℕ) (v : Raw) → value_keyed v ≡ true → value_clashes v ≡ false → value_level l v ≤ nesting_limit
    → value_obstacle l v ≡ None
value_free l v keyed apart within = go (value_tells l v) (value_goes v keyed apart) within
  where
    go : {m : Option Obstacle} {o : Outcome Trie} {l : ℕ} → Tells m o l → Goes o → l ≤ nesting_limit → m ≡ None
    go (none_met a low) goes within = refl
    go (level_met over) goes within = absurd (omega arith)
    go (stop_met x) goes within = absurd (cc goes.1)

-- what is behind a keyed row does not depend on what stands above it
behind_aside : (f g : Tries → Trie) (h : Trie → Option Obstacle) → ((ts : Tries) → h (f ts) ≡ h (g ts))
    → (o : Outcome Tries) → and_behind (outcome_map f o) h ≡ and_behind (outcome_map g o) h
behind_aside f g h same (stops x) = refl
behind_aside f g h same (goes_on ts) = same ts

pub rows_aside : (l : ℕ) (rows : Rows) (s u : Option Standing) (v w : Option Data) (ts : Tries) → rows_keyed rows ≡ true
    → rows_obstacle l rows (trie s v ts) ≡ rows_obstacle l rows (trie u w ts)
rows_aside l no_rows s u v w ts keyed = refl
rows_aside l (row [] at v rows) s u a w ts keyed = absurd (cc)
rows_aside l (row (k ∷ []) at v rows) s u a w ts keyed =
    rw (behind_aside (λ ts. trie s a ts) (λ ts. trie u w ts) (λ t. rows_obstacle l rows t)
    (λ ts. rows_aside l rows s u a w ts keyed)) refl
rows_aside l (row (k ∷ j ∷ ks) at v rows) s u a w ts keyed =
    rw (behind_aside (λ ts. trie s a ts) (λ ts. trie u w ts) (λ t. rows_obstacle l rows t)
    (λ ts. rows_aside l rows s u a w ts keyed)) refl
