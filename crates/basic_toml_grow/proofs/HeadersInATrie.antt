-- The way of a header through a trie, a node at a time: what it enters, on which level, what it meets and its steps.
use Rattle.std.proofs.Common.{◌≡◌, inl, inr, ℕ, suc, ◌+◌, ◌<◌, ◌≤◌, Bool, true, false, List, [], ◌∷◌, ◌++◌, length}
use Rattle.std.proofs.Common.{Option, Some, None, Result, Ok, Err, refl, ap, sym, ◌∙◌, arith, option_map, length-append}
use Rattle.std.specs.Option.{option_or}
use Rattle.std.proofs.lemmas.Bool.{cases_lt}
use Rattle.basic_toml_value.specs.Nesting.{nesting_limit}
use Rattle.basic_toml_value.specs.Data.{Data}
use Rattle.basic_toml_grammar.specs.Sections.{KeyTexts, Rows}
use Rattle.basic_toml_grammar.specs.Steps.{Path, key, number}
use Rattle.basic_toml_grammar.specs.Standing as standing
use Rattle.basic_toml_grammar.specs.Stops.{at_header}
use Rattle.basic_toml_grammar.specs.Trie.{Trie, trie, Tries, no_tries, nothing, walk, steps_to, put_rows, put_table}
use Rattle.basic_toml_grammar.specs.Trie.{put_element, among, find}
use Rattle.basic_toml_plain.specs.Tries.{leaf}
use Rattle.basic_toml_grow.specs.declared.clash.Clash.{Clash}
use Rattle.basic_toml_grow.specs.declared.clash.Clash.TheVariants.{Memory, Deep}
use Rattle.basic_toml_grow.specs.Clash.{Obstacle, too_deep, in_the_way}
use Rattle.basic_toml_grow.specs.Item.{by_numbers}
use Rattle.basic_toml_grow.specs.Rows.{EntersRows}
use Rattle.basic_toml_grow.specs.Headers.{EntersItem, entered_by, steps_by, obstacle_by, entered_at, steps_at}
use Rattle.basic_toml_grow.specs.Headers.{obstacle_at, is_last}
use Rattle.basic_toml_grow.specs.Obstacles.{above, keys_obstacle}
use Rattle.basic_toml_grow.specs.Ways.{way, way_by, way_at}
use Rattle.basic_toml_grow.proofs.LatestInATrie.{mapped_twice, at_latest, at_next}
use Rattle.basic_toml_grow.proofs.ObstaclesPassOn.{behind_low, behind_high}

-- a table of which this was said, with what is below it
abbrev pub made : Bool → Bool → Bool → Tries → Trie
made p n d ts = trie (Some (standing.table p n d)) None ts

abbrev pub fresh : Trie
fresh = made false false false no_tries

-- an array of these tables
abbrev pub array_of : List Trie → Trie → Trie
array_of before latest =
    trie (Some (standing.array (suc (length before)))) None (by_numbers 0 (before ++ latest ∷ []))

-- what is entered further on is entered here, on the same level
pub entered_on : {l m : ℕ} (w : Option Trie) (t : Trie) (rows : Rows) (f : Trie → Trie) (r : Result (Unit {0}) Clash)
    → l ≡ m → EntersItem w rows m t r → EntersItem (option_map f w) rows l (f t) r
entered_on w t rows f (Ok x) level is =
    record { gives = ap (option_map f) is.gives; apart = is.apart; fits = rw level is.fits }
entered_on w t rows f (Err Memory) level out = tt
entered_on w t rows f (Err Deep) level out = rw level out
entered_on w t rows f (Err _) level (inl clash) = inl clash
entered_on w t rows f (Err _) level (inr none) = inr (ap (option_map f) none)

-- and rows that are put into a table, or are not
pub rows_entered : (rows : Rows) (l : ℕ) (t after : Trie) (r : Result (Unit {0}) Clash) → l ≤ nesting_limit
    → EntersRows rows l t after r → EntersItem (put_rows rows t) rows l after r
rows_entered rows l t after (Ok x) within are =
    record { gives = are.put; apart = are.apart; fits = grind (arith, are.fits) }
rows_entered rows l t after (Err Memory) within out = tt
rows_entered rows l t after (Err Deep) within out = grind (arith, out)
rows_entered rows l t after (Err _) within out = out

-- What a header does from here by the keys that are left: what it enters, how many steps further, what it meets first,
-- and its way.
pub record Course : Type 0 where
  pub entered : Option Trie
  pub steps : ℕ
  pub met : Option Obstacle
  pub way : Path

abbrev pub course_of : Option Trie → ℕ → Option Obstacle → Path → Course
course_of e n o w = record { entered = e; steps = n; met = o; way = w }

-- from a table of a level, from what stands at a key of one that is on the level before, and from what stood there
abbrev pub course : Bool → Rows → KeyTexts → ℕ → Trie → Course
course a rows keys l t =
    course_of (walk a rows keys t) (steps_to a keys t) (keys_obstacle a rows keys l t) (way a keys t)

abbrev pub course_by : Bool → Rows → KeyTexts → ℕ → Trie → Course
course_by a rows keys l t =
    course_of (entered_by a rows keys t) (steps_by a keys t) (obstacle_by a rows keys l t) (way_by a keys t)

abbrev pub course_at : Bool → Rows → KeyTexts → ℕ → Trie → Course
course_at a rows keys l t =
    course_of (entered_at a rows keys t) (steps_at a keys t) (obstacle_at a rows keys l t) (way_at a keys t)

-- where no element is added, it goes by the keys alone
pub no_last : (a : Bool) (rows : Rows) (keys : KeyTexts) (l : ℕ) (t : Trie) → is_last a keys ≡ false
    → course_at a rows keys l t ≡ course_by a rows keys l t
no_last true rows [] l t not = absurd (cc)
no_last _ rows _ l t not = refl

-- a table that stands at a key, and the latest of some tables
abbrev pub in_table : Course → Course
in_table c = course_of c.entered (suc c.steps) c.met c.way

abbrev pub in_latest : List Trie → Course → Course
in_latest before c =
    course_of (option_map (λ u. array_of before u) c.entered) (suc (suc c.steps)) c.met (number (length before) ∷ c.way)

-- a fresh table takes a header as nothing does
pub course_fresh : (a : Bool) (rows : Rows) (keys : KeyTexts) (l : ℕ)
    → course a rows keys l fresh ≡ course a rows keys l nothing
course_fresh true rows (k ∷ []) l = refl
course_fresh false rows (k ∷ []) l = refl
course_fresh _ rows _ l = refl

-- a header's step at a key of a table
pub course_through : (a : Bool) (rows : Rows) (k : List ℕ) (keys : KeyTexts) (l : ℕ) (p n d : Bool) (ts : Tries)
    → course a rows (k ∷ keys) l (made p n d ts)
    ≡ course_of (option_map (λ ts. made true n d ts) (among (key k) (λ t. entered_at a rows keys t) ts))
    (steps_at a keys (find (key k) ts)) (option_or (above l) (obstacle_at a rows keys (l + 1) (find (key k) ts)))
    (key k ∷ way_at a keys (find (key k) ts))
course_through true rows k [] l p n d ts = refl
course_through false rows k [] l p n d ts = refl
course_through _ rows k _ l p n d ts = refl

-- a table above the limit
pub deep_met : (a : Bool) (rows : Rows) (keys : KeyTexts) (l : ℕ) (t : Trie) → nesting_limit < l
    → keys_obstacle a rows keys l t ≡ Some too_deep
deep_met a rows (k ∷ []) l t over = behind_high l _ over
deep_met a rows _ l t over = behind_high l _ over

-- the level of an array is no other obstacle than that of its latest table
array_aside : (a : Bool) (rows : Rows) (keys : KeyTexts) (l : ℕ) (t : Trie)
    → option_or (above l) (keys_obstacle a rows keys (l + 1) t) ≡ keys_obstacle a rows keys (l + 1) t
array_aside a rows keys l t = elim (cases_lt nesting_limit l) [
  | inl over ↦ behind_high l _ over ∙ sym (deep_met a rows keys (l + 1) t (omega (arith, over)))
  | inr within ↦ behind_low l _ within
]

-- a header's step into the latest of some tables
pub enter_latest : (a : Bool) (rows : Rows) (keys : KeyTexts) (before : List Trie) (t : Trie)
    → entered_by a rows keys (array_of before t) ≡ option_map (λ u. array_of before u) (walk a rows keys t)
enter_latest a rows keys before t =
    rw ((at_latest 0 (length before) before t (omega arith)).1 (λ t. walk a rows keys t), mapped_twice) refl

pub course_latest : (a : Bool) (rows : Rows) (keys : KeyTexts) (l m : ℕ) (before : List Trie) (t : Trie) → l + 1 ≡ m
    → course_by a rows keys l (array_of before t) ≡ in_latest before (course a rows keys m t)
course_latest a rows keys l m before t next =
    let latest = (at_latest 0 (length before) before t (omega arith)).0 in
    rw (enter_latest a rows keys before t, latest, array_aside a rows keys l t, next) refl

-- one more element than some tables
pub put_next : (rows : Rows) (before : List Trie) (t : Trie)
    → put_element rows (array_of before t)
    ≡ option_map (λ u. array_of (before ++ t ∷ []) u) (put_table rows fresh)
put_next rows before t =
    let more = before ++ t ∷ [] in
    let len : length more ≡ suc (length before) = omega (arith, length-append before (t ∷ [])) in
    rw (len, (at_next 0 (suc (length before)) more (omega arith)).1 (λ t. put_table rows t), mapped_twice) refl

pub course_next : (rows : Rows) (l : ℕ) (before : List Trie) (t : Trie)
    → course_at true rows [] l (array_of before t) ≡ course_by true rows [] l (array_of (before ++ t ∷ []) fresh)
course_next rows l before t =
    let more = before ++ t ∷ [] in
    let len : length more ≡ suc (length before) = omega (arith, length-append before (t ∷ [])) in
    let next = (at_next 0 (suc (length before)) more (omega arith)).0 in
    let latest = (at_latest 0 (suc (length before)) more fresh (omega arith)).0 in
    rw (put_next rows before t, enter_latest true rows [] more fresh, len, next, latest) refl

-- a value bars a header
pub course_barred : (a : Bool) (rows : Rows) (keys : KeyTexts) (l : ℕ) (d : Data) → l ≤ nesting_limit
    → (entered_by a rows keys (leaf d) ≡ None)
    × (obstacle_by a rows keys l (leaf d) ≡ Some (in_the_way (at_header (suc (length keys)))))
course_barred a rows (k ∷ []) l d within = (refl, behind_low l _ within)
course_barred a rows _ l d within = (refl, behind_low l _ within)
