-- What stops a section that is put into a trie, own: the steps of `Trie`, where each names what stands at its node as
-- `Stops` does at its path. What stops is the same (law `trie_stops_are_named`). `Obstacles` of `basic_toml_grow` takes
-- its marks and rows from here, and adds levels: the resolver's contracts go by that.
-- `Trie` is not this walk with its stops forgotten: it refuses a section whose rows clash before the first is put, as
-- the rule has it, where this walk looks through each value in its turn, as the resolver meets what it names. Rows
-- that are put and do not clash go on here to the same trie (`WhatIsPutGoesOn`).
use Rattle.std.specs.Prelude.{ℕ, zero, suc, Bool, if◌then◌else◌, List, [], ◌∷◌, ◌++◌, Option, Some, length}
use Rattle.std.specs.Option.{option_or}
use Rattle.basic_toml_value.specs.Data.{Data}
use Rattle.basic_toml_grammar.specs.Sections.{Key, KeyTexts, texts, Raw, Elements, no_elements, element, Rows}
use Rattle.basic_toml_grammar.specs.Sections.{no_rows, row, Section}
use Rattle.basic_toml_grammar.specs.Steps.{Step, key, number, step_eq}
use Rattle.basic_toml_grammar.specs.Mentions.{finished}
use Rattle.basic_toml_grammar.specs.Marks.{MarkKind, passed, by_latest, named, added, dotted, valued}
use Rattle.basic_toml_grammar.specs.Standing.{Standing, fits, taken, value_of}
use Rattle.basic_toml_grammar.specs.NamedClash.{last_key}
use Rattle.basic_toml_grammar.specs.Trie.{Trie, trie, Tries, no_tries, by, nothing, count}
use Rattle.basic_toml_grammar.specs.Stops.{Stop, at_row, header_stop, last_stop, Outcome, goes_on, stops, and_on, held}

abbrev pub outcome_map : {A B : Type 0} → (A → B) → Outcome A → Outcome B
outcome_map f (goes_on a) = goes_on (f a)
outcome_map f (stops x) = stops x

-- one more mark here, where it fits
abbrev pub try_here : MarkKind → (Option Standing → Stop) → Trie → Outcome Trie
try_here k name (trie s v ts) =
    if fits k s then goes_on (trie (Some (taken k s)) (option_or v (value_of k)) ts) else stops (name s)

-- a change of what is at a step
abbrev pub try_among : Step → (Trie → Outcome Trie) → Tries → Outcome Tries
try_among s f no_tries = outcome_map (λ t. by s t no_tries) (f nothing)
try_among s f (by r t ts) =
    if step_eq r s then outcome_map (λ t. by r t ts) (f t) else outcome_map (λ ts. by r t ts) (try_among s f ts)

abbrev pub try_step : Step → (Trie → Outcome Trie) → Trie → Outcome Trie
try_step s f (trie st v ts) = outcome_map (λ ts. trie st v ts) (try_among s f ts)

-- a row whose keys so far are `before`
abbrev pub try_put_row : KeyTexts → List Key → Data → Trie → Outcome Trie
try_put_row before [] v t = try_here (valued v) (last_stop before (last_key [])) t
try_put_row before (k ∷ []) v t = try_step (key k.text) (λ t. try_here (valued v) (last_stop before k) t) t
try_put_row before (k ∷ l ∷ ks) v t =
    try_step (key k.text) (λ t. and_on (try_here dotted (λ m. at_row before k) t) (λ t. try_put_row
    (before ++ k.text ∷ []) (l ∷ ks) v t)) t

abbrev mutual
  pub try_put_rows : Rows → Trie → Outcome Trie
  try_put_rows no_rows t = goes_on t
  try_put_rows (row keys at v rows) t =
      and_on (held keys (try_put_value v))
      (λ _. and_on (try_put_row [] keys (finished v) t) (λ t. try_put_rows rows t))

  pub try_put_value : Raw → Outcome Trie
  try_put_value (Raw.array elements) = try_put_elements elements
  try_put_value (Raw.inline rows) = try_put_rows rows nothing
  try_put_value _ = goes_on nothing

  pub try_put_elements : Elements → Outcome Trie
  try_put_elements no_elements = goes_on nothing
  try_put_elements (element at v elements) = and_on (try_put_value v) (λ _. try_put_elements elements)

abbrev pub try_put_table : Rows → Trie → Outcome Trie
try_put_table rows t = and_on (try_here named (header_stop named 0) t) (λ t. try_put_rows rows t)

abbrev pub try_put_element : Rows → Trie → Outcome Trie
try_put_element rows t =
    and_on (try_here added (header_stop added 0) t)
    (λ u. try_step (number (count t)) (λ t. try_put_table rows t) u)

-- on into the latest of so many elements, where there are any
abbrev pub try_go_on : (Trie → Outcome Trie) → ℕ → ℕ → Trie → Outcome Trie
try_go_on f left zero t = f t
try_go_on f left (suc n) t =
    and_on (try_here by_latest (header_stop by_latest left) t) (λ t. try_step (number n) f t)

-- on by the keys of a header
abbrev pub try_by_keys : Bool → Rows → KeyTexts → Trie → Outcome Trie
try_by_keys is_array rows [] t = try_put_table rows t
try_by_keys is_array rows (k ∷ []) t =
    and_on (try_here passed (header_stop passed 1) t) (λ t. try_step (key k)
    (λ t. if is_array then try_put_element rows t else try_go_on (λ t. try_put_table rows t) 0 (count t) t) t)
try_by_keys is_array rows (k ∷ l ∷ keys) t =
    and_on (try_here passed (header_stop passed (length (k ∷ l ∷ keys))) t) (λ t. try_step (key k)
    (λ t. try_go_on (λ t. try_by_keys is_array rows (l ∷ keys) t) (length (l ∷ keys)) (count t) t) t)

-- a section, or what stops it
abbrev pub try_put_section : Section → Trie → Outcome Trie
try_put_section s t = try_by_keys s.is_array s.rows (texts s.header) t
