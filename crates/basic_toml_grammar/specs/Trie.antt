-- The tree while sections are entered, own: at each node what stands there, its value, and the nodes below it in order
-- of first mention. A section is entered step by step from the root, and each step looks at one node alone. This is
-- `Entering` with what the marks say of a path gathered at one node (law `trie_is_entering`): the form that the
-- resolver's contracts go by where a section is put in. `TrieStops` says what stops this walk.
use Rattle.std.specs.Prelude.{ℕ, zero, suc, Bool, max, if◌then◌else◌, List, [], ◌∷◌, Option, Some}
use Rattle.std.specs.Prelude.{None, option_map}
use Rattle.std.specs.Option.{option_or}
use Rattle.basic_toml_value.specs.Data.{Data}
use Rattle.basic_toml_grammar.specs.Sections.{KeyTexts, texts, Rows, no_rows, row, Section}
use Rattle.basic_toml_grammar.specs.Steps.{Step, key, number, step_eq}
use Rattle.basic_toml_grammar.specs.RowClash.{rows_clash}
use Rattle.basic_toml_grammar.specs.Growth.{Growth, grown, Branches, no_branches, branch}
use Rattle.basic_toml_grammar.specs.Mentions.{finished}
use Rattle.basic_toml_grammar.specs.Marks.{MarkKind, passed, by_latest, named, added, dotted, valued}
use Rattle.basic_toml_grammar.specs.Standing.{Standing, fits, taken, value_of}
use Rattle.basic_toml_grammar.specs.Entering.{and_then, element_count}
use Rattle.basic_toml_grammar.specs.Levels.{rows_level}

mutual
  pub data Trie : Type 0 where
    trie : Option Standing → Option Data → Tries → Trie

  -- what is at each step, in order
  pub data Tries : Type 0 where
    no_tries : Tries
    by : Step → Trie → Tries → Tries

abbrev pub nothing : Trie
nothing = trie None None no_tries

abbrev pub standing : Trie → Option Standing
standing (trie s v ts) = s

abbrev pub with_tries : Option Standing → Option Data → Option Tries → Option Trie
with_tries s v ts = option_map (λ ts. trie s v ts) ts

-- one more mark here, where it fits
abbrev pub mark_here : MarkKind → Trie → Option Trie
mark_here k (trie s v ts) = if fits k s then Some (trie (Some (taken k s)) (option_or v (value_of k)) ts) else None

-- a change of what is at a step, which goes last where it is new
abbrev pub among : Step → (Trie → Option Trie) → Tries → Option Tries
among s f no_tries = option_map (λ t. by s t no_tries) (f nothing)
among s f (by r t ts) =
    if step_eq r s then option_map (λ t. by r t ts) (f t) else option_map (λ ts. by r t ts) (among s f ts)

abbrev pub at_step : Step → (Trie → Option Trie) → Trie → Option Trie
at_step s f (trie st v ts) = with_tries st v (among s f ts)

-- what is at a step
abbrev pub find : Step → Tries → Trie
find s no_tries = nothing
find s (by r t ts) = if step_eq r s then t else find s ts

abbrev pub below : Step → Trie → Trie
below s (trie st v ts) = find s ts

-- a row
abbrev pub put_row : KeyTexts → Data → Trie → Option Trie
put_row [] v t = mark_here (valued v) t
put_row (k ∷ []) v t = at_step (key k) (λ t. mark_here (valued v) t) t
put_row (k ∷ l ∷ ks) v t = at_step (key k) (λ t. and_then (mark_here dotted t) (λ t. put_row (l ∷ ks) v t)) t

abbrev pub put_rows : Rows → Trie → Option Trie
put_rows no_rows t = Some t
put_rows (row keys at v rows) t = and_then (put_row (texts keys) (finished v) t) (λ t. put_rows rows t)

abbrev pub put_table : Rows → Trie → Option Trie
put_table rows t = and_then (mark_here named t) (λ t. put_rows rows t)

-- how many elements the array here has
abbrev pub count : Trie → ℕ
count t = element_count (standing t)

-- on into the latest of so many elements, where there are any
abbrev pub go_on : (Trie → Option Trie) → ℕ → Trie → Option Trie
go_on f zero t = f t
go_on f (suc n) t = and_then (mark_here by_latest t) (λ t. at_step (number n) f t)

abbrev pub put_element : Rows → Trie → Option Trie
put_element rows t = and_then (mark_here added t) (λ u. at_step (number (count t)) (λ t. put_table rows t) u)

-- on by the keys of a header
abbrev pub walk : Bool → Rows → KeyTexts → Trie → Option Trie
walk is_array rows [] t = put_table rows t
walk is_array rows (k ∷ []) t = and_then (mark_here passed t) (λ t. at_step (key k)
    (λ t. if is_array then put_element rows t else go_on (λ t. put_table rows t) (count t) t) t)
walk is_array rows (k ∷ l ∷ keys) t = and_then (mark_here passed t) (λ t. at_step (key k)
    (λ t. go_on (λ t. walk is_array rows (l ∷ keys) t) (count t) t) t)

abbrev pub put_section : Section → Trie → Option Trie
put_section s t = if rows_clash s.rows then None else walk s.is_array s.rows (texts s.header) t

abbrev pub put_sections : List Section → Trie → Option Trie
put_sections [] t = Some t
put_sections (s ∷ sections) t = and_then (put_section s t) (λ t. put_sections sections t)

-- how many steps lead from here to the table of a section with this header
abbrev pub steps_on : (Trie → ℕ) → ℕ → Trie → ℕ
steps_on f zero t = f t
steps_on f (suc n) t = suc (f (below (number n) t))

abbrev pub steps_to : Bool → KeyTexts → Trie → ℕ
steps_to is_array [] t = 0
steps_to is_array (k ∷ []) t =
    let here = below (key k) t in
    if is_array then 2 else suc (steps_on (λ t. 0) (count here) here)
steps_to is_array (k ∷ l ∷ keys) t =
    let here = below (key k) t in
    suc (steps_on (λ t. steps_to is_array (l ∷ keys) t) (count here) here)

-- the highest level of a section, entered here
abbrev pub section_level_in : Trie → Section → ℕ
section_level_in t s =
    let l = suc (steps_to s.is_array (texts s.header) t) in
    max l (rows_level l s.rows)

-- the tree of values alone
abbrev mutual
  pub bare : Trie → Growth
  bare (trie s v ts) = grown v (bare_tries ts)

  pub bare_tries : Tries → Branches
  bare_tries no_tries = no_branches
  bare_tries (by s t ts) = branch s (bare t) (bare_tries ts)
