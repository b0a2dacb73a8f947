-- What a section that is put into a trie meets first, own: a level above the limit, or what stands in its way. The
-- steps are those of `TrieStops`, and each has a level: that of the table or array that it comes to, of the bracket of
-- a value, and of the last key of a row. At each step the level comes before what stands there.
use Rattle.std.specs.Prelude.{ℕ, zero, suc, ◌+◌, ◌-◌, nat_lt, Bool, if◌then◌else◌, List, [], ◌∷◌, Option, Some, None}
use Rattle.std.specs.Prelude.{length, option_map}
use Rattle.std.specs.Option.{option_or}
use Rattle.basic_toml_value.specs.Nesting.{nesting_limit}
use Rattle.basic_toml_grammar.specs.Sections.{Key, KeyTexts, texts, Raw, Elements, no_elements, element, Rows}
use Rattle.basic_toml_grammar.specs.Sections.{no_rows, row, Section}
use Rattle.basic_toml_grammar.specs.Steps.{key, number}
use Rattle.basic_toml_grammar.specs.Mentions.{finished}
use Rattle.basic_toml_grammar.specs.Marks.{passed, by_latest, named, added}
use Rattle.basic_toml_grammar.specs.Trie.{Trie, nothing, count, below}
use Rattle.basic_toml_grammar.specs.Stops.{header_stop, Outcome, goes_on, stops, held_stop}
use Rattle.basic_toml_grammar.specs.TrieStops.{try_here, try_put_row}
use Rattle.basic_toml_grow.specs.Clash.{Obstacle, too_deep, in_the_way}

abbrev pub above : ℕ → Option Obstacle
above l = if nat_lt nesting_limit l then Some too_deep else None

-- what stops a mark or a row, or else what is met behind it
abbrev pub and_behind : Outcome Trie → (Trie → Option Obstacle) → Option Obstacle
and_behind (stops x) f = Some (in_the_way x)
and_behind (goes_on t) f = f t

-- of a value, as one of the row that holds it
abbrev pub held_obstacle : List Key → Obstacle → Obstacle
held_obstacle keys too_deep = too_deep
held_obstacle keys (in_the_way x) = in_the_way (held_stop keys x)

-- of a value within a table or an array of a level, of the elements of such an array, and of the rows of such a table
abbrev mutual
  pub value_obstacle : ℕ → Raw → Option Obstacle
  value_obstacle l (Raw.array elements) = option_or (above (l + 1)) (elements_obstacle (l + 1) elements)
  value_obstacle l (Raw.inline rows) = option_or (above (l + 1)) (rows_obstacle (l + 1) rows nothing)
  value_obstacle l _ = None

  pub elements_obstacle : ℕ → Elements → Option Obstacle
  elements_obstacle l no_elements = None
  elements_obstacle l (element at v elements) = option_or (value_obstacle l v) (elements_obstacle l elements)

  pub rows_obstacle : ℕ → Rows → Trie → Option Obstacle
  rows_obstacle l no_rows t = None
  rows_obstacle l (row keys at v rows) t =
      let last = l + length keys - 1 in
      option_or (above last) (option_or (option_map (held_obstacle keys) (value_obstacle last v))
      (and_behind (try_put_row [] keys (finished v) t) (λ t. rows_obstacle l rows t)))

-- of the table of a section, where it stands
abbrev pub table_obstacle : ℕ → Rows → Trie → Option Obstacle
table_obstacle l rows t =
    option_or (above l) (and_behind (try_here named (header_stop named 0) t) (λ t. rows_obstacle l rows t))

-- of one more element of an array
abbrev pub element_obstacle : ℕ → Rows → Trie → Option Obstacle
element_obstacle l rows t =
    option_or (above l) (and_behind (try_here added (header_stop added 0) t)
    (λ u. table_obstacle (l + 1) rows (below (number (count t)) u)))

-- on into the latest of so many elements, where there are any
abbrev pub obstacle_on : (ℕ → Trie → Option Obstacle) → ℕ → ℕ → ℕ → Trie → Option Obstacle
obstacle_on f left l zero t = f l t
obstacle_on f left l (suc n) t =
    option_or (above l) (and_behind (try_here by_latest (header_stop by_latest left) t)
    (λ t. f (l + 1) (below (number n) t)))

-- on by the keys of a header, from a table of a level
abbrev pub keys_obstacle : Bool → Rows → KeyTexts → ℕ → Trie → Option Obstacle
keys_obstacle is_array rows [] l t = table_obstacle l rows t
keys_obstacle is_array rows (k ∷ []) l t =
    option_or (above l) (and_behind (try_here passed (header_stop passed 1) t) (λ t.
    let here = below (key k) t in
    if is_array then element_obstacle (l + 1) rows here
    else obstacle_on (λ l t. table_obstacle l rows t) 0 (l + 1) (count here) here))
keys_obstacle is_array rows (k ∷ m ∷ keys) l t =
    option_or (above l) (and_behind (try_here passed (header_stop passed (length (k ∷ m ∷ keys))) t) (λ t.
    let here = below (key k) t in
    obstacle_on (λ l t. keys_obstacle is_array rows (m ∷ keys) l t) (length (m ∷ keys)) (l + 1) (count here) here))

-- of a section
abbrev pub first_obstacle : Section → Trie → Option Obstacle
first_obstacle s t = keys_obstacle s.is_array s.rows (texts s.header) 1 t
