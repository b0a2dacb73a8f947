-- Which items may ask for memory where they stand (own): those that open an array or a table, set a key, or lengthen
-- the text. What a rule refuses may ask before it is refused. Nothing else ever asks.
use Rattle.std.specs.Prelude.{Bool, true, false, not, ◌||◌, List, [], ◌∷◌, Result, Ok, Err}
use Rattle.basic_toml_emit.specs.Items.{Item, open_table, close, field}
use Rattle.basic_toml_emit.specs.Open.{Header, settled, due, OpenTable, no_key, key_place, key_set, ElementKind}
use Rattle.basic_toml_emit.specs.Open.{tables, Frame, a_table, an_array, State}
use Rattle.basic_toml_emit.specs.Rules.{CallFault, is_text, is_present}
use Rattle.basic_toml_emit.specs.Calls.{after}
use Rattle.basic_toml_value.specs.Nesting.{nesting_limit}

abbrev pub is_due : Header → Bool
is_due settled = false
is_due (due _) = true

-- where nothing is open yet: a table that is opened
abbrev pub grows_at_start : Item → Bool
grows_at_start open_table = true
grows_at_start i = false

-- where an entry may stand: a key, and the end of a table whose header is still due
abbrev pub grows_in_table : OpenTable → Item → Bool
grows_in_table t close = is_due t.header
grows_in_table t (field _) = true
grows_in_table t i = false

-- in an array: each element, and the end, but not where the elements are tables
abbrev pub are_tables : ElementKind → Bool
are_tables tables = true
are_tables _ = false

abbrev pub grows_in_array : ElementKind → Item → Bool
grows_in_array kind close = not (are_tables kind)
grows_in_array kind i = is_present i

abbrev pub grows : List Frame → Bool → Item → Bool
grows [] false i = grows_at_start i
grows [] true i = false
grows (a_table no_key t ∷ fs) d i = grows_in_table t i
grows (a_table key_place t ∷ fs) d i = is_text i
grows (a_table (key_set k) t ∷ fs) d i = is_present i
grows (an_array kind later ∷ fs) d i = grows_in_array kind i

-- what follows an item, where that was taken
abbrev pub if_taken : (State → Bool) → Result State CallFault → Bool
if_taken f (Ok s) = f s
if_taken f (Err e) = false

-- one of these items grows something, up to the first that is refused
abbrev pub items_grow : State → List Item → Bool
items_grow s [] = false
items_grow s (i ∷ is) = grows s.open_frames s.is_done i || if_taken (λ t. items_grow t is) (after nesting_limit s i)
