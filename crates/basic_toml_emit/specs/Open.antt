-- What stands open in a serializer after the calls so far (own): arrays and tables, the innermost first.
-- An open table has no key, awaits the text of a key (key place), or has a key set. It knows whether a table or a
-- non-empty array of tables was written in it, which keys have a present entry, and the last of these. An open array
-- knows what its elements are so far.
use Rattle.std.specs.Prelude.{ℕ, Bool, true, false, List, [], Option, Some, None}
use Rattle.basic_toml_open_keys.specs.Keys.{PresentKeys, no_keys, with_key}

-- the header of a table: written or not to be written at all, or to be written where it proves due, after a blank line
-- or not
pub data Header : Type 0 where
  settled : Header
  due : Bool → Header

pub data Stage : Type 0 where
  no_key : Stage
  key_place : Stage
  key_set : List ℕ → Stage

-- what the elements of an array are so far
pub data ElementKind : Type 0 where
  unknown tables others : ElementKind

-- what an open table knows, beside what it waits for
pub record OpenTable : Type 0 where
  pub header : Header
  pub holds_section : Bool
  pub keys : PresentKeys
  pub last : Option (List ℕ)

abbrev pub empty_table : Header → OpenTable
empty_table h = record { header = h; holds_section = false; keys = no_keys; last = None }

-- the entry of this key is present
abbrev pub entered : List ℕ → OpenTable → OpenTable
entered k t = record t { keys = with_key k t.keys; last = Some k }

-- no header is due any more: a row stands in it, or a section
abbrev pub with_settled : OpenTable → OpenTable
with_settled t = record t { header = settled }

abbrev pub with_section : OpenTable → OpenTable
with_section t = record t { header = settled; holds_section = true }

-- an array also knows whether its entry stands after a present one of the same table
pub data Frame : Type 0 where
  a_table : Stage → OpenTable → Frame
  an_array : ElementKind → Bool → Frame

abbrev pub new_table : Header → Frame
new_table h = a_table no_key (empty_table h)

-- the text so far, what is open, and whether the value is whole
pub record State : Type 0 where
  pub text : List ℕ
  pub open_frames : List Frame
  pub is_done : Bool

abbrev pub state : List ℕ → List Frame → Bool → State
state t fs d = record { text = t; open_frames = fs; is_done = d }

abbrev pub fresh : State
fresh = state [] [] false
