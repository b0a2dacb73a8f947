-- What `toml_c_get` gives to its caller. (own)
use Rattle.std.specs.Prelude.{◌≡◌, ℕ, ℤ, pos, IsUtf8, Bool, true, false, List, [], ◌+◌, length, map, Some, None}
use Rattle.std.specs.Prelude.{Result, Ok, Err, Vec, codes}
use Rattle.std.specs.Fmt.{signed_decimal}
use Rattle.std.specs.declared.alloc.Global.{Global}
use Rattle.basic_toml.specs.Data.{Data, integer, float, boolean, string, array, table, Items, no_items, item}
use Rattle.basic_toml.specs.Data.{Members, no_members, member}
use Rattle.toml_c.specs.Answers.{with_front, Holds}
use Rattle.toml_c.specs.declared.get.TomlValue.{TomlValue}
use Rattle.toml_path.specs.Find.{data_at}
use Rattle.toml_path.specs.Path.{Step, IsPath, step_of}
use Rattle.toml_path.specs.declared.path.PathError.{PathError}
use Rattle.toml_path.specs.declared.path.PathError.TheVariants.{Malformed, OutOfMemory}
use Rattle.toml_path.specs.declared.path.Step as code

abbrev pub kind_of : Data → ℕ
kind_of (string text) = 1
kind_of (integer z) = 2
kind_of (float text) = 3
kind_of (boolean b) = 4
kind_of (array items) = 5
kind_of (table ms) = 6

abbrev pub items_count : Items → ℕ
items_count no_items = 0
items_count (item d items) = items_count items + 1

abbrev pub members_count : Members → ℕ
members_count no_members = 0
members_count (member key d ms) = members_count ms + 1

abbrev pub truth_number : Bool → ℤ
truth_number true = pos 1
truth_number false = pos 0

-- an integer, 1 for true
abbrev pub number_of : Data → ℤ
number_of (integer z) = z
number_of (boolean b) = truth_number b
number_of _ = pos 0

-- how many elements or keys there are
abbrev pub count_of : Data → ℕ
count_of (array items) = items_count items
count_of (table ms) = members_count ms
count_of _ = 0

abbrev pub truth_text : Bool → List ℕ
truth_text true = codes "true"
truth_text false = codes "false"

-- the text of a scalar
abbrev pub text_of : Data → List ℕ
text_of (string text) = text
text_of (integer z) = signed_decimal z
text_of (float text) = text
text_of (boolean b) = truth_text b
text_of (array items) = []
text_of (table ms) = []

abbrev pub not_found : ℕ → TomlValue
not_found status = record { status = status; kind = 0; number = pos 0; count = 0; length = 0 }

abbrev pub found : Data → TomlValue
found d = record {
  status = 0;
  kind = kind_of d;
  number = number_of d;
  count = count_of d;
  length = length (text_of d);
}

-- What stands in data at the end of steps, and as much of its text as there is room for; else the memory is as it was.
pub data FindsIn (tree : Data) (steps : List Step) (old new : List ℕ) : TomlValue → Type 0 where
  stands : {d : Data} → data_at tree steps ≡ Some d → new ≡ with_front old (text_of d)
      → FindsIn tree steps old new (found d)
  nothing : data_at tree steps ≡ None → new ≡ old → FindsIn tree steps old new (not_found 2)
  no_memory : new ≡ old → FindsIn tree steps old new (not_found 3)

-- the same in the document of the bytes; or they have none
pub data Finds (input : List ℕ) (steps : List Step) (old new : List ℕ) : TomlValue → Type 0 where
  read : {tree : Data} {value : TomlValue} → Holds input tree → FindsIn tree steps old new value
      → Finds input steps old new value
  refused : ((tree : Data) → Holds input tree → ⊥) → new ≡ old → Finds input steps old new (not_found 1)
  unread : new ≡ old → Finds input steps old new (not_found 3)

-- the steps of a path in bytes
abbrev pub HasSteps : List ℕ → List Step → Type 0
HasSteps path steps = IsUtf8 path × IsPath path steps

-- the same along a path; or it is malformed, which comes before all that is wrong with the text
pub data Gets (input path old new : List ℕ) : TomlValue → Type 0 where
  along : {steps : List Step} {value : TomlValue} → HasSteps path steps → Finds input steps old new value
      → Gets input path old new value
  malformed : ((steps : List Step) → HasSteps path steps → ⊥) → new ≡ old → Gets input path old new (not_found 4)
  no_steps : new ≡ old → Gets input path old new (not_found 3)

-- on the way
abbrev pub steps_seen : List code.Step → List Step
steps_seen steps = map step_of steps

abbrev pub AnswersPath : List ℕ → Result (Vec code.Step Global) PathError → Type 0
AnswersPath path (Ok steps) = HasSteps path (steps_seen steps.items)
AnswersPath path (Err Malformed) = (steps : List Step) → HasSteps path steps → ⊥
AnswersPath path (Err OutOfMemory) = Unit {0}

pub data Tells (d : Data) (old new : List ℕ) : TomlValue → Type 0 where
  told : new ≡ with_front old (text_of d) → Tells d old new (found d)
  untold : new ≡ old → Tells d old new (not_found 3)
