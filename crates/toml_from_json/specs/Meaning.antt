-- What JSON means as TOML's data (own): an object is a table with its keys in order, an array an array. Where something
-- has no TOML, the first such thing in the order of the text, with the keys that lead to it.
--
-- In the plain form a number is an integer where TOML reads it as one, and else a float by its text. In the tagged form
-- scalars stand with their types, as the toml-test suite has them: an object of the keys `type` and `value` alone, both
-- strings.
use Rattle.std.specs.Prelude.{◌≡◌, ℕ, Bool, true, false, if◌then◌else◌, ◌&&◌, List, [], ◌∷◌, ◌++◌, codes, Option, Some}
use Rattle.std.specs.Prelude.{None, Result, Ok, Err, ⊤, string_bytes}
use Rattle.std.specs.Str.{bytes_eq}
use Rattle.json.specs.Json as json
use Rattle.json.specs.Json.{Json}
use Rattle.json.specs.Find.{as_str}
use Rattle.basic_toml_value.specs.Data.{Data, integer, float, boolean, string, array, table}
use Rattle.basic_toml_value.specs.Data.{Items, no_items, item, Members, no_members, member}
use Rattle.basic_toml_index.specs.Keys.{is_among}
use Rattle.basic_toml_numbers.specs.Numbers.{integer_of, float_of}
use Rattle.toml_json_text.specs.declared.form.Form.{Form}
use Rattle.toml_json_text.specs.declared.form.Form.TheVariants.{Plain, Tagged}
use Rattle.toml_from_json.specs.declared.refusal.Fault.{Fault}
use Rattle.toml_from_json.specs.declared.refusal.Fault.TheVariants as fault
use Rattle.toml_from_json.specs.declared.refusal.NoTable.{NoTable}
use Rattle.toml_from_json.specs.declared.refusal.NoTable.TheVariants.{Refused, OutOfMemory}

-- what is meant, or what has no TOML and the keys that lead to it
abbrev pub Meaning : Type 0 → Type 0
Meaning A = Result A (Fault × List ℕ)

abbrev pub no : {A : Type 0} → Fault → Meaning A
no f = Err (f, [])

abbrev pub mapped : {A B : Type 0} → (A → B) → Meaning A → Meaning B
mapped f (Ok x) = Ok (f x)
mapped f (Err w) = Err w

abbrev pub and_then : {A B : Type 0} → Meaning A → (A → Meaning B) → Meaning B
and_then (Ok x) f = f x
and_then (Err w) f = Err w

-- a period between two keys
abbrev pub path_to : List ℕ → List ℕ → List ℕ
path_to key [] = key
path_to key (c ∷ cs) = key ++ (codes "." ++ (c ∷ cs))

abbrev pub at_key : {A : Type 0} → List ℕ → Meaning A → Meaning A
at_key key (Ok x) = Ok x
at_key key (Err w) = Err (w.0, path_to key w.1)

abbrev pub found : {A : Type 0} → (A → Data) → Fault → Option A → Meaning Data
found make f (Some x) = Ok (make x)
found make f None = no f

abbrev pub or_else : {A B : Type 0} → (A → B) → Option A → B → B
or_else make (Some x) other = make x
or_else make None other = other

abbrev pub number_data : List ℕ → Meaning Data
number_data text =
    or_else (λ z. Ok (integer z)) (integer_of text) (found float fault.IntegerOutOfRange (float_of text))

-- a scalar that stands without its type
abbrev pub untyped : Form → Meaning Data → Meaning Data
untyped Plain due = due
untyped Tagged due = no fault.NoType

-- the type and the text, where the texts of these two keys are both there
abbrev pub tag : List ℕ → Option (List ℕ) → List ℕ → Option (List ℕ) → Option (List ℕ × List ℕ)
tag k None l o = None
tag k (Some a) l None = None
tag k (Some a) l (Some b) =
    if bytes_eq k (codes "type") && bytes_eq l (codes "value") then Some (a, b)
    else if bytes_eq k (codes "value") && bytes_eq l (codes "type") then Some (b, a) else None

abbrev pub tag_of : json.Members → Option (List ℕ × List ℕ)
tag_of json.no_members = None
tag_of (json.member k i json.no_members) = None
tag_of (json.member k i (json.member l j json.no_members)) = tag k (as_str i) l (as_str j)
tag_of (json.member k i (json.member l j (json.member m h ms))) = None

-- a whole number is a float with `.0` behind it
abbrev pub float_or_whole : List ℕ → Option (List ℕ)
float_or_whole text = or_else Some (float_of text) (float_of (text ++ codes ".0"))

abbrev pub truth_of : List ℕ → Option Bool
truth_of text =
    if bytes_eq text (codes "true") then Some true else if bytes_eq text (codes "false") then Some false else None

abbrev pub tagged_data : List ℕ → List ℕ → Meaning Data
tagged_data kind text =
    if bytes_eq kind (codes "integer") then found integer fault.WrongValue (integer_of text)
    else if bytes_eq kind (codes "float") then found float fault.WrongValue (float_or_whole text)
    else if bytes_eq kind (codes "bool") then found boolean fault.WrongValue (truth_of text)
    else if bytes_eq kind (codes "string") then Ok (string text)
    else if bytes_eq kind (codes "datetime") then no fault.OffsetDateTime
    else if bytes_eq kind (codes "datetime-local") then no fault.LocalDateTime
    else if bytes_eq kind (codes "date-local") then no fault.LocalDate
    else if bytes_eq kind (codes "time-local") then no fault.LocalTime else no fault.UnknownType

-- a scalar with its type, or else a table
abbrev pub scalar_or : Option (List ℕ × List ℕ) → Meaning Data → Meaning Data
scalar_or (Some t) else_ = tagged_data t.0 t.1
scalar_or None else_ = else_

abbrev pub object_data : Form → json.Members → Meaning Data → Meaning Data
object_data Plain ms else_ = else_
object_data Tagged ms else_ = scalar_or (tag_of ms) else_

abbrev mutual
  pub data_of : Form → Json → Meaning Data
  data_of form json.null = no fault.Null
  data_of form (json.boolean b) = untyped form (Ok (boolean b))
  data_of form (json.number text) = untyped form (number_data text)
  data_of form (json.string text) = untyped form (Ok (string text))
  data_of form (json.array js) = mapped array (items_of form js)
  data_of form (json.object ms) = object_data form ms (mapped table (members_of form [] ms))

  pub items_of : Form → json.Items → Meaning Items
  items_of form json.no_items = Ok no_items
  items_of form (json.item j js) = and_then (data_of form j) (λ d. mapped (item d) (items_of form js))

  -- after these keys
  pub members_of : Form → List (List ℕ) → json.Members → Meaning Members
  members_of form keys json.no_members = Ok no_members
  members_of form keys (json.member k j ms) =
      and_then (at_key k (data_of form j)) (λ d. if is_among keys k then Err (fault.RepeatedKey, k)
      else mapped (member k d) (members_of form (keys ++ (k ∷ [])) ms))

-- an object that is a value
abbrev pub object_value : Form → json.Members → Meaning Data
object_value form ms = object_data form ms (mapped table (members_of form [] ms))

-- the top level
abbrev pub members_in : Form → Json → Meaning Members
members_in form (json.object ms) = members_of form [] ms
members_in form json.null = no fault.NoObject
members_in form (json.boolean b) = no fault.NoObject
members_in form (json.number text) = no fault.NoObject
members_in form (json.string text) = no fault.NoObject
members_in form (json.array js) = no fault.NoObject

-- the error is this refusal, or want of memory
abbrev pub IsRefused : {A : Type 0} → Meaning A → NoTable → Type 0
IsRefused due (Refused r) = due ≡ Err (r.fault, string_bytes r.path)
IsRefused due OutOfMemory = ⊤

abbrev pub IsRefusal : Fault → List ℕ → NoTable → Type 0
IsRefusal fault path (Refused r) = (r.fault ≡ fault) × (string_bytes r.path ≡ path)
IsRefusal fault path OutOfMemory = ⊥

-- the same fault, with a key before its path
abbrev pub IsUnder : List ℕ → NoTable → NoTable → Type 0
IsUnder key (Refused r) (Refused s) = (s.fault ≡ r.fault) × (string_bytes s.path ≡ path_to key (string_bytes r.path))
IsUnder key (Refused r) OutOfMemory = ⊤
IsUnder key OutOfMemory (Refused s) = ⊥
IsUnder key OutOfMemory OutOfMemory = ⊤

-- the key is there already
abbrev pub IsRepeated : List ℕ → Bool → NoTable → Type 0
IsRepeated key present (Refused r) = (present ≡ true) × (r.fault ≡ fault.RepeatedKey) × (string_bytes r.path ≡ key)
IsRepeated key present OutOfMemory = ⊤
