-- The words for what a type of the caller's own spells (own), and what a call leaves for the calls that follow it.
-- A record is `a_record (a_field name part (a_field name part the_end))`; an array is `an_array (an_element part
-- the_end)`; a map is a record whose entries are fields, or `a_key part (a_value part ..)`.
-- The words are closed: a proof goes by what the calls say of them, and never through the lists of items.
-- A record whose fields may give up says so by `record_gives_up (field_gives_up name part gives_up NoFault)`.
use Rattle.std.specs.Prelude.{ℕ, List, [], ◌∷◌, ◌++◌, ◌⊎◌, Result, Err}
use Rattle.basic_toml_emit.specs.Items.{Item, open_array, open_table, close, key, field, some_prefix, value_prefix}
use Rattle.basic_toml_emit.specs.Items.{element_prefix}
use Rattle.basic_toml_write.specs.Serializer.{Sends, NoFault, PartGivesUp, MemoryHasCause}
use Rattle.basic_toml_write.specs.declared.error.WriteError.{WriteError}
use Rattle.basic_toml_write.specs.declared.serializer.Serializer.{Serializer}

-- an item, and what follows it
unfoldable pub an_opening : Item → List Item → List Item
an_opening opening rest = opening ∷ rest

-- a part after its prefix, and what follows it
unfoldable pub a_part : Item → List Item → List Item → List Item
a_part prefix part rest = prefix ∷ (part ++ rest)

-- the end of an array or a table
unfoldable pub the_end : List Item
the_end = close ∷ []

abbrev pub a_record : List Item → List Item
a_record = an_opening open_table

abbrev pub an_array : List Item → List Item
an_array = an_opening open_array

-- an entry under this name
abbrev pub a_field : List ℕ → List Item → List Item → List Item
a_field name = a_part (field name)

abbrev pub an_element : List Item → List Item → List Item
an_element = a_part element_prefix

-- the key of an entry, given by its own calls
abbrev pub a_key : List Item → List Item → List Item
a_key = a_part key

-- the value of the entry whose key is set
abbrev pub a_value : List Item → List Item → List Item
a_value = a_part value_prefix

-- an option that is there
abbrev pub a_some : List Item → List Item
a_some part = some_prefix ∷ part

-- After which of its items a value gives up whose parts may: after its opening, as what follows does.
unfoldable pub opening_gives_up : Item → (List Item → WriteError → Type 0) → List Item → WriteError → Type 0
opening_gives_up opening later sent e = PartGivesUp (opening ∷ []) later sent e

-- as this part does, or as what follows it
unfoldable pub part_gives_up : Item → List Item → (List Item → WriteError → Type 0)
    → (List Item → WriteError → Type 0) → List Item → WriteError → Type 0
part_gives_up prefix part GivesUp later sent e =
    PartGivesUp (prefix ∷ []) GivesUp sent e ⊎ PartGivesUp (prefix ∷ part) later sent e

abbrev pub record_gives_up : (List Item → WriteError → Type 0) → List Item → WriteError → Type 0
record_gives_up = opening_gives_up open_table

abbrev pub field_gives_up : List ℕ → List Item → (List Item → WriteError → Type 0)
    → (List Item → WriteError → Type 0) → List Item → WriteError → Type 0
field_gives_up name = part_gives_up (field name)

-- what sends its items never gives up with an error of its own
abbrev pub Never : (List Item → WriteError → Type 0) → Type 0
Never gives_up = (sent : List Item) (e : WriteError) → gives_up sent e → ⊥

-- what is sent after this opening is sent with it, and want of memory has its cause in it
pub record Opens (opening : Item) (old new : Serializer) : Type 0 where
  pub next : (rest : List Item) (last : Serializer) (r : Result (Unit {0}) WriteError) → Sends rest NoFault new last r
      → Sends (an_opening opening rest) NoFault old last r
  pub memory : (rest : List Item) (last : Serializer) (r : Result (Unit {0}) WriteError)
      → MemoryHasCause (an_opening opening rest) old last r

-- an error of this opening is one of all that would follow
pub record FailsToOpen (opening : Item) (old new : Serializer) (e : WriteError) : Type 0 where
  pub whole : (rest : List Item) → Sends (an_opening opening rest) NoFault old new (Err e)
  pub memory : (rest : List Item) → MemoryHasCause (an_opening opening rest) old new (Err e)

-- what is sent after this part is sent with it
pub record Adds (prefix : Item) (part : List Item) (old new : Serializer) : Type 0 where
  pub next : (rest : List Item) (last : Serializer) (r : Result (Unit {0}) WriteError) → Sends rest NoFault new last r
      → Sends (a_part prefix part rest) NoFault old last r

-- an error in this part is one of all that would follow, where the part has none of its own
pub record FailsToAdd (prefix : Item) (part : List Item) (gives_up : List Item → WriteError → Type 0)
    (old new : Serializer) (e : WriteError)
    : Type 0 where
  pub whole : Never gives_up → (rest : List Item) → Sends (a_part prefix part rest) NoFault old new (Err e)
