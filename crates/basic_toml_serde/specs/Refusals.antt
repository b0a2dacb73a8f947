-- Why a value is not written: the error, with the keys that lead to what is refused. (own)
use Rattle.std.specs.Prelude.{◌≡◌, ◌⊎◌, List, [], ◌∷◌, ◌++◌, Some, Err, map, string_bytes}
use Rattle.basic_toml_value.specs.Data.{Data, Members, table}
use Rattle.basic_toml_emit.specs.Items.{Item}
use Rattle.basic_toml_emit.specs.Rules.{CallFault}
use Rattle.basic_toml_write.specs.Impls.{data_calls}
use Rattle.basic_toml_write.specs.Serializer.{ran}
use Rattle.basic_toml_write.specs.declared.error.WriteError.TheVariants.{OutOfMemory}
use Rattle.basic_toml_error.specs.Fault.{Fault, without_offset, want_of_memory}
use Rattle.basic_toml_error.specs.WriteFaults.{write_kind}
use Rattle.basic_toml.specs.RowsFirst.{rows_first}
use Rattle.basic_toml.specs.Ser.{fault_kind}
use Rattle.serde.specs.Event.{Event, Log}
use Rattle.basic_toml_serde.specs.KeysTo.{keys_to}
use Rattle.basic_toml_serde.specs.Refused.{Place}
use Rattle.basic_toml_serde.specs.Sent.{AreItemsOf}
use Rattle.basic_toml_serde.specs.Written.{IsSentTable}
use Rattle.basic_toml_serde.specs.declared.refused.Refusal.{Refusal}

-- The fault is that of the first of the items that is refused, with the keys that lead to it.
pub record IsFaultOf (items : List Item) (f : Fault) : Type 0 where
  pub place : Place items
  pub error : CallFault
  pub met : ran (place.before ++ place.item ∷ []) ≡ Err error
  pub named : f ≡ record (without_offset (fault_kind error)) { key_path = keys_to place.before }

-- the fault has the keys that lead to one of the items
pub record LeadsInto (items : List Item) (f : Fault) : Type 0 where
  pub before : List Item
  pub rest : List Item
  pub split : items ≡ before ++ rest
  pub named : f ≡ record (without_offset f.kind) { key_path = keys_to before }

-- it has none
abbrev pub HasNoKeys : Fault → Type 0
HasNoKeys f = f ≡ without_offset f.kind

-- what a refusal is as an error: want of memory has no keys
abbrev pub IsErrorOf : Refusal → Fault → Type 0
IsErrorOf refusal f =
    (f ≡ want_of_memory)
    ⊎ ((refusal.error ≡ OutOfMemory → ⊥)
    × (f ≡ record (without_offset (write_kind refusal.error)) { key_path = map string_bytes refusal.keys.items }))

-- items of events that a type says of this value
abbrev pub AreSent : (Log → Log → Type 0) → List Item → Type 0
AreSent writes items = (events : List Event) × writes (Some []) (Some events) × AreItemsOf events items

-- A value is not written: its items tell the keys. An error without keys is one of the type's own, or of a value that
-- gives up or has no form, or want of memory, or it stands at the root.
abbrev pub IsRefusal : (Log → Log → Type 0) → Fault → Type 0
IsRefusal writes f = HasNoKeys f ⊎ ((items : List Item) × AreSent writes items × IsFaultOf items f)

-- it is no table
abbrev pub IsTableRefusal : (Log → Log → Type 0) → Fault → Type 0
IsTableRefusal writes f = HasNoKeys f ⊎ ((items : List Item) × AreSent writes items × LeadsInto items f)

-- data is not written
abbrev pub IsDataRefusal : Data → Fault → Type 0
IsDataRefusal d f = HasNoKeys f ⊎ IsFaultOf (data_calls d) f

-- a value is not written with its rows first: it is no table, or that table is not written
abbrev pub IsRefusalRowsFirst : (Log → Log → Type 0) → Fault → Type 0
IsRefusalRowsFirst writes f =
    IsTableRefusal writes f
    ⊎ ((members : Members) × IsSentTable writes members × IsDataRefusal (rows_first (table members)) f)
