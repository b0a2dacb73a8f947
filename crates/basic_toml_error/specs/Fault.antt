-- What a fault says: what is wrong, the key path where it stands, and its line and column, if it has an offset; and of a
-- type's own fault what its node is found by again. (own)
use Rattle.std.specs.Prelude.{ℕ, List, [], Option, None}
use Rattle.basic_toml_grammar.specs.Faults as read
use Rattle.basic_toml_origin.specs.declared.anchor.Anchor.{Anchor}

pub data FaultKind : Type 0 where
  -- why a text is not read
  reading : read.FaultKind → FaultKind
  not_utf8 : FaultKind
  -- a key of a table is none of its type's fields: the key, and the message
  unknown_field : (key message : List ℕ) → FaultKind
  -- why a value is not written
  unsupported_type : FaultKind
  key_not_string : FaultKind
  value_after_table : FaultKind
  unsupported_none : FaultKind
  call_order : FaultKind

-- of texts and values alike: a repeated key, a message of a type's own, a depth above the limit, a growth that was
-- refused
abbrev pub duplicate_key : List ℕ → FaultKind
duplicate_key key = reading (read.duplicate_key key)

abbrev pub custom : List ℕ → FaultKind
custom text = reading (read.custom text)

abbrev pub nested_too_deeply : FaultKind
nested_too_deeply = reading read.nested_too_deeply

abbrev pub out_of_memory : FaultKind
out_of_memory = reading read.out_of_memory

-- what was wanted, and what was found
abbrev pub wanted : List ℕ → List ℕ → FaultKind
wanted expected found = reading (read.wanted expected found)

pub record Fault : Type 0 where
  pub kind : FaultKind
  pub key_path : List (List ℕ)
  pub offset : Option ℕ
  pub line_column : Option (ℕ × ℕ)
  pub anchor : Option Anchor

-- a fault with no key path, no offset and no node
abbrev pub without_offset : FaultKind → Fault
without_offset kind = record { kind = kind; key_path = []; offset = None; line_column = None; anchor = None }

-- a growth was refused
abbrev pub want_of_memory : Fault
want_of_memory = without_offset out_of_memory

-- bytes that are not UTF-8
abbrev pub not_text : Fault
not_text = without_offset not_utf8
