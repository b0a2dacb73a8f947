-- What is held of the keys of an open table: the first of those that are known.
use Rattle.std.specs.Prelude.{ℕ, List, Option, take, slice_index_or}
use Rattle.basic_toml_open_keys.specs.Names.{last_name}
use Rattle.basic_toml_open_keys.specs.Keys.{PresentKeys, with_keys}
use Rattle.basic_toml_open_keys.specs.Kept as n
use Rattle.basic_toml_open_keys.specs.PresentKeys as p
use Rattle.basic_toml_open_keys.specs.declared.open_keys.OpenKeys.{OpenKeys}

-- those of present entries, in order
abbrev pub present : OpenKeys → List (List ℕ)
present k = take k.count (n.kept_of k.known.names)

abbrev pub keys_of : OpenKeys → PresentKeys
keys_of k = with_keys (present k)

-- the last of them
abbrev pub last_of : OpenKeys → Option (List ℕ)
last_of k = last_name (present k)

-- the key that is set
abbrev pub pending_of : OpenKeys → List ℕ
pending_of k = slice_index_or (n.kept_of k.known.names) k.count (p.pending_of k.known)
