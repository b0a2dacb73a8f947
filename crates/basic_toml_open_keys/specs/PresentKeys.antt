-- What is held of the keys that are known of a table.
use Rattle.std.specs.Prelude.{ℕ, List}
use Rattle.basic_toml_open_keys.specs.Keys.{PresentKeys, with_keys}
use Rattle.basic_toml_open_keys.specs.Kept as n
use Rattle.basic_toml_open_keys.specs.declared.keys.Keys.{Keys}

-- those that are kept
abbrev pub keys_of : Keys → PresentKeys
keys_of k = with_keys (n.kept_of k.names)

-- the key that is set
abbrev pub pending_of : Keys → List ℕ
pending_of k = n.pending_of k.names
