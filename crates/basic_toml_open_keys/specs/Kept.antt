-- The names that are kept, and the one that is set.
use Rattle.std.specs.Prelude.{ℕ, List, map, drop, string_bytes}
use Rattle.basic_toml_open_keys.specs.Names.{name_at}
use Rattle.basic_toml_open_keys.specs.declared.names.Names.{Names}

abbrev pub kept_of : Names → List (List ℕ)
kept_of n = map (name_at (string_bytes n.text)) n.places.items

abbrev pub pending_of : Names → List ℕ
pending_of n = drop n.held (string_bytes n.text)
