-- What contracts see of an `Error`.
use Rattle.std.specs.Prelude.{ℕ, List, [], map, Option, Some, None, option_map, Vec, String, string_bytes, ◌<◌, ◌^◌, ◌+◌}
use Rattle.std.specs.Option.{ForSome}
use Rattle.std.specs.declared.alloc.Global.{Global}
use Rattle.basic_toml_error.specs.Fault.{Fault}
use Rattle.basic_toml_error.specs.KindView.{kind_of}
use Rattle.basic_toml_error.specs.declared.error.Error.TheInside.{Inside}

abbrev pub keys_of : Option (Vec (String Global) Global) → List (List ℕ)
keys_of None = []
keys_of (Some keys) = map string_bytes keys.items

abbrev pub fault_of : Inside → Fault
fault_of e = record {
  kind = kind_of e.kind;
  key_path = keys_of e.key_path;
  offset = e.offset;
  line_column = e.line_column;
  anchor = option_map (λ anchor. anchor.value) e.anchor;
}

-- line and column leave room for counting from 1
abbrev pub HasSmallNumbers : Inside → Type 0
HasSmallNumbers e = ForSome e.line_column (λ p. (p.0 + 1 < 2 ^ 64) × (p.1 + 1 < 2 ^ 64))
