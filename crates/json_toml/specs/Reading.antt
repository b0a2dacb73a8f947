-- Why no JSON was read. (own)
use Rattle.std.specs.Prelude.{◌≡◌, Option, None, ⊤}
use Rattle.json.specs.Json.{Json}
use Rattle.json_toml.specs.declared.answer.NoJson.{NoJson}
use Rattle.json_toml.specs.declared.answer.NoJson.TheVariants.{At, OutOfMemory}

-- there is none, memory aside
abbrev pub IsNone : Option Json → NoJson → Type 0
IsNone due (At offset) = due ≡ None
IsNone due OutOfMemory = ⊤
