-- That texts have an index is one fact, however it is shown.
use Rattle.std.specs.Prelude.{ℕ, List}
use denote.Struct.Props.{props}
use Rattle.basic_toml_index.specs.declared.Index.{Index}
use Rattle.basic_toml_index.specs.Index.{IsIndex}

pub IsIndex-prop : (keys : List (List ℕ)) (index : Index) → IsProp (IsIndex keys index)
IsIndex-prop keys index = hlevel props
