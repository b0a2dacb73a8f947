-- The integer types that a reading may try. (own)
use Rattle.std.specs.Prelude.{ℤ, pos, ◌^◌}
use Rattle.basic_toml_serde.specs.declared.notes.Narrow.{Narrow}
use Rattle.basic_toml_serde.specs.declared.notes.Narrow.TheVariants.{I8, I16, I32, U8, U16, U32}

-- the least number above a type
abbrev pub least_above : Narrow → ℤ
least_above I8 = pos (2 ^ 7)
least_above I16 = pos (2 ^ 15)
least_above I32 = pos (2 ^ 31)
least_above U8 = pos (2 ^ 8)
least_above U16 = pos (2 ^ 16)
least_above U32 = pos (2 ^ 32)
