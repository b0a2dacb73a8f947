-- The errors of a writer and the rules that they name.
use Rattle.std.specs.Prelude.{ℕ, ◌≡◌, List, Result, Err, string_bytes, ⊤}
use Rattle.basic_toml_emit.specs.Rules as r
use Rattle.basic_toml_write.specs.declared.error.WriteError.{WriteError}
use Rattle.basic_toml_write.specs.declared.error.WriteError.TheVariants.{UnsupportedType, KeyNotString}
use Rattle.basic_toml_write.specs.declared.error.WriteError.TheVariants.{ValueAfterTable, UnsupportedNone, Custom}
use Rattle.basic_toml_write.specs.declared.error.WriteError.TheVariants.{DuplicateKey, CallOrder, NestedTooDeeply}
use Rattle.basic_toml_write.specs.declared.error.WriteError.TheVariants.{OutOfMemory}

-- The error names the rule that was met. Want of memory may come at any time; a type's own error is no rule.
abbrev pub Names : {A : Type 0} → WriteError → Result A r.CallFault → Type 0
Names UnsupportedType x = x ≡ Err r.unsupported_type
Names KeyNotString x = x ≡ Err r.key_not_string
Names ValueAfterTable x = x ≡ Err r.value_after_table
Names UnsupportedNone x = x ≡ Err r.unsupported_none
Names (Custom _) x = ⊥
Names (DuplicateKey k) x = x ≡ Err (r.duplicate_key (string_bytes k))
Names CallOrder x = x ≡ Err r.call_order
Names NestedTooDeeply x = x ≡ Err r.nested_too_deeply
Names OutOfMemory x = ⊤

-- a type's own error with this message, or want of memory
abbrev pub IsCustom : List ℕ → WriteError → Type 0
IsCustom message (Custom t) = string_bytes t ≡ message
IsCustom message e = e ≡ OutOfMemory
