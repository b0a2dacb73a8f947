-- The errors of an emitter and the rules that they name.
use Rattle.std.specs.Prelude.{ℕ, ◌≡◌, List, Result, Err, ⊤}
use Rattle.basic_toml_emit.specs.Rules as r
use Rattle.basic_toml_emit.specs.declared.error.EmitError.{EmitError}
use Rattle.basic_toml_emit.specs.declared.error.EmitError.TheVariants as e

-- The error is that of the rule that was met, where this key is set. Want of memory may come at any time.
abbrev pub Meets : {A : Type 0} → EmitError → List ℕ → Result A r.CallFault → Type 0
Meets e.UnsupportedType k x = x ≡ Err r.unsupported_type
Meets e.KeyNotString k x = x ≡ Err r.key_not_string
Meets e.ValueAfterTable k x = x ≡ Err r.value_after_table
Meets e.UnsupportedNone k x = x ≡ Err r.unsupported_none
Meets e.DuplicateKey k x = x ≡ Err (r.duplicate_key k)
Meets e.CallOrder k x = x ≡ Err r.call_order
Meets e.NestedTooDeeply k x = x ≡ Err r.nested_too_deeply
Meets e.OutOfMemory k x = ⊤
