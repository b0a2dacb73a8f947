-- An error that is answered, and one that is answered once more.
use Rattle.std.specs.Prelude.{◌≡◌, string_bytes}
use Rattle.basic_toml_write.specs.declared.error.WriteError.{WriteError}
use Rattle.basic_toml_write.specs.declared.error.WriteError.TheVariants.{Custom, DuplicateKey, OutOfMemory}

-- the same error
abbrev pub IsSame : WriteError → WriteError → Type 0
IsSame (DuplicateKey k) (DuplicateKey l) = string_bytes k ≡ string_bytes l
IsSame x e = x ≡ e

-- the same error, or want of memory where it has a text to copy
abbrev pub IsAgain : WriteError → WriteError → Type 0
IsAgain (DuplicateKey k) (DuplicateKey l) = string_bytes k ≡ string_bytes l
IsAgain (DuplicateKey k) e = e ≡ OutOfMemory
IsAgain (Custom k) e = e ≡ OutOfMemory
IsAgain x e = x ≡ e
