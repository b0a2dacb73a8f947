-- What the definitions of numbers give.
use Rattle.std.proofs.Common.{◌≡◌, ℕ, Bool, true, false, ◌&&◌, List, Some, None, if◌then◌else◌, ap, IsTrue}
use Rattle.std.specs.Str.{bytes_eq}
use Rattle.std.proofs.lemmas.Slice.Eq.{bytes_eq-Decides}
use Rattle.basic_toml_numbers.specs.Numbers.{is_unsigned_float, without_sign, canonical, float_of, is_canonical}

kept_whole : (b : Bool) (kept cs : List ℕ) → (b && bytes_eq kept cs) ≡ true → (if b then Some kept else None) ≡ Some cs
kept_whole true kept cs is = ap (λ l. Some l) ((bytes_eq-Decides kept cs).0 is)
kept_whole false kept cs is = absurd (cc)

-- a canonical float is its own reading
pub float_of-canonical : (cs : List ℕ) → IsTrue (is_canonical cs) → float_of cs ≡ Some cs
float_of-canonical cs is = kept_whole (is_unsigned_float (without_sign cs)) (canonical cs) cs is
