-- What a value can hold, by the types of its parts: integers lie in i64, a float is its own reading, texts and keys are
-- UTF-8, and each key stands once in its table.
use Rattle.std.specs.Prelude.{◌≡◌, ⊤, ℕ, true, List, [], ◌∷◌, Some, IsUtf8, FitsSigned}
use Rattle.std.specs.Int.{w64}
use Rattle.basic_toml_numbers.specs.Numbers.{float_of}
use Rattle.basic_toml_value.specs.Data.{Data, integer, float, boolean, string, array, table, Items, no_items, item}
use Rattle.basic_toml_value.specs.Data.{Members, no_members, member}
use Rattle.basic_toml_index.specs.Keys.{are_distinct}

abbrev pub keys_of : Members → List (List ℕ)
keys_of no_members = []
keys_of (member k x ms) = k ∷ keys_of ms

abbrev mutual
  pub IsValid : Data → Type 0
  IsValid (integer z) = FitsSigned w64 z
  IsValid (float t) = float_of t ≡ Some t
  IsValid (boolean b) = ⊤
  IsValid (string t) = IsUtf8 t
  IsValid (array xs) = AreValid xs
  IsValid (table ms) = (are_distinct (keys_of ms) ≡ true) × HoldsValid ms

  pub AreValid : Items → Type 0
  AreValid no_items = ⊤
  AreValid (item x xs) = IsValid x × AreValid xs

  pub HoldsValid : Members → Type 0
  HoldsValid no_members = ⊤
  HoldsValid (member k x ms) = IsUtf8 k × (IsValid x × HoldsValid ms)
