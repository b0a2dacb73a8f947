-- What `toml_c_check` gives to its caller. (own)
use Rattle.std.specs.Prelude.{◌≡◌, ℕ, IsUtf8, List, length, Option, None, option_map, unwrap_or, is_some}
use Rattle.std.specs.Option.{option_and_then}
use Rattle.basic_toml.specs.Data.{Data}
use Rattle.basic_toml.specs.Fault.{Fault}
use Rattle.basic_toml.specs.FaultText.{message}
use Rattle.basic_toml.specs.ReadErrorText.{joined}
use Rattle.basic_toml_error.specs.LineColumn.{line_at, column_at}
use Rattle.basic_toml_error.specs.Origins.{AreOriginsIn}
use Rattle.basic_toml_error.specs.declared.origins.Origins.{Origins}
use Rattle.toml_c.specs.Answers.{with_front, Holds, IsRefusal}
use Rattle.toml_c.specs.declared.check.Places.{Places}
use Rattle.toml_c.specs.declared.check.TomlFinding.{TomlFinding}

abbrev pub no_places : Places
no_places = record { error = None; origin = None; other = None }

-- a line and a column, or 0 and 0
abbrev pub or_zeros : Option (ℕ × ℕ) → ℕ × ℕ
or_zeros place = unwrap_or place (0, 0)

-- a status, the places, and how long the message and the key path are
abbrev pub found : ℕ → Places → ℕ → ℕ → TomlFinding
found status places m k = record {
  status = status;
  has_place = is_some places.error;
  line = (or_zeros places.error).0;
  column = (or_zeros places.error).1;
  origin_line = (or_zeros places.origin).0;
  origin_column = (or_zeros places.origin).1;
  has_other = is_some places.other;
  other_line = (or_zeros places.other).0;
  other_column = (or_zeros places.other).1;
  message_length = m;
  key_path_length = k;
}

-- the line and the column of an offset, if there is one
abbrev pub place_of : List ℕ → Option ℕ → Option (ℕ × ℕ)
place_of text offset = option_map (λ at. (line_at text at, column_at text at)) offset

-- the origins of a fault of some bytes, of which only those of a text have any
pub record HasOrigins (input : List ℕ) (fault : Fault) (origins : Option Origins) : Type 0 where
  pub of_text : IsUtf8 input → AreOriginsIn input fault origins
  pub of_bytes : (IsUtf8 input → ⊥) → origins ≡ None

-- where a fault of some bytes stands, and where what it is about is written
pub record ArePlaces (input : List ℕ) (fault : Fault) (places : Places) : Type 0 where
  pub origins : Option Origins
  pub are : HasOrigins input fault origins
  pub error : places.error ≡ fault.line_column
  pub origin : places.origin ≡ place_of input (option_map (λ o. o.origin) origins)
  pub other : places.other ≡ place_of input (option_and_then (λ o. o.other) origins)

-- Nothing of a document; of other bytes why they have none and where, and as much of its texts as there is room for.
-- Where memory was refused, the memory is as it was.
pub data Checks (input old new old_keys new_keys : List ℕ) : TomlFinding → Type 0 where
  is_toml : {tree : Data} → Holds input tree → new ≡ old → new_keys ≡ old_keys
      → Checks input old new old_keys new_keys (found 0 no_places 0 0)
  is_not : {fault : Fault} {places : Places} → IsRefusal input fault → ArePlaces input fault places
      → new ≡ with_front old (message fault.kind) → new_keys ≡ with_front old_keys (joined fault.key_path)
      → Checks input old new old_keys new_keys
      (found 1 places (length (message fault.kind)) (length (joined fault.key_path)))
  no_memory : new ≡ old → new_keys ≡ old_keys → Checks input old new old_keys new_keys (found 3 no_places 0 0)
