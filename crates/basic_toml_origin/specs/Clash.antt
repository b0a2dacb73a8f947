-- The two places of a clash, own: where what stands first is written, and where the later one begins. The error of a
-- clash stands at the later one; where a row goes on from a value, at the value.
use Rattle.std.specs.Prelude.{ℕ, ◌-◌, ◌==◌, min, if◌then◌else◌, List, [], ◌∷◌, length, slice_get}
use Rattle.std.specs.Prelude.{Option, Some, None, option_map, unwrap_or}
use Rattle.std.specs.Option.{option_or, option_and_then}
use Rattle.basic_toml_grammar.specs.Sections.{Section}
use Rattle.basic_toml_grammar.specs.Faults.{FaultKind, duplicate_key, duplicate_table, redefine_as_array}
use Rattle.basic_toml_grammar.specs.Faults.{dotted_key_invalid_type}
use Rattle.basic_toml_origin.specs.Before.{sections_before}
use Rattle.basic_toml_origin.specs.Crossing.{crossing_key}
use Rattle.basic_toml_origin.specs.KeyPath.{key_path_at}
use Rattle.basic_toml_origin.specs.Origin.{origin_at}
use Rattle.basic_toml_origin.specs.declared.clash.ClashKind.{ClashKind}
use Rattle.basic_toml_origin.specs.declared.clash.ClashKind.TheVariants as kinds
use Rattle.basic_toml_origin.specs.declared.clash.ClashPlaces.{ClashPlaces}
use Rattle.basic_toml_origin.specs.declared.origin.Origin.{Origin}

-- where what is written begins: at its header, or at its key, before its value
abbrev pub beginning : Origin → ℕ
beginning o = min o.at (unwrap_or o.key o.at)

-- where what a key leads to is written before the key
abbrev pub first_place : List Section → ℕ → Option ℕ
first_place sections o =
    option_and_then (λ p. option_map beginning (origin_at (sections_before o sections) p)) (key_path_at sections o)

-- the last key of the header that begins at an offset
abbrev pub last_key_at : Section → ℕ → Option ℕ
last_key_at s o = if s.at == o then option_map (λ k. k.offset) (slice_get s.header (length s.header - 1)) else None

abbrev pub header_key : List Section → ℕ → Option ℕ
header_key [] o = None
header_key (s ∷ sections) o = option_or (last_key_at s o) (header_key sections o)

-- of a key, where the later of the two begins
abbrev pub before_key : List Section → ℕ → ℕ → Option ClashPlaces
before_key sections o later = option_map (λ first. record { first = first; later = later }) (first_place sections o)

-- what an error is of, if it is one of a clash
abbrev pub clash_kind : FaultKind → Option ClashKind
clash_kind (duplicate_key k) = Some kinds.Key
clash_kind (duplicate_table name) = Some kinds.Header
clash_kind redefine_as_array = Some kinds.Header
clash_kind dotted_key_invalid_type = Some kinds.Value
clash_kind kind = None

-- by what clashes, and the place of the error
abbrev pub clash_places : List Section → ClashKind → ℕ → Option ClashPlaces
clash_places sections kinds.Key o = before_key sections o o
clash_places sections kinds.Header o = option_and_then (λ k. before_key sections k o) (header_key sections o)
clash_places sections kinds.Value o =
    option_map (λ later. record { first = o; later = later }) (crossing_key o sections)
