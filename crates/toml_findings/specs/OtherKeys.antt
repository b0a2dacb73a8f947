-- The other of the two keys of a clash, as it is told. (own)
use Rattle.std.specs.Prelude.{◌≡◌, ℕ, Bool, true, false, ◌==◌, if◌then◌else◌, List, [], ◌++◌, codes, decimal}
use Rattle.std.specs.Prelude.{Option, Some, None, option_map}
use Rattle.std.specs.Option.{option_and_then}
use Rattle.basic_toml.specs.Fault.{Fault}
use Rattle.basic_toml_error.specs.Origins.{AreOriginsIn}
use Rattle.basic_toml_error.specs.declared.origins.Origins.{Origins}
use Rattle.toml_findings.specs.Places.{Place, place_at, place_of}
use Rattle.toml_findings.specs.declared.other_key.OtherKey as code

-- whether it stands first, and its place
pub record OtherKey : Type 0 where
  pub is_first : Bool
  pub place : Place

abbrev pub other_of : code.OtherKey → OtherKey
other_of o = record { is_first = o.is_first; place = place_of o.place }

abbrev pub maybe_other : Option code.OtherKey → Option OtherKey
maybe_other o = option_map other_of o

-- of two origins the one that is not at an offset, and whether it stands first
abbrev pub other_at : ℕ → Origins → Option (Bool × ℕ)
other_at offset origins =
    option_map (λ first. if origins.origin == offset then (true, first) else (false, origins.origin)) origins.other

abbrev pub told : List ℕ → Bool × ℕ → OtherKey
told text other = record { is_first = other.0; place = place_at text other.1 }

-- Of a fault that stands at an offset of a text: by its origins there, of which a clash has two.
pub record IsOther (text : List ℕ) (fault : Fault) (offset : ℕ) (other : Option OtherKey) : Type 0 where
  pub origins : Option Origins
  pub are : AreOriginsIn text fault origins
  pub is : other ≡ option_map (λ other. told text other) (option_and_then (other_at offset) origins)

abbrev pub word : Bool → List ℕ
word true = codes "first defined"
word false = codes "extended"

-- how it prints
abbrev pub other_text : OtherKey → List ℕ
other_text o =
    codes "note: " ++ (word o.is_first ++ (codes " here, at " ++ (decimal o.place.line ++ (codes ":"
    ++ (decimal o.place.column ++ (codes "\n" ++ (o.place.source ++ (codes "\n" ++ (o.place.caret ++ codes "\n")))))))))

abbrev pub maybe_text : Option OtherKey → List ℕ
maybe_text None = []
maybe_text (Some o) = other_text o
