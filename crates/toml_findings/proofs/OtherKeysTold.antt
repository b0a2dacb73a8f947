-- What is told of the other key of a clash, by the origins of its error.
use Rattle.std.proofs.Common.{◌≡◌, ℕ, Bool, List, Option, Some, None, ap, ◌∙◌, option_map}
use Rattle.std.specs.Option.{option_and_then}
use Rattle.basic_toml.specs.Fault.{Fault}
use Rattle.basic_toml_error.specs.Origins.{AreOriginsIn}
use Rattle.basic_toml_error.specs.declared.origins.Origins.{Origins}
use Rattle.toml_findings.specs.OtherKeys.{IsOther, OtherKey, other_at, told}
use Rattle.toml_findings.specs.Places.{Place, place_at, place_of}
use Rattle.toml_findings.specs.declared.place.Place as code

module _ (text : List ℕ) (fault : Fault) (offset : ℕ) (origins : Option Origins)
    (are : AreOriginsIn text fault origins) where
  abbrev told_of : Option (Bool × ℕ) → Option OtherKey
  told_of other = option_map (λ other. told text other) other

  pub found_is_told : (other : Bool × ℕ) (place : code.Place)
      → Some other ≡ option_and_then (other_at offset) origins → place_of place ≡ place_at text other.1
      → IsOther text fault offset (Some (record { is_first = other.0; place = place_of place }))
  found_is_told other place found shown = record {
    origins = origins;
    are = are;
    is = ap (λ (p : Place). Some (record { is_first = other.0; place = p })) shown ∙ ap told_of found;
  }

  pub none_is_told : None ≡ option_and_then (other_at offset) origins → IsOther text fault offset None
  none_is_told found = record { origins = origins; are = are; is = ap told_of found }
