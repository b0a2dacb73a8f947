-- The places of an error, in a text and in other bytes.
use Rattle.std.proofs.Common.{◌≡◌, ℕ, List, Option, None, IsUtf8, refl, subst, ap, ◌∙◌}
use Rattle.std.specs.Prelude.{option_map}
use Rattle.std.specs.Option.{option_and_then}
use Rattle.basic_toml.specs.Fault.{Fault}
use Rattle.basic_toml_error.specs.Origins.{AreOriginsIn}
use Rattle.basic_toml_error.specs.declared.origins.Origins.{Origins}
use Rattle.toml_c.specs.Checks.{ArePlaces, place_of}
use Rattle.toml_c.specs.declared.check.Places.{Places}

pub of_text : (input text : List ℕ) (fault : Fault) (origins : Option Origins) (places : Places) → text ≡ input
    → IsUtf8 input → AreOriginsIn text fault origins → places.error ≡ fault.line_column
    → places.origin ≡ place_of text (option_map (λ o. o.origin) origins)
    → places.other ≡ place_of text (option_and_then (λ o. o.other) origins) → ArePlaces input fault places
of_text input text fault origins places same utf8 are error origin other = record {
  origins = origins;
  are = record {
    of_text = λ _. subst (λ (t : List ℕ). AreOriginsIn t fault origins) same are;
    of_bytes = λ none. absurd (none utf8);
  };
  error = error;
  origin = origin ∙ ap (λ (t : List ℕ). place_of t (option_map (λ o. o.origin) origins)) same;
  other = other ∙ ap (λ (t : List ℕ). place_of t (option_and_then (λ o. o.other) origins)) same;
}

pub of_bytes : (input : List ℕ) (fault : Fault) (places : Places) → (IsUtf8 input → ⊥)
    → places.error ≡ fault.line_column → places.origin ≡ None → places.other ≡ None → ArePlaces input fault places
of_bytes input fault places none error origin other = record {
  origins = None;
  are = record { of_text = λ utf8. absurd (none utf8); of_bytes = λ _. refl };
  error = error;
  origin = origin;
  other = other;
}
