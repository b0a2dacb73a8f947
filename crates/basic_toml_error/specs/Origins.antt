-- Where what a fault is about is written, by the section list of its text, own. A type's own fault is about its node: of
-- an unknown field it is the field's key, else the thing itself. Of a clash it is the later of the two keys, and the
-- earlier is the other one. Any other fault is about what stands at its offset.
use Rattle.std.specs.Prelude.{◌≡◌, ℕ, List, [], ◌∷◌, ◌++◌, Option, Some, None, option_map, unwrap_or, Result, Ok, Err}
use Rattle.std.specs.Option.{option_and_then}
use Rattle.basic_toml_grammar.specs.Sections.{Section}
use Rattle.basic_toml_grammar.specs.Steps.{key, Path}
use Rattle.basic_toml_origin.specs.declared.anchor.Anchor.{Anchor}
use Rattle.basic_toml_origin.specs.declared.clash.ClashPlaces.{ClashPlaces}
use Rattle.basic_toml_origin.specs.Anchor.{path_of_anchor}
use Rattle.basic_toml_origin.specs.declared.clash.ClashKind.{ClashKind}
use Rattle.basic_toml_origin.specs.Clash.{clash_kind, clash_places}
use Rattle.basic_toml_origin.specs.Origin.{origin_at}
use Rattle.basic_toml_origin.specs.declared.origin.Origin.{Origin}
use Rattle.basic_toml_tree.specs.OfText.{IsListOf}
use Rattle.basic_toml_error.specs.Fault.{Fault, FaultKind, reading, unknown_field, want_of_memory}
use Rattle.basic_toml_error.specs.declared.origins.Origins.{Origins}

-- how a path goes on from a type's node to what its fault there is about: to an unknown field by the field's key
abbrev pub steps_on : FaultKind → Path
steps_on (unknown_field name message) = key name ∷ []
steps_on kind = []

-- an unknown field is told at its key
abbrev pub spot_of : FaultKind → Origin → Option ℕ
spot_of (unknown_field name message) o = o.key
spot_of kind o = Some o.at

-- of a type's own fault at the node of a path
abbrev pub about_node : List Section → Path → FaultKind → Option ℕ
about_node sections p kind = option_and_then (λ o. spot_of kind o) (origin_at sections (p ++ steps_on kind))

-- the path to what a type's own fault is about
abbrev pub path_in : List Section → Fault → Option Path
path_in sections f =
    option_map (λ p. p ++ steps_on f.kind) (option_and_then (λ anchor. path_of_anchor sections anchor) f.anchor)

abbrev pub alone : ℕ → Origins
alone at = record { origin = at; other = None }

abbrev pub of_clash : ClashPlaces → Origins
of_clash places = record { origin = places.later; other = Some places.first }

-- what clashes, if something does
abbrev pub clash_of : FaultKind → Option ClashKind
clash_of (reading kind) = clash_kind kind
clash_of kind = None

-- of a fault of the text at an offset, and of what clashes, if it is one of a clash
abbrev pub about_text : List Section → ℕ → Option ClashKind → Origins
about_text sections at None = alone at
about_text sections at (Some clash) = unwrap_or (option_map of_clash (clash_places sections clash at)) (alone at)

abbrev pub about : List Section → FaultKind → Option ℕ → Option Anchor → Option Origins
about sections kind offset (Some anchor) =
    option_map alone (option_and_then (λ p. about_node sections p kind) (path_of_anchor sections anchor))
about sections kind offset None = option_map (λ at. about_text sections at (clash_of kind)) offset

abbrev pub origins_in : List Section → Fault → Option Origins
origins_in sections f = about sections f.kind f.offset f.anchor

-- the list is asked: for a type's own fault at a node, and for a clash
abbrev pub AsksTheList : Fault → Type 0
AsksTheList f = f.anchor ≡ None → clash_of f.kind ≡ None → ⊥

-- By the section list of the text; where it has none within the limit, the fault's own offset.
pub record AreOriginsIn (text : List ℕ) (f : Fault) (origins : Option Origins) : Type 0 where
  pub listed : (sections : List Section) → IsListOf text sections → origins ≡ origins_in sections f
  pub unlisted : ((sections : List Section) → IsListOf text sections → ⊥) → origins ≡ option_map alone f.offset

abbrev pub AnswersOrigins : List ℕ → Fault → Result (Option Origins) Fault → Type 0
AnswersOrigins text f (Ok origins) = AreOriginsIn text f origins
AnswersOrigins text f (Err fault) = fault ≡ want_of_memory
