-- What is known of a stop: at which hole of the grammar it is.
use Rattle.std.specs.Prelude.{◌≡◌, ℕ, List, None, Result, Ok, Err}
use Rattle.basic_toml_value.specs.Nesting.{nesting_limit}
use Rattle.basic_toml_tokens.specs.Ascii as ascii
use Rattle.basic_toml_tokens.specs.Text.{Text, text_at, after_blanks}
use Rattle.basic_toml_grammar.specs.DeepStops.{DeepSections}
use Rattle.basic_toml_grammar.specs.Reader.{char_at, key_at}
use Rattle.basic_toml_grammar.specs.Holes.{Hole, HoleInKeys, HoleInValue, HoleInElements, HoleInFields, HoleInFieldsOn}
use Rattle.basic_toml_grammar.specs.Holes.{HoleInRow, HoleInRows, HoleInHeader, HoleInSections, HoleInText}
use Rattle.basic_toml_grammar.specs.Holes.{behind_value, behind_in_elements, behind_in_fields, behind_in_fields_on}
use Rattle.basic_toml_grammar.specs.Holes.{behind_in_row, behind_in_rows, behind_in_sections, behind_in_text}
use Rattle.basic_toml_explain.specs.StopHoles.{StopsFor}
use Rattle.basic_toml_explain.specs.declared.stop.Stop.{Stop}
use Rattle.basic_toml_explain.specs.declared.stop.Why.{Why}
use Rattle.basic_toml_explain.specs.declared.stop.Why.TheVariants.{Memory, Deep, Key}

-- a stop for a level above the limit comes only at such an offset, and a stop of the grammar only where there is none
abbrev pub AtDeep : (ℕ → Type 0) → Why → ℕ → Type 0
AtDeep IsDeep Memory at = Unit {0}
AtDeep IsDeep Deep at = IsDeep at
AtDeep IsDeep _ at = (p : ℕ) → IsDeep p → ⊥

abbrev pub IfDeep : {A : Type 0} → (ℕ → Type 0) → Result A Stop → Type 0
IfDeep IsDeep (Ok x) = Unit {0}
IfDeep IsDeep (Err stop) = AtDeep IsDeep stop.why stop.at

-- of sections from such a line on
abbrev pub IfDeepSection : {A : Type 0} → List ℕ → ℕ → Result A Stop → Type 0
IfDeepSection bytes at result = (text : Text) → text_at bytes at ≡ after_blanks text
    → IfDeep (DeepSections nesting_limit text) result

-- the holes of a reading, and what has to come behind the value of one
pub record Holes : Type 1 where
  pub HoleIn : Hole → Text → Type 0
  pub behind : (at : Text) → HoleIn Hole.value at → Hole

abbrev pub in_value : Text → Hole → Holes
in_value text end = record { HoleIn = HoleInValue text; behind = λ at d. behind_value end d }

abbrev pub in_elements : Text → Holes
in_elements text = record { HoleIn = HoleInElements text; behind = λ at d. behind_in_elements d }

abbrev pub in_fields : Text → Holes
in_fields text = record { HoleIn = HoleInFields text; behind = λ at d. behind_in_fields d }

abbrev pub in_fields_on : Text → Holes
in_fields_on text = record { HoleIn = HoleInFieldsOn text; behind = λ at d. behind_in_fields_on d }

abbrev pub in_row : Text → Hole → Holes
in_row text end = record { HoleIn = HoleInRow text; behind = λ at d. behind_in_row end d }

abbrev pub in_rows : Text → Holes
in_rows text = record { HoleIn = HoleInRows text; behind = λ at d. behind_in_rows d }

-- no value is wanted in a header
abbrev pub in_header : Text → Holes
in_header text = record { HoleIn = HoleInHeader text; behind = λ at d. Hole.after_line }

abbrev pub in_sections : Text → Holes
in_sections text = record { HoleIn = HoleInSections text; behind = λ at d. behind_in_sections d }

abbrev pub in_text : Text → Holes
in_text text = record { HoleIn = HoleInText text; behind = λ at d. behind_in_text d }

-- a stop is at such a hole, in which nothing that fits stands
abbrev pub InHole : {A : Type 0} → Holes → List ℕ → Result A Stop → Type 0
InHole holes bytes (Ok x) = Unit {0}
InHole holes bytes (Err stop) = StopsFor holes.HoleIn holes.behind stop.why (text_at bytes stop.at)

-- keys stop only where a key is wanted
abbrev pub StopsAtKey : Text → Why → Text → Type 0
StopsAtKey text Memory at = Unit {0}
StopsAtKey text Deep at = Unit {0}
StopsAtKey text Key at = HoleInKeys text Hole.key at × (key_at at ≡ None)
StopsAtKey text _ at = ⊥

abbrev pub InKeyHole : {A : Type 0} → Text → List ℕ → Result A Stop → Type 0
InKeyHole text bytes (Ok x) = Unit {0}
InKeyHole text bytes (Err stop) = StopsAtKey text stop.why (text_at bytes stop.at)

-- where a header's bracket stands
abbrev pub InHeaderHole : {A : Type 0} → List ℕ → ℕ → Result A Stop → Type 0
InHeaderHole bytes at result = (char_at ascii.left_bracket (text_at bytes at) ≡ None → ⊥)
    → InHole (in_header (text_at bytes at)) bytes result

-- of sections from such a line on
abbrev pub InSectionHole : {A : Type 0} → List ℕ → ℕ → Result A Stop → Type 0
InSectionHole bytes at result = (text : Text) → text_at bytes at ≡ after_blanks text
    → (char_at ascii.left_bracket (text_at bytes at) ≡ None → ⊥) → InHole (in_sections text) bytes result

-- the holes of one reading are holes of another, with the same behind them
pub record LeadsTo (inner outer : Holes) : Type 0 where
  pub on : (h : Hole) (at : Text) → inner.HoleIn h at → outer.HoleIn h at
  pub same : (at : Text) (d : inner.HoleIn Hole.value at) → outer.behind at (on Hole.value at d) ≡ inner.behind at d
