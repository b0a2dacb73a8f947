-- What reading the sections of a text one after another answers.
use Rattle.std.specs.Prelude.{◌≡◌, ◌≤◌, ◌<◌, ◌+◌, ◌-◌, ℕ, Bool, true, false, List, [], ◌∷◌, ◌++◌, length, map}
use Rattle.std.specs.Prelude.{Option, Some, None, Result, Ok, Err, Vec, IfOk}
use Rattle.std.specs.Option.{IfSome}
use Rattle.std.specs.Str.{IsCharBoundary}
use Rattle.std.specs.declared.alloc.Global.{Global}
use Rattle.basic_toml_value.specs.Nesting.{nesting_limit}
use Rattle.basic_toml_tokens.specs.Text.{Text, text_at, folded}
use Rattle.basic_toml_grammar.specs.Sections.{Section}
use Rattle.basic_toml_grammar.specs.Entering.{and_then}
use Rattle.basic_toml_grammar.specs.Levels.{highest_level}
use Rattle.basic_toml_grammar.specs.Reader.{section_list_of}
use Rattle.basic_toml_grammar.specs.DeepStops.{DeepSections, DeepStop}
use Rattle.basic_toml_explain.specs.Stop.{StopsInside}
use Rattle.basic_toml_explain.specs.StopHoles.{StopsFor}
use Rattle.basic_toml_explain.specs.declared.stop.Stop.{Stop}
use Rattle.basic_toml_read.specs.declared.reader.Place.{Place}
use Rattle.basic_toml_read.specs.declared.reader.Place.TheVariants.{Start, Behind}
use Rattle.basic_toml_read.specs.declared.reader.SectionReader.{SectionReader}
use Rattle.basic_toml_read.specs.declared.section.Section as code
use Rattle.basic_toml_read.specs.FrontOf.{sections_of}
use Rattle.basic_toml_read.specs.Gathers.{lines_of, no_lines}
use Rattle.basic_toml_read.specs.Lists.{NextAt, IsGap}
use Rattle.basic_toml_read.specs.SectionView.{section_of, NoneLeft}
use Rattle.basic_toml_read.specs.SectionsAnswer.{HoldsMore}
use Rattle.basic_toml_read.specs.StopsAt.{Misses}
use Rattle.basic_toml_read.specs.StopsReached.{AtDeep, LeadsTo, in_sections, in_text}

-- sections, and then others, if there are any
unfoldable pub onto : List Section → Option (List Section) → Option (List Section)
onto front o = and_then o (λ sections. Some (front ++ sections))

-- The text goes on behind these sections, where the next bracket stands: its list are they and those of the rest.
pub record ListSoFar (bytes : List ℕ) (next : Option ℕ) (list : List Section) : Type 0 where
  pub rest : Text
  pub ends : NextAt bytes rest next
  pub told : section_list_of (folded bytes) ≡ onto list (sections_of rest)
  pub limit : highest_level list ≤ nesting_limit
  pub gaps : IsGap (folded bytes) → (next ≡ None) × (list ≡ [])
  pub leads : (p : ℕ) → DeepSections nesting_limit rest p → DeepStop nesting_limit (folded bytes) p
  pub backs : (p : ℕ) → DeepStop nesting_limit (folded bytes) p → DeepSections nesting_limit rest p
  pub holes : LeadsTo (in_sections rest) (in_text (folded bytes))

-- Where a reader is that has handed these sections out.
abbrev pub IsBehind : List ℕ → Place → List Section → Type 0
IsBehind bytes Start list = list ≡ []
IsBehind bytes (Behind next) list = ListSoFar bytes next list

abbrev pub SoFar : SectionReader → List Section → Type 0
SoFar reader list = IsBehind reader.text.now reader.place list

-- a place in the text
abbrev pub IsPlaceIn : List ℕ → Place → Type 0
IsPlaceIn bytes Start = Unit {0}
IsPlaceIn bytes (Behind next) = IfSome next (λ at. IsCharBoundary bytes at)

-- a reader that can read on
pub record IsReady (reader : SectionReader) : Type 0 where
  pub within : IsPlaceIn reader.text.now reader.place
  pub none : lines_of reader.gathered ≡ no_lines

-- Where the text stops to be one within the limit: what is missing there, that it is inside the text and holds more than
-- a gap, and that no level above the limit comes before it.
pub record IsStop (bytes : List ℕ) (stop : Stop) : Type 0 where
  pub missed : Misses stop.why (section_list_of (folded bytes)) (λ sections. nesting_limit < highest_level sections)
  pub inside : StopsInside bytes stop
  pub more : HoldsMore (folded bytes)
  pub deep : AtDeep (DeepStop nesting_limit (folded bytes)) stop.why stop.at
  pub hole : StopsFor (in_text (folded bytes)).HoleIn (in_text (folded bytes)).behind stop.why (text_at bytes stop.at)

-- a reader at the start of a text
pub record IsAtStart (bytes : List ℕ) (reader : SectionReader) : Type 0 where
  pub text : reader.text.now ≡ bytes
  pub ready : IsReady reader
  pub none : SoFar reader []

-- a section without keys and rows, whose vectors can take the next ones
pub record IsEmpty (s : code.Section) : Type 0 where
  pub header : s.header.items ≡ []
  pub rows : NoneLeft s.rows

-- these sections are the list of the text, within the limit
pub record IsList (bytes : List ℕ) (list : List Section) : Type 0 where
  pub is : section_list_of (folded bytes) ≡ Some list
  pub limit : highest_level list ≤ nesting_limit

-- One section more is handed out; or there is none more; or reading stops.
abbrev pub ReadsNext : List Section → SectionReader → code.Section → Result Bool Stop → Type 0
ReadsNext list reader s (Ok true) = SoFar reader (list ++ section_of s ∷ [])
ReadsNext list reader s (Ok false) = IsList reader.text.now list
ReadsNext list reader s (Err stop) = IsStop reader.text.now stop

-- how much is left to read
abbrev pub left_after : List ℕ → Option ℕ → ℕ
left_after bytes None = 0
left_after bytes (Some at) = length bytes - at + 1

abbrev pub left_at : List ℕ → Place → ℕ
left_at bytes Start = length bytes + 2
left_at bytes (Behind next) = left_after bytes next

unfoldable pub left_to_read : SectionReader → ℕ
left_to_read reader = left_at reader.text.now reader.place

-- A reader reads on, into a section: it can read on after that, in the same text, of which less is left.
pub record ReadsOn (old new : SectionReader) (s : code.Section) (result : Result Bool Stop) : Type 0 where
  pub read : (list : List Section) → SoFar old list → ReadsNext list new s result
  pub ready : IfOk result (λ _. IsReady new)
  pub text : new.text ≡ old.text
  pub later : result ≡ Ok true → left_to_read new < left_to_read old

-- the section list of the text, within the limit
abbrev pub ReadsList : List ℕ → Result (Vec code.Section Global) Stop → Type 0
ReadsList bytes (Ok list) = IsList bytes (map section_of list.items)
ReadsList bytes (Err stop) = IsStop bytes stop
