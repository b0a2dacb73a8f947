-- What reading headers, rows and whole texts answers.
use Rattle.std.specs.Prelude.{◌⊎◌, ◌≡◌, ◌≤◌, ◌<◌, ◌+◌, ℕ, Bool, List, [], ◌∷◌, length, map, Option, Some, None}
use Rattle.std.specs.Prelude.{Result, Ok, Err}
use Rattle.std.specs.Str.{IsCharBoundary}
use Rattle.basic_toml_value.specs.Nesting.{nesting_limit}
use Rattle.basic_toml_tokens.specs.Ascii as ascii
use Rattle.basic_toml_tokens.specs.Text.{Text, text_at, is_comment, after_blanks}
use Rattle.basic_toml_read.specs.declared.header.Header as code_headers
use Rattle.basic_toml_read.specs.declared.section.Key as code_keys
use Rattle.basic_toml_explain.specs.declared.stop.Stop.{Stop}
use Rattle.basic_toml_explain.specs.declared.stop.Why.TheVariants.{Newline}
use Rattle.basic_toml_read.specs.declared.values.Gathered.{Gathered}
use Rattle.basic_toml_grammar.specs.Grammar.{after_comment_by, after_gap}
use Rattle.basic_toml_grammar.specs.Sections.{no_rows, Section}
use Rattle.basic_toml_grammar.specs.Levels.{rows_level, section_level, highest_level}
use Rattle.basic_toml_grammar.specs.Reader as reader
use Rattle.basic_toml_grammar.specs.Reader.{char_at, line_end_at, section_list_of}
use Rattle.basic_toml_read.specs.AtPlace.{EndsAt}
use Rattle.basic_toml_read.specs.FrontOf.{keys_of, header_of, rows_of, sections_of}
use Rattle.basic_toml_grammar.specs.Entering.{and_then}
use Rattle.basic_toml_grammar.specs.DeepStops.{DeepSections}
use Rattle.basic_toml_read.specs.Gathers.{Lines, no_lines, and_lines, lines_of, lines_view}
use Rattle.basic_toml_read.specs.SectionView.{key_of}
use Rattle.basic_toml_read.specs.StopsAt.{Misses}
use Rattle.basic_toml_read.specs.StopsReached.{LeadsTo, in_sections}

-- the keys of a header, and where the blanks after them end
pub record HeaderKeys : Type 0 where
  pub keys : List code_keys.Key
  pub end : ℕ

pub record AreHeaderKeys (bytes : List ℕ) (at : ℕ) (found : HeaderKeys) : Type 0 where
  pub mid : Text
  pub is : keys_of (text_at bytes at) ≡ Some (map key_of found.keys, mid)
  pub after : text_at bytes found.end ≡ after_blanks mid
  pub over : char_at ascii.period (text_at bytes found.end) ≡ None
  pub limit : length found.keys + 1 ≤ nesting_limit
  pub boundary : IsCharBoundary bytes found.end
  pub later : at < found.end

abbrev pub ReadsHeaderKeys : List ℕ → ℕ → List code_keys.Key → Result ℕ Stop → Type 0
ReadsHeaderKeys bytes at keys (Ok end) = AreHeaderKeys bytes at (record { keys = keys; end = end })
ReadsHeaderKeys bytes at keys (Err stop) =
    Misses stop.why (keys_of (text_at bytes at)) (λ keys. nesting_limit < length keys.0 + 1)

-- a header that begins and ends there, with its keys
pub record Header : Type 0 where
  pub at : ℕ
  pub is_array : Bool
  pub keys : List code_keys.Key
  pub end : ℕ

-- of a header that was read, and its keys
abbrev pub with_keys : ℕ → List code_keys.Key → code_headers.Header → Header
with_keys at keys h = record { at = at; is_array = h.is_array; keys = keys; end = h.end }

pub record IsHeaderRead (bytes : List ℕ) (at : ℕ) (h : Header) : Type 0 where
  pub is : header_of (text_at bytes at)
      ≡ Some (record {
        offset = h.at;
        keys = map key_of h.keys;
        is_array = h.is_array;
        rest = text_at bytes h.end;
      })
  pub limit : length h.keys + 1 ≤ nesting_limit
  pub boundary : IsCharBoundary bytes h.end
  pub later : at < h.end

abbrev pub ReadsHeader : List ℕ → ℕ → List code_keys.Key → Result code_headers.Header Stop → Type 0
ReadsHeader bytes at keys (Ok h) = IsHeaderRead bytes at (with_keys at keys h)
ReadsHeader bytes at keys (Err stop) =
    Misses stop.why (header_of (text_at bytes at)) (λ h. nesting_limit < length h.keys + 1)

-- after the end of a line that ends there
abbrev pub EndsOrStops : List ℕ → ℕ → Result ℕ Stop → Type 0
EndsOrStops bytes end (Ok next) = EndsAt bytes end (Some next)
EndsOrStops bytes end (Err stop) = EndsAt bytes end None × (stop ≡ record { at = end; why = Newline })

-- after the end of a line
abbrev pub EndsLineAt : List ℕ → ℕ → Result ℕ Stop → Type 0
EndsLineAt bytes at (Ok next) = (line_end_at (text_at bytes at) ≡ Some (text_at bytes next))
    × IsCharBoundary bytes next × (at ≤ next) × ((at < next) ⊎ (length bytes ≤ next))
EndsLineAt bytes at (Err stop) = (line_end_at (text_at bytes at) ≡ None) × (stop.why ≡ Newline)
    × (text_at bytes stop.at ≡ after_comment_by is_comment (after_blanks (text_at bytes at)))

-- where rows end: at the line of a header, whose bracket stands there, or at the end of the text
abbrev pub NextAt : List ℕ → Text → Option ℕ → Type 0
NextAt bytes rest None = rest ≡ []
NextAt bytes rest (Some at) = (x : ℕ × ℕ) × (line : Text) × (rest ≡ x ∷ line) × (text_at bytes at ≡ after_blanks rest)
    × IsCharBoundary bytes at × (char_at ascii.left_bracket (text_at bytes at) ≡ None → ⊥)

-- not before an offset
abbrev pub IsFrom : ℕ → Option ℕ → Type 0
IsFrom start None = Unit {0}
IsFrom start (Some at) = start ≤ at

pub record AreRowsRead (bytes : List ℕ) (start level : ℕ) (old new : Gathered) (next : Option ℕ) : Type 0 where
  pub added : Lines
  pub rest : Text
  pub is : rows_of (text_at bytes start) ≡ Some (lines_view added, rest)
  pub pushed : lines_of new ≡ and_lines (lines_of old) added
  pub some : lines_view added ≡ no_rows → added ≡ no_lines
  pub elements : new.elements.items ≡ old.elements.items
  pub limit : rows_level level (lines_view added) ≤ nesting_limit
  pub ends : NextAt bytes rest next
  pub from : IsFrom start next

abbrev pub ReadsRows : List ℕ → ℕ → ℕ → Gathered → Gathered → Result (Option ℕ) Stop → Type 0
ReadsRows bytes start level old new (Ok next) = AreRowsRead bytes start level old new next
ReadsRows bytes start level old new (Err stop) =
    Misses stop.why (rows_of (text_at bytes start)) (λ r. nesting_limit < rows_level level r.0)

-- nothing but blanks, line feeds and comments
abbrev pub IsGap : Text → Type 0
IsGap text = after_gap is_comment text ≡ []

-- in a gap stand no rows, and no header follows
abbrev pub PassesGaps : List ℕ → ℕ → Gathered → Gathered → Result (Option ℕ) Stop → Type 0
PassesGaps bytes start old new result = IsGap (text_at bytes start) → (result ≡ Ok None)
    × (lines_of new ≡ lines_of old)

-- the sections from a header on
abbrev pub sections_from : reader.Headed → Option (List Section)
sections_from h = and_then (line_end_at h.rest)
    (λ next. and_then (rows_of next) (λ rows. and_then (sections_of rows.1) (λ sections.
    Some (record { at = h.offset; header = h.keys; is_array = h.is_array; rows = rows.0 } ∷ sections))))

-- a header with the rows after it, as they were gathered
abbrev pub section_seen : Header → Lines → Section
section_seen h lines =
    record { at = h.at; header = map key_of h.keys; is_array = h.is_array; rows = lines_view lines }

pub record IsSectionRead (bytes : List ℕ) (at : ℕ) (new : Gathered) (h : Header) (next : Option ℕ) : Type 0 where
  pub rest : Text
  pub is : and_then (header_of (text_at bytes at)) sections_from
      ≡ and_then (sections_of rest) (λ sections. Some (section_seen h (lines_of new) ∷ sections))
  pub ends : NextAt bytes rest next
  pub from : IsFrom (at + 1) next
  pub leads : (text : Text) → text_at bytes at ≡ after_blanks text → (p : ℕ) → DeepSections nesting_limit rest p
      → DeepSections nesting_limit text p
  pub backs : (text : Text) → text_at bytes at ≡ after_blanks text → (p : ℕ) → DeepSections nesting_limit text p
      → DeepSections nesting_limit rest p
  pub holes : (text : Text) → text_at bytes at ≡ after_blanks text → LeadsTo (in_sections rest) (in_sections text)
  pub limit : section_level (section_seen h (lines_of new)) ≤ nesting_limit

abbrev pub ReadsSection : List ℕ → ℕ → Gathered → List code_keys.Key → Result (code_headers.Header × Option ℕ) Stop
    → Type 0
ReadsSection bytes at new keys (Ok read) = IsSectionRead bytes at new (with_keys at keys read.0) read.1
ReadsSection bytes at new keys (Err stop) =
    Misses stop.why (and_then (header_of (text_at bytes at)) sections_from)
    (λ sections. nesting_limit < highest_level sections)
