-- What reading rows and values answers, and what is gathered on the way.
use Rattle.std.specs.Prelude.{◌⊎◌, ◌≡◌, ◌≤◌, ◌<◌, ◌+◌, ◌-◌, ℕ, List, [], ◌∷◌, ◌++◌, length, map, Some, None, Result, Ok}
use Rattle.std.specs.Prelude.{Err, drop, take}
use Rattle.std.specs.Str.{IsCharBoundary}
use Rattle.basic_toml_value.specs.Nesting.{nesting_limit}
use Rattle.basic_toml_tokens.specs.Ascii as ascii
use Rattle.basic_toml_tokens.specs.Text.{Text, text_at, is_comment, after_blanks}
use Rattle.basic_toml_read.specs.declared.section.Raw as raws
use Rattle.basic_toml_read.specs.declared.section.Element as code_elements
use Rattle.basic_toml_read.specs.declared.section.Key as code_keys
use Rattle.basic_toml_read.specs.declared.section.Row as code_rows
use Rattle.basic_toml_read.specs.declared.section.Rows as code_tables
use Rattle.basic_toml_read.specs.declared.section.Rows.{out-Rows}
use Rattle.basic_toml_read.specs.declared.scalar.Valued.{Valued}
use Rattle.basic_toml_explain.specs.declared.stop.Stop.{Stop}
use Rattle.basic_toml_explain.specs.declared.stop.Why.{Why}
use Rattle.basic_toml_explain.specs.declared.stop.Why.TheVariants.{Deep}
use Rattle.basic_toml_read.specs.declared.values.Gathered.{Gathered}
use Rattle.basic_toml_read.specs.declared.values.LastKey.{LastKey}
use Rattle.basic_toml_grammar.specs.Sections.{Key, Raw, Elements, Rows, no_rows, row}
use Rattle.basic_toml_grammar.specs.Grammar.{after_gap}
use Rattle.basic_toml_grammar.specs.Levels.{value_level, elements_level, rows_level}
use Rattle.basic_toml_grammar.specs.Reader as reader
use Rattle.basic_toml_grammar.specs.Reader.{char_at}
use Rattle.basic_toml_read.specs.FrontOf.{keys_of, value_of, elements_of, fields_of, row_of}
use Rattle.basic_toml_read.specs.KeyText.{key_text_bytes}
use Rattle.basic_toml_read.specs.SectionView.{raw_of, key_of, elements_view, rows_seen}
use Rattle.basic_toml_read.specs.StopsAt.{Misses, IsValued}

-- a level within the limit
abbrev pub RaisesTo : ℕ → ℕ → Result (Unit {0}) Stop → Type 0
RaisesTo level at (Ok _) = level ≤ nesting_limit
RaisesTo level at (Err stop) = (nesting_limit < level) × (stop ≡ record { at = at; why = Deep })

-- after a sign, or the stop where it is missing
abbrev pub ClosesAt : ℕ → Why → List ℕ → ℕ → Result ℕ Stop → Type 0
ClosesAt c why bytes at (Ok next) = (char_at c (text_at bytes at) ≡ Some (at, text_at bytes next))
    × IsCharBoundary bytes next × (at < next)
ClosesAt c why bytes at (Err stop) = (char_at c (text_at bytes at) ≡ None) × (stop ≡ record { at = at; why = why })

-- rows as they are gathered, and the keys before their last ones
pub record Lines : Type 0 where
  pub parents : List code_keys.Key
  pub rows : List code_rows.Row

abbrev pub no_lines : Lines
no_lines = record { parents = []; rows = [] }

-- some after others
abbrev pub and_lines : Lines → Lines → Lines
and_lines a b = record { parents = a.parents ++ b.parents; rows = a.rows ++ b.rows }

abbrev pub lines_of : Gathered → Lines
lines_of g = record { parents = g.parents.items; rows = g.rows.items }

abbrev pub lines_in : code_tables.Rows → Lines
lines_in rs = record { parents = (out-Rows rs).parents.items; rows = (out-Rows rs).rows.items }

abbrev pub lines_view : Lines → Rows
lines_view l = rows_seen l.parents l.rows

pub record IsLastKey (bytes : List ℕ) (at level : ℕ) (old new : Gathered) (last : LastKey) : Type 0 where
  pub front : List Key
  pub mid : Text
  pub is : keys_of (text_at bytes at)
      ≡ Some (front ++ (record { offset = last.offset; text = key_text_bytes last.key } ∷ []), mid)
  pub after : text_at bytes last.end ≡ after_blanks mid
  pub over : char_at ascii.period (text_at bytes last.end) ≡ None
  pub parents : List code_keys.Key
  pub pushed : new.parents.items ≡ old.parents.items ++ parents
  pub seen : map key_of parents ≡ front
  pub rows : new.rows.items ≡ old.rows.items
  pub elements : new.elements.items ≡ old.elements.items
  pub level_is : last.level ≡ level + length front
  pub limit : last.level ≤ nesting_limit
  pub boundary : IsCharBoundary bytes last.end
  pub later : at < last.end

abbrev pub ReadsKeys : List ℕ → ℕ → ℕ → Gathered → Gathered → Result LastKey Stop → Type 0
ReadsKeys bytes at level old new (Ok last) = IsLastKey bytes at level old new last
ReadsKeys bytes at level old new (Err stop) =
    Misses stop.why (keys_of (text_at bytes at)) (λ keys. nesting_limit < level + length keys.0 - 1)

-- a row in a table of a level
abbrev pub row_level : ℕ → reader.Assigned → ℕ
row_level level r = rows_level level (row r.keys r.offset r.value no_rows)

pub record IsRowRead (bytes : List ℕ) (at level : ℕ) (old new : Gathered) (end : ℕ) : Type 0 where
  pub found : reader.Assigned
  pub is : row_of (text_at bytes at) ≡ Some found
  pub rest : found.rest ≡ text_at bytes end
  pub added : Lines
  pub pushed : lines_of new ≡ and_lines (lines_of old) added
  pub seen : (rest : Lines)
      → lines_view (and_lines added rest) ≡ row found.keys found.offset found.value (lines_view rest)
  pub elements : new.elements.items ≡ old.elements.items
  pub limit : row_level level found ≤ nesting_limit
  pub boundary : IsCharBoundary bytes end
  pub later : at < end

abbrev pub ReadsRow : List ℕ → ℕ → ℕ → Gathered → Gathered → Result ℕ Stop → Type 0
ReadsRow bytes at level old new (Ok end) = IsRowRead bytes at level old new end
ReadsRow bytes at level old new (Err stop) =
    Misses stop.why (row_of (text_at bytes at)) (λ r. nesting_limit < row_level level r)

-- the vectors hold what they held
pub record Keeps (old new : Gathered) : Type 0 where
  pub elements : new.elements.items ≡ old.elements.items
  pub lines : lines_of new ≡ lines_of old

pub record IsValueRead (bytes : List ℕ) (at level : ℕ) (old new : Gathered) (v : Valued) : Type 0 where
  pub found : IsValued bytes at v (value_of (text_at bytes at))
  pub limit : value_level level found.raw ≤ nesting_limit
  pub keeps : Keeps old new

abbrev pub ReadsValue : List ℕ → ℕ → ℕ → Gathered → Gathered → Result Valued Stop → Type 0
ReadsValue bytes at level old new (Ok v) = IsValueRead bytes at level old new v
ReadsValue bytes at level old new (Err stop) =
    Misses stop.why (value_of (text_at bytes at)) (λ v. nesting_limit < value_level level v.value)

pub record AreElementsRead (bytes : List ℕ) (at level : ℕ) (old new : Gathered) (end : ℕ) : Type 0 where
  pub added : List code_elements.Element
  pub is : elements_of (text_at bytes at) ≡ Some (elements_view added, text_at bytes end)
  pub pushed : new.elements.items ≡ old.elements.items ++ added
  pub lines : lines_of new ≡ lines_of old
  pub limit : elements_level level (elements_view added) ≤ nesting_limit
  pub boundary : IsCharBoundary bytes end
  pub later : at < end

abbrev pub ReadsElements : List ℕ → ℕ → ℕ → Gathered → Gathered → Result ℕ Stop → Type 0
ReadsElements bytes at level old new (Ok end) = AreElementsRead bytes at level old new end
ReadsElements bytes at level old new (Err stop) =
    Misses stop.why (elements_of (text_at bytes at)) (λ r. nesting_limit < elements_level level r.0)

pub record IsArrayRead (bytes : List ℕ) (offset at level : ℕ) (old new : Gathered) (v : Valued) : Type 0 where
  pub elements : Elements
  pub seen : raw_of v.value ≡ Raw.array elements
  pub is : elements_of (after_gap is_comment (text_at bytes at)) ≡ Some (elements, text_at bytes v.end)
  pub offset_is : v.offset ≡ offset
  pub limit : (level ≤ nesting_limit) × (elements_level level elements ≤ nesting_limit)
  pub keeps : Keeps old new
  pub boundary : IsCharBoundary bytes v.end
  pub later : at < v.end

abbrev pub ReadsArray : List ℕ → ℕ → ℕ → ℕ → Gathered → Gathered → Result Valued Stop → Type 0
ReadsArray bytes offset at level old new (Ok v) = IsArrayRead bytes offset at level old new v
ReadsArray bytes offset at level old new (Err stop) =
    Misses stop.why (elements_of (after_gap is_comment (text_at bytes at))) (λ r. (nesting_limit < level)
    ⊎ (nesting_limit < elements_level level r.0))

pub record AreFieldsRead (bytes : List ℕ) (at level : ℕ) (old new : Gathered) (end : ℕ) : Type 0 where
  pub added : Lines
  pub is : fields_of (text_at bytes at) ≡ Some (lines_view added, text_at bytes end)
  pub pushed : lines_of new ≡ and_lines (lines_of old) added
  pub elements : new.elements.items ≡ old.elements.items
  pub limit : rows_level level (lines_view added) ≤ nesting_limit
  pub boundary : IsCharBoundary bytes end
  pub later : at < end

abbrev pub ReadsFields : List ℕ → ℕ → ℕ → Gathered → Gathered → Result ℕ Stop → Type 0
ReadsFields bytes at level old new (Ok end) = AreFieldsRead bytes at level old new end
ReadsFields bytes at level old new (Err stop) =
    Misses stop.why (fields_of (text_at bytes at)) (λ r. nesting_limit < rows_level level r.0)

-- the inline table of the rows from a number on, whose parents are those from another one on
pub record IsTableTaken (old new : Gathered) (parents from : ℕ) (value : raws.Raw) : Type 0 where
  pub seen : raw_of value ≡ Raw.inline (rows_seen (drop parents old.parents.items) (drop from old.rows.items))
  pub parents_left : new.parents.items ≡ take parents old.parents.items
  pub rows_left : new.rows.items ≡ take from old.rows.items
  pub elements : new.elements.items ≡ old.elements.items

pub record IsInlineRead (bytes : List ℕ) (offset at level : ℕ) (old new : Gathered) (v : Valued) : Type 0 where
  pub rows : Rows
  pub seen : raw_of v.value ≡ Raw.inline rows
  pub is : fields_of (after_blanks (text_at bytes at)) ≡ Some (rows, text_at bytes v.end)
  pub offset_is : v.offset ≡ offset
  pub limit : (level ≤ nesting_limit) × (rows_level level rows ≤ nesting_limit)
  pub keeps : Keeps old new
  pub boundary : IsCharBoundary bytes v.end
  pub later : at < v.end

abbrev pub ReadsInline : List ℕ → ℕ → ℕ → ℕ → Gathered → Gathered → Result Valued Stop → Type 0
ReadsInline bytes offset at level old new (Ok v) = IsInlineRead bytes offset at level old new v
ReadsInline bytes offset at level old new (Err stop) =
    Misses stop.why (fields_of (after_blanks (text_at bytes at))) (λ r. (nesting_limit < level)
    ⊎ (nesting_limit < rows_level level r.0))
