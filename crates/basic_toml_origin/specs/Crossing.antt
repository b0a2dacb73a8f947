-- Where a row goes on from the value of an earlier row of its table, own: by the offset of that value, the key of the
-- later row that leads to it.
use Rattle.std.specs.Prelude.{ℕ, ◌-◌, ◌==◌, if◌then◌else◌, List, [], ◌∷◌, Option, Some, None, length}
use Rattle.std.specs.Option.{option_or}
use Rattle.basic_toml_grammar.specs.Sections.{Key, KeyTexts, texts, Raw, Elements, no_elements, element, Rows, no_rows}
use Rattle.basic_toml_grammar.specs.Sections.{row, Section}
use Rattle.basic_toml_grammar.specs.Steps.{properly_begins, steps_of}
use Rattle.basic_toml_grammar.specs.NamedClash.{nth_key}

-- of keys that go on from others, the one that stands where those end
abbrev pub key_going_on : KeyTexts → List Key → Option ℕ
key_going_on keys ks =
    if properly_begins (steps_of keys) (steps_of (texts ks)) then Some (nth_key (length keys - 1) ks).offset else None

-- and of the first of these rows whose keys do
abbrev pub first_going_on : KeyTexts → Rows → Option ℕ
first_going_on keys no_rows = None
first_going_on keys (row ks at v rows) = option_or (key_going_on keys ks) (first_going_on keys rows)

abbrev mutual
  -- in a value
  pub crossing_in : ℕ → Raw → Option ℕ
  crossing_in o (Raw.array elements) = crossing_among o elements
  crossing_in o (Raw.inline rows) = crossing_by o rows
  crossing_in o _ = None

  pub crossing_among : ℕ → Elements → Option ℕ
  crossing_among o no_elements = None
  crossing_among o (element at v elements) = option_or (crossing_in o v) (crossing_among o elements)

  -- by the rows of a table: by one behind the row of that value, else in the value of one
  pub crossing_by : ℕ → Rows → Option ℕ
  crossing_by o no_rows = None
  crossing_by o (row keys at v rows) =
      if at == o then first_going_on (texts keys) rows else option_or (crossing_in o v) (crossing_by o rows)

-- in the sections of a text
abbrev pub crossing_key : ℕ → List Section → Option ℕ
crossing_key o [] = None
crossing_key o (s ∷ sections) = option_or (crossing_by o s.rows) (crossing_key o sections)
