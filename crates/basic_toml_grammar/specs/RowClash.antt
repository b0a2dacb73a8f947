-- Row clash: two different rows of one section, or of one inline table at any depth in a value, where the key path of
-- one equals or begins that of the other. 'Keys' and 'Inline Table' of TOML v0.5.0: a key is defined once.
use Rattle.std.specs.Prelude.{◌||◌, Bool, false, List}
use Rattle.std.specs.List.{list_any}
use Rattle.basic_toml_grammar.specs.Sections.{texts, Raw, Elements, no_elements, element, Rows, no_rows, row, Section}
use Rattle.basic_toml_grammar.specs.Steps.{Path, overlap, steps_of}

-- the key path of some row overlaps this one
abbrev pub any_overlaps : Path → Rows → Bool
any_overlaps p no_rows = false
any_overlaps p (row keys at value rows) = overlap p (steps_of (texts keys)) || any_overlaps p rows

abbrev mutual
  pub rows_clash : Rows → Bool
  rows_clash no_rows = false
  rows_clash (row keys at value rows) =
      (any_overlaps (steps_of (texts keys)) rows || value_clashes value) || rows_clash rows

  pub value_clashes : Raw → Bool
  value_clashes (Raw.array elements) = elements_clash elements
  value_clashes (Raw.inline rows) = rows_clash rows
  value_clashes _ = false

  pub elements_clash : Elements → Bool
  elements_clash no_elements = false
  elements_clash (element at value elements) = value_clashes value || elements_clash elements

abbrev pub has_row_clash : List Section → Bool
has_row_clash sections = list_any (λ s. rows_clash s.rows) sections
