-- Levels of keys and brackets, own: how deep the tree is where they stand. Key l of a header stands at level l + 1;
-- key m of a row under a header of n keys at n + m; a bracket of a value one above what holds it; key m of a row of an
-- inline table whose brace has level L at L + m - 1. A section list fits a limit where no level passes it.
use Rattle.std.specs.Prelude.{ℕ, ◌+◌, ◌-◌, nat_lt, max, if◌then◌else◌, List, [], ◌∷◌, ◌++◌, length}
use Rattle.std.specs.List.{flat_map}
use Rattle.basic_toml_grammar.specs.Sections.{Key, Raw, Elements, no_elements, element, Rows, no_rows, row, Section}

-- the highest level in a value that something of a level holds, and in rows of a table of a level
abbrev mutual
  pub value_level : ℕ → Raw → ℕ
  value_level l (Raw.array elements) = max (l + 1) (elements_level (l + 1) elements)
  value_level l (Raw.inline rows) = max (l + 1) (rows_level (l + 1) rows)
  value_level l _ = 0

  pub elements_level : ℕ → Elements → ℕ
  elements_level l no_elements = 0
  elements_level l (element at value elements) = max (value_level l value) (elements_level l elements)

  pub rows_level : ℕ → Rows → ℕ
  rows_level l no_rows = 0
  rows_level l (row keys at value rows) =
      let last = l + length keys - 1 in
      max last (max (value_level last value) (rows_level l rows))

abbrev pub section_level : Section → ℕ
section_level s =
    let l = length s.header + 1 in
    max l (rows_level l s.rows)

abbrev pub highest_level : List Section → ℕ
highest_level [] = 0
highest_level (s ∷ sections) = max (section_level s) (highest_level sections)

-- the offsets of keys and brackets above a limit, in the order of the text
abbrev pub deep_keys : ℕ → ℕ → List Key → List ℕ
deep_keys limit l [] = []
deep_keys limit l (k ∷ keys) = if nat_lt limit l then k.offset
    ∷ deep_keys limit (l + 1) keys else deep_keys limit (l + 1) keys

abbrev mutual
  pub deep_in : ℕ → ℕ → ℕ → Raw → List ℕ
  deep_in limit l at (Raw.array elements) = (if nat_lt limit (l + 1) then at ∷ [] else [])
      ++ deep_among limit (l + 1) elements
  deep_in limit l at (Raw.inline rows) = (if nat_lt limit (l + 1) then at ∷ [] else []) ++ deep_rows limit (l + 1) rows
  deep_in limit l at _ = []

  pub deep_among : ℕ → ℕ → Elements → List ℕ
  deep_among limit l no_elements = []
  deep_among limit l (element at value elements) = deep_in limit l at value ++ deep_among limit l elements

  pub deep_rows : ℕ → ℕ → Rows → List ℕ
  deep_rows limit l no_rows = []
  deep_rows limit l (row keys at value rows) =
      (deep_keys limit l keys ++ deep_in limit (l + length keys - 1) at value) ++ deep_rows limit l rows

abbrev pub deep_offsets : ℕ → List Section → List ℕ
deep_offsets limit sections =
    flat_map (λ s. deep_keys limit 2 s.header ++ deep_rows limit (length s.header + 1) s.rows) sections
