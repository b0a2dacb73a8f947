-- The offsets of the values of a section list, in the order of the text, each before those within it. It is where a
-- value begins; a float with a fraction has the offset of the character after its period. And the path to the value
-- that begins at an offset, own: the first such, of which there is one. It is found by a test of the rows, in place of
-- which another finds what a key leads to.
use Rattle.std.specs.Prelude.{ℕ, zero, suc, ◌==◌, if◌then◌else◌, List, [], ◌∷◌, ◌++◌, length, take, Option, Some}
use Rattle.std.specs.Prelude.{None, option_map}
use Rattle.std.specs.Option.{option_or}
use Rattle.basic_toml_grammar.specs.Sections.{Key, texts, Raw, Elements, no_elements, element, Rows, no_rows, row}
use Rattle.basic_toml_grammar.specs.Sections.{Section}
use Rattle.basic_toml_grammar.specs.Steps.{key, number, Path, steps_of, keys_of}
use Rattle.basic_toml_grammar.specs.IndexedPath.{Located, located}

abbrev mutual
  -- those of the values within a value: an array's elements, an inline table's rows
  pub offsets_within : Raw → List ℕ
  offsets_within (Raw.array elements) = element_offsets elements
  offsets_within (Raw.inline rows) = row_offsets rows
  offsets_within _ = []

  pub element_offsets : Elements → List ℕ
  element_offsets no_elements = []
  element_offsets (element at v elements) = at ∷ offsets_within v ++ element_offsets elements

  pub row_offsets : Rows → List ℕ
  row_offsets no_rows = []
  row_offsets (row keys at v rows) = at ∷ offsets_within v ++ row_offsets rows

abbrev pub value_offsets : List Section → List ℕ
value_offsets [] = []
value_offsets (s ∷ sections) = row_offsets s.rows ++ value_offsets sections

-- A test of a row, by its keys and the offset of its value: how many of the keys lead to what is looked for, if this is
-- the value or what a key leads to. An element of an array has no keys.
abbrev pub Test : Type 0
Test = List Key → ℕ → Option ℕ

-- the value that begins at an offset
abbrev pub keys_to_value : ℕ → Test
keys_to_value o keys at = if o == at then Some (length keys) else None

-- the number of the key that begins at an offset, counted from 1
abbrev pub key_number : ℕ → List Key → Option ℕ
key_number o [] = None
key_number o (k ∷ keys) = if o == k.offset then Some 1 else option_map suc (key_number o keys)

-- what that key leads to
abbrev pub keys_to_key : ℕ → Test
keys_to_key o keys at = key_number o keys

-- the path to it by a row: along so many of its keys, else along all of them to what is within the value
abbrev pub here_or : Test → List Key → ℕ → Option Path → Option Path
here_or test keys at within =
    let steps = steps_of (texts keys) in
    option_or (option_map (λ n. take n steps) (test keys at)) (option_map (λ p. steps ++ p) within)

-- The path to the first such: within a value, in elements of which the first has this number, and in rows.
abbrev mutual
  pub path_within : Test → Raw → Option Path
  path_within test (Raw.array elements) = path_among test 0 elements
  path_within test (Raw.inline rows) = path_by test rows
  path_within test _ = None

  pub path_among : Test → ℕ → Elements → Option Path
  path_among test n no_elements = None
  path_among test n (element at v elements) =
      option_or (option_map (λ p. number n ∷ p) (here_or test [] at (path_within test v)))
      (path_among test (suc n) elements)

  pub path_by : Test → Rows → Option Path
  path_by test no_rows = None
  path_by test (row keys at v rows) = option_or (here_or test keys at (path_within test v)) (path_by test rows)

-- in the rows of a section
abbrev pub path_in : Test → Located → Option Path
path_in test l = option_map (λ p. l.path ++ p) (path_by test l.section.rows)

-- by the first of these sections that leads there
abbrev pub first_path : (Located → Option Path) → List Located → Option Path
first_path f [] = None
first_path f (l ∷ ls) = option_or (f l) (first_path f ls)

-- the path to the value of the document that begins at an offset
abbrev pub path_at : List Section → ℕ → Option Path
path_at sections o = first_path (path_in (keys_to_value o)) (located sections)

-- A path as far as so many of its keys: all of it where it has no more, else up to and with the last of so many.
abbrev pub as_far_as : ℕ → Path → Path
as_far_as zero p = if length (keys_of p) == 0 then p else []
as_far_as (suc n) [] = []
as_far_as (suc n) (key k ∷ p) = key k ∷ as_far_as n p
as_far_as (suc n) (number m ∷ p) = number m ∷ as_far_as (suc n) p
