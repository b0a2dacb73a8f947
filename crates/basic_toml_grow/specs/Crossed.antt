-- Which value a later row of its table goes on from, and so clashes before all else ('Table' of TOML v0.5.0, dotted
-- keys): of the first section, row by row, the value of the first row that is gone on from; within it, the one with the
-- fewest keys. The rows of a table among themselves come before those within their values.
use Rattle.std.specs.Prelude.{◌≡◌, ⊤, ℕ, Bool, true, false, ◌&&◌, if◌then◌else◌, List, [], ◌∷◌, Option, Some, None, Result}
use Rattle.std.specs.Prelude.{Ok, Err}
use Rattle.std.specs.Option.{option_or}
use Rattle.std.specs.Str.{bytes_eq}
use Rattle.basic_toml_grammar.specs.Sections.{KeyTexts, texts, Raw, Elements, no_elements, element, Rows, no_rows, row}
use Rattle.basic_toml_grammar.specs.Sections.{Section}
use Rattle.basic_toml_grow.specs.KeyTree.{Ends, value_on}
use Rattle.basic_toml_grow.specs.declared.crossed.Crossed.{Crossed}
use Rattle.basic_toml_grow.specs.declared.crossed.Crossed.TheVariants.{Memory, At}

abbrev pub same_keys : KeyTexts → KeyTexts → Bool
same_keys [] [] = true
same_keys (k ∷ ks) (l ∷ ls) = bytes_eq k l && same_keys ks ls
same_keys _ _ = false

-- no value ends anywhere yet
abbrev pub no_ends : Ends
no_ends path = None

-- one more value, after those of before
abbrev pub and_end : Ends → KeyTexts → ℕ → Ends
and_end ends path at p = option_or (ends p) (if same_keys p path then Some at else None)

-- among rows, after those that end so
abbrev pub crossed_after : Ends → Rows → Option ℕ
crossed_after ends no_rows = None
crossed_after ends (row keys at value rows) =
    option_or (value_on ends (texts keys)) (crossed_after (and_end ends (texts keys) at) rows)

abbrev pub crossed_between : Rows → Option ℕ
crossed_between rows = crossed_after no_ends rows

-- within values
abbrev mutual
  pub crossed_of : Raw → Option ℕ
  crossed_of (Raw.array elements) = crossed_among elements
  crossed_of (Raw.inline rows) = option_or (crossed_between rows) (crossed_within rows)
  crossed_of _ = None

  pub crossed_among : Elements → Option ℕ
  crossed_among no_elements = None
  crossed_among (element at value elements) = option_or (crossed_of value) (crossed_among elements)

  pub crossed_within : Rows → Option ℕ
  crossed_within no_rows = None
  crossed_within (row keys at value rows) = option_or (crossed_of value) (crossed_within rows)

-- in the rows of a table
abbrev pub crossed_in : Rows → Option ℕ
crossed_in rows = option_or (crossed_between rows) (crossed_within rows)

-- in a section list
abbrev pub first_crossed : List Section → Option ℕ
first_crossed [] = None
first_crossed (s ∷ sections) = option_or (crossed_in s.rows) (first_crossed sections)

-- what is answered, memory apart
abbrev pub Looks : Option ℕ → Result (Unit {0}) Crossed → Type 0
Looks first (Ok _) = first ≡ None
Looks first (Err Memory) = ⊤
Looks first (Err (At at)) = first ≡ Some at
