-- The unsupported shapes of a written value (own):
-- the root is absent or no table;
-- an array holds a table beside a present non-table, or something absent, or an array that holds a table;
-- a table has a row after a table or after a non-empty array of tables, or two present entries under one key;
-- a refused kind, or an integer above 9223372036854775807, stands anywhere;
-- the value is deeper than the nesting limit.
use Rattle.std.specs.Prelude.{ℕ, Bool, true, false, not, ◌&&◌, ◌||◌, nat_lt, bytes_eq, List}
use Rattle.basic_toml_layout.specs.Written.{Written, scalar, absent, array, table, Elements, no_elements, element}
use Rattle.basic_toml_layout.specs.Written.{Entries, no_entries, entry, is_absent, is_table, is_refused}
use Rattle.basic_toml_layout.specs.Layout.{Form, row, section, sections, form}
use Rattle.basic_toml_emit.specs.Depth.{depth}

abbrev pub holds_table : Elements → Bool
holds_table no_elements = false
holds_table (element v es) = is_table v || holds_table es

-- a present value that is no table
abbrev pub holds_other : Elements → Bool
holds_other no_elements = false
holds_other (element v es) = not (is_table v || is_absent v) || holds_other es

abbrev pub holds_absent : Elements → Bool
holds_absent no_elements = false
holds_absent (element v es) = is_absent v || holds_absent es

abbrev pub is_array_with_table : Written → Bool
is_array_with_table (array es) = holds_table es
is_array_with_table _ = false

abbrev pub holds_array_with_table : Elements → Bool
holds_array_with_table no_elements = false
holds_array_with_table (element v es) = is_array_with_table v || holds_array_with_table es

abbrev pub is_bad_array : Elements → Bool
is_bad_array es = (holds_table es && holds_other es) || (holds_array_with_table es || holds_absent es)

-- a row may not stand after a section
abbrev pub is_late : Bool → Form → Bool
is_late after_section row = after_section
is_late after_section _ = false

-- whether what follows stands after a section
abbrev pub then_after : Bool → Form → Bool
then_after after_section section = true
then_after after_section sections = true
then_after after_section _ = after_section

abbrev pub has_late_row : Bool → Entries → Bool
has_late_row after_section no_entries = false
has_late_row after_section (entry k v es) =
    is_late after_section (form v) || has_late_row (then_after after_section (form v)) es

-- a present entry has this key
abbrev pub has_key : List ℕ → Entries → Bool
has_key k no_entries = false
has_key k (entry l absent es) = has_key k es
has_key k (entry l v es) = bytes_eq k l || has_key k es

-- two present entries have one key
abbrev pub repeats_key : Entries → Bool
repeats_key no_entries = false
repeats_key (entry k absent es) = repeats_key es
repeats_key (entry k v es) = has_key k es || repeats_key es

abbrev pub is_bad_table : Entries → Bool
is_bad_table es = has_late_row false es || repeats_key es

-- a shape that no limit mends, anywhere in the value
abbrev mutual
  pub has_bad : Written → Bool
  has_bad (scalar l) = is_refused l
  has_bad absent = false
  has_bad (array es) = is_bad_array es || element_has_bad es
  has_bad (table es) = is_bad_table es || entry_has_bad es

  pub element_has_bad : Elements → Bool
  element_has_bad no_elements = false
  element_has_bad (element v es) = has_bad v || element_has_bad es

  pub entry_has_bad : Entries → Bool
  entry_has_bad no_entries = false
  entry_has_bad (entry k v es) = has_bad v || entry_has_bad es

-- some unsupported shape occurs
abbrev pub is_unsupported : ℕ → Written → Bool
is_unsupported limit w = not (is_table w) || (has_bad w || nat_lt limit (depth w))
