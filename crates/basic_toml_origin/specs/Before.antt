-- What stands before an offset, own: the sections whose header ends before it, each with the rows whose value begins
-- before it.
use Rattle.std.specs.Prelude.{ℕ, nat_lt, Bool, true, if◌then◌else◌, List, [], ◌∷◌, Option, Some, None}
use Rattle.basic_toml_grammar.specs.Sections.{Key, Rows, no_rows, row, Section}

abbrev pub rows_before : ℕ → Rows → Rows
rows_before o no_rows = no_rows
rows_before o (row keys at v rows) = if nat_lt at o then row keys at v (rows_before o rows) else no_rows

-- whether a header ends before an offset: its last key begins before it; that of the root, without keys, always does
abbrev pub ends_before : ℕ → List Key → Bool
ends_before o [] = true
ends_before o (k ∷ []) = nat_lt k.offset o
ends_before o (k ∷ l ∷ keys) = ends_before o (l ∷ keys)

abbrev pub sections_before : ℕ → List Section → List Section
sections_before o [] = []
sections_before o (s ∷ sections) =
    if ends_before o s.header then record s { rows = rows_before o s.rows } ∷ sections_before o sections else []

-- all of them, where no offset is given
abbrev pub up_to : Option ℕ → List Section → List Section
up_to None sections = sections
up_to (Some o) sections = sections_before o sections

-- so of the rows and the header of a section
abbrev pub rows_up_to : Option ℕ → Rows → Rows
rows_up_to None rows = rows
rows_up_to (Some o) rows = rows_before o rows

abbrev pub ends_up_to : Option ℕ → List Key → Bool
ends_up_to None keys = true
ends_up_to (Some o) keys = ends_before o keys
