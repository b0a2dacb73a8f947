-- The tables of an array of tables, each by the number of its section and its rows as they were read.
use Rattle.std.specs.Prelude.{ℕ, ◌+◌, ◌^◌, Bool, ◌&&◌, nat_eq, nat_le, List, [], ◌∷◌, ◌++◌, length, take, drop}
use Rattle.std.specs.List.{list_all}
use Rattle.basic_toml_read.specs.declared.section.Row.{Row}
use Rattle.basic_toml_plain.specs.declared.section_rows.SectionRows.{SectionRows}
use Rattle.basic_toml_plain.specs.Plain.{are_few_simple}

-- the number of a section, and its rows
abbrev pub SectionTable : Type 0
SectionTable = ℕ × List Row

-- those before the latest, and the latest
abbrev pub SectionTables : Type 0
SectionTables = List SectionTable × SectionTable

abbrev pub tables_in : SectionTables → List SectionTable
tables_in ts = ts.0 ++ ts.1 ∷ []

-- each with few simple rows
abbrev pub have_few_simple : SectionTables → Bool
have_few_simple ts = list_all (λ t. are_few_simple 0 t.1) (tables_in ts)

-- one more
abbrev pub with_table : SectionTables → SectionTable → SectionTables
with_table ts t = (tables_in ts, t)

-- the tables that the first of some rows make, section by section
abbrev pub parts : List Row → List SectionRows → List SectionTable
parts rows [] = []
parts rows (s ∷ ss) = (s.section, take s.count rows) ∷ parts (drop s.count rows) ss

-- Sections follow one another from a number on, each with few simple rows, and no row is left.
abbrev pub are_parts : ℕ → List Row → List SectionRows → Bool
are_parts at rows [] = nat_eq (length rows) 0
are_parts at rows (s ∷ ss) =
    (nat_eq s.start at && (nat_le s.count (length rows) && are_few_simple 0 (take s.count rows)))
    && are_parts (at + s.count) (drop s.count rows) ss

-- the tables of blocks, block by block
abbrev pub all_in : List SectionTables → List SectionTable
all_in [] = []
all_in (b ∷ bs) = tables_in b ++ all_in bs

-- how many tables a full block has
abbrev pub block_size : ℕ
block_size = 64

-- how many full blocks there may be
abbrev pub most_blocks : ℕ
most_blocks = 2 ^ 57

-- each of these blocks has as many tables as a full one
abbrev pub are_full : List SectionTables → Bool
are_full bs = list_all (λ b. nat_eq (length (tables_in b)) block_size) bs
