-- Where what stands in a tree comes from, by its path: what made it, where it begins, and the section that first
-- mentioned it. Rows put theirs into a table beside what stood there, and what stood there first stays.
use Rattle.std.specs.Prelude.{ℕ, Bool, true, false, not, ◌||◌, if◌then◌else◌, List, [], ◌∷◌, ◌++◌, codes}
use Rattle.std.specs.Prelude.{map}
use Rattle.std.specs.Prelude.{slice_get, Option, Some, None}
use Rattle.std.specs.Option.{option_or}
use Rattle.basic_toml_value.specs.Pairs.{value_at}
use Rattle.basic_toml_grammar.specs.Sections.{KeyTexts, texts, Raw, Elements, no_elements, element, Rows, no_rows}
use Rattle.basic_toml_grammar.specs.Sections.{row}
use Rattle.basic_toml_grammar.specs.Steps.{Step, key, number, Path, step_eq}
use Rattle.basic_toml_read.specs.SectionView.{rows_seen}
use Rattle.basic_toml_plain.specs.Plain.{plain_array, plain_table}
use Rattle.basic_toml_plain.specs.PlainTables.{SectionTable}
use Rattle.basic_toml_grow.specs.declared.item.Item.{fold-Item}
use Rattle.basic_toml_grow.specs.declared.item.Item as items
use Rattle.basic_toml_grow.specs.declared.item.Item.TheOpen.{Item-F, Child-F, Table-F}
use Rattle.basic_toml_grow.specs.declared.item.Child as children
use Rattle.basic_toml_grow.specs.declared.item.Child.{fold-Child}
use Rattle.basic_toml_grow.specs.declared.item.Table as tables
use Rattle.basic_toml_grow.specs.declared.item.Table.{fold-Table}

-- Whether headers made it, what it is called, where it begins, the number of a section, and whether it is a string that
-- asks for no copy. The section is the one that first mentioned it, or of what headers made the latest one whose header
-- leads there.
pub record Origin : Type 0 where
  pub made : Bool
  pub name : List ℕ
  pub start : ℕ
  pub section : ℕ
  pub is_slice : Bool

abbrev pub Origins : Type 0
Origins = Path → Option Origin

abbrev pub no_origins : Origins
no_origins p = None

-- of a value, of a table, and of an array of tables
abbrev pub value_origin : List ℕ → ℕ → ℕ → Origin
value_origin name at s = record { made = false; name = name; start = at; section = s; is_slice = false }

-- of a string, which asks for a copy or does not
abbrev pub string_origin : Bool → ℕ → ℕ → Origin
string_origin copied at s = record {
  made = false;
  name = codes "string";
  start = at;
  section = s;
  is_slice = not copied;
}

abbrev pub table_name : Bool → List ℕ
table_name true = codes "table"
table_name false = codes "dotted table"

abbrev pub table_origin : Bool → ℕ → ℕ → Origin
table_origin made at s = record {
  made = made;
  name = table_name made;
  start = at;
  section = s;
  is_slice = false;
}

abbrev pub array_origin : ℕ → ℕ → Origin
array_origin at s = record { made = true; name = codes "array"; start = at; section = s; is_slice = false }

-- of the tables that the dots of a row make, whose value this is
abbrev pub dotted_of : children.Child → Origin
dotted_of c = table_origin false (children.out-Child c).start (children.out-Child c).section

-- one origin here, and others below it
abbrev pub entry : Origin → Origins → Origins
entry o below [] = Some o
entry o below (s ∷ p) = below (s ∷ p)

abbrev pub under : Option Origins → Origins
under None p = None
under (Some f) p = f p

abbrev pub at_keys : List (List ℕ × Origins) → Origins
at_keys os (key k ∷ p) = under (value_at os k) p
at_keys os _ = None

abbrev pub at_numbers : List Origins → Origins
at_numbers os (number n ∷ p) = under (slice_get os n) p
at_numbers os _ = None

-- what is seen of a table: whether headers made it, the latest section whose header leads there, and the origins below it
pub record Within : Type 0 where
  pub made : Bool
  pub section : ℕ
  pub below : Origins

-- that section, or else the one that first mentioned it
abbrev pub section_in : Within → ℕ → ℕ
section_in t s = if t.made then t.section else s

abbrev pub of_table : ℕ → ℕ → Within → Origins
of_table at s t = entry (table_origin t.made at (section_in t s)) t.below

abbrev pub elements_within : ℕ → ℕ → List Within → List Origins
elements_within at s ts = map (of_table at s) ts

-- those before, and the others where there are none
abbrev pub or_else : Origins → Origins → Origins
or_else before new p = option_or (before p) (new p)

-- what came from a key before it was entered
abbrev pub origins_before : (is_new : Bool) → Origins → Origins
origins_before true os = no_origins
origins_before false os = os

abbrev pub with_more : Within → Origins → Within
with_more w new = record { made = w.made; section = w.section; below = or_else w.below new }

-- one step further, and on by a path
abbrev pub beyond : Step → Origins → Origins
beyond s below [] = None
beyond s below (t ∷ p) = if step_eq t s then below p else None

abbrev pub along : Path → Origins → Origins
along [] below = below
along (s ∷ way) below = beyond s (along way below)

-- a row: a dotted table at each key but the last, and its value there
abbrev pub row_origins : KeyTexts → Origin → Origins → Origins
row_origins [] dotted below = below
row_origins (k ∷ []) dotted below = beyond (key k) below
row_origins (k ∷ l ∷ ks) dotted below = beyond (key k) (entry dotted (row_origins (l ∷ ks) dotted below))

-- a value of a section that begins at an offset, and rows of the section
abbrev mutual
  pub value_origins : ℕ → ℕ → Raw → Origins
  value_origins s at (Raw.integer z) = entry (value_origin (codes "integer") at s) no_origins
  value_origins s at (Raw.float z) = entry (value_origin (codes "float") at s) no_origins
  value_origins s at (Raw.boolean z) = entry (value_origin (codes "boolean") at s) no_origins
  value_origins s at (Raw.string z copied) = entry (string_origin copied at s) no_origins
  value_origins s at (Raw.array es) = entry (value_origin (codes "array") at s) (at_numbers (elements_origins s es))
  value_origins s at (Raw.inline rows) = entry (value_origin (codes "inline table") at s) (rows_origins s rows)

  pub elements_origins : ℕ → Elements → List Origins
  elements_origins s no_elements = []
  elements_origins s (element at v es) = value_origins s at v ∷ elements_origins s es

  pub rows_origins : ℕ → Rows → Origins
  rows_origins s no_rows = no_origins
  rows_origins s (row keys at v rows) =
      or_else (row_origins (texts keys) (table_origin false at s) (value_origins s at v)) (rows_origins s rows)

-- the table of a header, by the number of its section and its rows
abbrev pub section_origins : ℕ → SectionTable → Origins
section_origins at t = entry (table_origin true at t.0) (rows_origins t.0 (rows_seen [] t.1))

-- one level, the parts seen already
abbrev pub item_from : Item-F (ℕ → ℕ → Origins) Origins Within → ℕ → ℕ → Origins
item_from (Item-F.Integer _) at s = entry (value_origin (codes "integer") at s) no_origins
item_from (Item-F.Float _) at s = entry (value_origin (codes "float") at s) no_origins
item_from Item-F.True at s = entry (value_origin (codes "boolean") at s) no_origins
item_from Item-F.False at s = entry (value_origin (codes "boolean") at s) no_origins
item_from (Item-F.String _) at s = entry (string_origin false at s) no_origins
item_from (Item-F.Escaped _) at s = entry (string_origin true at s) no_origins
item_from (Item-F.Plain elements) at s = value_origins s at (plain_array elements)
item_from (Item-F.Rows rows) at s = value_origins s at (plain_table rows)
item_from (Item-F.Array children) at s = entry (value_origin (codes "array") at s) (at_numbers children.items)
item_from (Item-F.Inline table) at s = entry (value_origin (codes "inline table") at s) table.value.below
item_from (Item-F.Table table) at s = of_table at s table.value
item_from (Item-F.Section rows) at s = section_origins at (s, rows)
item_from (Item-F.Sections tables) at s =
    entry (array_origin at tables.value.1.0)
    (at_numbers (map (section_origins at) tables.value.0 ++ section_origins at tables.value.1 ∷ []))
item_from (Item-F.Tables tables) at s =
    entry (array_origin at tables.value.1.section)
    (at_numbers (elements_within at s (tables.value.0.items ++ tables.value.1 ∷ [])))

abbrev pub child_from : Child-F (ℕ → ℕ → Origins) Origins Within → Origins
child_from c = c.item c.start c.section

abbrev pub table_from : Table-F (ℕ → ℕ → Origins) Origins Within → Within
table_from t = record { made = t.passed || t.named; section = t.section; below = at_keys t.entries }

abbrev pub item_origins : items.Item → ℕ → ℕ → Origins
item_origins = fold-Item (ℕ → ℕ → Origins) Origins Within item_from child_from table_from

abbrev pub child_origins : children.Child → Origins
child_origins = fold-Child (ℕ → ℕ → Origins) Origins Within item_from child_from table_from

abbrev pub table_within : tables.Table → Within
table_within = fold-Table (ℕ → ℕ → Origins) Origins Within item_from child_from table_from
