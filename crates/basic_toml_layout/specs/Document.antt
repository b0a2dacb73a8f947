-- The text of any table of data, own (TOML v0.5.0, "Table", "Inline Table" and "Array of Tables").
-- In each table the rows come first, `key = value`, and then the sections, each in their order. A table is a section; an
-- array with an element whose elements are all tables is one section for each; any other entry is a row, and a table in
-- its value is an inline table.
-- The header `[path]` of a table is written where the table has a row or no entry, an element's `[[path]]` always. The
-- whole table has no header. Before a header stands a blank line where an entry of the table around it, or an element,
-- stands before; where sections are spaced, before each but one that begins the text.
use Rattle.std.specs.Prelude.{ℕ, Bool, true, false, cond, not, ◌&&◌, ◌||◌, List, [], ◌∷◌, ◌++◌, codes}
use Rattle.basic_toml_tokens.specs.Ascii as ascii
use Rattle.basic_toml_value.specs.Data.{Data, integer, float, boolean, string, array, table, Items, no_items, item}
use Rattle.basic_toml_value.specs.Data.{Members, no_members, member}
use Rattle.basic_toml_layout.specs.Written as w
use Rattle.basic_toml_layout.specs.Texts.{written_scalar, comma}
use Rattle.basic_toml_layout.specs.Layout.{table_header, element_header, row_start}

-- a value within a row
abbrev mutual
  pub inline : Data → List ℕ
  inline (integer z) = written_scalar (w.integer z)
  inline (float t) = written_scalar (w.float t)
  inline (boolean b) = written_scalar (w.boolean b)
  inline (string t) = written_scalar (w.text t)
  inline (array xs) = ascii.left_bracket ∷ (inline_items xs ++ (ascii.right_bracket ∷ []))
  inline (table ms) = ascii.left_brace ∷ (inline_members ms ++ (ascii.right_brace ∷ []))

  pub inline_items : Items → List ℕ
  inline_items no_items = []
  inline_items (item x xs) = inline x ++ more_items xs

  pub more_items : Items → List ℕ
  more_items no_items = []
  more_items (item x xs) = comma ++ (inline x ++ more_items xs)

  pub inline_members : Members → List ℕ
  inline_members no_members = []
  inline_members (member k x ms) = codes " " ++ (row_start k ++ (inline x ++ more_members ms))

  pub more_members : Members → List ℕ
  more_members no_members = codes " "
  more_members (member k x ms) = comma ++ (row_start k ++ (inline x ++ more_members ms))

-- all elements are tables
abbrev pub are_tables : Items → Bool
are_tables no_items = true
are_tables (item (table ms) xs) = are_tables xs
are_tables (item x xs) = false

-- an entry is a row
abbrev pub is_row : Data → Bool
is_row (table ms) = false
is_row (array no_items) = true
is_row (array (item x xs)) = not (are_tables (item x xs))
is_row x = true

abbrev pub has_row : Members → Bool
has_row no_members = false
has_row (member k x ms) = is_row x || has_row ms

abbrev pub is_header_due : Members → Bool
is_header_due no_members = true
is_header_due (member k x ms) = has_row (member k x ms)

-- how rows and headers look: the value of a row, after what its line begins with, and whether sections are spaced
pub record Style : Type 0 where
  pub value : List ℕ → Data → List ℕ
  pub spaced : Bool

-- each value on one line
abbrev pub plain : Style
plain = record { value = λ front x. inline x; spaced = false }

module _ (style : Style) where
  -- the rows of a table
  abbrev pub row_text : List ℕ → Data → List ℕ
  row_text k x = row_start k ++ (style.value (row_start k) x ++ (ascii.line_feed ∷ []))

  abbrev pub rows_text : Members → List ℕ
  rows_text no_members = []
  rows_text (member k x ms) = cond (is_row x) (row_text k x) [] ++ rows_text ms

  -- The sections of a table. The path has its last key first, and is_later says that a blank line is due.
  abbrev mutual
    pub sections_text : List (List ℕ) → Bool → Members → List ℕ
    sections_text path is_later no_members = []
    sections_text path is_later (member k x ms) = cond (is_row x) (sections_text path is_later ms)
        (section_text (k ∷ path) is_later x ++ sections_text path true ms)

    pub section_text : List (List ℕ) → Bool → Data → List ℕ
    section_text path is_later (table ms) = cond (is_header_due ms) (table_header is_later path) []
        ++ (rows_text ms ++ sections_text path ((style.spaced && is_later) || has_row ms) ms)
    section_text path is_later (array xs) = elements_text path is_later xs
    section_text path is_later x = []

    -- the elements of an array of tables
    pub elements_text : List (List ℕ) → Bool → Items → List ℕ
    elements_text path is_later no_items = []
    elements_text path is_later (item x xs) = element_text path is_later x ++ elements_text path true xs

    pub element_text : List (List ℕ) → Bool → Data → List ℕ
    element_text path is_later (table ms) = element_header is_later path
        ++ (rows_text ms ++ sections_text path (style.spaced || has_row ms) ms)
    element_text path is_later x = []

  -- what stands below the header of a table
  abbrev pub table_text : List (List ℕ) → Bool → Members → List ℕ
  table_text path is_later ms = rows_text ms ++ sections_text path (is_later || has_row ms) ms

  abbrev pub document_text : Members → List ℕ
  document_text ms = table_text [] false ms
