-- The text of a written value (TOML v0.5.0, "Table" and "Array of Tables"; which header is left out is own).
-- An entry is a row `key = value` where it is a scalar, an empty array, or an array that begins with no table; a table
-- is a section, and an array that begins with a table is one section for each element; an absent entry is left out.
-- The header `[path]` of a table is written where the table has no present entry or its first present entry is a row,
-- after a blank line where its entry is not the first present one of its table. An element's `[[path]]` is always
-- written, after a blank line where it is not the first element or its entry is not the first present one. Entries
-- stand in order. The root has no header.
use Rattle.std.specs.Prelude.{ℕ, Bool, true, false, cond, List, [], ◌∷◌, ◌++◌, codes}
use Rattle.basic_toml_tokens.specs.Ascii as ascii
use Rattle.basic_toml_layout.specs.Written.{Written, scalar, absent, array, table, Elements, no_elements, element}
use Rattle.basic_toml_layout.specs.Written.{Entries, no_entries, entry}
use Rattle.basic_toml_layout.specs.Texts.{written_scalar, written_key, joined, comma}

-- a value within a row
abbrev mutual
  pub written : Written → List ℕ
  written (scalar l) = written_scalar l
  written absent = []
  written (array es) = ascii.left_bracket ∷ (written_elements es ++ (ascii.right_bracket ∷ []))
  written (table es) = []

  pub written_elements : Elements → List ℕ
  written_elements no_elements = []
  written_elements (element v es) = written v ++ more_elements es

  pub more_elements : Elements → List ℕ
  more_elements no_elements = []
  more_elements (element v es) = comma ++ (written v ++ more_elements es)

-- how an entry stands in the text
pub data Form : Type 0 where
  row section sections left_out : Form

abbrev pub form : Written → Form
form (scalar _) = row
form absent = left_out
form (array no_elements) = row
form (array (element (table _) _)) = sections
form (array (element _ _)) = row
form (table _) = section

-- the table has no present entry, or its first present entry is a row
abbrev pub is_header_due : Entries → Bool
is_header_due no_entries = true
is_header_due (entry _ (scalar _) _) = true
is_header_due (entry _ absent es) = is_header_due es
is_header_due (entry _ (array no_elements) _) = true
is_header_due (entry _ (array (element (table _) _)) _) = false
is_header_due (entry _ (array (element _ _)) _) = true
is_header_due (entry _ (table _) _) = false

abbrev pub blank_line : Bool → List ℕ
blank_line is_later = cond is_later (ascii.line_feed ∷ []) []

abbrev pub table_header : Bool → List (List ℕ) → List ℕ
table_header is_later path = blank_line is_later
    ++ (ascii.left_bracket ∷ (joined path ++ (ascii.right_bracket ∷ ascii.line_feed ∷ [])))

abbrev pub element_header : Bool → List (List ℕ) → List ℕ
element_header is_later path = blank_line is_later
    ++ (ascii.left_bracket ∷ ascii.left_bracket
    ∷ (joined path ++ (ascii.right_bracket ∷ ascii.right_bracket ∷ ascii.line_feed ∷ [])))

abbrev pub row_start : List ℕ → List ℕ
row_start k = written_key k ++ codes " = "

-- In each, the path of the table has its last key first, and is_later says that a present entry of the same table
-- stands before.
abbrev mutual
  pub entry_text : List (List ℕ) → List ℕ → Bool → Written → List ℕ
  entry_text path k is_later (scalar l) = row_start k ++ (written_scalar l ++ (ascii.line_feed ∷ []))
  entry_text path k is_later absent = []
  entry_text path k is_later (array es) = array_text path k is_later es
  entry_text path k is_later (table es) = cond (is_header_due es) (table_header is_later (k ∷ path)) []
      ++ entries_text (k ∷ path) false es

  pub array_text : List (List ℕ) → List ℕ → Bool → Elements → List ℕ
  array_text path k is_later no_elements = row_start k
      ++ (ascii.left_bracket ∷ ascii.right_bracket ∷ ascii.line_feed ∷ [])
  array_text path k is_later (element (table es) vs) = element_header is_later (k ∷ path)
      ++ (entries_text (k ∷ path) false es ++ sections_text (k ∷ path) vs)
  array_text path k is_later (element v vs) = row_start k
      ++ (ascii.left_bracket ∷ (written v ++ (more_elements vs ++ (ascii.right_bracket ∷ ascii.line_feed ∷ []))))

  -- the elements of an array of tables after its first
  pub sections_text : List (List ℕ) → Elements → List ℕ
  sections_text path no_elements = []
  sections_text path (element (table es) vs) = element_header true path
      ++ (entries_text path false es ++ sections_text path vs)
  sections_text path (element _ vs) = sections_text path vs

  pub entries_text : List (List ℕ) → Bool → Entries → List ℕ
  entries_text path is_later no_entries = []
  entries_text path is_later (entry k absent es) = entries_text path is_later es
  entries_text path is_later (entry k v es) = entry_text path k is_later v ++ entries_text path true es

abbrev pub layout : Written → List ℕ
layout (table es) = entries_text [] false es
layout _ = []
