-- How writing any table, or any value, ends. (own)
use Rattle.std.specs.Prelude.{◌≡◌, ◌⊎◌, ◌≤◌, ◌<◌, false, ℕ, List, ◌++◌, codes, Result, Ok, Err, string_bytes, String}
use Rattle.std.specs.Prelude.{IsUtf8}
use Rattle.std.specs.declared.alloc.Global.{Global}
use Rattle.basic_toml_tokens.specs.Text.{folded}
use Rattle.basic_toml_value.specs.Data.{Data, table, Members, no_members, member}
use Rattle.basic_toml_value.specs.Nesting.{nesting_limit}
use Rattle.basic_toml_value.specs.SameMaps.{SameMaps}
use Rattle.basic_toml_grammar.specs.Depth.{depth}
use Rattle.basic_toml_grammar.specs.Document.{IsDocument}
use Rattle.basic_toml_layout.specs.Document.{Style, document_text, inline}
use Rattle.basic_toml_layout.specs.Layout.{layout, row_start}
use Rattle.basic_toml_layout.specs.TextOrder.{text_order}
use Rattle.basic_toml_layout.specs.Trees.{written_of}
use Rattle.basic_toml_order.specs.RowsFirst.{rows_first}
use Rattle.basic_toml_order.specs.Writable.{has_bad_array}
use Rattle.basic_toml_error.specs.Fault.{Fault, without_offset, want_of_memory, nested_too_deeply}

-- The text of the table in a style. It means the table with the rows of each table before its sections, which has the
-- same text; keys and values are the same.
pub record IsDocumentOf (style : Style) (members : Members) (text : List ℕ) : Type 0 where
  pub laid_out : text ≡ document_text style members
  pub means : IsDocument (folded text) (table (text_order members))
  pub same_maps : SameMaps (table members) (table (text_order members))
  pub same_text : document_text style (text_order members) ≡ text

-- where each array in it can be written, the text is the layout of the table with its rows first
abbrev pub HasTheLayout : Members → List ℕ → Type 0
HasTheLayout members text = has_bad_array (table members) ≡ false → text ≡ layout (written_of (rows_first (table members)))

-- it is nested above the limit
pub record IsTooDeep (x : Data) (fault : Fault) : Type 0 where
  pub deep : nesting_limit < depth x
  pub is : fault ≡ without_offset nested_too_deeply

-- the text of a table within the limit; else, and only then, that it is nested too deeply; or want of memory
abbrev pub WritesTable : Style → Members → Result (String Global) Fault → Type 0
WritesTable style members (Ok text) =
    (depth (table members) ≤ nesting_limit) × IsDocumentOf style members (string_bytes text)
WritesTable style members (Err fault) = (fault ≡ want_of_memory) ⊎ IsTooDeep (table members) fault

-- The text of a value, as it stands in a row. The row that any key makes of it means it, where it is not nested too
-- deeply.
pub record IsValueText (x : Data) (text : List ℕ) : Type 0 where
  pub is : text ≡ inline x
  pub means : (key : List ℕ) → IsUtf8 key → depth (table (member key x no_members)) ≤ nesting_limit
      → IsDocument (folded (row_start key ++ (text ++ codes "\n"))) (table (member key x no_members))

-- that of a value within the limit; else, and only then, that it is nested too deeply; or want of memory
abbrev pub WritesValue : Data → Result (String Global) Fault → Type 0
WritesValue x (Ok text) = (depth x ≤ nesting_limit) × IsValueText x (string_bytes text)
WritesValue x (Err fault) = (fault ≡ want_of_memory) ⊎ IsTooDeep x fault
