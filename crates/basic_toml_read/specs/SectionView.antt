-- What the code's values, rows and sections stand for.
use Rattle.std.specs.Prelude.{◌≡◌, ℕ, true, false, List, [], ◌∷◌, ◌++◌, map, take, drop}
use Rattle.std.specs.String.{string_bytes}
use Rattle.basic_toml_read.specs.declared.section.Raw.{fold-Raw}
use Rattle.basic_toml_read.specs.declared.section.Raw as raws
use Rattle.basic_toml_read.specs.declared.section.Raw.TheOpen.{Raw-F, Element-F, Row-F, Rows-F}
use Rattle.basic_toml_read.specs.declared.section.Element as elements
use Rattle.basic_toml_read.specs.declared.section.Element.{fold-Element}
use Rattle.basic_toml_read.specs.declared.section.Row as rows
use Rattle.basic_toml_read.specs.declared.section.Row.{fold-Row}
use Rattle.basic_toml_read.specs.declared.section.Rows as tables
use Rattle.basic_toml_read.specs.declared.section.Rows.{out-Rows}
use Rattle.basic_toml_read.specs.declared.section.Key as keys
use Rattle.basic_toml_read.specs.declared.section.Section as code
use Rattle.basic_toml_read.specs.KeyText.{key_text_bytes}
use Rattle.basic_toml_grammar.specs.Sections.{Key, KeyTexts, texts, Raw, Elements, no_elements, element, Rows, no_rows}
use Rattle.basic_toml_grammar.specs.Sections.{row, Section}

abbrev pub key_of : keys.Key → Key
key_of k = record { offset = k.offset; text = key_text_bytes k.text }

-- an element, and a row's last key and value
pub record Placed : Type 0 where
  pub offset : ℕ
  pub value : Raw

pub record Lined : Type 0 where
  pub key : Key
  pub parents : ℕ
  pub start : ℕ
  pub value : Raw

abbrev pub elements_from : List Placed → Elements
elements_from [] = no_elements
elements_from (e ∷ es) = element e.offset e.value (elements_from es)

-- rows whose parents stand beside them, one row's after another's
abbrev pub rows_from : List Key → List Lined → Rows
rows_from parents [] = no_rows
rows_from parents (r ∷ rs) =
    row (take r.parents parents ++ r.key ∷ []) r.start r.value (rows_from (drop r.parents parents) rs)

-- one level, the parts seen already
abbrev pub raw_step : Raw-F Raw Placed Lined Rows → Raw
raw_step (Raw-F.Integer z) = Raw.integer z
raw_step (Raw-F.Float text) = Raw.float text
raw_step Raw-F.True = Raw.boolean true
raw_step Raw-F.False = Raw.boolean false
raw_step (Raw-F.String text) = Raw.string text.now false
raw_step (Raw-F.Escaped text) = Raw.string (string_bytes text) true
raw_step (Raw-F.Array es) = Raw.array (elements_from es.items)
raw_step (Raw-F.Inline rs) = Raw.inline (rows_from [] rs.items)
raw_step (Raw-F.Dotted rs) = Raw.inline rs.value

abbrev pub element_step : Element-F Raw Placed Lined Rows → Placed
element_step e = record { offset = e.offset; value = e.value }

abbrev pub row_step : Row-F Raw Placed Lined Rows → Lined
row_step r = record {
  key = record { offset = r.offset; text = key_text_bytes r.key };
  parents = r.parents;
  start = r.start;
  value = r.value;
}

abbrev pub rows_step : Rows-F Raw Placed Lined Rows → Rows
rows_step rs = rows_from (map key_of rs.parents.items) rs.rows.items

abbrev pub raw_of : raws.Raw → Raw
raw_of = fold-Raw Raw Placed Lined Rows raw_step element_step row_step rows_step

abbrev pub placed_of : elements.Element → Placed
placed_of = fold-Element Raw Placed Lined Rows raw_step element_step row_step rows_step

abbrev pub lined_of : rows.Row → Lined
lined_of = fold-Row Raw Placed Lined Rows raw_step element_step row_step rows_step

abbrev pub elements_view : List elements.Element → Elements
elements_view es = elements_from (map placed_of es)

abbrev pub rows_seen : List keys.Key → List rows.Row → Rows
rows_seen parents rs = rows_from (map key_of parents) (map lined_of rs)

abbrev pub rows_view : tables.Rows → Rows
rows_view rs = rows_seen (out-Rows rs).parents.items (out-Rows rs).rows.items

-- no row is left, and no key before one
abbrev pub NoneLeft : tables.Rows → Type 0
NoneLeft rs = ((out-Rows rs).parents.items ≡ []) × ((out-Rows rs).rows.items ≡ [])

-- the texts of the keys of a header
abbrev pub header_texts : List keys.Key → KeyTexts
header_texts ks = texts (map key_of ks)

abbrev pub section_of : code.Section → Section
section_of s = record {
  at = s.at;
  header = map key_of s.header.items;
  is_array = s.is_array;
  rows = rows_view s.rows;
}
