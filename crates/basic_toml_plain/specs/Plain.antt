-- Plain values: scalars, arrays of plain values, and inline tables of a few rows, each of one key that no other has and a
-- plain value; none deeper than the limit. Nothing clashes in them.
use Rattle.std.specs.Prelude.{ℕ, ◌+◌, Bool, true, false, not, ◌&&◌, nat_lt, nat_le, List, [], ◌∷◌, ⊤, length, map}
use Rattle.std.specs.List.{list_all}
use Rattle.basic_toml_value.specs.Data.{Data}
use Rattle.basic_toml_value.specs.Nesting.{nesting_limit}
use Rattle.basic_toml_index.specs.Keys.{is_among}
use Rattle.basic_toml_index.specs.Index.{few}
use Rattle.basic_toml_grammar.specs.Mentions.{finished}
use Rattle.basic_toml_grammar.specs.Sections.{Raw}
use Rattle.basic_toml_read.specs.KeyText.{key_text_bytes}
use Rattle.basic_toml_read.specs.SectionView.{raw_of, placed_of, elements_view, rows_seen}
use Rattle.basic_toml_read.specs.declared.section.Raw.{fold-Raw}
use Rattle.basic_toml_read.specs.declared.section.Raw as raws
use Rattle.basic_toml_read.specs.declared.section.Raw.TheOpen.{Raw-F, Element-F, Row-F, Rows-F}
use Rattle.basic_toml_read.specs.declared.section.Element as elements
use Rattle.basic_toml_read.specs.declared.section.Element.{fold-Element}
use Rattle.basic_toml_read.specs.declared.section.Row as rows
use Rattle.basic_toml_read.specs.declared.section.Row.{fold-Row, out-Row}

abbrev pub key_of : rows.Row → List ℕ
key_of r = key_text_bytes (out-Row r).key

-- a row's key, and whether its value is plain within a table of a level
pub record Keyed : Type 0 where
  pub key : List ℕ
  pub plain : ℕ → Bool

abbrev pub keyed_simple : ℕ → List Keyed → Bool
keyed_simple l [] = true
keyed_simple l (r ∷ rs) = (r.plain l && not (is_among (map (λ r. r.key) rs) r.key)) && keyed_simple l rs

-- one level, the parts seen already: whether a value is plain within something of a level
abbrev pub raw_plain : Raw-F (ℕ → Bool) (ℕ → Bool) Keyed ⊤ → ℕ → Bool
raw_plain (Raw-F.Array es) l = nat_lt l nesting_limit && list_all (λ e. e (l + 1)) es.items
raw_plain (Raw-F.Inline rs) l =
    nat_lt l nesting_limit && (nat_le (length rs.items) few && keyed_simple (l + 1) rs.items)
raw_plain (Raw-F.Dotted rs) l = false
raw_plain _ l = true

abbrev pub element_plain : Element-F (ℕ → Bool) (ℕ → Bool) Keyed ⊤ → ℕ → Bool
element_plain e = e.value

abbrev pub row_plain : Row-F (ℕ → Bool) (ℕ → Bool) Keyed ⊤ → Keyed
row_plain r = record { key = key_text_bytes r.key; plain = r.value }

abbrev pub rows_plain : Rows-F (ℕ → Bool) (ℕ → Bool) Keyed ⊤ → ⊤
rows_plain rs = tt

abbrev pub is_plain : raws.Raw → ℕ → Bool
is_plain = fold-Raw (ℕ → Bool) (ℕ → Bool) Keyed ⊤ raw_plain element_plain row_plain rows_plain

abbrev pub is_plain_element : elements.Element → ℕ → Bool
is_plain_element = fold-Element (ℕ → Bool) (ℕ → Bool) Keyed ⊤ raw_plain element_plain row_plain rows_plain

abbrev pub keyed_of : rows.Row → Keyed
keyed_of = fold-Row (ℕ → Bool) (ℕ → Bool) Keyed ⊤ raw_plain element_plain row_plain rows_plain

abbrev pub are_plain : ℕ → List elements.Element → Bool
are_plain l es = list_all (λ e. is_plain_element e l) es

-- of the rows of a table of a level: each has a plain value, and a key that no other has
abbrev pub are_simple : ℕ → List rows.Row → Bool
are_simple l rs = keyed_simple l (map keyed_of rs)

-- each has a plain value
abbrev pub are_all_plain : ℕ → List rows.Row → Bool
are_all_plain l rs = list_all (λ r. is_plain (out-Row r).value l) rs

abbrev pub are_few_simple : ℕ → List rows.Row → Bool
are_few_simple l rs = nat_le (length rs) few && are_simple l rs

-- an array of plain elements, and an inline table of plain rows
abbrev pub plain_array : List elements.Element → Raw
plain_array es = Raw.array (elements_view es)

abbrev pub plain_table : List rows.Row → Raw
plain_table rs = Raw.inline (rows_seen [] rs)

-- the data of a value, of an element, and of rows
abbrev pub plain_data : raws.Raw → Data
plain_data v = finished (raw_of v)

abbrev pub element_data : elements.Element → Data
element_data e = finished (placed_of e).value

abbrev pub rows_data : List rows.Row → Data
rows_data rs = finished (plain_table rs)
