-- The entries that a table takes rows as, each of one key and a plain value.
use Rattle.std.specs.Prelude.{ℕ, true, false, List, map}
use Rattle.basic_toml_read.specs.declared.section.Raw.{Raw, out-Raw}
use Rattle.basic_toml_read.specs.declared.section.Raw.TheOpen.{Raw-F}
use Rattle.basic_toml_read.specs.declared.section.Element.{Element}
use Rattle.basic_toml_read.specs.declared.section.Row.{Row, out-Row}
use Rattle.basic_toml_read.specs.declared.section.Rows.{Rows, out-Rows}
use Rattle.basic_toml_plain.specs.Plain.{key_of}
use Rattle.basic_toml_plain.specs.PlainTables.{SectionTable}
use Rattle.basic_toml_grow.specs.declared.item.Item as items
use Rattle.basic_toml_grow.specs.declared.item.Item.TheViews.{roll-Child, roll-Table}
use Rattle.basic_toml_grow.specs.declared.item.Child.{Child}
use Rattle.basic_toml_grow.specs.declared.item.Table.{Table, out-Table}

-- a plain value as an item
abbrev pub kept : Raw-F Raw Element Row Rows → items.Item
kept (Raw-F.Integer z) = items.Integer z
kept (Raw-F.Float text) = items.Float text
kept Raw-F.True = items.True
kept Raw-F.False = items.False
kept (Raw-F.String text) = items.String text
kept (Raw-F.Escaped text) = items.Escaped text
kept (Raw-F.Array es) = items.Plain es.items
kept (Raw-F.Inline rs) = items.Rows rs.items
kept (Raw-F.Dotted rs) = items.Rows (out-Rows rs.value).rows.items

abbrev pub item_of : Raw → items.Item
item_of v = kept (out-Raw v)

-- a plain value of a section that begins at an offset, and that of a row
abbrev pub child_at : ℕ → ℕ → Raw → Child
child_at s start v = roll-Child (record { start = start; section = s; item = item_of v })

abbrev pub child_of : ℕ → Row → Child
child_of s r = child_at s (out-Row r).start (out-Row r).value

abbrev pub entry_of : ℕ → Row → List ℕ × Child
entry_of s r = (key_of r, child_of s r)

abbrev pub entries_of : ℕ → List Row → List (List ℕ × Child)
entries_of s rows = map (entry_of s) rows

-- a table with other entries
abbrev pub with_entries : Table → List (List ℕ × Child) → Table
with_entries t ps = roll-Table (record {
  passed = (out-Table t).passed;
  named = (out-Table t).named;
  dotted = (out-Table t).dotted;
  section = (out-Table t).section;
  entries = ps;
})

-- the table that the rows of a section stand for, of which one header alone speaks
abbrev pub section_table : ℕ → List Row → Table
section_table s rows = roll-Table (record {
  passed = false;
  named = true;
  dotted = false;
  section = s;
  entries = entries_of s rows;
})

abbrev pub table_of : SectionTable → Table
table_of t = section_table t.0 t.1
