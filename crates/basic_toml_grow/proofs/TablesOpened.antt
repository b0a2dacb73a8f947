-- The table that a header names, and the array of tables that it adds an element to, as contracts say it.
use Rattle.std.proofs.Common.{◌≡◌, ℕ, ◌≤◌, true, false, List, [], map, refl, add-zero, rules, Some, None, Vec, Box}
use Rattle.std.proofs.Common.{Global, Result}
use Rattle.std.proofs.lemmas.List.{length-map}
use Rattle.basic_toml_value.specs.Nesting.{nesting_limit}
use Rattle.basic_toml_grammar.specs.Sections.{Rows}
use Rattle.basic_toml_grammar.specs.Standing as standings
use Rattle.basic_toml_grammar.specs.Trie.{trie, put_rows, put_table}
use Rattle.basic_toml_read.specs.declared.section.Row.{Row}
use Rattle.basic_toml_plain.specs.Tries.{by_keys, row_trie, rows_trie}
use Rattle.basic_toml_plain.specs.PlainTables.{SectionTable, SectionTables}
use Rattle.basic_toml_grow.specs.declared.clash.Clash.{Clash}
use Rattle.basic_toml_grow.specs.declared.item.Item.{the_lemmas, Tables}
use Rattle.basic_toml_grow.specs.declared.item.Item as items
use Rattle.basic_toml_grow.specs.declared.item.Table.{Table, out-Table}
use Rattle.basic_toml_grow.specs.Item.{item_trie, table_trie}
use Rattle.basic_toml_grow.specs.Takes.{TakesRows}
use Rattle.basic_toml_grow.specs.Headers.{EntersHeader}
use Rattle.basic_toml_grow.proofs.ItemTries.{table_entries_trie}
use Rattle.basic_toml_grow.proofs.HeadersInATrie.{array_of, rows_entered}

-- a table that is named takes the rows of a section
pub open_named : {rows : Rows} {n level : ℕ} {opened after : Table} {r : Result (Unit {0}) Clash} (t : Table)
    → TakesRows rows n level opened after r → out-Table opened ≡ record (out-Table t) { named = true; section = n }
    → (out-Table t).named ≡ false → (out-Table t).dotted ≡ false → level ≤ nesting_limit
    → EntersHeader false rows [] level (table_trie t) (table_trie after) r
open_named {rows} {n} {level} {opened} {after} {r} t takes is named dotted within =
    let same : put_table rows (table_trie t) ≡ put_rows rows (table_trie opened) =
    rw (table_entries_trie t, table_entries_trie opened, is, named, dotted) refl in
    rw (same, add-zero) (rows_entered rows level (table_trie opened) (table_trie after) r within takes.entered)

pub tables_trie : (tables : Box (Vec Table Global × Table) Global)
    → item_trie (Tables tables) ≡ array_of (map table_trie tables.value.0.items) (table_trie tables.value.1)
tables_trie tables = search (rules, the_lemmas)

pub sections_trie : (tables : Box SectionTables Global)
    → item_trie (items.Sections tables)
    ≡ array_of (map (λ t. rows_trie t.1) tables.value.0) (rows_trie tables.value.1.1)
sections_trie tables =
    rw (length-map tables.value.0 (λ (t : SectionTable). rows_trie t.1)) (search (rules, the_lemmas))

pub table_item_trie : (t : Box Table Global) → item_trie (items.Table t) ≡ table_trie t.value
table_item_trie t = search (rules, the_lemmas)

pub section_item_trie : (rows : List Row)
    → item_trie (items.Section rows)
    ≡ trie (Some (standings.table false true false)) None (by_keys (map row_trie rows))
section_item_trie rows = search (rules, the_lemmas)
