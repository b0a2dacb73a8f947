-- The trie that an item stands for: what is said of each table, and what it holds. Offsets play no part.
use Rattle.std.specs.Prelude.{ℕ, suc, Bool, true, false, List, [], ◌∷◌, ◌++◌, Some, None, length, map, string_bytes}
use Rattle.basic_toml_value.specs.Data.{Data, items_of}
use Rattle.basic_toml_grammar.specs.Steps.{number}
use Rattle.basic_toml_grammar.specs.Mentions.{finished}
use Rattle.basic_toml_grammar.specs.Standing as standing
use Rattle.basic_toml_grammar.specs.Trie.{Trie, trie, Tries, no_tries, by, nothing}
use Rattle.basic_toml_plain.specs.Plain.{plain_array, plain_table}
use Rattle.basic_toml_plain.specs.Tries.{leaf, by_keys, tree_data, rows_trie}
use Rattle.basic_toml_grow.specs.declared.item.Item.{fold-Item}
use Rattle.basic_toml_grow.specs.declared.item.Item as items
use Rattle.basic_toml_grow.specs.declared.item.Item.TheOpen.{Item-F, Child-F, Table-F}
use Rattle.basic_toml_grow.specs.declared.item.Child as children
use Rattle.basic_toml_grow.specs.declared.item.Child.{fold-Child}
use Rattle.basic_toml_grow.specs.declared.item.Table as tables
use Rattle.basic_toml_grow.specs.declared.item.Table.{fold-Table}

abbrev pub by_numbers : ℕ → List Trie → Tries
by_numbers n [] = no_tries
by_numbers n (t ∷ ts) = by (number n) t (by_numbers (suc n) ts)

-- one level, the parts seen already
abbrev pub item_grows : Item-F Trie Trie Trie → Trie
item_grows (Item-F.Integer z) = leaf (Data.integer z)
item_grows (Item-F.Float text) = leaf (Data.float text)
item_grows Item-F.True = leaf (Data.boolean true)
item_grows Item-F.False = leaf (Data.boolean false)
item_grows (Item-F.String text) = leaf (Data.string text.now)
item_grows (Item-F.Escaped text) = leaf (Data.string (string_bytes text))
item_grows (Item-F.Plain elements) = leaf (finished (plain_array elements))
item_grows (Item-F.Rows rows) = leaf (finished (plain_table rows))
item_grows (Item-F.Array children) = leaf (Data.array (items_of (map tree_data children.items)))
item_grows (Item-F.Inline table) = leaf (tree_data table.value)
item_grows (Item-F.Table table) = table.value
item_grows (Item-F.Section rows) = rows_trie rows
item_grows (Item-F.Sections tables) =
    trie (Some (standing.array (suc (length tables.value.0)))) None
    (by_numbers 0 (map (λ t. rows_trie t.1) tables.value.0 ++ rows_trie tables.value.1.1 ∷ []))
item_grows (Item-F.Tables tables) =
    trie (Some (standing.array (suc (length tables.value.0.items)))) None
    (by_numbers 0 (tables.value.0.items ++ tables.value.1 ∷ []))

abbrev pub child_grows : Child-F Trie Trie Trie → Trie
child_grows c = c.item

abbrev pub table_grows : Table-F Trie Trie Trie → Trie
table_grows t = trie (Some (standing.table t.passed t.named t.dotted)) None (by_keys t.entries)

abbrev pub item_trie : items.Item → Trie
item_trie = fold-Item Trie Trie Trie item_grows child_grows table_grows

abbrev pub child_trie : children.Child → Trie
child_trie = fold-Child Trie Trie Trie item_grows child_grows table_grows

abbrev pub table_trie : tables.Table → Trie
table_trie = fold-Table Trie Trie Trie item_grows child_grows table_grows

-- a table without entries, of which nothing is said yet
abbrev pub empty_table : Trie
empty_table = trie (Some (standing.table false false false)) None no_tries

-- what stood at a key before it was entered
abbrev pub trie_before : (is_new : Bool) → Trie → Trie
trie_before true t = nothing
trie_before false t = t

-- whether it keeps the rows of sections as they were read, of each of whose tables one header alone speaks
abbrev pub holds_section : Item-F items.Item children.Child tables.Table → Bool
holds_section (Item-F.Section rows) = true
holds_section (Item-F.Sections tables) = true
holds_section _ = false

abbrev pub is_section : items.Item → Bool
is_section i = holds_section (items.out-Item i)
