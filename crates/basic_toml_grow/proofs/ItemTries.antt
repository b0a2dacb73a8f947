-- The tries of items, one level at a time.
use Rattle.std.proofs.Common.{◌≡◌, List, ℕ, Some, None, Box, Global, rules}
use Rattle.basic_toml_grammar.specs.Standing as standings
use Rattle.basic_toml_grammar.specs.Trie.{trie}
use Rattle.basic_toml_grammar.specs.Mentions.{finished}
use Rattle.basic_toml_plain.specs.Tries.{by_keys, leaf}
use Rattle.basic_toml_plain.specs.Plain.{plain_array}
use Rattle.basic_toml_grow.specs.declared.item.Item.{the_lemmas, Plain}
use Rattle.basic_toml_grow.specs.declared.item.Item as items
use Rattle.basic_toml_grow.specs.declared.item.Item.TheViews.{roll-Child}
use Rattle.basic_toml_grow.specs.declared.item.Child.{Child, out-Child}
use Rattle.basic_toml_grow.specs.declared.item.Table.{Table, out-Table}
use Rattle.basic_toml_grow.specs.Item.{item_trie, child_trie, table_trie}
use Rattle.basic_toml_grow.proofs.KeysInATrie.{tries_of}
use Rattle.basic_toml_read.specs.declared.section.Element.{Element}

-- the trie of a child is that of its item
pub child_item_trie : (c : Child) → child_trie c ≡ item_trie (out-Child c).item
child_item_trie c = search (rules, the_lemmas)

-- the trie of a table has what is said of it, and the tries of its entries by their keys
pub table_entries_trie : (t : Table)
    → table_trie t
    ≡ trie (Some (standings.table (out-Table t).passed (out-Table t).named (out-Table t).dotted)) None
    (by_keys (tries_of child_trie (out-Table t).entries))
unfolding tries_of
table_entries_trie t = search (rules, the_lemmas)

-- a child that is a table
pub table_child_trie : (at s : ℕ) (t : Box Table Global)
    → child_trie (roll-Child (record { start = at; section = s; item = items.Table t })) ≡ table_trie t.value
table_child_trie at s t = search (rules, the_lemmas)

-- an array of plain values, kept as it is read
pub plain_trie : (es : List Element) → item_trie (Plain es) ≡ leaf (finished (plain_array es))
plain_trie es = search (rules, the_lemmas)
