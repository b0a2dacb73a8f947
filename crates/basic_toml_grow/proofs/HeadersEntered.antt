-- The way of a header through tables and what stands in them, as contracts say it.
use Rattle.std.proofs.Common.{◌≡◌, false, refl, ap, ◌∙◌, rules, Vec, Box, Global}
use Rattle.basic_toml_value.specs.Data.{Data}
use Rattle.basic_toml_plain.specs.Tries.{tree_data, leaf}
use Rattle.basic_toml_grow.specs.declared.item.Item as items
use Rattle.basic_toml_grow.specs.declared.item.Item.TheOpen.{Item-F}
use Rattle.basic_toml_grow.specs.declared.item.Item.TheViews.{out-Item, roll-Child}
use Rattle.basic_toml_grow.specs.declared.item.Child.{Child, out-Child}
use Rattle.basic_toml_grow.specs.declared.item.Table.{Table}
use Rattle.basic_toml_grow.specs.Item.{item_trie, child_trie, holds_section, is_section}
use Rattle.basic_toml_grow.proofs.ItemsStand.{shape}

-- what is none of these is a value, which bars a header
pub other_is_leaf : (i : items.Item) → is_section i ≡ false → ((t : Box Table Global) → i ≡ items.Table t → ⊥)
    → ((b : Box (Vec Table Global × Table) Global) → i ≡ items.Tables b → ⊥)
    → (d : Data) × (item_trie i ≡ leaf d)
other_is_leaf i no_section no_table no_tables = (tree_data (item_trie i), go (out-Item i) refl)
  where
    go : (x : Item-F items.Item Child Table) → out-Item i ≡ x → item_trie i ≡ leaf (tree_data (item_trie i))
    go (Item-F.Table t) e = absurd (no_table t (shape i (Item-F.Table t) e ∙ search (rules, items.the_lemmas)))
    go (Item-F.Tables b) e = absurd (no_tables b (shape i (Item-F.Tables b) e ∙ search (rules, items.the_lemmas)))
    go (Item-F.Section rows) e = absurd (cc (no_section, ap holds_section e))
    go (Item-F.Sections b) e = absurd (cc (no_section, ap holds_section e))
    go x e = rw (shape i x e) (search (rules, items.the_lemmas))

-- a child with another item
abbrev pub holding : Child → items.Item → Child
holding c i = roll-Child (record (out-Child c) { item = i })

pub out_holding : (c : Child) (i : items.Item) → out-Child (holding c i) ≡ record (out-Child c) { item = i }
out_holding c i = search (rules, items.the_lemmas)

pub holding_trie : (c : Child) (i : items.Item) → child_trie (holding c i) ≡ item_trie i
holding_trie c i = search (rules, items.the_lemmas)
