-- What an item is, as it is made, and what stands in the trie where it is.
use Rattle.std.proofs.Common.{◌≡◌, Bool, true, false, Option, Some, refl, ap, sym, ◌∙◌, subst, rules}
use Rattle.basic_toml_grammar.specs.Standing.{Standing, array, table, value}
use Rattle.basic_toml_grammar.specs.Trie.{standing}
use Rattle.basic_toml_grow.specs.declared.item.Item.{Item, out-Item, the_lemmas}
use Rattle.basic_toml_grow.specs.declared.item.Item.TheOpen.{Item-F}
use Rattle.basic_toml_grow.specs.declared.item.Item.TheViews.{roll-Item}
use Rattle.basic_toml_grow.specs.declared.item.Child.{Child}
use Rattle.basic_toml_grow.specs.declared.item.Table.{Table}
use Rattle.basic_toml_grow.specs.Item.{item_trie, table_trie}

-- whether it is an array of tables
abbrev pub stands_array : Option Standing → Bool
stands_array (Some (array n)) = true
stands_array _ = false

-- an item, as it is made
pub shape : (i : Item) (x : Item-F Item Child Table) → out-Item i ≡ x → i ≡ roll-Item x
shape i x is = let whole : roll-Item (out-Item i) ≡ i = search (rules, the_lemmas) in sym whole ∙ ap roll-Item is

-- what stands where an item is
abbrev pub item_standing : Item-F Item Child Table → Option Standing → Type 0
item_standing (Item-F.Table t) o = o ≡ standing (table_trie t.value)
item_standing (Item-F.Section rows) o = o ≡ Some (table false true false)
item_standing (Item-F.Sections tables) o = stands_array o ≡ true
item_standing (Item-F.Tables tables) o = stands_array o ≡ true
item_standing _ o = o ≡ Some value

stands_item : (x : Item-F Item Child Table) → item_standing x (standing (item_trie (roll-Item x)))
stands_item (Item-F.Integer z) = search (rules, the_lemmas)
stands_item _ = search (rules, the_lemmas)

pub standing_here : (i : Item) → item_standing (out-Item i) (standing (item_trie i))
standing_here i = subst (λ j. item_standing (out-Item i) (standing (item_trie j))) (sym (shape i (out-Item i) refl))
    (stands_item (out-Item i))
