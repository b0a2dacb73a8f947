-- The data of an item's trie is that of the item; the data of the rows of a section, and of the table that they are.
use Rattle.std.proofs.Common.{◌≡◌, ℕ, suc, true, false, List, [], ◌∷◌, ◌++◌, map, Some, None, refl, ap}
use Rattle.std.proofs.Common.{◌∙◌, subst, sym, rules}
use Rattle.std.proofs.lemmas.List.{map-append}
use Rattle.std.proofs.lemmas.Simd.{map-map}
use Rattle.basic_toml_value.specs.Data.{Data, item, items_of, members_of}
use Rattle.basic_toml_grammar.specs.Standing.{table}
use Rattle.basic_toml_grammar.specs.Growth as growth
use Rattle.basic_toml_grammar.specs.Trie.{Trie, trie, bare_tries}
use Rattle.basic_toml_read.specs.declared.section.Row.{Row}
use Rattle.basic_toml_plain.specs.Plain.{are_few_simple, rows_data}
use Rattle.basic_toml_plain.specs.Tries.{tree_data, row_trie, rows_trie}
use Rattle.basic_toml_plain.specs.Values.{section_data}
use Rattle.basic_toml_plain.proofs.RowsData.{few_data, keys_data, rows_agree}
use Rattle.basic_toml_grow.specs.declared.item.Item.{Item, Section, the_lemmas}
use Rattle.basic_toml_grow.specs.declared.item.Item.TheOpen.{Item-F, Child-F, Table-F}
use Rattle.basic_toml_grow.specs.declared.item.Item.TheViews.{roll-Item, roll-Child, roll-Table}
use Rattle.basic_toml_grow.specs.declared.item.Item.TheFolds.{ind-Item, ind-Table, map-Item, map-Child, map-Table}
use Rattle.basic_toml_grow.specs.declared.item.Child.{Child}
use Rattle.basic_toml_grow.specs.declared.item.Table.{Table}
use Rattle.basic_toml_grow.specs.Simple.{section_table}
use Rattle.basic_toml_grow.proofs.SectionTables.{section_trie}
use Rattle.basic_toml_grow.specs.Item.{item_trie, child_trie, table_trie, by_numbers}
use Rattle.basic_toml_tree.specs.Data.{data_of, child_data, table_data}

-- the data at numbers
items_numbers : (n : ℕ) (ts : List Trie) → growth.items_of (bare_tries (by_numbers n ts)) ≡ items_of (map tree_data ts)
items_numbers n [] = refl
items_numbers n (t ∷ ts) = ap (λ ds. item (tree_data t) ds) (items_numbers (suc n) ts)

numbers_data : (ts : List Trie) (t : Trie) → tree_data (trie None None (by_numbers 0 (ts ++ t ∷ [])))
    ≡ Data.array (items_of (map tree_data ts ++ tree_data t ∷ []))
numbers_data [] t = refl
numbers_data (b ∷ ts) t =
    ap Data.array (items_numbers 0 (b ∷ (ts ++ t ∷ [])) ∙ ap items_of (map-append tree_data (b ∷ ts) (t ∷ [])))

-- what is to be shown of an item, a child and a table
abbrev OfItem : Item → Type 0
OfItem i = tree_data (item_trie i) ≡ data_of i

abbrev OfChild : Child → Type 0
OfChild c = tree_data (child_trie c) ≡ child_data c

abbrev OfTable : Table → Type 0
OfTable t = tree_data (table_trie t) ≡ table_data t

all_agree : {A : Type 0} (f : A → Trie) (g : A → Data) (xs : List ((x : A) × (tree_data (f x) ≡ g x)))
    → map tree_data (map f (map (λ e. e.0) xs)) ≡ map g (map (λ e. e.0) xs)
all_agree f g [] = refl
all_agree f g (e ∷ es) = rw (e.1, all_agree f g es) refl

entries_agree : (ps : List (List ℕ × ((c : Child) × OfChild c)))
    → let entries = map {B = List ℕ × Child} (λ p. (p.0, p.1.0)) ps in
    map {B = List ℕ × Data} (λ p. (p.0, tree_data p.1)) (map {B = List ℕ × Trie} (λ p. (p.0, child_trie p.1)) entries)
    ≡ map (λ p. (p.0, child_data p.1)) entries
entries_agree [] = refl
entries_agree (p ∷ ps) = rw (p.1.1, entries_agree ps) refl

section_agrees : (rows : List Row) → tree_data (rows_trie rows) ≡ section_data rows
section_agrees rows = rw (keys_data (Some (table false true false)) (map row_trie rows), rows_agree rows) refl

-- an item whose parts come with what is to be shown of them
abbrev With : {A : Type 0} → (A → Type 0) → Type 0
With {A} P = (x : A) × P x

item_agrees : (y : Item-F (With OfItem) (With OfChild) (With OfTable))
    → OfItem (roll-Item (map-Item _ _ _ Item Child Table (λ e. e.0) (λ e. e.0) (λ e. e.0) y))
item_agrees (Item-F.Array es) = search (rules, the_lemmas, all_agree child_trie child_data es.items)
item_agrees (Item-F.Section rs) = simp the_lemmas (section_agrees rs)
item_agrees (Item-F.Inline e) = search (rules, the_lemmas, e.value.1)
item_agrees (Item-F.Table e) = search (rules, the_lemmas, e.value.1)
item_agrees (Item-F.Tables e) =
    search (
      rules,
      the_lemmas,
      numbers_data (map table_trie (map (λ e. e.0) e.value.0.items)) (table_trie e.value.1.0),
      all_agree table_trie table_data e.value.0.items,
      e.value.1.1,
    )
item_agrees (Item-F.Sections tables) =
    simp the_lemmas (numbers_data _ (rows_trie tables.value.1.1) ∙ simp (map-map, section_agrees))
item_agrees y = search (rules, the_lemmas)

item_case : (x : Item-F Item Child Table) (y : Item-F (With OfItem) (With OfChild) (With OfTable))
    → map-Item _ _ _ Item Child Table (λ e. e.0) (λ e. e.0) (λ e. e.0) y ≡ x → OfItem (roll-Item x)
item_case x y is = subst (λ x. OfItem (roll-Item x)) is (item_agrees y)

child_case : (x : Child-F Item Child Table) (y : Child-F (With OfItem) (With OfChild) (With OfTable))
    → map-Child _ _ _ Item Child Table (λ e. e.0) (λ e. e.0) (λ e. e.0) y ≡ x → OfChild (roll-Child x)
child_case x y is = subst (λ x. OfChild (roll-Child x)) is (search (rules, the_lemmas, y.item.1))

table_case : (x : Table-F Item Child Table) (y : Table-F (With OfItem) (With OfChild) (With OfTable))
    → map-Table _ _ _ Item Child Table (λ e. e.0) (λ e. e.0) (λ e. e.0) y ≡ x → OfTable (roll-Table x)
table_case x y is =
    subst (λ x. OfTable (roll-Table x)) is (simp the_lemmas (keys_data (Some (table y.passed y.named y.dotted)) _
    ∙ ap (λ ds. Data.table (members_of ds)) (entries_agree y.entries)))

pub item_trie_data : (i : Item) → tree_data (item_trie i) ≡ data_of i
item_trie_data = ind-Item OfItem OfChild OfTable item_case child_case table_case

pub table_trie_data : (t : Table) → tree_data (table_trie t) ≡ table_data t
table_trie_data = ind-Table OfItem OfChild OfTable item_case child_case table_case

pub section_rows : (rows : List Row) → are_few_simple 0 rows ≡ true → data_of (Section rows) ≡ rows_data rows
section_rows rows simple =
    let item : data_of (Section rows) ≡ section_data rows = search (rules, the_lemmas) in
    item ∙ sym (few_data rows simple)

pub section_table_data : (s : ℕ) (rows : List Row) → are_few_simple 0 rows ≡ true
    → table_data (section_table s rows) ≡ rows_data rows
section_table_data s rows simple =
    rw (← table_trie_data (section_table s rows), ← section_trie s rows simple)
    (item_trie_data (Section rows) ∙ section_rows rows simple)
