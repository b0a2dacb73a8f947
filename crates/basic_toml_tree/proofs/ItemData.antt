-- The data of items and their parts; that of rows, each of one key, is a table.
use Rattle.std.proofs.Common.{◌≡◌, ℕ, List, [], ◌∷◌, ◌++◌, ap, refl, sym, ◌∙◌, map, rules, Vec, Box, Global}
use Rattle.std.proofs.Common.{Option, Some, None, true, false, cond, length, ◌==◌, Result, Ok, Err, IfErr, arith}
use Rattle.std.proofs.Common.{◌⊎◌, inl, inr}
use Rattle.std.specs.Option.{option_map}
use Rattle.std.specs.Str.{bytes_eq}
use Rattle.std.proofs.lemmas.Bool.{false≢true}
use Rattle.std.proofs.lemmas.List.{map-append}
use Rattle.std.proofs.Math.Seq.{take-nil, drop-nil}
use Rattle.std.proofs.lemmas.Simd.{map-map}
use Rattle.basic_toml_value.specs.Data.{Data, Members, items_of, members_of}
use Rattle.basic_toml_value.specs.Entries.{seen, texts_of}
use Rattle.basic_toml_value.specs.Pairs.{keys_of, value_at}
use Rattle.basic_toml_value.specs.View.{view}
use Rattle.basic_toml_value.proofs.KeysChanged.{value_at-map}
use Rattle.basic_toml_value.specs.declared.pairs.Pair.{Pair}
use Rattle.basic_toml_value.specs.declared.value.Value as values
use Rattle.basic_toml_grammar.specs.Growth.{grown, Branches, no_branches, branch, grow_at, grow_all, closed}
use Rattle.basic_toml_grammar.specs.Growth.{closed_branches}
use Rattle.basic_toml_grammar.specs.Mentions.{finished, row_mentions}
use Rattle.basic_toml_grammar.specs.Steps.{key, number, Path}
use Rattle.basic_toml_read.specs.declared.section.Raw.TheOpen.{Raw-F}
use Rattle.basic_toml_read.specs.declared.section.Raw as raws
use Rattle.basic_toml_read.specs.declared.section.Element.{Element}
use Rattle.basic_toml_read.specs.declared.section.Row.{Row}
use Rattle.basic_toml_read.specs.declared.section.Rows.{Rows}
use Rattle.basic_toml_read.specs.SectionView.{Lined, lined_of, rows_from}
use Rattle.basic_toml_plain.specs.Plain.{are_few_simple, is_plain, plain_array, plain_data, element_data, rows_data}
use Rattle.basic_toml_plain.specs.PlainTables.{SectionTables}
use Rattle.basic_toml_plain.specs.Values.{row_pair, sections_data, value_pair}
use Rattle.basic_toml_plain.proofs.PlainSeen.{elements_finished}
use Rattle.basic_toml_plain.proofs.DataParts.{value_keys, array_seen}
use Rattle.basic_toml_plain.proofs.RowsData.{few_data, inline_rows}
use Rattle.basic_toml_grow.specs.declared.item.Item as items
use Rattle.basic_toml_grow.specs.declared.item.Item.{Item, the_lemmas, Array, Plain, Sections, Tables}
use Rattle.basic_toml_grow.specs.declared.item.Child.{Child, out-Child}
use Rattle.basic_toml_grow.specs.declared.item.Table.{Table, out-Table}
use Rattle.basic_toml_tree.specs.Nodes.{data_among, data_at, is_table, elements_in}
use Rattle.basic_toml_tree.specs.Data.{data_of, child_data, table_data, child_pair, HoldsAny}

-- the data of a child is that of its item
pub child_item : (c : Child) → child_data c ≡ data_of (out-Child c).item
child_item c = search (rules, the_lemmas)

-- the data of a table is that of its entries
pub table_members : (t : Table)
    → table_data t ≡ Data.table (members_of (map (λ p. (p.0, child_data p.1)) (out-Table t).entries))
table_members t = search (rules, the_lemmas)

pub table_is_table : (t : Table) → (members : Members) × (table_data t ≡ Data.table members)
table_is_table t = (members_of (map (λ p. (p.0, child_data p.1)) (out-Table t).entries), table_members t)

pub table_of_pairs : (t : Table) (pairs : List (Pair Child)) → seen pairs ≡ (out-Table t).entries
    → table_data t ≡ Data.table (members_of (map child_pair pairs))
table_of_pairs t pairs same = rw (table_members t, ← same, map-map) refl

-- where memory is refused to a table that has entries or rows, it holds something
refused : {A B E : Type 0} (f : A → List ℕ × Data) (xs : List A) (d : Data) (result : Result B E)
    → d ≡ Data.table (members_of (map f xs)) → (length xs == 0) ≡ false → IfErr result (λ e. HoldsAny d)
refused f xs d (Ok x) is some = tt
refused f [] d (Err e) is some = absurd (cc)
refused f (x ∷ xs) d (Err e) is some = λ none. cc

pub refused_held : {A E : Type 0} (t : Table) (result : Result A E) → (length (out-Table t).entries == 0) ≡ false
    → IfErr result (λ e. HoldsAny (table_data t))
refused_held t result some =
    refused (λ p. (p.0, child_data p.1)) (out-Table t).entries (table_data t) result (table_members t) some

pub refused_rows : {A E : Type 0} (rows : List Row) (d : Data) (result : Result A E) → d ≡ rows_data rows
    → are_few_simple 0 rows ≡ true → (length rows == 0) ≡ false → IfErr result (λ e. HoldsAny d)
refused_rows rows d result is simple some = refused row_pair rows d result (is ∙ few_data rows simple) some

-- the data of items: arrays and tables of plain values, arrays of other items, and of tables
pub plain_item : (es : List Element) → data_of (Plain es) ≡ finished (plain_array es)
plain_item es = search (rules, the_lemmas)

pub rows_item : (rs : List Row) → data_of (items.Rows rs) ≡ rows_data rs
rows_item rs = search (rules, the_lemmas)

pub children_data : (children : Vec Child Global)
    → data_of (Array children) ≡ Data.array (items_of (map child_data children.items))
children_data children = search (rules, the_lemmas)

pub tables_data : (tables : Box (Vec Table Global × Table) Global)
    → data_of (Tables tables)
    ≡ Data.array (items_of (map table_data tables.value.0.items ++ table_data tables.value.1 ∷ []))
tables_data tables = search (rules, the_lemmas)

pub sections_item : (tables : Box SectionTables Global) → data_of (Sections tables) ≡ sections_data tables.value
sections_item tables = search (rules, the_lemmas)

-- what an array of plain values is seen as
pub plain_seen : (elements : Vec values.Value Global) (es : List Element)
    → map view elements.items ≡ map element_data es → view (values.Array elements) ≡ data_of (Plain es)
plain_seen elements es same = array_seen elements ∙ rw (same, plain_item es, elements_finished es) refl

-- copies of the same pairs have the same keys
pub keys_copied : (copies : List (Pair values.Value)) (pairs : List (Pair Child)) (old : List (List ℕ × Child))
    → map value_pair copies ≡ map child_pair pairs → seen pairs ≡ old → keys_of old ≡ texts_of copies
keys_copied copies pairs old same is = rw (← is, value_keys copies, same) (simp map-map)

-- what an array is seen as that has the tables before and the latest
pub tables_seen : (before next : Vec values.Value Global) (v : values.Value)
    (tables : Box (Vec Table Global × Table) Global) → next.items ≡ before.items ++ v ∷ []
    → map view before.items ≡ map table_data tables.value.0.items → view v ≡ table_data tables.value.1
    → view (values.Array next) ≡ data_of (Tables tables)
tables_seen before next v tables next_is same equal =
    array_seen next ∙ rw (next_is, map-append view before.items (v ∷ []), same, equal) (sym (tables_data tables))

-- the data at a key of a table is that of its child there
data_among-members : (ps : List (List ℕ × Data)) (k : List ℕ) → data_among (members_of ps) k ≡ value_at ps k
data_among-members [] k = refl
data_among-members (p ∷ ps) k = ap (cond (bytes_eq k p.0) (Some p.1)) (data_among-members ps k)

data_at_key : (t : Table) (k : List ℕ)
    → data_at (table_data t) k ≡ option_map child_data (value_at (out-Table t).entries k)
data_at_key t k = rw (table_members t, data_among-members, value_at-map child_data) refl

pub data_at_found : (t : Table) (k : List ℕ) (c : Child) → value_at (out-Table t).entries k ≡ Some c
    → data_at (table_data t) k ≡ Some (child_data c)
data_at_found t k c found = data_at_key t k ∙ ap (option_map child_data) found

pub data_at_absent : (t : Table) (k : List ℕ) → value_at (out-Table t).entries k ≡ None
    → data_at (table_data t) k ≡ None
data_at_absent t k absent = data_at_key t k ∙ ap (option_map child_data) absent

-- branches that close to a table do so with one more at a key
key_grows : (bs : Branches) (k : List ℕ) (p : Path) (v : Option Data) → is_table (closed_branches bs) ≡ true
    → is_table (closed_branches (grow_at bs (key k) p v)) ≡ true
key_grows no_branches k p v table = refl
key_grows (branch (number n) g bs) k p v table = absurd (false≢true table)
key_grows (branch (key l) g bs) k p v table = grind arith

rows_grow : (ls : List Lined) (bs : Branches) → is_table (closed_branches bs) ≡ true
    → is_table (closed (grow_all (grown None bs) (row_mentions [] (rows_from [] ls)))) ≡ true
rows_grow [] bs table = table
rows_grow (l ∷ ls) bs table =
    rw (take-nil l.parents, drop-nil l.parents) (rows_grow ls (grow_at bs (key l.key.text) [] (Some (finished l.value)))
    (key_grows bs l.key.text [] (Some (finished l.value)) table))

pub rows_are_table : (rs : List Row) → is_table (rows_data rs) ≡ true
rows_are_table rs = rows_grow (map lined_of rs) no_branches refl

-- an item, and a value as it was read, that holds a table
pub item_is_table : (i : Item)
    → ((rs : List Row) × (i ≡ items.Rows rs)) ⊎ ((t : Box Table Global) × (i ≡ items.Inline t))
    → is_table (data_of i) ≡ true
item_is_table i (inl is) = rw (is.1, rows_item is.0) (rows_are_table is.0)
item_is_table i (inr is) = rw is.1 (search (rules, the_lemmas))

pub raw_is_table : (v : raws.Raw) (rs : Vec Row Global) → v ≡ raws.Inline rs → is_table (plain_data v) ≡ true
raw_is_table v rs is = rw (is, inline_rows rs) (rows_are_table rs.items)

-- what is no array has no elements
no_elements : (d : Data) → is_table d ≡ true → elements_in d ≡ []
no_elements (Data.table z) is = refl
no_elements d is = absurd (false≢true is)

pub raw_no_elements : (v : raws.Raw) → is_plain v 0 ≡ true → ((es : Vec Element Global) → v ≡ raws.Array es → ⊥)
    → elements_in (plain_data v) ≡ []
raw_no_elements v plain other = go (raws.out-Raw v) (sym (raws.roll-out-Raw v))
  where
    go : (x : Raw-F raws.Raw Element Row Rows) → v ≡ raws.roll-Raw x → elements_in (plain_data v) ≡ []
    go (Raw-F.Array z) is = absurd (other z (is ∙ search (rules, raws.the_lemmas)))
    go (Raw-F.Inline z) is = no_elements (plain_data v) (raw_is_table v z (is ∙ search (rules, raws.the_lemmas)))
    go (Raw-F.Dotted z) is =
        let not_plain : is_plain (raws.roll-Raw (Raw-F.Dotted z)) 0 ≡ false = search (rules, raws.the_lemmas) in
        absurd (cc not_plain)
    go x is = rw is (search (rules, raws.the_lemmas))

pub rows_no_elements : (rs : List Row) → elements_in (rows_data rs) ≡ []
rows_no_elements rs = no_elements (rows_data rs) (rows_are_table rs)
