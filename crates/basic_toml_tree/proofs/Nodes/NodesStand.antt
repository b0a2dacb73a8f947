-- A node below another one stands at the path of that one and one more step.
use Rattle.std.proofs.Common.{◌≡◌, ◌⊎◌, inl, ◌==◌, ℕ, Bool, true, false, List, [], ◌∷◌, ◌++◌, Some, refl, ap, sym, ◌∙◌}
use Rattle.std.proofs.Common.{arith, rules, Vec, Global, slice_get, ◌≤◌, Option, IfSome, IfNone, MatchOption, length}
use Rattle.std.proofs.Common.{None, option_and_then, Bor, map, zero, suc, ◌+◌, Box, inr}
use Rattle.basic_toml_value.specs.Data.{Data}
use Rattle.basic_toml_grammar.specs.Steps.{Step, number, Path}
use Rattle.basic_toml_grammar.specs.Standing as standing
use Rattle.basic_toml_grammar.specs.Trie.{Trie, trie, nothing, below, find}
use Rattle.basic_toml_grammar.specs.Mentions.{finished, finished_elements}
use Rattle.basic_toml_read.specs.declared.section.Element.{Element}
use Rattle.basic_toml_read.specs.SectionView.{raw_of, Placed, placed_of, elements_from}
use Rattle.basic_toml_plain.specs.Plain.{plain_array, are_few_simple}
use Rattle.basic_toml_plain.specs.Tries.{leaf, rows_trie}
use Rattle.basic_toml_grow.specs.declared.item.Item.{Item, the_lemmas, Array, Sections, Tables}
use Rattle.basic_toml_grow.specs.declared.item.Child.{Child}
use Rattle.basic_toml_tree.specs.declared.tree.Tree.{Tree}
use Rattle.basic_toml_tree.specs.declared.node.Node.{Node}
use Rattle.basic_toml_tree.specs.declared.spot.Spot.{Spot}
use Rattle.basic_toml_tree.specs.declared.spot.Spot.TheVariants as spots
use Rattle.basic_toml_tree.specs.Stands.{trie_at, tree_trie, spot_trie, wraps_table, is_root, StandsAt, AtKey, IsBeside}
use Rattle.basic_toml_tree.specs.Stands.{ComesFrom, node_origins, AtNumber, StartIsKept, IsPlainElement, spot_origins}
use Rattle.basic_toml_tree.specs.Stands.{SpotComes}
use Rattle.basic_toml_tree.proofs.Nodes.KeysLead.{KeepsKeys, keys_beside}
use Rattle.basic_toml_tree.specs.Data.{child_data, table_data, data_of}
use Rattle.basic_toml_tree.specs.Nodes.{node_data, data_at, elements_in}
use Rattle.basic_toml_tree.specs.Outer.{around}
use Rattle.basic_toml_tree.specs.Paths.{data_by, data_along}
use Rattle.basic_toml_grow.specs.Origins.{child_origins, value_origins, elements_origins, item_origins, of_table}
use Rattle.basic_toml_grow.specs.Origins.{section_origins, table_within}
use Rattle.basic_toml_grow.proofs.ItemTries.{table_entries_trie}
use Rattle.basic_toml_tree.proofs.Nodes.NodesCome.{comes_alike, comes_on, table_comes}
use Rattle.basic_toml_grow.proofs.Origins.OriginsSeen.{array_seen, sections_seen, tables_seen}
use Rattle.basic_toml_tree.proofs.Nodes.Lines.{around_number}
use Rattle.basic_toml_tree.proofs.Nodes.NodesInOrder.{array_elements, read_mapped, sections_elements, tables_elements}
use Rattle.std.proofs.lemmas.List.{length-map, map-append}
use Rattle.basic_toml_grammar.specs.Nodes.{raw_name, raw_is_slice}
use Rattle.basic_toml_grammar.specs.Sections.{Raw}
use Rattle.basic_toml_read.specs.declared.section.Raw as raws
use Rattle.basic_toml_read.specs.declared.section.Raw.TheOpen.{Raw-F}
use Rattle.basic_toml_read.specs.declared.section.Row.{Row}
use Rattle.basic_toml_read.specs.declared.section.Rows as code_rows
use Rattle.basic_toml_tree.specs.declared.plain_value.PlainValue.{PlainValue}
use Rattle.basic_toml_tree.specs.Nodes as seen
use Rattle.basic_toml_tree.specs.Origin.{is_string}
use Rattle.basic_toml_tree.proofs.Nodes.RowNodesTold.{if_there}
use Rattle.basic_toml_plain.specs.PlainTables.{SectionTable, SectionTables, tables_in}
use Rattle.basic_toml_plain.specs.Values.{section_data}
use Rattle.basic_toml_plain.proofs.RowsData.{few_data}
use Rattle.basic_toml_grow.specs.Item.{by_numbers, item_trie, table_trie}
use Rattle.basic_toml_grow.specs.Simple.{table_of as table_read}
use Rattle.basic_toml_grow.specs.declared.item.Table.{Table}
use Rattle.basic_toml_grow.proofs.SectionTables.{section_trie, section_within}
use Rattle.basic_toml_grow.proofs.TablesOpened.{section_item_trie, sections_trie, tables_trie}
use Rattle.basic_toml_tree.specs.HeaderTables.{table_of}
use Rattle.basic_toml_tree.specs.declared.spot.HeaderTable.{HeaderTable}
use Rattle.basic_toml_tree.proofs.TrieData.{section_table_data}

-- elements, one after another
datas_placed : (ls : List Placed) → seen.listed (finished_elements (elements_from ls)) ≡ map (λ e. finished e.value) ls
datas_placed [] = refl
datas_placed (e ∷ ls) = ap (λ ds. finished e.value ∷ ds) (datas_placed ls)

origins_placed : (s : ℕ) (ls : List Placed)
    → elements_origins s (elements_from ls) ≡ map (λ e. value_origins s e.offset e.value) ls
origins_placed s [] = refl
origins_placed s (e ∷ ls) = ap (λ os. value_origins s e.offset e.value ∷ os) (origins_placed s ls)

-- the data of plain elements
pub plain_length : (es : List Element) → length (seen.elements_in (finished (plain_array es))) ≡ length es
plain_length es = rw (datas_placed (map placed_of es)) (simp length-map)

pub plain_read : (es : List Element) (n : ℕ) (at : ℕ) (v : Raw)
    → slice_get (map placed_of es) n ≡ Some (record { offset = at; value = v })
    → slice_get (seen.elements_in (finished (plain_array es))) n ≡ Some (finished v)
plain_read es n at v read =
    rw (datas_placed (map placed_of es)) (read_mapped (λ e. finished e.value) (map placed_of es) n _ read)

-- where a plain value comes from
own_is : (v : Raw) (at s : ℕ)
    → IfSome (value_origins s at v []) (λ o. o.made ≡ false
    → o ≡ record { made = false; name = raw_name v; start = at; section = s; is_slice = raw_is_slice v })
own_is (Raw.string z c) at s = λ apart. refl
own_is v at s = λ apart. refl

-- it is a slice where the code has one
plain_slice : (v : raws.Raw) → raw_is_slice (raw_of v) ≡ is_string (raws.out-Raw v)
plain_slice v = ap (λ v. raw_is_slice (raw_of v)) (sym (raws.roll-out-Raw v)) ∙ go (raws.out-Raw v)
  where
    go : (x : Raw-F raws.Raw Element Row code_rows.Rows) → raw_is_slice (raw_of (raws.roll-Raw x)) ≡ is_string x
    go (Raw-F.String z) = search (rules, raws.the_lemmas)
    go x = search (rules, raws.the_lemmas)

pub value_comes : (v : PlainValue) (spot : Spot) → spot ≡ spots.Plain v → (count at s : ℕ)
    → SpotComes (value_origins s at (raw_of v.value.now)) count spot at
value_comes v spot is count at s = rw is (record {
  section = s;
  own = rw (← (plain_slice v.value.now)) (own_is (raw_of v.value.now) at s);
  marked = if_there (value_origins s at (raw_of v.value.now) []) (λ o is. tt);
  parts = λ r q. refl;
})

-- an element, from an array of plain elements
module _ (from node : Node) (es : List Element) (n : ℕ) (is : IsPlainElement from es n node)
    (array : (at s : ℕ) → spot_origins from.spot at s ≡ value_origins s at (plain_array es)) where
  pub element_comes : (s : ℕ) → ComesFrom (λ q. node_origins s from (number n ∷ q)) node
  element_comes s =
      let read = read_mapped (λ e. value_origins s e.offset e.value) (map placed_of es) n _ is.placed in
      comes_alike (λ q. rw (array from.start s, origins_placed s (map placed_of es), read) refl)
      (value_comes is.plain node.spot is.spot node.count node.start s)

pub at_more : (p : Path) (s : Step) (t : Trie) → trie_at (p ++ s ∷ []) t ≡ below s (trie_at p t)
at_more [] s t = refl
at_more (r ∷ p) s t = at_more p s (below r t)

-- the data one step on from a path
data_more : (p : Path) (s : Step) (d : Data) → data_along (p ++ s ∷ []) d ≡ option_and_then (data_by s) (data_along p d)
data_more [] s d = grind arith
data_more (r ∷ p) s d = grind (arith, data_more p s)

pub no_root : (p : Path) (s : Step) → is_root (p ++ s ∷ []) ≡ false
no_root [] s = refl
no_root (r ∷ p) s = refl

-- a node is that of a trie, if that tells of anything
abbrev pub IsOf : Trie → Node → Type 0
IsOf t node = (t ≡ nothing) ⊎ ((spot_trie node.spot ≡ t) × (wraps_table node.spot ≡ false))

abbrev pub StepsOn : Node → Step → Node → Type 0
StepsOn from s node = IsOf (below s (spot_trie from.spot)) node

-- one step on from a node
pub further : (from node : Node) (s : Step) → (wraps_table from.spot ≡ false → StepsOn from s node) → (tree : Tree)
    (p : Path) → StandsAt tree p from → IsOf (trie_at (p ++ s ∷ []) (tree_trie tree)) node
further from node s more tree p stands = grind (arith, at_more p s (tree_trie tree), stands.there, more)

module _ (from node : Node) (s : Step) (same : node.tree ≡ from.tree)
    (read : data_by s (node_data from) ≡ Some (node_data node))
    (more : wraps_table from.spot ≡ false → StepsOn from s node)
    (comes : (at : ℕ) → ComesFrom (λ q. node_origins at from (s ∷ q)) node) (tree : Tree) (p : Path)
    (stands : StandsAt tree p from) where
  pub stands_on : (node.count == 0) ≡ false → StartIsKept tree (around (p ++ s ∷ [])) node.outer
      → KeepsKeys tree (p ++ s ∷ []) node → StandsAt tree (p ++ s ∷ []) node
  stands_on counted kept keys = record {
    within = ap (λ t. t.now) same ∙ stands.within;
    holds = data_more p s (table_data tree.root) ∙ ap (option_and_then (data_by s)) stands.holds ∙ read;
    root = counted ∙ sym (no_root p s);
    there = further from node s more tree p stands;
    comes = comes_on from node s tree p stands.comes comes;
    outer = kept;
    count = keys.0;
    keys = keys.1;
    rows = keys.2;
  }

-- what is given for a key: the data of the node stand there, and so does the node in the tree
abbrev pub GivenAt : Node → List ℕ → Node → Type 0
GivenAt from k node = record {
  «data» : data_at (node_data from) k ≡ Some (node_data node);
  stands : AtKey from k node;
}

-- an array is no root
abbrev pub tells_table : Trie → Bool
tells_table (trie (Some (standing.table p n d)) v ts) = true
tells_table _ = false

pub no_array_root : (from : Node) (tree : Tree) (p : Path) → StandsAt tree p from
    → tells_table (spot_trie from.spot) ≡ false → is_root p ≡ false
no_array_root from tree (s ∷ p) stands array = refl
no_array_root from tree [] stands array = grind (arith, stands.there, table_entries_trie tree.root)

-- what is answered for a number of an array, with what is said of the number
abbrev pub GivenElement : Type 0 → Node → ℕ → Option Node → Type 0
GivenElement fits from n result = record {
  within : fits;
  «data» : MatchOption result (length (elements_in (node_data from)) ≤ n)
      (λ node. slice_get (elements_in (node_data from)) n ≡ Some (node_data node));
  stands : IfSome result (AtNumber from n);
}

-- A node beside an array, with the keys of it and the same table around, is that of an element.
pub beside_given : {fits : Type 0} (from node : Node) (here : Spot) (n : ℕ) → IsBeside from here node
    → tells_table (spot_trie from.spot) ≡ false → slice_get (elements_in (node_data from)) n ≡ Some (node_data node)
    → (wraps_table from.spot ≡ false → StepsOn from (number n) node)
    → ((node.count == 0) ≡ false → (s : ℕ) → ComesFrom (λ q. node_origins s from (number n ∷ q)) node)
    → fits → GivenElement fits from n (Some node)
beside_given from node here n beside array read more comes within = record {
  within = within;
  «data» = read;
  stands = λ tree p stands.
      let counted : (node.count == 0) ≡ false =
      ap (λ c. c == 0) beside.count ∙ stands.root ∙ no_array_root from tree p stands array in
      stands_on from node (number n) beside.tree read more (comes counted) tree p stands counted
      (rw (around_number p n, beside.outer) stands.outer) (keys_beside from node here n beside tree p stands);
}

-- that of plain values
pub plain_given : {fits : Type 0} (from : Node) (es : List Element) (n : ℕ) (result : Option Node)
    → node_data from ≡ finished (plain_array es) → spot_trie from.spot ≡ leaf (finished (plain_array es))
    → ((at s : ℕ) → spot_origins from.spot at s ≡ value_origins s at (plain_array es)) → record {
      within : fits;
      none : IfNone result (length es ≤ n);
      some : IfSome result (IsPlainElement from es n);
    }
    → GivenElement fits from n result
plain_given from es n None is here origins told =
    record { within = told.within; «data» = rw (is, plain_length es) told.none; stands = tt }
plain_given from es n (Some node) is here origins told =
    let some = told.some in
    let read : slice_get (elements_in (node_data from)) n ≡ Some (node_data node) =
    rw (is, some.spot) (plain_read es n node.start (raw_of some.plain.value.now) some.placed) in
    beside_given from node node.spot n some.beside (ap tells_table here) read
    (λ own. inl (ap (below (number n)) here)) (λ counted. element_comes from node es n some origins) told.within

-- and that of other items
pub literal_given : {fits : Type 0} (from node : Node) (n : ℕ) (b : Bor Item) → from.spot ≡ spots.Item b
    → (children : Vec Child Global) (spot : Spot) (child : Child) → b.now ≡ Array children
    → slice_get children.items n ≡ Some child → node_data node ≡ child_data child → IsBeside from spot node
    → ComesFrom (child_origins child) node → fits → GivenElement fits from n (Some node)
literal_given from node n b at children spot child is there same beside comes within =
    let read : slice_get (elements_in (node_data from)) n ≡ Some (node_data node) =
    rw (at, is, array_elements children, same) (read_mapped child_data children.items n child there) in
    let origins = read_mapped child_origins children.items n child there in
    beside_given from node spot n beside (rw (at, is) (search (rules, the_lemmas))) read
    (λ own. inl (rw (at, is) (search (rules, the_lemmas)))) (λ counted s. comes_alike
    (λ q. rw (at, is, array_seen children from.start s, origins) refl) comes) within

find_number : (k n m : ℕ) (ts : List Trie) (u : Trie) → m ≡ k + n → slice_get ts n ≡ Some u
    → find (number m) (by_numbers k ts) ≡ u
find_number k n m [] u is found = absurd (cc)
find_number k zero m (t ∷ ts) u is found = grind arith
find_number k (suc n) m (t ∷ ts) u is found = grind (arith, find_number (suc k) n m ts u)

-- A table is that of an array of tables at a number: by its data, its trie and its origins.
pub record TableAmong (i : Item) (n : ℕ) (t : Table) : Type 0 where
  pub is_data : slice_get (elements_in (data_of i)) n ≡ Some (table_data t)
  pub tables : tells_table (item_trie i) ≡ false
  pub is_trie : below (number n) (item_trie i) ≡ table_trie t
  pub origins : (at s : ℕ) (q : Path) → item_origins i at s (number n ∷ q) ≡ of_table at s (table_within t) q

-- what is read of the earlier ones and the latest
mapped : {A B : Type 0} (f : A → B) (earlier : List A) (latest : A) (n : ℕ) (x : A)
    → slice_get (earlier ++ latest ∷ []) n ≡ Some x → slice_get (map f earlier ++ f latest ∷ []) n ≡ Some (f x)
mapped f earlier latest n x read =
    rw (map-append f earlier (latest ∷ [])) at (read_mapped f (earlier ++ latest ∷ []) n x read)

pub table_among : (tables : Box (Vec Table Global × Table) Global) (n : ℕ) (t : Table)
    → slice_get (tables.value.0.items ++ tables.value.1 ∷ []) n ≡ Some t → TableAmong (Tables tables) n t
table_among tables n t read =
    let ts : List Table = tables.value.0.items in
    let last = tables.value.1 in
    let within = mapped table_within ts last n t read in
    record {
      is_data = rw (tables_elements tables) (mapped table_data ts last n t read);
      tables = ap tells_table (tables_trie tables);
      is_trie = rw (tables_trie tables) (find_number 0 n n (map table_trie ts ++ table_trie last ∷ []) (table_trie t)
          (omega arith) (mapped table_trie ts last n t read));
      origins = λ at s q. rw (tables_seen tables at s, read_mapped (of_table at s) _ n _ within) refl;
    }

pub section_among : (tables : Box SectionTables Global) (n : ℕ) (t : SectionTable)
    → slice_get (tables_in tables.value) n ≡ Some t → are_few_simple 0 t.1 ≡ true
    → TableAmong (Sections tables) n (table_read t)
section_among tables n t read simple =
    let ts = tables.value.0 in
    let last = tables.value.1 in
    let within = section_within t.0 t.1 simple in
    record {
      is_data = rw (sections_elements tables, section_table_data t.0 t.1 simple, few_data t.1 simple)
          (read_mapped (λ t. section_data t.1) (tables_in tables.value) n t read);
      tables = ap tells_table (sections_trie tables);
      is_trie = rw (sections_trie tables, ← (section_trie t.0 t.1 simple), section_item_trie t.1)
          (find_number 0 n n (map (λ t. rows_trie t.1) ts ++ rows_trie last.1 ∷ []) (rows_trie t.1) (omega arith)
          (mapped (λ t. rows_trie t.1) ts last n t read));
      origins = λ at s q. rw (sections_seen tables at s, mapped (section_origins at) ts last n t read, within) refl;
    }

-- its node
pub table_given : {fits : Type 0} (from node : Node) (n : ℕ) (b : Bor Item) (t : HeaderTable)
    → from.spot ≡ spots.Item b → (i : Item) → b.now ≡ i → TableAmong i n (table_of t)
    → IsBeside from (spots.Table t) node → node.start ≡ from.start → fits → GivenElement fits from n (Some node)
table_given from node n b t at i is among beside start within =
    let read : slice_get (elements_in (node_data from)) n ≡ Some (node_data node) =
    rw (at, is, beside.spot) among.is_data in
    let there : spot_trie node.spot ≡ below (number n) (spot_trie from.spot) =
    rw (at, is, beside.spot) (sym among.is_trie) in
    beside_given from node (spots.Table t) n beside (rw (at, is) among.tables) read
    (λ own. inr (there, ap wraps_table beside.spot)) (λ counted s. rw (beside.spot, start) (comes_alike
    (λ q. rw (at, is) (among.origins from.start s q))
    (table_comes (table_of t) t node.count from.start s refl counted))) within
