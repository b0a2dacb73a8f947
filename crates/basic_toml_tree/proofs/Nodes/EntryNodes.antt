-- The node of what stands at a key of a table: its data stand there, and so does it in the tree. It is that of an
-- entry, or of a row of an inline table or of a section, whose rows stand as they were read for the table of entries
-- that they mean.
use Rattle.std.proofs.Common.{◌∷◌, arith, true, ◌≡◌, ℕ, false, List, [], Some, ◌∙◌, inl, inr, ◌⊎◌, map, refl, ap, sym}
use Rattle.std.proofs.Common.{rules, Box, Global, ◌≤◌, ◌+◌, None, length, drop, IsTrue, slice_get, Bor}
use Rattle.std.proofs.lemmas.Slice.Eq.{bytes_eq-Decides}
use Rattle.basic_toml_index.proofs.DistinctKeys.{bytes_eq-same, bytes_eq_other, is_among-before}
use Rattle.basic_toml_grammar.specs.Steps.{Path, key}
use Rattle.basic_toml_grammar.specs.Trie.{nothing, below, find, Trie}
use Rattle.basic_toml_plain.specs.Tries.{by_keys, tree_data}
use Rattle.basic_toml_grow.proofs.KeysInATrie.{tries_of}
use Rattle.basic_toml_grow.proofs.ItemTries.{table_entries_trie}
use Rattle.basic_toml_grow.proofs.Origins.OriginsSeen.{seen_at_key, table_origins}
use Rattle.basic_toml_grow.specs.Origins.{child_origins, rows_origins, entry, Origins, item_origins}
use Rattle.basic_toml_tree.specs.Stands.{ItemHolds, node_origins, spot_origins, spot_trie, HoldsTable, IsEntry, RawRows}
use Rattle.basic_toml_tree.specs.Stands.{wraps_table, HoldsFields, is_wrapper, HoldsRows, ItemRows, IsPlainRow}
use Rattle.basic_toml_tree.specs.Stands.{GivesEntry}
use Rattle.basic_toml_index.specs.Keys.{are_distinct, is_among}
use Rattle.basic_toml_value.specs.Pairs.{keys_of, value_at}
use Rattle.basic_toml_value.proofs.KeysChanged.{first_at, none_at}
use Rattle.basic_toml_grow.specs.declared.item.Child.{Child, out-Child}
use Rattle.basic_toml_grow.specs.declared.item.Table.{Table, out-Table}
use Rattle.basic_toml_tree.specs.Data.{table_data, child_data, data_of}
use Rattle.basic_toml_tree.specs.Nodes.{data_at, node_data, fields_data, spot_data, entries_in, entries_left}
use Rattle.basic_toml_tree.specs.declared.node.Node.{Node}
use Rattle.basic_toml_tree.proofs.ItemData.{data_at_found, child_item, data_at_absent}
use Rattle.basic_toml_tree.proofs.Nodes.KeysTold.{key_keeps, Enters}
use Rattle.basic_toml_tree.proofs.Nodes.Lines.{around_key}
use Rattle.basic_toml_tree.proofs.Nodes.NodesCome.{comes_alike}
use Rattle.basic_toml_tree.proofs.Nodes.NodesStand.{GivenAt, StepsOn, further, stands_on, value_comes}
use Rattle.basic_toml_tree.proofs.Nodes.OuterStands.{keeps_below}
use Rattle.std.proofs.lemmas.Bool.{and_parts, false≢true}
use Rattle.std.proofs.lemmas.Option.{get_or_from_slice_get, slice_get_within}
use Rattle.std.proofs.lemmas.Simd.{map-map}
use Rattle.basic_toml_read.specs.declared.section.Row.{Row, out-Row}
use Rattle.basic_toml_plain.specs.Plain.{are_few_simple, is_plain, key_of, plain_data, rows_data, plain_table}
use Rattle.basic_toml_plain.proofs.PlainLeft.{row_at}
use Rattle.basic_toml_plain.proofs.SimpleKeys.{keys_differ}
use Rattle.basic_toml_grow.specs.Item.{child_trie, item_trie, table_trie}
use Rattle.basic_toml_grow.specs.Simple.{child_of, entries_of, entry_of, section_table}
use Rattle.basic_toml_grow.specs.declared.item.Item.{Item, out-Item, the_lemmas}
use Rattle.basic_toml_grow.specs.declared.item.Item.TheOpen.{Item-F}
use Rattle.basic_toml_grow.specs.declared.item.Item.TheViews.{roll-Item}
use Rattle.basic_toml_grow.proofs.ItemsStand.{shape}
use Rattle.basic_toml_grow.proofs.SectionTables.{entries_are, row_child_trie, section_trie, row_child_origins}
use Rattle.basic_toml_grow.proofs.SectionTables.{section_within}
use Rattle.basic_toml_tree.specs.declared.spot.Fields.{Fields}
use Rattle.basic_toml_tree.specs.declared.spot.Spot.{Spot}
use Rattle.basic_toml_tree.proofs.TrieData.{section_rows, section_table_data}
use Rattle.basic_toml_tree.proofs.TrieData.{item_trie_data}
use Rattle.basic_toml_tree.proofs.Nodes.NodesInOrder.{read_mapped, drop_next, progress, table_entries}
use Rattle.std.proofs.lemmas.List.{length-map, drop_all}
use Rattle.std.specs.Iterator.{MakesProgress, item_count}
use Rattle.std.specs.declared.iter.Iterator.{can_next-default}
use Rattle.basic_toml_read.specs.SectionView.{raw_of, rows_seen}
use Rattle.basic_toml_read.specs.declared.section.Raw.TheOpen.{Raw-F}
use Rattle.basic_toml_read.specs.declared.section.Element.{Element}
use Rattle.basic_toml_tree.specs.Origin.{spot_is_made}
use Rattle.basic_toml_tree.specs.declared.entries.Entries.{Entries}
use Rattle.basic_toml_tree.specs.declared.spot.Spot.TheVariants as spots
use Rattle.basic_toml_grow.specs.declared.item.Item as items
use Rattle.basic_toml_tree.specs.declared.spot.Fields.TheVariants as fields
use Rattle.basic_toml_read.specs.declared.section.Raw as raws
use Rattle.basic_toml_read.specs.declared.section.Rows as code_rows

-- what is at a key of a table
find_key : (ps : List (List ℕ × Child)) (k : List ℕ) (c : Child) → value_at ps k ≡ Some c
    → find (key k) (by_keys (tries_of child_trie ps)) ≡ child_trie c
unfolding tries_of
find_key [] k c found = absurd (cc)
find_key (p ∷ ps) k c found =
    grind (arith, bytes_eq-Decides k p.0, bytes_eq-same p.0, bytes_eq_other p.0 k, find_key ps k c)

-- the entry at a position of a table whose keys differ
pub found_at : (t : Table) (i : ℕ) (k : List ℕ) (c : Child) → IsTrue (are_distinct (keys_of (out-Table t).entries))
    → slice_get (out-Table t).entries i ≡ Some (k, c) → value_at (out-Table t).entries k ≡ Some c
found_at t i k c distinct there =
    let ps = (out-Table t).entries in
    let at = read_mapped (λ p. p.0) ps i (k, c) there in
    first_at ps i k c at (is_among-before (keys_of ps) i k distinct at) (read_mapped (λ p. p.1) ps i (k, c) there)

-- the entry of a row
pub row_read : (rows : List Row) (s n : ℕ) (r : Row) → slice_get rows n ≡ Some r
    → slice_get (out-Table (section_table s rows)).entries n ≡ Some (entry_of s r)
row_read rows s n r read = rw (entries_are s rows) (read_mapped (entry_of s) rows n r read)

pub no_entry : (rows : List Row) (s n : ℕ) → length rows ≤ n → length (out-Table (section_table s rows)).entries ≤ n
no_entry rows s n past = rw (entries_are s rows) (simp length-map past)

-- simple rows: their values are plain, and each is an entry of the table that they stand for, whose keys differ
module _ (rows : List Row) (simple : are_few_simple 0 rows ≡ true) where
  pub plain_read : (n : ℕ) (r : Row) → slice_get rows n ≡ Some r → is_plain (out-Row r).value 0 ≡ true
  plain_read n r read =
      row_at rows n r (slice_get_within _ _ _ read) (sym (get_or_from_slice_get rows n r r read))
      (and_parts _ _ simple).1

  pub rows_differ : (s : ℕ) → IsTrue (are_distinct (keys_of (out-Table (section_table s rows)).entries))
  rows_differ s = rw (entries_are s rows, map-map) (keys_differ 0 rows (and_parts _ _ simple).1)

  pub section_at : (s n : ℕ) (r : Row) → slice_get rows n ≡ Some r
      → value_at (out-Table (section_table s rows)).entries (key_of r) ≡ Some (child_of s r)
  section_at s n r read = found_at (section_table s rows) n _ _ (rows_differ s) (row_read rows s n r read)

  pub key_absent : (k : List ℕ) → is_among (map key_of rows) k ≡ false → data_at (rows_data rows) k ≡ None
  key_absent k absent =
      let none = none_at (entries_of 0 rows) k (rw map-map absent) in
      rw (← (section_table_data 0 rows simple)) (data_at_absent (section_table 0 rows) k (rw (entries_are 0 rows) none))

-- a child stands for its item
pub child_is : (c : Child) → item_trie (out-Child c).item ≡ child_trie c
child_is c = search (rules, the_lemmas)

-- the data of a row
pub section_row_data : (s : ℕ) (r : Row) → is_plain (out-Row r).value 0 ≡ true
    → child_data (child_of s r) ≡ plain_data (out-Row r).value
section_row_data s r plain =
    let c = child_of s r in
    child_item c
    ∙ sym (item_trie_data (out-Child c).item)
    ∙ ap tree_data (child_is c ∙ row_child_trie s r plain)

-- what stands for the table of a header, of which one header alone speaks
module _ (c : Child) (rows : List Row) (is : (out-Child c).item ≡ items.Section rows)
    (simple : are_few_simple 0 rows ≡ true) where
  pub section_child_trie : table_trie (section_table (out-Child c).section rows) ≡ child_trie c
  section_child_trie = sym (section_trie (out-Child c).section rows simple) ∙ ap item_trie (sym is) ∙ child_is c

  pub section_child_data : table_data (section_table (out-Child c).section rows) ≡ child_data c
  section_child_data =
      section_table_data (out-Child c).section rows simple ∙ sym (section_rows rows simple) ∙ ap data_of (sym is)
      ∙ sym (child_item c)

-- an item that holds no table of headers or of dotted keys
pub no_wrapper : (i : Item) → ((t : Box Table Global) → i ≡ items.Table t → ⊥)
    → ((rows : List Row) → i ≡ items.Section rows → ⊥) → is_wrapper (out-Item i) ≡ false
no_wrapper i table section = go (out-Item i) (shape i (out-Item i) refl)
  where
    go : (x : Item-F Item Child Table) → i ≡ roll-Item x → is_wrapper x ≡ false
    go (Item-F.Table t) is = absurd (table t (is ∙ search (rules, the_lemmas)))
    go (Item-F.Section z) is = absurd (section z (is ∙ search (rules, the_lemmas)))
    go x is = refl

-- What a spot tells at the keys of its table, by the number of a section, which that of rows bears.
record Tells (spot : Spot) (f : ℕ → Origins) (t : Trie) : Type 0 where
  origins : (at s : ℕ) (k : List ℕ) (q : Path) → spot_origins spot at s (key k ∷ q) ≡ f s (key k ∷ q)
  trie : wraps_table spot ≡ false → (k : List ℕ)
      → (below (key k) (spot_trie spot) ≡ nothing) ⊎ (spot_trie spot ≡ t)

item_tells : {b : Bor Item} {f : ℕ → Origins} {t : Trie} (x : Item-F Item Child Table) → out-Item b.now ≡ x
    → ((at s : ℕ) (k : List ℕ) (q : Path) → item_origins (roll-Item x) at s (key k ∷ q) ≡ f s (key k ∷ q))
    → (is_wrapper x ≡ false → (k : List ℕ) → below (key k) (item_trie (roll-Item x)) ≡ nothing)
    → Tells (spots.Item b) f t
item_tells {b} x is origins none = record {
  origins = λ at s k q. rw (shape b.now x is) (origins at s k q);
  trie = λ own k. inl (rw (shape b.now x is) (none (sym (ap is_wrapper is) ∙ own) k));
}

table_tells : (spot : Spot) (t : Table) → HoldsTable spot t → Tells spot (λ s. table_origins t) (table_trie t)
table_tells (spots.Table b) t holds = rw holds (record { origins = λ at s k q. refl; trie = λ own k. inr refl })
table_tells (spots.Plain plain) t holds = absurd holds
table_tells (spots.Item b) t holds = go (out-Item b.now) refl holds
  where
    go : (x : Item-F Item Child Table) → out-Item b.now ≡ x → ItemHolds x t
        → Tells (spots.Item b) (λ s. table_origins t) (table_trie t)
    go (Item-F.Table z) is holds =
        item_tells (Item-F.Table z) is (λ at s k q. rw holds (search (rules, the_lemmas)))
        (λ own. absurd (false≢true (sym own)))
    go (Item-F.Inline z) is holds =
        item_tells (Item-F.Inline z) is (λ at s k q. rw holds (search (rules, the_lemmas)))
        (λ own k. search (rules, the_lemmas))
    go x is holds = absurd holds

rows_tell : (spot : Spot) (rs : List Row) (t : Trie) → HoldsRows spot rs
    → Tells spot (λ s. rows_origins s (rows_seen [] rs)) t
rows_tell (spots.Table table) rs t holds = absurd holds
rows_tell (spots.Item b) rs t holds = go (out-Item b.now) refl holds
  where
    go : (x : Item-F Item Child Table) → out-Item b.now ≡ x → ItemRows x rs
        → Tells (spots.Item b) (λ s. rows_origins s (rows_seen [] rs)) t
    go (Item-F.Rows z) is holds =
        item_tells (Item-F.Rows z) is (λ at s k q. rw holds (search (rules, the_lemmas)))
        (λ own k. search (rules, the_lemmas))
    go (Item-F.Section z) is holds =
        item_tells (Item-F.Section z) is (λ at s k q. rw holds (search (rules, the_lemmas)))
        (λ own. absurd (false≢true (sym own)))
    go x is holds = absurd holds
rows_tell (spots.Plain v) rs t holds = go (raws.out-Raw v.value.now) (raws.roll-out-Raw v.value.now) holds
  where
    go : (x : Raw-F raws.Raw Element Row code_rows.Rows) → raws.roll-Raw x ≡ v.value.now → RawRows x rs
        → Tells (spots.Plain v) (λ s. rows_origins s (rows_seen [] rs)) t
    go (Raw-F.Inline z) is holds =
        let made : raw_of (raws.roll-Raw (Raw-F.Inline z)) ≡ plain_table z.items = search (rules, raws.the_lemmas) in
        let seen = ap raw_of (sym is) ∙ made in
        record { origins = λ at s k q. rw (seen, holds) refl; trie = λ own k. inl refl }
    go x is holds = absurd holds

-- The table that stands in a table. That of the rows of an inline table is of any section.
abbrev pub table_in : Fields → ℕ → Table
table_in (fields.Table table) s = table.now
table_in (fields.Rows rows) s = section_table s rows.now
table_in (fields.Section rows n) s = section_table n rows.now

-- what a spot tells by what stands in it
module _ (spot : Spot) where
  tells : (f : Fields) → HoldsFields spot f → Tells spot (λ s. table_origins (table_in f s)) (table_trie (table_in f 0))
  tells (fields.Table table) holds = table_tells spot table.now holds
  tells (fields.Section rows n) holds = table_tells spot (section_table n rows.now) holds.0
  tells (fields.Rows rows) holds =
      let rs = rows.now in
      let told = rows_tell spot rs (table_trie (section_table 0 rs)) holds.0 in
      record {
        origins = λ at s k q. told.origins at s k q
            ∙ ap (λ w. w.below (key k ∷ q)) (sym (section_within s rs holds.1));
        trie = told.trie;
      }

  pub whole : (f : Fields) → HoldsFields spot f → (s : ℕ) → fields_data f ≡ table_data (table_in f s)
  whole (fields.Table table) holds s = refl
  whole (fields.Rows rows) holds s = sym (section_table_data s rows.now holds.1)
  whole (fields.Section rows n) holds s = sym (section_table_data n rows.now holds.1)

  rows_unmade : (rs : List Row) → HoldsRows spot rs → (count : ℕ) → spot_is_made count spot ≡ false
  rows_unmade rs holds count = grind arith

-- what stands at a key of a table
module _ {from node : Node} {k : List ℕ} {c : ℕ → Child} (f : Fields) (holds : HoldsFields from.spot f)
    (here : node_data from ≡ fields_data f)
    (found : (s : ℕ) → value_at (out-Table (table_in f s)).entries k ≡ Some (c s))
    (is : (s : ℕ) → Enters from k (c s) node) where
  entry_data : data_at (node_data from) k ≡ Some (node_data node)
  entry_data = rw (here ∙ whole from.spot f holds 0, (is 0).holds) (data_at_found (table_in f 0) k (c 0) (found 0))

  entry_on : wraps_table from.spot ≡ false → StepsOn from (key k) node
  entry_on own =
      let t = table_in f 0 in
      let key = find_key (out-Table t).entries k (c 0) (found 0) in
      let told = (tells from.spot f holds).trie own k in
      grind (arith, told, (is 0).below.trie, (is 0).below.own, key, table_entries_trie t)

  entry_origins : (s : ℕ) (q : Path) → node_origins s from (key k ∷ q) ≡ child_origins (c s) q
  entry_origins s q =
      (tells from.spot f holds).origins from.start s k q ∙ rw (seen_at_key (table_in f s) k q, found s) refl

  pub entry_given : GivenAt from k node
  entry_given = record {
    «data» = entry_data;
    stands = λ tree p stands.
        let s = stands.comes.section in
        stands_on from node (key k) (is 0).below.tree entry_data entry_on
        (λ at. comes_alike (entry_origins at) (is at).comes) tree p stands (is 0).below.count
        (rw (around_key p k) (keeps_below from node (is 0).outer tree p stands))
        (key_keeps (is s) tree p stands (stands.comes.parts (key k) [] ∙ entry_origins s [])
        (further from node (key k) entry_on tree p stands));
  }

-- a node of an entry, and one of a row of an inline table, stand so below their table
pub entry_enters : {from node : Node} {k : List ℕ} {c : Child} → IsEntry from k c node → Enters from k c node
entry_enters is = record {
  holds = is.holds;
  below = is.below;
  comes = is.comes;
  outer = is.outer;
  handed = is.handed;
  count = is.count;
  made = λ made. (is.keys, is.row);
}

pub row_enters : {from node : Node} (rs : List Row) (r : Row) → HoldsRows from.spot rs
    → is_plain (out-Row r).value 0 ≡ true → IsPlainRow from r node → (s : ℕ)
    → Enters from (key_of r) (child_of s r) node
row_enters {from} {node} rs r holds plain is s =
    let unmade = rows_unmade from.spot rs holds from.count in
    record {
      holds = ap spot_data is.spot ∙ ap plain_data is.value ∙ sym (section_row_data s r plain);
      below = record {
        tree = is.tree;
        count = is.nested;
        trie = rw (is.spot, is.value, row_child_trie s r plain) refl;
        own = ap wraps_table is.spot;
      };
      comes = rw (row_child_origins s r plain, ← (is.start), ← (is.value))
          (value_comes is.plain node.spot is.spot node.count node.start s);
      outer = is.outer ∙ rw unmade refl;
      handed = λ n first at. is.trail;
      count = is.count;
      made = λ made. absurd (false≢true (sym unmade ∙ made));
    }

-- An iterator gives an entry of its table, and goes on to the next.
abbrev pub GivesNext : Entries → Bor (List ℕ) × Node → Entries → Type 0
GivesNext before entry after = record {
  steps : GivesEntry before (Some entry) after;
  goes : MakesProgress (can_next-default Entries (Bor (List ℕ) × Node)) (item_count entries_left) before (Some entry)
      after;
}

module _ (before : Entries) (f : Fields) (holds : HoldsFields before.table.spot f)
    (here : node_data before.table ≡ fields_data f) where
  entries_seen : entries_in (node_data before.table)
      ≡ map (λ p. (p.0, child_data p.1)) (out-Table (table_in f 0)).entries
  entries_seen = ap entries_in (here ∙ whole before.table.spot f holds 0) ∙ table_entries (table_in f 0)

  pub none_left : length (out-Table (table_in f 0)).entries ≤ before.at → GivesEntry before None before
  none_left past =
      let none : entries_left before ≡ [] =
      drop_all before.at (entries_in (node_data before.table)) (rw entries_seen (simp length-map past)) in
      ((none, none), tt, refl)

  pub gives_next : (k : Bor (List ℕ)) (node : Node) (c : ℕ → Child)
      → ((s : ℕ) → IsTrue (are_distinct (keys_of (out-Table (table_in f s)).entries)))
      → ((s : ℕ) → slice_get (out-Table (table_in f s)).entries before.at ≡ Some (k.now, c s))
      → ((s : ℕ) → Enters before.table k.now (c s) node)
      → GivesNext before (k, node) (record { table = before.table; at = before.at + 1 })
  gives_next k node c distinct there is =
      let all = entries_in (node_data before.table) in
      let read : slice_get all before.at ≡ Some (k.now, node_data node) =
      rw (entries_seen, (is 0).holds) (read_mapped (λ p. (p.0, child_data p.1)) _ before.at (k.now, c 0) (there 0)) in
      let first : entries_left before ≡ (k.now, node_data node) ∷ drop (before.at + 1) all =
      drop_next all before.at (k.now, node_data node) read in
      let found = λ (s : ℕ). found_at (table_in f s) before.at k.now (c s) (distinct s) (there s) in
      record {
        steps = (first, (entry_given f holds here found is).stands, refl);
        goes = progress entries_left before _ (k, node) (k.now, node_data node) first;
      }

-- the keys of rows differ
pub keys_apart : (spot : Spot) (f : Fields) → HoldsFields spot f
    → ((rows : Bor (List Row)) × (f ≡ fields.Rows rows))
    ⊎ ((rows : Bor (List Row)) × (s : ℕ) × (f ≡ fields.Section rows s))
    → IsTrue (are_distinct (keys_of (out-Table (table_in f 0)).entries))
keys_apart spot f holds (inl is) = rw (is.1) (rows_differ is.0.now (rw (is.1) at holds).1 0)
keys_apart spot f holds (inr is) = rw (is.2) (rows_differ is.0.now (rw (is.2) at holds).1 is.1)
