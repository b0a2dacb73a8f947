-- A table of data that fits has its rows first, and they hold no tables: its text is the layout.
use Rattle.std.proofs.Common.{◌≡◌, ℕ, ◌+◌, true, false, ◌||◌, [], ◌++◌, sym}
use Rattle.std.proofs.lemmas.Bool.{and_parts, true≢false}
use Rattle.basic_toml_value.specs.Data.{Data, integer, float, boolean, string, array, table, Items, no_items, item}
use Rattle.basic_toml_value.specs.Data.{Members, no_members, member}
use Rattle.basic_toml_layout.specs.Document.{plain, document_text}
use Rattle.basic_toml_layout.specs.Layout.{layout}
use Rattle.basic_toml_layout.specs.Trees.{written_of}
use Rattle.basic_toml_layout.proofs.OrderedText.{HoldsNone, AllHoldNone, Ordered, a_row, then_parts, PartsBy}
use Rattle.basic_toml_layout.proofs.OrderedText.{no_parts, a_table, an_array, NodesBy, no_nodes, a_node}
use Rattle.basic_toml_layout.proofs.OrderedText.{same_text}
use Rattle.basic_toml_write.specs.DataFits.{fits_in_row, items_fit_in_row, members_fit, tables_fit, table_fits}

mutual
  holds_none : (x : Data) (n : ℕ) → fits_in_row n x ≡ true → HoldsNone x
  holds_none (array xs) n e = all_hold_none xs (n + 1) (and_parts _ _ e).1
  holds_none (table ms) n e = absurd (true≢false (sym e))
  holds_none x n e = tt

  all_hold_none : (xs : Items) (n : ℕ) → items_fit_in_row n xs ≡ true → AllHoldNone xs
  all_hold_none no_items n e = tt
  all_hold_none (item x xs) n e =
      let p = and_parts (fits_in_row n x) (items_fit_in_row n xs) e in
      (holds_none x n p.0, all_hold_none xs n p.1)

mutual
  -- no section having stood before, and where one has
  ordered : (ms : Members) (n : ℕ) → members_fit n false ms ≡ true → Ordered ms
  ordered no_members n e = then_parts no_parts
  ordered (member k (table ns) ms) n e =
      let p = and_parts _ _ e in
      then_parts (a_table (ordered ns (n + 1) (and_parts _ _ (and_parts _ _ p.0).1).1) (parts ms n p.1))
  ordered (member k (array (item (table ns) xs)) ms) n e =
      let p = and_parts _ _ e in
      let t = and_parts _ _ (and_parts _ _ p.0).1 in
      then_parts (an_array
      (a_node (ordered ns (n + 1 + 1) (and_parts _ _ (and_parts _ _ t.0).1).1) (nodes xs (n + 1) t.1))
      (parts ms n p.1))
  ordered (member k (array xs) ms) n e =
      let p = and_parts _ _ e in
      a_row (all_hold_none xs (n + 1) (and_parts _ _ p.0).1) (ordered ms n p.1)
  ordered (member k x ms) n e = let p = and_parts _ _ e in a_row (holds_none x n p.0) (ordered ms n p.1)

  parts : (ms : Members) (n : ℕ) → members_fit n true ms ≡ true → PartsBy HoldsNone ms
  parts no_members n e = no_parts
  parts (member k (table ns) ms) n e =
      let p = and_parts _ _ e in
      a_table (ordered ns (n + 1) (and_parts _ _ (and_parts _ _ p.0).1).1) (parts ms n p.1)
  parts (member k (array (item (table ns) xs)) ms) n e =
      let p = and_parts _ _ e in
      let t = and_parts _ _ (and_parts _ _ p.0).1 in
      an_array
      (a_node (ordered ns (n + 1 + 1) (and_parts _ _ (and_parts _ _ t.0).1).1) (nodes xs (n + 1) t.1)) (parts ms n p.1)
  parts (member k (array xs) ms) n e = absurd (true≢false (sym (and_parts _ _ (and_parts _ _ e).0).1))
  parts (member k x ms) n e = absurd (true≢false (sym e))

  nodes : (xs : Items) (n : ℕ) → tables_fit n xs ≡ true → NodesBy HoldsNone xs
  nodes no_items n e = no_nodes
  nodes (item (table ns) xs) n e =
      let p = and_parts _ _ e in
      a_node (ordered ns (n + 1) (and_parts _ _ (and_parts _ _ p.0).1).1) (nodes xs n p.1)
  nodes (item x xs) n e = absurd (true≢false (sym e))

pub fitting_text : (ms : Members) → table_fits 0 ms ≡ true → document_text plain ms ≡ layout (written_of (table ms))
fitting_text ms e = same_text (ordered ms 1 (and_parts _ _ e).1)
