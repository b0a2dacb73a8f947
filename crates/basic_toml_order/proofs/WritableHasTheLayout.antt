-- Where each array of data can be written, the order of its text is the data with its rows first, and its text the
-- layout of that.
use Rattle.std.proofs.Common.{◌≡◌, ℕ, Bool, true, false, ◌&&◌, ◌||◌, not, cond, List, ◌∷◌, refl, ap, sym, ◌∙◌}
use Rattle.std.proofs.lemmas.Bool.{or_parts, true≢false}
use Rattle.basic_toml_value.specs.Data.{Data, array, table, Items, no_items, item, Members, no_members, member}
use Rattle.basic_toml_layout.specs.Document.{are_tables, is_row, plain, document_text}
use Rattle.basic_toml_layout.specs.Layout.{layout}
use Rattle.basic_toml_layout.specs.Sections.{is_section}
use Rattle.basic_toml_layout.specs.TextOrder as text
use Rattle.basic_toml_layout.specs.TextOrder.{in_order, all_in_order, text_order}
use Rattle.basic_toml_layout.specs.Trees.{written_of, elements_of}
use Rattle.basic_toml_layout.proofs.OrderedText.{HoldsNone, AllHoldNone, Ordered, a_row, then_parts, PartsBy, no_parts}
use Rattle.basic_toml_layout.proofs.OrderedText.{a_table, an_array, NodesBy, no_nodes, a_node, same_text}
use Rattle.basic_toml_layout.proofs.TextOrderIsKept.{same_document}
use Rattle.basic_toml_write.specs.Shapes.{holds_table, holds_other, holds_array_with_table}
use Rattle.basic_toml_order.specs.RowsFirst.{followed_by, rows_first, items_rows_first, rows_of, sections_of}
use Rattle.basic_toml_order.specs.RowsFirst.{members_rows_first}
use Rattle.basic_toml_order.specs.Writable.{has_bad_array, hold_bad_array, lead_to_bad_array}

and_true : (b : Bool) → (b && true) ≡ false → b ≡ false
and_true true e = e
and_true false e = refl

-- tables stand alone
alone : (xs : Items) → holds_other (elements_of xs) ≡ false → are_tables xs ≡ true
alone no_items e = refl
alone (item (table ms) xs) e = alone xs e
alone (item x xs) e = absurd (true≢false e)

alone_in : (ms : Members) (xs : Items) → has_bad_array (array (item (table ms) xs)) ≡ false → are_tables xs ≡ true
alone_in ms xs e = alone xs (or_parts _ _ (or_parts _ _ e).0).0

-- what is no row is a section
section_is : (x : Data) → has_bad_array x ≡ false → is_section x ≡ not (is_row x)
section_is (array no_items) e = refl
section_is (array (item (table ms) xs)) e = rw (alone_in ms xs e) refl
section_is (array (item x xs)) e = refl
section_is (table ms) e = refl
section_is x e = refl

-- a row holds no table
all_none : (xs : Items) → holds_table (elements_of xs) ≡ false → holds_array_with_table (elements_of xs) ≡ false
    → hold_bad_array xs ≡ false → AllHoldNone xs
all_none no_items t a b = tt
all_none (item (table ms) xs) t a b = absurd (true≢false t)
all_none (item (array ys) xs) t a b =
    let arrays = or_parts (holds_table (elements_of ys)) (holds_array_with_table (elements_of xs)) a in
    let bad = or_parts (has_bad_array (array ys)) (hold_bad_array xs) b in
    let own = or_parts _ (hold_bad_array ys) bad.0 in
    let inner = or_parts (holds_array_with_table (elements_of ys)) _ (or_parts _ _ own.0).1 in
    (all_none ys arrays.0 inner.0 own.1, all_none xs t arrays.1 bad.1)
all_none (item x xs) t a b = (tt, all_none xs t a b)

row_none : (x : Data) → is_row x ≡ true → has_bad_array x ≡ false → HoldsNone x
row_none (table ms) r e = absurd (true≢false (sym r))
row_none (array no_items) r e = tt
row_none (array (item (table ms) xs)) r e =
    let not_row : is_row (array (item (table ms) xs)) ≡ false = rw (alone_in ms xs e) refl in
    absurd (true≢false (sym r ∙ not_row))
row_none (array (item x xs)) r e =
    let own = or_parts _ (hold_bad_array (item x xs)) e in
    let shapes = or_parts _ _ own.0 in
    all_none (item x xs) (and_true (holds_table (elements_of (item x xs))) shapes.0)
    (or_parts (holds_array_with_table (elements_of (item x xs))) _ shapes.1).0 own.1
row_none x r e = tt

mutual
  none_stays : (x : Data) → HoldsNone x → rows_first x ≡ x
  none_stays (array xs) h = ap array (none_stay xs h)
  none_stays (table ms) h = absurd h
  none_stays x h = refl

  none_stay : (xs : Items) → AllHoldNone xs → items_rows_first xs ≡ xs
  none_stay no_items h = refl
  none_stay (item x xs) h = (λ i. item (none_stays x h.0 i) (none_stay xs h.1 i))

-- the rows, and the sections
record AreSame (ms : Members) : Type 0 where
  rows : rows_of ms ≡ text.rows_of ms
  sections : sections_of ms ≡ text.sections_of ms

one_more : (k : List ℕ) (x : Data) (ms : Members) (b : Bool) → is_row x ≡ b → is_section x ≡ not b
    → (is_row x ≡ true → rows_first x ≡ x) → (is_row x ≡ false → rows_first x ≡ in_order x) → AreSame ms
    → AreSame (member k x ms)
one_more k x ms true r s row section rest = record {
  rows = rw (r, s) (λ i. member k (row r i) (rest.rows i));
  sections = rw (r, s) rest.sections;
}
one_more k x ms false r s row section rest = record {
  rows = rw (r, s) rest.rows;
  sections = rw (r, s) (λ i. member k (section r i) (rest.sections i));
}

order_same : (ms : Members) → AreSame ms → members_rows_first ms ≡ text_order ms
order_same ms same = (λ i. followed_by (same.rows i) (same.sections i))

mutual
  members_same : (ms : Members) → lead_to_bad_array ms ≡ false → AreSame ms
  members_same no_members e = record { rows = refl; sections = refl }
  members_same (member k x ms) e =
      let p = or_parts (has_bad_array x) (lead_to_bad_array ms) e in
      one_more k x ms (is_row x) refl (section_is x p.0) (λ r. none_stays x (row_none x r p.0))
      (λ r. section_same x p.0 r) (members_same ms p.1)

  section_same : (x : Data) → has_bad_array x ≡ false → is_row x ≡ false → rows_first x ≡ in_order x
  section_same (table ms) e r = ap table (order_same ms (members_same ms e))
  section_same (array no_items) e r = absurd (true≢false r)
  section_same (array (item x xs)) e r = ap array (all_same (item x xs) (tables (are_tables (item x xs)) refl r)
      (or_parts _ (hold_bad_array (item x xs)) e).1)
    where
      tables : (b : Bool) → are_tables (item x xs) ≡ b → not (are_tables (item x xs)) ≡ false
          → are_tables (item x xs) ≡ true
      tables true t r = t
      tables false t r = absurd (true≢false (sym (ap not t) ∙ r))
  section_same x e r = absurd (true≢false r)

  all_same : (xs : Items) → are_tables xs ≡ true → hold_bad_array xs ≡ false → items_rows_first xs ≡ all_in_order xs
  all_same no_items t e = refl
  all_same (item (table ms) xs) t e =
      let p = or_parts (lead_to_bad_array ms) (hold_bad_array xs) e in
      (λ i. item (table (order_same ms (members_same ms p.0) i)) (all_same xs t p.1 i))
  all_same (item x xs) t e = absurd (true≢false (sym t))

-- in that order rows come first, and hold no tables
rows_ordered : (ms : Members) {parts : Members} → lead_to_bad_array ms ≡ false → PartsBy HoldsNone parts
    → Ordered (followed_by (text.rows_of ms) parts)
rows_ordered no_members e ps = then_parts ps
rows_ordered (member k x ms) {parts = parts} e ps =
    let p = or_parts (has_bad_array x) (lead_to_bad_array ms) e in
    go (is_row x) refl (λ r. row_none x r p.0) (rows_ordered ms p.1 ps)
  where
    go : (b : Bool) → is_row x ≡ b → (is_row x ≡ true → HoldsNone x) → Ordered (followed_by (text.rows_of ms) parts)
        → Ordered (followed_by (cond b (member k x (text.rows_of ms)) (text.rows_of ms)) parts)
    go true r none rest = a_row (none r) rest
    go false r none rest = rest

mutual
  parts_ordered : (ms : Members) → lead_to_bad_array ms ≡ false → PartsBy HoldsNone (text.sections_of ms)
  parts_ordered no_members e = no_parts
  parts_ordered (member k (table ns) ms) e =
      let p = or_parts (lead_to_bad_array ns) (lead_to_bad_array ms) e in
      a_table (rows_ordered ns p.0 (parts_ordered ns p.0)) (parts_ordered ms p.1)
  parts_ordered (member k (array (item (table ns) xs)) ms) e =
      let p = or_parts (has_bad_array (array (item (table ns) xs))) (lead_to_bad_array ms) e in
      let q = or_parts (lead_to_bad_array ns) (hold_bad_array xs) (or_parts _ _ p.0).1 in
      let t = alone_in ns xs p.0 in
      rw t (an_array (a_node (rows_ordered ns q.0 (parts_ordered ns q.0)) (nodes_ordered xs t q.1))
      (parts_ordered ms p.1))
  parts_ordered (member k (array no_items) ms) e = parts_ordered ms e
  parts_ordered (member k (array (item x xs)) ms) e =
      parts_ordered ms (or_parts (has_bad_array (array (item x xs))) (lead_to_bad_array ms) e).1
  parts_ordered (member k x ms) e = parts_ordered ms e

  nodes_ordered : (xs : Items) → are_tables xs ≡ true → hold_bad_array xs ≡ false
      → NodesBy HoldsNone (all_in_order xs)
  nodes_ordered no_items t e = no_nodes
  nodes_ordered (item (table ns) xs) t e =
      let q = or_parts (lead_to_bad_array ns) (hold_bad_array xs) e in
      a_node (rows_ordered ns q.0 (parts_ordered ns q.0)) (nodes_ordered xs t q.1)
  nodes_ordered (item x xs) t e = absurd (true≢false (sym t))

pub writable_text : (ms : Members) → has_bad_array (table ms) ≡ false
    → document_text plain ms ≡ layout (written_of (rows_first (table ms)))
writable_text ms e =
    sym (same_document plain ms) ∙ same_text (rows_ordered ms e (parts_ordered ms e))
    ∙ ap (λ ns. layout (written_of (table ns))) (sym (order_same ms (members_same ms e)))
