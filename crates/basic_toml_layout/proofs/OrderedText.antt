-- The text of a table whose rows come first; where they hold no tables, it is the layout.
use Rattle.std.proofs.Common.{◌≡◌, ℕ, Bool, true, false, ◌&&◌, ◌||◌, cond, List, [], ◌∷◌, ◌++◌, refl, ap, sym, ◌∙◌}
use Rattle.std.proofs.Common.{append_assoc}
use Rattle.basic_toml_tokens.specs.Ascii as ascii
use Rattle.basic_toml_value.specs.Data.{Data, integer, float, boolean, string, array, table, Items, no_items, item}
use Rattle.basic_toml_value.specs.Data.{Members, no_members, member}
use Rattle.basic_toml_layout.specs.Written as w
use Rattle.basic_toml_layout.specs.Layout as l
use Rattle.basic_toml_layout.specs.Layout.{written, written_elements, more_elements, row_start, entries_text}
use Rattle.basic_toml_layout.specs.Layout.{table_header, element_header}
use Rattle.basic_toml_layout.specs.Trees.{written_of, elements_of, entries_of}
use Rattle.basic_toml_layout.specs.Document.{inline, inline_items, more_items, are_tables, is_row, has_row}
use Rattle.basic_toml_layout.specs.Document.{is_header_due, Style, plain, row_text, rows_text, sections_text}
use Rattle.basic_toml_layout.specs.Document.{elements_text, table_text, document_text}

-- no table stands in a value
abbrev mutual
  pub HoldsNone : Data → Type 0
  HoldsNone (array xs) = AllHoldNone xs
  HoldsNone (table ms) = ⊥
  HoldsNone x = Unit {0}

  pub AllHoldNone : Items → Type 0
  AllHoldNone no_items = Unit {0}
  AllHoldNone (item x xs) = HoldsNone x × AllHoldNone xs

mutual
  -- rows that are so, and then sections
  pub data OrderedBy (IsSo : Data → Type 0) : Members → Type 0 where
    a_row : {k : List ℕ} {x : Data} {ms : Members} → IsSo x → OrderedBy IsSo ms → OrderedBy IsSo (member k x ms)
    then_parts : {ms : Members} → PartsBy IsSo ms → OrderedBy IsSo ms

  pub data PartsBy (IsSo : Data → Type 0) : Members → Type 0 where
    no_parts : PartsBy IsSo no_members
    a_table : {k : List ℕ} {x ms : Members} → OrderedBy IsSo x → PartsBy IsSo ms
        → PartsBy IsSo (member k (table x) ms)
    an_array : {k : List ℕ} {x : Members} {xs : Items} {ms : Members} → NodesBy IsSo (item (table x) xs)
        → PartsBy IsSo ms → PartsBy IsSo (member k (array (item (table x) xs)) ms)

  -- the tables of an array
  pub data NodesBy (IsSo : Data → Type 0) : Items → Type 0 where
    no_nodes : NodesBy IsSo no_items
    a_node : {x : Members} {xs : Items} → OrderedBy IsSo x → NodesBy IsSo xs → NodesBy IsSo (item (table x) xs)

-- a value without tables
mutual
  same_value : (x : Data) → HoldsNone x → written (written_of x) ≡ inline x
  same_value (integer z) h = refl
  same_value (float t) h = refl
  same_value (boolean b) h = refl
  same_value (string t) h = refl
  same_value (array xs) h = ap (λ z. ascii.left_bracket ∷ (z ++ (ascii.right_bracket ∷ []))) (same_items xs h)
  same_value (table ms) h = absurd h

  same_items : (xs : Items) → AllHoldNone xs → written_elements (elements_of xs) ≡ inline_items xs
  same_items no_items h = refl
  same_items (item x xs) h = (λ i. same_value x h.0 i ++ same_more xs h.1 i)

  same_more : (xs : Items) → AllHoldNone xs → more_elements (elements_of xs) ≡ more_items xs
  same_more no_items h = refl
  same_more (item x xs) h = (λ i. 44 ∷ 32 ∷ (same_value x h.0 i ++ same_more xs h.1 i))

pub plain_row : (x : Data) → HoldsNone x → is_row x ≡ true
plain_row (array no_items) h = refl
plain_row (array (item (table ms) xs)) h = absurd h.0
plain_row (array (item x xs)) h = refl
plain_row (table ms) h = absurd h
plain_row x h = refl

-- a row of the layout
row_next : (path : List (List ℕ)) (k : List ℕ) (later : Bool) (x : Data) (es : w.Entries) → HoldsNone x
    → entries_text path later (w.entry k (written_of x) es)
    ≡ (row_start k ++ (written (written_of x) ++ (ascii.line_feed ∷ []))) ++ entries_text path true es
row_next path k later (integer z) es h = refl
row_next path k later (float t) es h = refl
row_next path k later (boolean b) es h = refl
row_next path k later (string t) es h = refl
row_next path k later (array no_items) es h = refl
row_next path k later (array (item (table ms) xs)) es h = absurd h.0
row_next path k later (array (item x xs)) es h =
    ap (λ t. (row_start k ++ ascii.left_bracket ∷ t) ++ entries_text path true es) (simp append_assoc)
row_next path k later (table ms) es h = absurd h

row_due : (k : List ℕ) (x : Data) (es : w.Entries) → HoldsNone x → l.is_header_due (w.entry k (written_of x) es) ≡ true
row_due k (array no_items) es h = refl
row_due k (array (item (table ms) xs)) es h = absurd h.0
row_due k (array (item x xs)) es h = refl
row_due k (table ms) es h = absurd h
row_due k (integer z) es h = refl
row_due k (float t) es h = refl
row_due k (boolean b) es h = refl
row_due k (string t) es h = refl

-- The text in order. In each, the path has its last key first.
abbrev pub has_header : {IsSo : Data → Type 0} {ms : Members} → OrderedBy IsSo ms → Bool
has_header (a_row h o) = true
has_header (then_parts no_parts) = true
has_header (then_parts (a_table o ps)) = false
has_header (then_parts (an_array ns ps)) = false

module _ (style : Style) where
  abbrev mutual
    pub in_order : {IsSo : Data → Type 0} {ms : Members} → List (List ℕ) → Bool → OrderedBy IsSo ms → List ℕ
    in_order path later (a_row {k = k} {x = x} h o) = row_text style k x ++ in_order path true o
    in_order path later (then_parts ps) = parts_in_order path later ps

    pub parts_in_order : {IsSo : Data → Type 0} {ms : Members} → List (List ℕ) → Bool → PartsBy IsSo ms → List ℕ
    parts_in_order path later no_parts = []
    parts_in_order path later (a_table {k = k} o ps) =
        (cond (has_header o) (table_header later (k ∷ path)) [] ++ in_order (k ∷ path) (style.spaced && later) o)
        ++ parts_in_order path true ps
    parts_in_order path later (an_array {k = k} ns ps) =
        nodes_in_order (k ∷ path) later ns ++ parts_in_order path true ps

    pub nodes_in_order : {IsSo : Data → Type 0} {xs : Items} → List (List ℕ) → Bool → NodesBy IsSo xs → List ℕ
    nodes_in_order path later no_nodes = []
    nodes_in_order path later (a_node o ns) =
        (element_header later path ++ in_order path style.spaced o) ++ nodes_in_order path true ns

-- It is the text of the table, where what is so is a row.
or_true : (b : Bool) → (b || true) ≡ true
or_true true = refl
or_true false = refl

pub or_false : (b : Bool) → (b || false) ≡ b
or_false true = refl
or_false false = refl

row_whole : (style : Style) (path : List (List ℕ)) (later : Bool) (k : List ℕ) (x : Data) (ms : Members)
    → is_row x ≡ true
    → table_text style path later (member k x ms) ≡ row_text style k x ++ table_text style path true ms
row_whole style path later k x ms r =
    rw (r, or_true later) (append_assoc (row_text style k x) (rows_text style ms) (sections_text style path true ms))

record HasNoRow (style : Style) (ms : Members) : Type 0 where
  text : rows_text style ms ≡ []
  none : has_row ms ≡ false

module _ {IsSo : Data → Type 0} (rows : (x : Data) → IsSo x → is_row x ≡ true) (style : Style) where
  tables_alone : {xs : Items} → NodesBy IsSo xs → are_tables xs ≡ true
  tables_alone no_nodes = refl
  tables_alone (a_node o ns) = tables_alone ns

  rowless : {ms : Members} → PartsBy IsSo ms → HasNoRow style ms
  rowless no_parts = record { text = refl; none = refl }
  rowless (a_table o ps) = let r = rowless ps in record { text = r.text; none = r.none }
  rowless (an_array ns ps) =
      let r = rowless ps in
      record { text = rw (tables_alone ns) r.text; none = rw (tables_alone ns) r.none }

  header_due : {ms : Members} (o : OrderedBy IsSo ms) → is_header_due ms ≡ has_header o
  header_due (a_row {x = x} h o) = rw (rows x h) refl
  header_due (then_parts no_parts) = refl
  header_due (then_parts (a_table o ps)) = (rowless ps).none
  header_due (then_parts (an_array ns ps)) = rw (tables_alone ns) (rowless ps).none

  parts_whole : {ms : Members} (ps : PartsBy IsSo ms) (path : List (List ℕ)) (later : Bool)
      → table_text style path later ms ≡ sections_text style path later ms
  parts_whole ps path later = let r = rowless ps in rw (r.text, r.none, or_false later) refl

  mutual
    ordered_whole : {ms : Members} (o : OrderedBy IsSo ms) (path : List (List ℕ)) (later : Bool)
        → table_text style path later ms ≡ in_order style path later o
    ordered_whole (a_row {k = k} {x = x} {ms = ms} h o) path later =
        row_whole style path later k x ms (rows x h) ∙ ap (λ z. row_text style k x ++ z) (ordered_whole o path true)
    ordered_whole (then_parts ps) path later = parts_whole ps path later ∙ parts_ordered ps path later

    parts_ordered : {ms : Members} (ps : PartsBy IsSo ms) (path : List (List ℕ)) (later : Bool)
        → sections_text style path later ms ≡ parts_in_order style path later ps
    parts_ordered no_parts path later = refl
    parts_ordered (a_table {k = k} o ps) path later =
        (λ i. (cond (header_due o i) (table_header later (k ∷ path)) []
        ++ ordered_whole o (k ∷ path) (style.spaced && later) i)
        ++ parts_ordered ps path true i)
    parts_ordered (an_array {k = k} ns ps) path later =
        rw (tables_alone ns) (λ i. nodes_ordered ns (k ∷ path) later i ++ parts_ordered ps path true i)

    nodes_ordered : {xs : Items} (ns : NodesBy IsSo xs) (path : List (List ℕ)) (later : Bool)
        → elements_text style path later xs ≡ nodes_in_order style path later ns
    nodes_ordered no_nodes path later = refl
    nodes_ordered (a_node o ns) path later =
        (λ i. (element_header later path ++ ordered_whole o path style.spaced i) ++ nodes_ordered ns path true i)

  pub ordered_text : {ms : Members} (o : OrderedBy IsSo ms) → document_text style ms ≡ in_order style [] false o
  ordered_text o = ordered_whole o [] false

-- And it is the layout, where rows hold no tables.
abbrev pub Ordered : Members → Type 0
Ordered = OrderedBy HoldsNone

layout_due : {ms : Members} (o : Ordered ms) → l.is_header_due (entries_of ms) ≡ has_header o
layout_due (a_row {k = k} {x = x} {ms = ms} h o) = row_due k x (entries_of ms) h
layout_due (then_parts no_parts) = refl
layout_due (then_parts (a_table o ps)) = refl
layout_due (then_parts (an_array ns ps)) = refl

mutual
  laid_out : {ms : Members} (o : Ordered ms) (path : List (List ℕ)) (later : Bool)
      → in_order plain path later o ≡ entries_text path later (entries_of ms)
  laid_out (a_row {k = k} {x = x} {ms = ms} h o) path later =
      (λ i. (row_start k ++ (sym (same_value x h) i ++ (ascii.line_feed ∷ []))) ++ laid_out o path true i)
      ∙ sym (row_next path k later x (entries_of ms) h)
  laid_out (then_parts ps) path later = parts_laid_out ps path later

  parts_laid_out : {ms : Members} (ps : PartsBy HoldsNone ms) (path : List (List ℕ)) (later : Bool)
      → parts_in_order plain path later ps ≡ entries_text path later (entries_of ms)
  parts_laid_out no_parts path later = refl
  parts_laid_out (a_table {k = k} o ps) path later =
      (λ i. (cond (sym (layout_due o) i) (table_header later (k ∷ path)) [] ++ laid_out o (k ∷ path) false i)
      ++ parts_laid_out ps path true i)
  parts_laid_out (an_array {k = k} {xs = xs} {ms = ms} (a_node {x = x} o ns) ps) path later =
      (λ i. ((element_header later (k ∷ path) ++ laid_out o (k ∷ path) false i) ++ nodes_laid_out ns (k ∷ path) i)
      ++ parts_laid_out ps path true i)
      ∙ ap (λ z. z ++ entries_text path true (entries_of ms))
      (append_assoc (element_header later (k ∷ path)) (entries_text (k ∷ path) false (entries_of x))
      (l.sections_text (k ∷ path) (elements_of xs)))

  nodes_laid_out : {xs : Items} (ns : NodesBy HoldsNone xs) (path : List (List ℕ))
      → nodes_in_order plain path true ns ≡ l.sections_text path (elements_of xs)
  nodes_laid_out no_nodes path = refl
  nodes_laid_out (a_node {x = x} {xs = xs} o ns) path =
      (λ i. (element_header true path ++ laid_out o path false i) ++ nodes_laid_out ns path i)
      ∙ append_assoc (element_header true path) (entries_text path false (entries_of x))
      (l.sections_text path (elements_of xs))

pub same_text : {ms : Members} → Ordered ms → document_text plain ms ≡ l.layout (w.table (entries_of ms))
same_text o = ordered_text plain_row plain o ∙ laid_out o [] false
