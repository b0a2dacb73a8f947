-- A table as it is laid out: rows, and after them parts, which are tables and arrays of tables. Each key is UTF-8, and
-- new in its table.
use Rattle.std.proofs.Common.{◌≡◌, ℕ, Bool, true, false, cond, ◌&&◌, List, [], ◌∷◌, ◌++◌, Some, refl, ap}
use Rattle.std.specs.Prelude.{IsUtf8}
use Rattle.std.specs.Str.{bytes_eq}
use Rattle.basic_toml_numbers.specs.Numbers.{float_of}
use Rattle.basic_toml_value.specs.Data as d
use Rattle.basic_toml_value.specs.Data.{Data, Items, no_items, item, Members, no_members, member}
use Rattle.basic_toml_layout.specs.Layout.{table_header, element_header}
use Rattle.basic_toml_layout.specs.Document.{is_row, Style, row_text}
use Rattle.basic_toml_layout.proofs.OrderedText as o
use Rattle.basic_toml_layout.proofs.OrderedText.{HoldsNone, OrderedBy, PartsBy, NodesBy, Ordered}
use Rattle.basic_toml_grammar.specs.Sections.{KeyTexts}
use Rattle.basic_toml_round_trip.proofs.IntegersAreReadBack.{fits}

-- none of these keys is this one
abbrev pub IsNew : List ℕ → KeyTexts → Type 0
IsNew l [] = Unit {0}
IsNew l (k ∷ seen) = (bytes_eq k l ≡ false) × IsNew l seen

-- no key that is new is this one
abbrev pub IsNone : List ℕ → KeyTexts → Type 0
IsNone k seen = (l : List ℕ) → IsNew l seen → bytes_eq k l ≡ false

-- a value: texts are UTF-8, floats canonical, integers lie in i64, and each key is new in its table
abbrev mutual
  pub IsInRow : Data → Type 0
  IsInRow (d.integer z) = fits z ≡ true
  IsInRow (d.float t) = float_of t ≡ Some t
  IsInRow (d.boolean b) = Unit {0}
  IsInRow (d.string t) = IsUtf8 t
  IsInRow (d.array xs) = AreInRow xs
  IsInRow (d.table ms) = AreFields [] ms

  pub AreInRow : Items → Type 0
  AreInRow no_items = Unit {0}
  AreInRow (item x xs) = IsInRow x × AreInRow xs

  pub AreFields : KeyTexts → Members → Type 0
  AreFields seen no_members = Unit {0}
  AreFields seen (member k x ms) = (IsNew k seen × IsUtf8 k) × (IsInRow x × AreFields (k ∷ seen) ms)

-- a row of any table, and one whose value holds no table
pub record IsRow (x : Data) : Type 0 where
  pub row : is_row x ≡ true
  pub value : IsInRow x

pub record IsPlainRow (x : Data) : Type 0 where
  pub none : HoldsNone x
  pub value : IsInRow x

mutual
  -- rows that are so, then parts; no key is one of those seen
  pub data LaidBy (IsSo : Data → Type 0) : KeyTexts → Members → Type 0 where
    a_row : {seen : KeyTexts} {k : List ℕ} {x : Data} {ms : Members} → IsNew k seen → IsUtf8 k → IsSo x
        → LaidBy IsSo (k ∷ seen) ms → LaidBy IsSo seen (member k x ms)
    then_parts : {seen : KeyTexts} {ms : Members} → PartsLaid IsSo seen ms → LaidBy IsSo seen ms

  pub data PartsLaid (IsSo : Data → Type 0) : KeyTexts → Members → Type 0 where
    no_parts : {seen : KeyTexts} → PartsLaid IsSo seen no_members
    a_table : {seen : KeyTexts} {k : List ℕ} {x ms : Members} → IsNew k seen → IsUtf8 k → LaidBy IsSo [] x
        → PartsLaid IsSo (k ∷ seen) ms
        → PartsLaid IsSo seen (member k (d.table x) ms)
    an_array : {seen : KeyTexts} {k : List ℕ} {x : Members} {xs : Items} {ms : Members} → IsNew k seen → IsUtf8 k
        → NodesLaid IsSo (item (d.table x) xs) → PartsLaid IsSo (k ∷ seen) ms
        → PartsLaid IsSo seen (member k (d.array (item (d.table x) xs)) ms)

  -- the tables of an array
  pub data NodesLaid (IsSo : Data → Type 0) : Items → Type 0 where
    no_nodes : NodesLaid IsSo no_items
    a_node : {x : Members} {xs : Items} → LaidBy IsSo [] x → NodesLaid IsSo xs → NodesLaid IsSo (item (d.table x) xs)

-- any value may stand in a row, also one that a document has as a section
abbrev pub Laid : KeyTexts → Members → Type 0
Laid = LaidBy IsInRow

abbrev pub Parts : KeyTexts → Members → Type 0
Parts = PartsLaid IsInRow

abbrev pub Nodes : Items → Type 0
Nodes = NodesLaid IsInRow

-- one that is laid out has its rows first
abbrev mutual
  pub in_order : {IsSo : Data → Type 0} {seen : KeyTexts} {ms : Members} → LaidBy IsSo seen ms → OrderedBy IsSo ms
  in_order (a_row new text value laid) = o.a_row value (in_order laid)
  in_order (then_parts parts) = o.then_parts (parts_in_order parts)

  pub parts_in_order : {IsSo : Data → Type 0} {seen : KeyTexts} {ms : Members} → PartsLaid IsSo seen ms
      → PartsBy IsSo ms
  parts_in_order no_parts = o.no_parts
  parts_in_order (a_table new text laid parts) = o.a_table (in_order laid) (parts_in_order parts)
  parts_in_order (an_array new text nodes parts) = o.an_array (nodes_in_order nodes) (parts_in_order parts)

  pub nodes_in_order : {IsSo : Data → Type 0} {xs : Items} → NodesLaid IsSo xs → NodesBy IsSo xs
  nodes_in_order no_nodes = o.no_nodes
  nodes_in_order (a_node laid nodes) = o.a_node (in_order laid) (nodes_in_order nodes)

-- and one that is so otherwise
abbrev mutual
  pub laid_so : {P Q : Data → Type 0} → ((x : Data) → P x → Q x) → {seen : KeyTexts} {ms : Members}
      → LaidBy P seen ms → LaidBy Q seen ms
  laid_so f (a_row {x = x} new text value laid) = a_row new text (f x value) (laid_so f laid)
  laid_so f (then_parts parts) = then_parts (parts_so f parts)

  pub parts_so : {P Q : Data → Type 0} → ((x : Data) → P x → Q x) → {seen : KeyTexts} {ms : Members}
      → PartsLaid P seen ms → PartsLaid Q seen ms
  parts_so f no_parts = no_parts
  parts_so f (a_table new text laid parts) = a_table new text (laid_so f laid) (parts_so f parts)
  parts_so f (an_array new text nodes parts) = an_array new text (nodes_so f nodes) (parts_so f parts)

  pub nodes_so : {P Q : Data → Type 0} → ((x : Data) → P x → Q x) → {xs : Items} → NodesLaid P xs → NodesLaid Q xs
  nodes_so f no_nodes = no_nodes
  nodes_so f (a_node laid nodes) = a_node (laid_so f laid) (nodes_so f nodes)

-- which leaves the text as it is
header_stays : {P Q : Data → Type 0} (f : (x : Data) → P x → Q x) {seen : KeyTexts} {ms : Members}
    (laid : LaidBy P seen ms) → o.has_header (in_order (laid_so f laid)) ≡ o.has_header (in_order laid)
header_stays f (a_row new text value laid) = refl
header_stays f (then_parts no_parts) = refl
header_stays f (then_parts (a_table new text laid parts)) = refl
header_stays f (then_parts (an_array new text nodes parts)) = refl

module _ (style : Style) {P Q : Data → Type 0} (f : (x : Data) → P x → Q x) where
  mutual
    pub text_stays : {seen : KeyTexts} {ms : Members} (laid : LaidBy P seen ms) (path : KeyTexts) (later : Bool)
        → o.in_order style path later (in_order (laid_so f laid)) ≡ o.in_order style path later (in_order laid)
    text_stays (a_row {k = k} {x = x} new text value laid) path later =
        ap (λ t. row_text style k x ++ t) (text_stays laid path true)
    text_stays (then_parts parts) path later = parts_stay parts path later

    parts_stay : {seen : KeyTexts} {ms : Members} (parts : PartsLaid P seen ms) (path : KeyTexts) (later : Bool)
        → o.parts_in_order style path later (parts_in_order (parts_so f parts))
        ≡ o.parts_in_order style path later (parts_in_order parts)
    parts_stay no_parts path later = refl
    parts_stay (a_table {k = k} new text laid parts) path later =
        (λ i. (cond (header_stays f laid i) (table_header later (k ∷ path)) []
        ++ text_stays laid (k ∷ path) (style.spaced && later) i) ++ parts_stay parts path true i)
    parts_stay (an_array {k = k} new text nodes parts) path later =
        (λ i. nodes_stay nodes (k ∷ path) later i ++ parts_stay parts path true i)

    nodes_stay : {xs : Items} (nodes : NodesLaid P xs) (path : KeyTexts) (later : Bool)
        → o.nodes_in_order style path later (nodes_in_order (nodes_so f nodes))
        ≡ o.nodes_in_order style path later (nodes_in_order nodes)
    nodes_stay no_nodes path later = refl
    nodes_stay (a_node laid nodes) path later =
        (λ i. (element_header later path ++ text_stays laid path style.spaced i) ++ nodes_stay nodes path true i)

-- a plain row is one of any table
pub any_row : {seen : KeyTexts} {ms : Members} → LaidBy IsPlainRow seen ms → LaidBy IsRow seen ms
any_row laid = laid_so (λ x h. record { row = o.plain_row x h.none; value = h.value }) laid

pub plain_order : {seen : KeyTexts} {ms : Members} → LaidBy IsPlainRow seen ms → Ordered ms
plain_order laid = in_order (laid_so (λ x h. h.none) laid)
