-- No rows of a laid-out table clash.
use Rattle.std.proofs.Common.{◌≡◌, ℕ, Bool, true, false, cond, List, [], ◌∷◌, ◌++◌, refl, ◌∙◌}
use Rattle.std.specs.Str.{bytes_eq}
use Rattle.std.proofs.lemmas.Bool.{or_from}
use Rattle.std.proofs.lemmas.List.Folds.{list_any-append}
use Rattle.basic_toml_value.specs.Data as d
use Rattle.basic_toml_value.specs.Data.{Data, Items, no_items, item, Members, no_members, member}
use Rattle.basic_toml_grammar.specs.Sections.{KeyTexts, Rows, no_rows, row, Section}
use Rattle.basic_toml_grammar.specs.Steps.{key, overlap}
use Rattle.basic_toml_grammar.specs.RowClash.{any_overlaps, rows_clash, value_clashes, elements_clash, has_row_clash}
use Rattle.basic_toml_grammar.specs.Grammar.{with_root}
use Rattle.basic_toml_grammar.proofs.Clash.ClashesAgree.{turn_eq}
use Rattle.basic_toml_round_trip.proofs.LaidOut.{IsInRow, AreInRow, AreFields, IsNone, Laid, a_row, then_parts, Parts}
use Rattle.basic_toml_round_trip.proofs.LaidOut.{no_parts, a_table, an_array, Nodes, no_nodes, a_node}
use Rattle.basic_toml_round_trip.proofs.SectionsOfTable.{has_header, raw, raw_items, raw_fields, rows, section_of}
use Rattle.basic_toml_round_trip.proofs.SectionsOfTable.{inner_sections, part_sections, node_sections, sections}

-- no rows of an inline table clash
fields_apart : (k : List ℕ) (seen : KeyTexts) (ms : Members) → AreFields (k ∷ seen) ms
    → any_overlaps (key k ∷ []) (raw_fields ms) ≡ false
fields_apart k seen ms h = go ms (k ∷ seen) (λ l n. n.0) h
  where
    go : (ms : Members) (seen : KeyTexts) → IsNone k seen → AreFields seen ms
        → any_overlaps (key k ∷ []) (raw_fields ms) ≡ false
    go no_members seen none h = refl
    go (member l x ms) seen none h =
        let differs : bytes_eq k l ≡ false = none l h.0.0 in
        let turned : bytes_eq l k ≡ false = turn_eq (key l) (key k) ∙ differs in
        or_from (overlap (key k ∷ []) (key l ∷ [])) (any_overlaps (key k ∷ []) (raw_fields ms))
        (rw (differs, turned) refl) (go ms (l ∷ seen) (λ j n. none j n.1) h.1.1)

mutual
  value_quiet : (x : Data) → IsInRow x → value_clashes (raw x) ≡ false
  value_quiet (d.integer z) h = refl
  value_quiet (d.float t) h = refl
  value_quiet (d.boolean b) h = refl
  value_quiet (d.string t) h = refl
  value_quiet (d.array xs) h = items_quiet xs h
  value_quiet (d.table ms) h = fields_quiet ms [] h

  items_quiet : (xs : Items) → AreInRow xs → elements_clash (raw_items xs) ≡ false
  items_quiet no_items h = refl
  items_quiet (item x xs) h = or_from _ _ (value_quiet x h.0) (items_quiet xs h.1)

  fields_quiet : (ms : Members) (seen : KeyTexts) → AreFields seen ms → rows_clash (raw_fields ms) ≡ false
  fields_quiet no_members seen h = refl
  fields_quiet (member k x ms) seen h =
      or_from _ _ (or_from _ _ (fields_apart k seen ms h.1.1) (value_quiet x h.1.0)) (fields_quiet ms (k ∷ seen) h.1.1)

-- the rows of one table
no_overlap : (k : List ℕ) {seen : KeyTexts} {ms : Members} (laid : Laid seen ms) → IsNone k seen
    → any_overlaps (key k ∷ []) (rows laid) ≡ false
no_overlap k (a_row {k = l} new text value laid) h =
    let differs : bytes_eq k l ≡ false = h l new in
    let turned : bytes_eq l k ≡ false = turn_eq (key l) (key k) ∙ differs in
    or_from (overlap (key k ∷ []) (key l ∷ [])) (any_overlaps (key k ∷ []) (rows laid)) (rw (differs, turned) refl)
    (no_overlap k laid (λ j n. h j n.1))
no_overlap k (then_parts parts) h = refl

rows_quiet : {seen : KeyTexts} {ms : Members} (laid : Laid seen ms) → rows_clash (rows laid) ≡ false
rows_quiet (a_row {k = k} {x = x} new text value laid) =
    or_from _ _ (or_from _ _ (no_overlap k laid (λ l n. n.0)) (value_quiet x value)) (rows_quiet laid)
rows_quiet (then_parts parts) = refl

-- and those of all sections
quiet-append : (xs ys : List Section) → has_row_clash xs ≡ false → has_row_clash ys ≡ false
    → has_row_clash (xs ++ ys) ≡ false
quiet-append xs ys a b = list_any-append (λ s. rows_clash s.rows) xs ys ∙ or_from _ _ a b

header_quiet : (has : Bool) (path : KeyTexts) (rs : Rows) → rows_clash rs ≡ false
    → has_row_clash (cond has (section_of path false rs ∷ []) []) ≡ false
header_quiet true path rs e = or_from _ _ e refl
header_quiet false path rs e = refl

mutual
  inner_quiet : {seen : KeyTexts} {ms : Members} (laid : Laid seen ms) (path : KeyTexts)
      → has_row_clash (inner_sections path laid) ≡ false
  inner_quiet (a_row new text value laid) path = inner_quiet laid path
  inner_quiet (then_parts parts) path = parts_quiet parts path

  parts_quiet : {seen : KeyTexts} {ms : Members} (parts : Parts seen ms) (path : KeyTexts)
      → has_row_clash (part_sections path parts) ≡ false
  parts_quiet no_parts path = refl
  parts_quiet (a_table {k = k} new text laid parts) path =
      quiet-append (cond (has_header laid) (section_of (k ∷ path) false (rows laid) ∷ []) []) _
      (header_quiet (has_header laid) (k ∷ path) (rows laid) (rows_quiet laid))
      (quiet-append (inner_sections (k ∷ path) laid) _ (inner_quiet laid (k ∷ path)) (parts_quiet parts path))
  parts_quiet (an_array {k = k} new text nodes parts) path =
      quiet-append (node_sections (k ∷ path) nodes) _ (nodes_quiet nodes (k ∷ path)) (parts_quiet parts path)

  nodes_quiet : {xs : Items} (nodes : Nodes xs) (path : KeyTexts) → has_row_clash (node_sections path nodes) ≡ false
  nodes_quiet no_nodes path = refl
  nodes_quiet (a_node laid nodes) path =
      or_from _ _ (rows_quiet laid)
      (quiet-append (inner_sections path laid) _ (inner_quiet laid path) (nodes_quiet nodes path))

pub sections_quiet : {ms : Members} (laid : Laid [] ms) → has_row_clash (sections laid) ≡ false
sections_quiet laid = go (rows laid) (rows_quiet laid)
  where
    go : (rs : Rows) → rows_clash rs ≡ false → has_row_clash (with_root rs (inner_sections [] laid)) ≡ false
    go no_rows e = inner_quiet laid []
    go (row keys at v rs) e = or_from _ _ e (inner_quiet laid [])
