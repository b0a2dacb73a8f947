-- What a value can hold is laid out, once it stands in the order of its text.
use Rattle.std.proofs.Common.{◌≡◌, ℕ, ◌≤◌, ◌<◌, ◌^◌, max, Bool, true, false, cond, not, ◌||◌, List, [], ◌∷◌, refl, sym}
use Rattle.std.proofs.Common.{◌∙◌, arith, ℤ, pos, negsuc}
use Rattle.std.specs.Prelude.{FitsSigned, IsUtf8}
use Rattle.std.specs.Int.{w64}
use Rattle.std.specs.Str.{bytes_eq}
use Rattle.std.proofs.lemmas.Bool.{and_parts, or_parts, not-true, true≢false, lt-ltb}
use Rattle.std.proofs.lemmas.Int.{ints}
use Rattle.basic_toml_value.specs.Data as d
use Rattle.basic_toml_value.specs.Data.{Data, Items, no_items, item, Members, no_members, member}
use Rattle.basic_toml_index.specs.Keys.{is_among, are_distinct}
use Rattle.basic_toml_layout.specs.Document.{are_tables, is_row}
use Rattle.basic_toml_layout.specs.TextOrder.{followed_by, rows_of, sections_of, in_order, all_in_order, text_order}
use Rattle.basic_toml_layout.specs.Valid.{keys_of, IsValid, AreValid, HoldsValid}
use Rattle.basic_toml_grammar.specs.Depth.{depth, depth_of_items, depth_of_members}
use Rattle.basic_toml_grammar.specs.Sections.{KeyTexts}
use Rattle.basic_toml_grammar.specs.Steps.{key}
use Rattle.basic_toml_grammar.proofs.Clash.ClashesAgree.{turn_eq}
use Rattle.basic_toml_round_trip.proofs.IntegersAreReadBack.{fits}
use Rattle.basic_toml_round_trip.proofs.LaidOut.{IsNew, IsInRow, AreInRow, AreFields, IsRow, LaidBy, a_row, then_parts}
use Rattle.basic_toml_round_trip.proofs.LaidOut.{PartsLaid, no_parts, a_table, an_array, NodesLaid, no_nodes, a_node}

-- the keys of members are new
abbrev AllNew : KeyTexts → Members → Type 0
AllNew seen no_members = Unit {0}
AllNew seen (member k x ms) = IsNew k seen × AllNew seen ms

none_seen : (ms : Members) → AllNew [] ms
none_seen no_members = tt
none_seen (member k x ms) = (tt, none_seen ms)

one_more : (k : List ℕ) (seen : KeyTexts) (ms : Members) → is_among (keys_of ms) k ≡ false → AllNew seen ms
    → AllNew (k ∷ seen) ms
one_more k seen no_members e n = tt
one_more k seen (member l x ms) e n =
    let p : (bytes_eq k l ≡ false) × (is_among (keys_of ms) k ≡ false) = or_parts _ _ e in
    ((p.0, n.0), one_more k seen ms p.1 n.1)

-- the first key of distinct ones is none of the others
record Distinct (k : List ℕ) (ms : Members) : Type 0 where
  apart : is_among (keys_of ms) k ≡ false
  others : are_distinct (keys_of ms) ≡ true

first_apart : (k : List ℕ) (ms : Members) → are_distinct (k ∷ keys_of ms) ≡ true → Distinct k ms
first_apart k ms e =
    let p = and_parts (not (is_among (keys_of ms) k)) (are_distinct (keys_of ms)) e in
    record { apart = not-true _ p.0; others = p.1 }

-- values of rows
integer_fits : (z : ℤ) → FitsSigned w64 z → fits z ≡ true
integer_fits (pos n) f = lt-ltb n (2 ^ 63) (omega (arith, ints, f))
integer_fits (negsuc n) f = lt-ltb n (2 ^ 63) (omega (arith, ints, f))

mutual
  pub valid_in_row : (x : Data) → IsValid x → IsInRow x
  valid_in_row (d.integer z) h = integer_fits z h
  valid_in_row (d.float t) h = h
  valid_in_row (d.boolean b) h = tt
  valid_in_row (d.string t) h = h
  valid_in_row (d.array xs) h = all_in_row xs h
  valid_in_row (d.table ms) h = valid_fields ms [] h.0 h.1 (none_seen ms)

  all_in_row : (xs : Items) → AreValid xs → AreInRow xs
  all_in_row no_items h = tt
  all_in_row (item x xs) h = (valid_in_row x h.0, all_in_row xs h.1)

  valid_fields : (ms : Members) (seen : KeyTexts) → are_distinct (keys_of ms) ≡ true → HoldsValid ms → AllNew seen ms
      → AreFields seen ms
  valid_fields no_members seen e h n = tt
  valid_fields (member k x ms) seen e h n =
      let p = first_apart k ms e in (
        (n.0, h.0),
        (
          valid_in_row x h.1.0,
          valid_fields ms (k ∷ seen) p.others h.1.1 (one_more k seen ms p.apart n.1),
        ),
      )

-- the keys that stand before the sections
abbrev rows_seen : KeyTexts → Members → KeyTexts
rows_seen seen no_members = seen
rows_seen seen (member k x ms) = cond (is_row x) (rows_seen (k ∷ seen) ms) (rows_seen seen ms)

-- rows, and parts after them
rows_laid : (ms : Members) (seen : KeyTexts) {parts : Members} → are_distinct (keys_of ms) ≡ true → HoldsValid ms
    → AllNew seen ms → PartsLaid IsRow (rows_seen seen ms) parts → LaidBy IsRow seen (followed_by (rows_of ms) parts)
rows_laid no_members seen e h n ps = then_parts ps
rows_laid (member k x ms) seen {parts = parts} e h n ps =
    let p = first_apart k ms e in
    go (is_row x) refl ps (λ ps. rows_laid ms (k ∷ seen) p.others h.1.1 (one_more k seen ms p.apart n.1) ps)
    (λ ps. rows_laid ms seen p.others h.1.1 n.1 ps)
  where
    go : (b : Bool) → is_row x ≡ b → PartsLaid IsRow (cond b (rows_seen (k ∷ seen) ms) (rows_seen seen ms)) parts
        → (PartsLaid IsRow (rows_seen (k ∷ seen) ms) parts → LaidBy IsRow (k ∷ seen) (followed_by (rows_of ms) parts))
        → (PartsLaid IsRow (rows_seen seen ms) parts → LaidBy IsRow seen (followed_by (rows_of ms) parts))
        → LaidBy IsRow seen (followed_by (cond b (member k x (rows_of ms)) (rows_of ms)) parts)
    go true r ps own others = a_row n.0 h.0 (record { row = r; value = valid_in_row x h.1.0 }) (own ps)
    go false r ps own others = others ps

-- the keys of sections are new behind the rows
abbrev SectionsNew : KeyTexts → Members → Type 0
SectionsNew seen no_members = Unit {0}
SectionsNew seen (member k x ms) = (is_row x ≡ false → IsNew k seen) × SectionsNew seen ms

new_behind : (k : List ℕ) (seen : KeyTexts) (ms : Members) → is_among (keys_of ms) k ≡ false → IsNew k seen
    → IsNew k (rows_seen seen ms)
new_behind k seen no_members e n = n
new_behind k seen (member l x ms) e n =
    let p : (bytes_eq k l ≡ false) × (is_among (keys_of ms) k ≡ false) = or_parts _ _ e in
    go (is_row x) (new_behind k (l ∷ seen) ms p.1 (turn_eq (key l) (key k) ∙ p.0, n)) (new_behind k seen ms p.1 n)
  where
    go : (b : Bool) → IsNew k (rows_seen (l ∷ seen) ms) → IsNew k (rows_seen seen ms)
        → IsNew k (cond b (rows_seen (l ∷ seen) ms) (rows_seen seen ms))
    go true a b = a
    go false a b = b

sections_new : (ms : Members) (seen : KeyTexts) → are_distinct (keys_of ms) ≡ true → AllNew seen ms
    → SectionsNew (rows_seen seen ms) ms
sections_new no_members seen e n = tt
sections_new (member k x ms) seen e n =
    let p = first_apart k ms e in
    go (is_row x) refl (new_behind k seen ms p.apart n.0)
    (sections_new ms (k ∷ seen) p.others (one_more k seen ms p.apart n.1)) (sections_new ms seen p.others n.1)
  where
    go : (b : Bool) → is_row x ≡ b → IsNew k (rows_seen seen ms) → SectionsNew (rows_seen (k ∷ seen) ms) ms
        → SectionsNew (rows_seen seen ms) ms
        → (is_row x ≡ false → IsNew k (cond b (rows_seen (k ∷ seen) ms) (rows_seen seen ms)))
        × SectionsNew (cond b (rows_seen (k ∷ seen) ms) (rows_seen seen ms)) ms
    go true r new own others = ((λ s. absurd (true≢false (sym r ∙ s))), own)
    go false r new own others = ((λ s. new), others)

sections_more : (k : List ℕ) (seen : KeyTexts) (ms : Members) → is_among (keys_of ms) k ≡ false
    → SectionsNew seen ms → SectionsNew (k ∷ seen) ms
sections_more k seen no_members e n = tt
sections_more k seen (member l x ms) e n =
    let p : (bytes_eq k l ≡ false) × (is_among (keys_of ms) k ≡ false) = or_parts _ _ e in
    ((λ r. (p.0, n.0 r)), sections_more k seen ms p.1 n.1)

-- an array that begins with a table
an_array_or_row : (k : List ℕ) (ns : Members) (xs : Items) {seen : KeyTexts} {parts : Members} (b : Bool)
    → are_tables xs ≡ b → (not (are_tables xs) ≡ false → IsNew k seen) → IsUtf8 k → LaidBy IsRow [] (text_order ns)
    → (are_tables xs ≡ true → NodesLaid IsRow (all_in_order xs)) → PartsLaid IsRow seen parts → PartsLaid IsRow (k ∷ seen) parts
    → PartsLaid IsRow seen (cond (not (are_tables xs)) parts
    (member k (d.array (item (d.table (text_order ns)) (all_in_order xs))) parts))
an_array_or_row k ns xs true t new text first others skipped rest =
    rw t (an_array (new (rw t refl)) text (a_node first (others t)) rest)
an_array_or_row k ns xs false t new text first others skipped rest = rw t skipped

-- the sections
mutual
  parts_laid : (ms : Members) (seen : KeyTexts) → are_distinct (keys_of ms) ≡ true → HoldsValid ms
      → SectionsNew seen ms → PartsLaid IsRow seen (sections_of ms)
  parts_laid no_members seen e h n = no_parts
  parts_laid (member k (d.table ns) ms) seen e h n =
      let p = first_apart k ms e in
      a_table (n.0 refl) h.0
      (rows_laid ns [] h.1.0.0 h.1.0.1 (none_seen ns)
      (parts_laid ns (rows_seen [] ns) h.1.0.0 h.1.0.1 (sections_new ns [] h.1.0.0 (none_seen ns))))
      (parts_laid ms (k ∷ seen) p.others h.1.1 (sections_more k seen ms p.apart n.1))
  parts_laid (member k (d.array (item (d.table ns) xs)) ms) seen e h n =
      let p = first_apart k ms e in
      an_array_or_row k ns xs (are_tables xs) refl n.0 h.0
      (rows_laid ns [] h.1.0.0.0 h.1.0.0.1 (none_seen ns)
      (parts_laid ns (rows_seen [] ns) h.1.0.0.0 h.1.0.0.1 (sections_new ns [] h.1.0.0.0 (none_seen ns))))
      (λ t. nodes_laid xs h.1.0.1 t) (parts_laid ms seen p.others h.1.1 n.1)
      (parts_laid ms (k ∷ seen) p.others h.1.1 (sections_more k seen ms p.apart n.1))
  parts_laid (member k (d.array no_items) ms) seen e h n =
      parts_laid ms seen (first_apart k ms e).others h.1.1 n.1
  parts_laid (member k (d.array (item x xs)) ms) seen e h n =
      parts_laid ms seen (first_apart k ms e).others h.1.1 n.1
  parts_laid (member k x ms) seen e h n = parts_laid ms seen (first_apart k ms e).others h.1.1 n.1

  nodes_laid : (xs : Items) → AreValid xs → are_tables xs ≡ true → NodesLaid IsRow (all_in_order xs)
  nodes_laid no_items h t = no_nodes
  nodes_laid (item (d.table ns) xs) h t =
      a_node
      (rows_laid ns [] h.0.0 h.0.1 (none_seen ns)
      (parts_laid ns (rows_seen [] ns) h.0.0 h.0.1 (sections_new ns [] h.0.0 (none_seen ns))))
      (nodes_laid xs h.1 t)
  nodes_laid (item x xs) h t = absurd (true≢false (sym t))

pub valid_laid : (ms : Members) → IsValid (d.table ms) → LaidBy IsRow [] (text_order ms)
valid_laid ms h =
    rows_laid ms [] h.0 h.1 (none_seen ms)
    (parts_laid ms (rows_seen [] ms) h.0 h.1 (sections_new ms [] h.0 (none_seen ms)))

-- It is no deeper than before.
rows_deep : (ms : Members) → depth_of_members (rows_of ms) ≤ depth_of_members ms
rows_deep no_members = omega arith
rows_deep (member k x ms) = go (is_row x) (rows_deep ms)
  where
    go : (b : Bool) → depth_of_members (rows_of ms) ≤ depth_of_members ms
        → depth_of_members (cond b (member k x (rows_of ms)) (rows_of ms)) ≤ max (depth x) (depth_of_members ms)
    go true rest = omega (arith, rest)
    go false rest = omega (arith, rest)

both_deep : (ms ns : Members) (n : ℕ) → depth_of_members ms ≤ n → depth_of_members ns ≤ n
    → depth_of_members (followed_by ms ns) ≤ n
both_deep no_members ns n a b = b
both_deep (member k x ms) ns n a b =
    let rest = both_deep ms ns n (omega (arith, a)) b in
    omega (arith, a, rest)

section_deep : (b : Bool) (k : List ℕ) (x : Data) (ms : Members) → depth (in_order x) ≤ depth x
    → depth_of_members (sections_of ms) ≤ depth_of_members ms
    → depth_of_members (cond b (sections_of ms) (member k (in_order x) (sections_of ms)))
    ≤ max (depth x) (depth_of_members ms)
section_deep true k x ms first rest = omega (arith, rest)
section_deep false k x ms first rest = omega (arith, first, rest)

mutual
  in_order_deep : (x : Data) → depth (in_order x) ≤ depth x
  in_order_deep (d.integer z) = omega arith
  in_order_deep (d.float t) = omega arith
  in_order_deep (d.boolean b) = omega arith
  in_order_deep (d.string t) = omega arith
  in_order_deep (d.array xs) = let rest = all_deep xs in omega (arith, rest)
  in_order_deep (d.table ms) =
      let rest =
      both_deep (rows_of ms) (sections_of ms) (depth_of_members ms) (rows_deep ms) (sections_deep ms) in
      omega (arith, rest)

  all_deep : (xs : Items) → depth_of_items (all_in_order xs) ≤ depth_of_items xs
  all_deep no_items = omega arith
  all_deep (item x xs) =
      let first = in_order_deep x in
      let rest = all_deep xs in
      omega (arith, first, rest)

  sections_deep : (ms : Members) → depth_of_members (sections_of ms) ≤ depth_of_members ms
  sections_deep no_members = omega arith
  sections_deep (member k x ms) = section_deep (is_row x) k x ms (in_order_deep x) (sections_deep ms)

pub order_deep : (ms : Members) → depth (d.table (text_order ms)) ≤ depth (d.table ms)
order_deep ms = in_order_deep (d.table ms)
