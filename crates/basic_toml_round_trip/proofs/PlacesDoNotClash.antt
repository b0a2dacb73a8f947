-- No two sections of a laid-out table clash where they are placed.
use Rattle.std.proofs.Common.{◌≡◌, ℕ, suc, ◌≤◌, Bool, true, false, cond, ◌&&◌, List, [], ◌∷◌, ◌++◌, Option, Some}
use Rattle.std.proofs.Common.{None, refl, ◌∙◌, arith}
use Rattle.std.specs.List.{list_any}
use Rattle.std.specs.Str.{bytes_eq}
use Rattle.std.proofs.lemmas.Bool.{or_from, and_right, ne_eqb}
use Rattle.basic_toml_value.specs.Data.{Items, Members}
use Rattle.basic_toml_grammar.specs.Sections.{KeyTexts, Rows}
use Rattle.basic_toml_grammar.specs.Steps.{Step, key, number, Path, step_eq, begins}
use Rattle.basic_toml_grammar.specs.SectionClash.{any_pair}
use Rattle.basic_toml_grammar.specs.Placed.{Placed, step_into, adds_element, path_of, is_short, crosses, row_meets}
use Rattle.basic_toml_grammar.specs.Placed.{rows_meet, placed_clash_one_way, placed_clash}
use Rattle.basic_toml_round_trip.proofs.LaidOut.{IsNew, Laid, a_row, then_parts, Parts, no_parts, a_table, an_array}
use Rattle.basic_toml_round_trip.proofs.LaidOut.{Nodes, no_nodes, a_node}
use Rattle.basic_toml_round_trip.proofs.SectionsOfTable.{has_header, rows, below, placed_here, head_placed}
use Rattle.basic_toml_round_trip.proofs.SectionsOfTable.{inner_placed, part_placed, node_offsets}
use Rattle.basic_toml_round_trip.proofs.StepsKeepSectionsApart.{placed_at, one_way, rows_apart, At, deeper, element}
use Rattle.basic_toml_round_trip.proofs.StepsKeepSectionsApart.{Differ, by_keys, by_numbers, rows_below, AllAt}
use Rattle.basic_toml_round_trip.proofs.StepsKeepSectionsApart.{at_more, at_below, any-append, none_clashes}
use Rattle.basic_toml_round_trip.proofs.StepsKeepSectionsApart.{pairs_apart}

-- the keys of the rows, after those seen
abbrev keys_after : {seen : KeyTexts} {ms : Members} → Laid seen ms → KeyTexts
keys_after (a_row new text value laid) = keys_after laid
keys_after (then_parts {seen = seen} parts) = seen

new_before : {seen : KeyTexts} {ms : Members} (laid : Laid seen ms) (l : List ℕ) → IsNew l (keys_after laid)
    → IsNew l seen
new_before (a_row new text value laid) l h = (new_before laid l h).1
new_before (then_parts parts) l h = h

-- the parts stand at new keys
abbrev NewKey : KeyTexts → Step → Type 0
NewKey seen (key k) = IsNew k seen
NewKey seen (number n) = ⊥

older : (k : List ℕ) (seen : KeyTexts) (ls : List Placed) → AllAt (NewKey (k ∷ seen)) ls → AllAt (NewKey seen) ls
older k seen ls h = at_more (NewKey (k ∷ seen)) (NewKey seen) one ls h
  where
    one : (s : Step) → NewKey (k ∷ seen) s → NewKey seen s
    one (key l) h = h.1
    one (number n) h = h

parts_at : {seen : KeyTexts} {ms : Members} (parts : Parts seen ms) → AllAt (NewKey seen) (part_placed parts)
parts_at no_parts = tt
parts_at (a_table {seen = seen} {k = k} new text laid parts) =
    at_below (NewKey seen) (key k) (head_placed laid ++ inner_placed laid) (part_placed parts) new
    (older k seen (part_placed parts) (parts_at parts))
parts_at (an_array {seen = seen} {k = k} new text nodes parts) =
    at_below (NewKey seen) (key k) (node_offsets 0 nodes) (part_placed parts) new
    (older k seen (part_placed parts) (parts_at parts))

inner_at : {seen : KeyTexts} {ms : Members} (laid : Laid seen ms)
    → AllAt (NewKey (keys_after laid)) (inner_placed laid)
inner_at (a_row new text value laid) = inner_at laid
inner_at (then_parts parts) = parts_at parts

key_differs : (k : List ℕ) (seen : KeyTexts) (t : Step) → NewKey (k ∷ seen) t → Differ (key k) t
key_differs k seen (key l) h = by_keys h.0
key_differs k seen (number n) h = absurd h

-- and the elements of an array at their numbers
abbrev FromNumber : ℕ → Step → Type 0
FromNumber i (key k) = ⊥
FromNumber i (number j) = i ≤ j

nodes_at : (i j : ℕ) {xs : Items} (nodes : Nodes xs) → i ≤ j → AllAt (FromNumber i) (node_offsets j nodes)
nodes_at i j no_nodes h = tt
nodes_at i j (a_node laid nodes) h = (
  (number j, element, h),
  at_below (FromNumber i) (number j) (inner_placed laid) (node_offsets (suc j) nodes) h
      (nodes_at i (suc j) nodes (omega arith)),
)

number_differs : (i : ℕ) (t : Step) → FromNumber (suc i) t → Differ (number i) t
number_differs i (key k) h = absurd h
number_differs i (number j) h = by_numbers (ne_eqb i j (λ e. omega arith))

-- rows do not meet what stands at new keys
short_none : (t : Path) → is_short t [] ≡ false
short_none [] = refl
short_none (s ∷ t) = refl

rows_free : {seen : KeyTexts} {ms : Members} (laid : Laid seen ms) (l : List ℕ) (q t : Path) → IsNew l (keys_after laid)
    → rows_meet [] (rows laid) (key l ∷ q) (key l ∷ t) ≡ false
rows_free (then_parts parts) l q t h = refl
rows_free (a_row {k = k} new text value laid) l q t h =
    or_from (row_meets [] (key k ∷ []) (key l ∷ q) (key l ∷ t)) (rows_meet [] (rows laid) (key l ∷ q) (key l ∷ t))
    (or_from (begins (key k ∷ []) (key l ∷ q)) (crosses [] (key k ∷ []) (key l ∷ t)) (rw ((new_before laid l h).0) refl)
    (rw (short_none t) (and_right (bytes_eq l k) false refl)))
    (rows_free laid l q t h)

-- so a table does not clash with its parts
head_way : {seen : KeyTexts} {ms : Members} (laid : Laid seen ms) (l : List ℕ) (t : Path) (e : Option ℕ) (rs : Rows)
    → IsNew l (keys_after laid)
    → placed_clash (placed_here None (rows laid)) (placed_at (key l ∷ t) e rs) ≡ false
head_way laid l t e rs h =
    or_from _ _
    (one_way (placed_here None (rows laid)) (placed_at (key l ∷ t) e rs) refl (and_right (adds_element e) false refl)
    (rows_free laid l (t ++ step_into e) t h))
    (one_way (placed_at (key l ∷ t) e rs) (placed_here None (rows laid)) refl refl
    (rows_apart (key l ∷ (t ++ step_into e)) rs [] [] (λ s. refl) (λ s. refl)))

head_apart : {seen : KeyTexts} {ms : Members} (laid : Laid seen ms) {s : Step} {o : Placed} → At s o
    → NewKey (keys_after laid) s
    → placed_clash (placed_here None (rows laid)) o ≡ false
head_apart laid (deeper {s = key l} {t = t} {e = e} {rs = rs}) n = head_way laid l t e rs n
head_apart laid (deeper {s = number i}) n = absurd n
head_apart laid element n = absurd n

head_free : {seen : KeyTexts} {ms : Members} (laid : Laid seen ms) (os : List Placed)
    → AllAt (NewKey (keys_after laid)) os
    → list_any (placed_clash (placed_here None (rows laid))) os ≡ false
head_free laid [] h = refl
head_free laid (o ∷ os) h = or_from _ _ (head_apart laid h.0.1 h.0.2) (head_free laid os h.1)

-- nor does an element with the parts of its table
no_step : (i : ℕ) → (step_eq (number i) (number i) && false) ≡ false
no_step i = and_right (step_eq (number i) (number i)) false refl

element_way : {seen : KeyTexts} {ms : Members} (i : ℕ) (laid : Laid seen ms) (l : List ℕ) (t : Path) (e : Option ℕ)
    (rs : Rows) → IsNew l (keys_after laid)
    → placed_clash (placed_here (Some i) (rows laid)) (placed_at (number i ∷ key l ∷ t) e rs) ≡ false
element_way i laid l t e rs h =
    let x : Placed = placed_here (Some i) (rows laid) in
    let y : Placed = placed_at (number i ∷ key l ∷ t) e rs in
    let meets : rows_meet (path_of x) (rows laid) (path_of y) y.target ≡ false =
    rows_below (number i) [] (rows laid) (key l ∷ (t ++ step_into e)) (key l ∷ t)
    ∙ rows_free laid l (t ++ step_into e) t h in
    or_from (placed_clash_one_way x y) (placed_clash_one_way y x)
    (one_way x y (rw (no_step i) (and_right (begins (path_of x) (path_of y)) false refl))
    (rw (no_step i) (and_right (adds_element e) false refl)) meets)
    (one_way y x (rw (no_step i) refl) refl (rows_apart (path_of y) rs (path_of x) [] (λ s. no_step i) (λ s. refl)))

element_apart : {seen : KeyTexts} {ms : Members} (i : ℕ) (laid : Laid seen ms) {s : Step} {o : Placed} → At s o
    → NewKey (keys_after laid) s
    → placed_clash (placed_here (Some i) (rows laid)) (placed_at (number i ∷ o.target) o.element o.rows) ≡ false
element_apart i laid (deeper {s = key l} {t = t} {e = e} {rs = rs}) n = element_way i laid l t e rs n
element_apart i laid (deeper {s = number j}) n = absurd n
element_apart i laid element n = absurd n

element_free : {seen : KeyTexts} {ms : Members} (i : ℕ) (laid : Laid seen ms) (os : List Placed)
    → AllAt (NewKey (keys_after laid)) os
    → list_any (placed_clash (placed_here (Some i) (rows laid))) (below (number i) os) ≡ false
element_free i laid [] h = refl
element_free i laid (o ∷ os) h = or_from _ _ (element_apart i laid h.0.1 h.0.2) (element_free i laid os h.1)

head_pairs : {seen : KeyTexts} {ms : Members} (laid : Laid seen ms) (has : Bool)
    → any_pair placed_clash (inner_placed laid) ≡ false
    → any_pair placed_clash (cond has (placed_here None (rows laid) ∷ []) [] ++ inner_placed laid) ≡ false
head_pairs laid true e = or_from _ _ (head_free laid (inner_placed laid) (inner_at laid)) e
head_pairs laid false e = e

-- no two of the paths clash
mutual
  pub inner_apart : {seen : KeyTexts} {ms : Members} (laid : Laid seen ms)
      → any_pair placed_clash (inner_placed laid) ≡ false
  inner_apart (a_row new text value laid) = inner_apart laid
  inner_apart (then_parts parts) = parts_apart parts

  parts_apart : {seen : KeyTexts} {ms : Members} (parts : Parts seen ms)
      → any_pair placed_clash (part_placed parts) ≡ false
  parts_apart no_parts = refl
  parts_apart (a_table {seen = seen} {k = k} new text laid parts) =
      pairs_apart (NewKey (k ∷ seen)) (key k) (head_placed laid ++ inner_placed laid) (part_placed parts)
      (head_pairs laid (has_header laid) (inner_apart laid)) (parts_at parts) (key_differs k seen) (parts_apart parts)
  parts_apart (an_array {seen = seen} {k = k} new text nodes parts) =
      pairs_apart (NewKey (k ∷ seen)) (key k) (node_offsets 0 nodes) (part_placed parts) (nodes_apart 0 nodes)
      (parts_at parts) (key_differs k seen) (parts_apart parts)

  nodes_apart : (i : ℕ) {xs : Items} (nodes : Nodes xs) → any_pair placed_clash (node_offsets i nodes) ≡ false
  nodes_apart i no_nodes = refl
  nodes_apart i (a_node laid nodes) =
      let later : AllAt (FromNumber (suc i)) (node_offsets (suc i) nodes) =
      nodes_at (suc i) (suc i) nodes (omega arith) in
      or_from _ _
      (any-append (placed_clash (placed_here (Some i) (rows laid))) (below (number i) (inner_placed laid))
      (node_offsets (suc i) nodes)
      (element_free i laid (inner_placed laid) (inner_at laid))
      (none_clashes (FromNumber (suc i)) (placed_here (Some i) (rows laid)) (node_offsets (suc i) nodes) element later
      (number_differs i)))
      (pairs_apart (FromNumber (suc i)) (number i) (inner_placed laid) (node_offsets (suc i) nodes)
      (inner_apart laid) later (number_differs i) (nodes_apart (suc i) nodes))

-- nor do they with the root
pub root_apart : {ms : Members} (laid : Laid [] ms)
    → any_pair placed_clash (placed_here None (rows laid) ∷ inner_placed laid) ≡ false
root_apart laid = head_pairs laid true (inner_apart laid)
