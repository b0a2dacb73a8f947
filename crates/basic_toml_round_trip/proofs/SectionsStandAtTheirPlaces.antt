-- The sections of a laid-out table stand where its parts are placed.
use Rattle.std.proofs.Common.{◌≡◌, ℕ, suc, ◌≤◌, true, false, cond, List, [], ◌∷◌, ◌++◌, Option, Some, None, refl, ap}
use Rattle.std.proofs.Common.{sym, ◌∙◌, subst, arith, append_assoc}
use Rattle.std.proofs.lemmas.Bool.{ne_eqb}
use Rattle.basic_toml_value.specs.Data.{Items, Members}
use Rattle.basic_toml_grammar.specs.Sections.{KeyTexts, Rows, no_rows, row}
use Rattle.basic_toml_grammar.specs.Steps.{Step, key, number, Path}
use Rattle.basic_toml_grammar.specs.Placed.{Placed, elements_at, placed_from, placed}
use Rattle.basic_toml_grammar.specs.Grammar.{with_root}
use Rattle.basic_toml_grammar.proofs.Clash.StepTestsDecide.{begins_same, paths_same}
use Rattle.basic_toml_round_trip.proofs.LaidOut.{IsNew, Laid, a_row, then_parts, Parts, no_parts, a_table, an_array}
use Rattle.basic_toml_round_trip.proofs.LaidOut.{Nodes, no_nodes, a_node}
use Rattle.basic_toml_round_trip.proofs.SectionsOfTable.{has_header, rows, section_of, inner_sections, part_sections}
use Rattle.basic_toml_round_trip.proofs.SectionsOfTable.{node_sections, sections, below, placed_here, head_placed}
use Rattle.basic_toml_round_trip.proofs.SectionsOfTable.{inner_placed, part_placed, node_offsets}
use Rattle.basic_toml_round_trip.proofs.StepsKeepSectionsApart.{placed_at}
use Rattle.basic_toml_round_trip.proofs.PartsCountAside.{lift, lift_below, lift_none, after, placed_part}
use Rattle.basic_toml_round_trip.proofs.PartsCountAside.{placed_whole, placed_element, apart_left, off_longer}
use Rattle.basic_toml_round_trip.proofs.PartsCountAside.{off_beginning, not_counted, Aside, aside_offsets}
use Rattle.basic_toml_round_trip.proofs.PartsCountAside.{aside_then, aside_up}
use Rattle.basic_toml_round_trip.proofs.KeysLeadToPlaces.{keys_to, Leads, leads_aside, leads_down, element_stands}
use Rattle.basic_toml_round_trip.proofs.KeysLeadToPlaces.{head_stands, head_counts}

-- no elements are counted below a path by a new key, or by a number from i on
record IsFresh (seen : KeyTexts) (p : Path) (before : List Placed) : Type 0 where
  none : (k : List ℕ) → IsNew k seen → (q : Path) → elements_at (p ++ key k ∷ q) before ≡ 0

record IsFreshFrom (i : ℕ) (p : Path) (before : List Placed) : Type 0 where
  none : (j : ℕ) → i ≤ j → (q : Path) → elements_at (p ++ number j ∷ q) before ≡ 0

fresh_aside : {seen : KeyTexts} {p : Path} {k : List ℕ} {before later : List Placed} → Aside p (key k) before later
    → IsFresh seen p before
    → IsFresh (k ∷ seen) p later
fresh_aside {p = p} {k = k} aside f =
    record {
      none = λ j n q. aside.same (p ++ key j ∷ q) (λ t. apart_left p (key k ∷ t) (key j ∷ q) (rw (n.0) refl))
          ∙ f.none j n.1 q;
    }

fresh_more : {seen : KeyTexts} {p : Path} {k : List ℕ} {before : List Placed} → IsFresh seen p before
    → IsFresh (k ∷ seen) p before
fresh_more f = record { none = λ j n q. f.none j n.1 q }

fresh_later : {p : Path} {i : ℕ} {before later : List Placed} → Aside p (number i) before later → IsFreshFrom i p before
    → IsFreshFrom (suc i) p later
fresh_later {p = p} {i = i} aside f = record {
  none =
      λ j h q. aside.same (p ++ number j ∷ q)
      (λ t. apart_left p (number i ∷ t) (number j ∷ q) (rw (ne_eqb i j (λ e. omega arith)) refl))
      ∙ f.none j (omega arith) q;
}

fresh_below : (p : Path) (s : Step) {before : List Placed}
    → ((k : List ℕ) (q : Path) → elements_at (p ++ s ∷ key k ∷ q) before ≡ 0) → IsFresh [] (p ++ s ∷ []) before
fresh_below p s {before = before} h =
    record { none = λ k n q. ap (λ r. elements_at r before) (append_assoc p (s ∷ []) (key k ∷ q)) ∙ h k q }

fresh_from : (p : Path) (s : Step) {before : List Placed}
    → ((j : ℕ) (q : Path) → elements_at (p ++ s ∷ number j ∷ q) before ≡ 0) → IsFreshFrom 0 (p ++ s ∷ []) before
fresh_from p s {before = before} h =
    record { none = λ j e q. ap (λ r. elements_at r before) (append_assoc p (s ∷ []) (number j ∷ q)) ∙ h j q }

-- one element more
element_aside : (p : Path) (s : Step) (e : Option ℕ) (rs : Rows) (before : List Placed)
    → Aside p s before (placed_at (p ++ s ∷ []) e rs ∷ before)
element_aside p s e rs before = record { same = λ q h. not_counted q (placed_at (p ++ s ∷ []) e rs) before (h []) }

fresh_beside : (p : Path) (i n : ℕ) (rs : Rows) (before : List Placed) → IsFreshFrom i p before
    → IsFreshFrom i p (placed_at p (Some n) rs ∷ before)
fresh_beside p i n rs before f =
    record {
      none = λ j h q. not_counted (p ++ number j ∷ q) (placed_at p (Some n) rs) before
          (off_longer p (number j) q) ∙ f.none j h q;
    }

mutual
  inner_stand : {seen : KeyTexts} {ms : Members} (laid : Laid seen ms) (path : KeyTexts) (p : Path)
      (before : List Placed)
      → Leads (keys_to path) p before → IsFresh seen p before
      → placed_from before (inner_sections path laid) ≡ lift p (inner_placed laid)
  inner_stand (a_row new text value laid) path p before to fresh = inner_stand laid path p before to (fresh_more fresh)
  inner_stand (then_parts parts) path p before to fresh = parts_stand parts path p before to fresh

  parts_stand : {seen : KeyTexts} {ms : Members} (parts : Parts seen ms) (path : KeyTexts) (p : Path)
      (before : List Placed)
      → Leads (keys_to path) p before → IsFresh seen p before
      → placed_from before (part_sections path parts) ≡ lift p (part_placed parts)
  parts_stand no_parts path p before to fresh = refl
  parts_stand (a_table {k = k} new text laid parts) path p before to fresh =
      let first : List Placed = after before (lift p (below (key k) (head_placed laid))) in
      let second : List Placed = after first (lift p (below (key k) (inner_placed laid))) in
      let head : Aside p (key k) before first = aside_offsets p (key k) (head_placed laid) before in
      let both : Aside p (key k) before second = aside_then head (aside_offsets p (key k) (inner_placed laid) first) in
      let none : (q : Path) → elements_at (p ++ key k ∷ q) first ≡ 0 =
      λ q. head_counts (has_header laid) before p k (rows laid) (p ++ key k ∷ q) ∙ fresh.none k new q in
      let inner : placed_from first (inner_sections (k ∷ path) laid) ≡ lift p (below (key k) (inner_placed laid)) =
      inner_stand laid (k ∷ path) (p ++ key k ∷ []) first (leads_down path p first k 0 (none []) (leads_aside head to))
      (fresh_below p (key k) (λ j q. none (key j ∷ q))) ∙ lift_below p (key k) (inner_placed laid) in
      placed_whole before p (key k) (cond (has_header laid) (section_of (k ∷ path) false (rows laid) ∷ []) [])
      (inner_sections (k ∷ path) laid) (part_sections path parts) (head_placed laid) (inner_placed laid)
      (part_placed parts)
      (head_stands (has_header laid) before path p k (rows laid) to (fresh.none k new [])) inner
      (parts_stand parts path p second (leads_aside both to) (fresh_aside both fresh))
  parts_stand (an_array {k = k} new text nodes parts) path p before to fresh =
      let first : List Placed = after before (lift p (below (key k) (node_offsets 0 nodes))) in
      let aside : Aside p (key k) before first = aside_offsets p (key k) (node_offsets 0 nodes) before in
      let inner : placed_from before (node_sections (k ∷ path) nodes) ≡ lift p (below (key k) (node_offsets 0 nodes)) =
      nodes_stand nodes path p k 0 before to (fresh.none k new [])
      (fresh_from p (key k) (λ j q. fresh.none k new (number j ∷ q)))
      ∙ lift_below p (key k) (node_offsets 0 nodes) in
      placed_part before p (key k) (node_sections (k ∷ path) nodes) (part_sections path parts) (node_offsets 0 nodes)
      (part_placed parts) inner (parts_stand parts path p first (leads_aside aside to) (fresh_aside aside fresh))

  nodes_stand : {xs : Items} (nodes : Nodes xs) (path : KeyTexts) (p : Path) (k : List ℕ) (i : ℕ) (before : List Placed)
      → Leads (keys_to path) p before → elements_at (p ++ key k ∷ []) before ≡ i
      → IsFreshFrom i (p ++ key k ∷ []) before
      → placed_from before (node_sections (k ∷ path) nodes) ≡ lift (p ++ key k ∷ []) (node_offsets i nodes)
  nodes_stand no_nodes path p k i before to z fresh = refl
  nodes_stand (a_node laid nodes) path p k i before to z fresh =
      let here : Path = p ++ key k ∷ [] in
      let first : List Placed = placed_at here (Some i) (rows laid) ∷ before in
      let second : List Placed = after first (lift here (below (number i) (inner_placed laid))) in
      let counted : elements_at here first ≡ suc i = rw (paths_same here) (ap suc z) in
      let to_first : Leads (keys_to path) p first =
      leads_aside (element_aside p (key k) (Some i) (rows laid) before) to in
      let fresh_first : IsFreshFrom i here first = fresh_beside here i i (rows laid) before fresh in
      let aside : Aside here (number i) first second = aside_offsets here (number i) (inner_placed laid) first in
      let to_inner : Leads (keys_to (k ∷ path)) (here ++ number i ∷ []) first =
      subst (λ q. Leads (keys_to (k ∷ path)) q first) (sym (append_assoc p (key k ∷ []) (number i ∷ [])))
      (leads_down path p first k (suc i) counted to_first) in
      let offsets : List Placed = lift here (below (number i) (inner_placed laid)) in
      let inner : placed_from first (inner_sections (k ∷ path) laid) ≡ offsets =
      inner_stand laid (k ∷ path) (here ++ number i ∷ []) first to_inner
      (fresh_below here (number i) (λ j q. fresh_first.none i (omega arith) (key j ∷ q)))
      ∙ lift_below here (number i) (inner_placed laid) in
      let counted_after : elements_at here second ≡ suc i =
      aside.same here (off_beginning here here (number i) (begins_same here)) ∙ counted in
      placed_element before here i (section_of (k ∷ path) true (rows laid)) (inner_sections (k ∷ path) laid)
      (node_sections (k ∷ path) nodes) (inner_placed laid) (node_offsets (suc i) nodes)
      (element_stands before path p k (rows laid) i to z) inner
      (nodes_stand nodes path p k (suc i) second (leads_aside (aside_up aside) to_first) counted_after
      (fresh_later aside fresh_first))

-- the root section stands there where it has rows
abbrev pub root_offsets : Rows → List Placed → List Placed
root_offsets no_rows ls = ls
root_offsets (row keys at v rs) ls = placed_here None (row keys at v rs) ∷ ls

pub sections_stand : {ms : Members} (laid : Laid [] ms)
    → placed (sections laid) ≡ root_offsets (rows laid) (inner_placed laid)
sections_stand laid = go (rows laid)
  where
    nowhere : (before : List Placed) → ((q : Path) → elements_at q before ≡ 0)
        → placed_from before (inner_sections [] laid) ≡ inner_placed laid
    nowhere before h =
        inner_stand laid [] [] before (record { to = λ f e a k ks. (refl, refl) })
        (record { none = λ k n q. h (key k ∷ q) }) ∙ lift_none (inner_placed laid)

    go : (rs : Rows) → placed (with_root rs (inner_sections [] laid)) ≡ root_offsets rs (inner_placed laid)
    go no_rows = nowhere [] (λ q. refl)
    go (row keys at v rs) =
        ap (λ ls. placed_here None (row keys at v rs) ∷ ls)
        (nowhere (placed_here None (row keys at v rs) ∷ []) (λ q. refl))
