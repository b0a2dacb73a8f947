-- What headers did not make is found: a value where it begins, and a table that dots made where its first value begins.
use Rattle.std.proofs.Common.{◌≡◌, ℕ, zero, suc, ◌+◌, ◌<◌, ◌≤◌, ◌||◌, Bool, true, false, cond, List, [], ◌∷◌, ◌++◌}
use Rattle.std.proofs.Common.{length, drop, Option, Some, None, refl, ap, sym, ◌∙◌, subst, append_assoc, append-nil}
use Rattle.std.proofs.Common.{arith}
use Rattle.std.specs.Prelude.{option_map}
use Rattle.std.specs.List.{list_any}
use Rattle.std.specs.Option.{option_or}
use Rattle.basic_toml_grammar.specs.Sections.{Key, KeyTexts, texts, Raw, Elements, no_elements, element}
use Rattle.basic_toml_grammar.specs.Sections.{Rows, no_rows, row, Section}
use Rattle.basic_toml_grammar.specs.Steps.{Step, key, number, Path, begins, steps_of}
use Rattle.basic_toml_grammar.specs.IndexedPath.{Located, located_after, located_from}
use Rattle.basic_toml_grammar.specs.NamedClash.{first_key}
use Rattle.basic_toml_grammar.specs.Nodes.{Node, front, value_node, dotted_node, holder_in, holder, node_in}
use Rattle.basic_toml_grammar.specs.Nodes.{node_among, node_by, node_of_rows, node_of_sections}
use Rattle.basic_toml_places.specs.Places.{offsets_within, element_offsets, row_offsets, value_offsets}
use Rattle.basic_toml_places.specs.Places.{keys_to_value, path_within, path_in, first_path}
use Rattle.basic_toml_places.proofs.OffsetsInOrder.{Between}
use Rattle.basic_toml_places.proofs.PathsLead.{Leads, whole, begins_on, keys_lead, keys_lead_behind}
use Rattle.basic_toml_places.proofs.ValuesFound.{between_bounds, between_parts, parts, absent_in, absent_by}
use Rattle.basic_toml_places.proofs.ValuesFound.{row_path, elements_path, rows_path, Found, found_here, found_within}
use Rattle.basic_toml_places.proofs.ValuesFound.{found_behind, found_first, found_later}

-- the three ways at a row: the path goes on from it, properly begins it, or is another
at_row : {A : Type 0} (b c : Bool) (x y z : Option Node) (node : Node) → (b ≡ true → x ≡ Some node → A)
    → (b ≡ false → c ≡ true → y ≡ Some node → A) → (z ≡ Some node → A) → cond b x (cond c y z) ≡ Some node → A
at_row true c x y z node behind before other e = behind refl e
at_row false true x y z node behind before other e = before refl refl e
at_row false false x y z node behind before other e = other e

-- a dotted table is found by the row's value
dots_found : (names : KeyTexts) (outer : Option ℕ) (n at k m : ℕ) (keys : List Key) (v : Raw) (r : Path) (rows : Rows)
    (node : Node) → n ≤ at → at < k → k ≤ m → Leads r (steps_of (texts keys))
    → Some (dotted_node names outer at) ≡ Some node → Found (rows_path (row keys at v rows)) n m r node
dots_found names outer n at k m keys v r rows node from low high l e =
    let same : dotted_node names outer at ≡ node = cc in
    found_first k (row_path keys at v) (rows_path rows) high
    (found_here n at keys (λ o. path_within (keys_to_value o) v) from low (ap (λ n. n.start) (sym same)) l)

-- what is within a value, behind the keys of its row
mutual
  in_value : (names : KeyTexts) (outer : Option ℕ) (n at m : ℕ) (keys : List Key) (v : Raw) (p : Path) (node : Node)
      → n ≤ at → Between (suc at) (offsets_within v) m → node_in names outer at v p ≡ Some node
      → Found (row_path keys at v) n m (steps_of (texts keys) ++ p) node
  in_value names outer n at m keys v [] node h b e =
      let steps : Path = steps_of (texts keys) in
      let same : value_node names outer at v ≡ node = cc in
      found_here n at keys (λ o. path_within (keys_to_value o) v) h (between_bounds (suc at) m (offsets_within v) b)
      (ap (λ n. n.start) (sym same)) (subst (λ (p : Path). Leads p steps) (sym (append-nil steps)) (whole steps))
  in_value names outer n at m keys (Raw.array es) (number j ∷ p) node h b e =
      found_within n at keys (elements_path 0 es) h
      (among names outer (suc at) m 0 j j es p node (omega arith) b e)
  in_value names outer n at m keys (Raw.array es) (key k ∷ p) node h b e = cc
  in_value names outer n at m keys (Raw.inline rows) (key k ∷ p) node h b e =
      found_within n at keys (rows_path rows) h (by_rows names (Some at) rows (suc at) m rows (key k) p node b e)
  in_value names outer n at m keys (Raw.inline rows) (number j ∷ p) node h b e = cc
  in_value names outer n at m keys (Raw.integer _) (s ∷ p) node h b e = cc
  in_value names outer n at m keys (Raw.float _) (s ∷ p) node h b e = cc
  in_value names outer n at m keys (Raw.boolean _) (s ∷ p) node h b e = cc
  in_value names outer n at m keys (Raw.string _ _) (s ∷ p) node h b e = cc

  -- the elements from number i on, and number x, which is j elements on
  among : (names : KeyTexts) (outer : Option ℕ) (n m i j x : ℕ) (es : Elements) (p : Path) (node : Node) → i + j ≡ x
      → Between n (element_offsets es) m → node_among names outer es j p ≡ Some node
      → Found (elements_path i es) n m (number x ∷ p) node
  among names outer n m i j x no_elements p node h b e = cc
  among names outer n m i zero x (element at v es) p node h b e =
      let r = parts n m at v (element_offsets es) b in
      subst (λ (x : ℕ). Found (elements_path i (element at v es)) n m (number x ∷ p) node) (omega arith)
      (found_first r.end (λ o. option_map (λ q. number i ∷ q) (row_path [] at v o)) (elements_path (suc i) es) r.high
      (found_behind (number i ∷ []) (row_path [] at v)
      (in_value names outer n at r.end [] v p node r.from r.within e)))
  among names outer n m i (suc j) x (element at v es) p node h b e =
      let r = parts n m at v (element_offsets es) b in
      found_later r.end (λ o. option_map (λ q. number i ∷ q) (row_path [] at v o)) (elements_path (suc i) es)
      (omega arith) (λ o k. ap (option_map (λ q. number i ∷ q)) (absent_in o at r.end [] v r.within k))
      (among names outer r.end m (suc i) j x es p node (omega arith) r.behind e)

  by_rows : (names : KeyTexts) (outer : Option ℕ) (all : Rows) (n m : ℕ) (rows : Rows) (s : Step) (p : Path)
      (node : Node) → Between n (row_offsets rows) m → node_by names outer all rows (s ∷ p) ≡ Some node
      → Found (rows_path rows) n m (s ∷ p) node
  by_rows names outer all n m no_rows s p node b e = cc
  by_rows names outer all n m (row keys at v rows) s p node b e =
      let steps : Path = steps_of (texts keys) in
      let rest : Path = drop (length steps) (s ∷ p) in
      let r = parts n m at v (row_offsets rows) b in
      at_row (begins steps (s ∷ p)) (begins (s ∷ p) steps) _ _ _ node
      (λ h e. subst (λ (q : Path). Found (rows_path (row keys at v rows)) n m q node)
      (sym (begins_on steps (s ∷ p) h))
      (found_first r.end (row_path keys at v) (rows_path rows) r.high
      (in_value names (holder_in outer all (front steps)) n at r.end keys v rest node r.from r.within e)))
      (λ h k e. dots_found names (holder_in outer all (front (s ∷ p))) n at r.end m keys v (s ∷ p) rows node r.from
      r.low r.high (keys_lead s p (texts keys) k h) e)
      (λ e. found_later r.end (row_path keys at v) (rows_path rows) (omega arith)
      (λ o k. absent_in o at r.end keys v r.within k)
      (by_rows names outer all r.end m rows s p node r.behind e))
      e

-- in the rows of a section whose path does not go on from this one
of_rows : (ls : List Located) (last : Option ℕ) (l : Located) (n m : ℕ) (rows : Rows) (p : Path) (node : Node)
    → begins p l.path ≡ false → Between n (row_offsets rows) m → node_of_rows ls last l rows p ≡ Some node
    → (r : Path) × (p ≡ l.path ++ r) × Found (rows_path rows) n m r node
of_rows ls last l n m no_rows p node f b e = cc
of_rows ls last l n m (row keys at v rows) p node f b e =
    let steps : Path = steps_of (texts keys) in
    let path : Path = l.path ++ steps in
    let rest : Path = drop (length path) p in
    let names : KeyTexts = texts l.section.header ++ first_key keys in
    let r = parts n m at v (row_offsets rows) b in
    at_row (begins path p) (begins p path) _ _ _ node
    (λ h e. (
      steps ++ rest,
      begins_on path p h ∙ append_assoc l.path steps rest,
      found_first r.end (row_path keys at v) (rows_path rows) r.high
          (in_value names (holder ls last (front path)) n at r.end keys v rest node r.from r.within e),
    ))
    (λ h k e. let q = keys_lead_behind l.path (texts keys) p k h f in (
      q.0,
      q.1,
      dots_found names (holder ls last (front p)) n at r.end m keys v q.0 rows node r.from r.low r.high q.2 e,
    ))
    (λ e. let more = of_rows ls last l r.end m rows p node f r.behind e in (
      more.0,
      more.1,
      found_later r.end (row_path keys at v) (rows_path rows) (omega arith)
          (λ o k. absent_in o at r.end keys v r.within k) more.2,
    ))
    e

-- of two tests of which neither holds
neither : (a b : Bool) → (a || b) ≡ false → (a ≡ false) × (b ≡ false)
neither true b e = cc
neither false b e = (refl, e)

-- in the first of two, or in the second
in_either : {A : Type 0} (x y : Option Node) (node : Node) → (x ≡ Some node → A) → (y ≡ Some node → A)
    → option_or x y ≡ Some node → A
in_either (Some z) y node first second e = first e
in_either None y node first second e = second e

-- in these sections, none of which has a path that goes on from this one
pub of_sections : (ls : List Located) (last : Option ℕ) (earlier sections : List Section) (n m : ℕ) (p : Path)
    (node : Node)
    → list_any (λ l. begins p l.path) (located_from earlier sections) ≡ false → Between n (value_offsets sections) m
    → node_of_sections ls last (located_from earlier sections) p ≡ Some node
    → Found (λ o. first_path (path_in (keys_to_value o)) (located_from earlier sections)) n m p node
of_sections ls last earlier [] n m p node f b e = cc
of_sections ls last earlier (s ∷ sections) n m p node f b e =
    let l : Located = located_after earlier s in
    let later : List Located = located_from (s ∷ earlier) sections in
    let here : ℕ → Option Path = λ o. path_in (keys_to_value o) l in
    let others : ℕ → Option Path = λ o. first_path (path_in (keys_to_value o)) later in
    let outside : (begins p l.path ≡ false) × (list_any (λ l. begins p l.path) later ≡ false) = neither _ _ f in
    let parts = between_parts n m (row_offsets s.rows) (value_offsets sections) b in
    in_either (node_of_rows ls last l s.rows p) (node_of_sections ls last later p) node
    (λ e. let r = of_rows ls last l n parts.0 s.rows p node outside.0 parts.1 e in
    subst (λ (q : Path). Found (λ o. option_or (here o) (others o)) n m q node) (sym r.1)
    (found_first parts.0 here others (between_bounds parts.0 m (value_offsets sections) parts.2)
    (found_behind l.path (rows_path s.rows) r.2)))
    (λ e. found_later parts.0 here others (between_bounds n parts.0 (row_offsets s.rows) parts.1)
    (λ o k. ap (option_map (λ q. l.path ++ q)) (absent_by o n parts.0 s.rows parts.1 k))
    (of_sections ls last (s ∷ earlier) sections parts.0 m p node outside.1 parts.2 e))
    e
