-- A list that is taken whole spells a written value that fits.
use Rattle.std.proofs.Common.{◌≡◌, zero, suc, List, [], ◌∷◌, refl, sym, ◌∙◌, subst, Bool, true, false, ℕ}
use Rattle.std.proofs.Common.{Result, Ok, Err, length, ◌≤◌, arith}
use Rattle.std.specs.Prelude.{⊤, is_some}
use Rattle.basic_toml_layout.specs.Written.{integer, boolean, text, Written, scalar, absent, array, table, Elements}
use Rattle.basic_toml_layout.specs.Written.{no_elements, element, Entries, no_entries, entry, is_refused}
use Rattle.basic_toml_emit.specs.Items.{Item, a_scalar, an_absent, open_array, open_table, close, key, field}
use Rattle.basic_toml_emit.specs.Items.{some_prefix, value_prefix, element_prefix}
use Rattle.basic_toml_write.specs.Spelling.{one_scalar, none, an_array, a_table, AreElements, array_end, a_some}
use Rattle.basic_toml_write.specs.Spelling.{an_element, member, AreEntries, table_end, by_key, by_field, IsPrefixed}
use Rattle.basic_toml_write.specs.Spelling.{bare, with_some, with_value, Spells, root, root_some}
use Rattle.basic_toml_open_keys.specs.Keys.{PresentKeys}
use Rattle.basic_toml_emit.specs.Open as o
use Rattle.basic_toml_emit.specs.Open.{State, state, Frame, settled, due, no_key, key_set, unknown, tables}
use Rattle.basic_toml_emit.specs.Open.{others, OpenTable, empty_table, entered, with_settled, with_section, fresh}
use Rattle.basic_toml_emit.specs.Rules.{CallFault, unsupported_type, refuse_if}
use Rattle.basic_toml_emit.specs.Calls.{run, on_ok}
use Rattle.basic_toml_write.proofs.ValuesThatFit.{FitsOthers, FitsTables, FitsArray, FitsEntry, FitsEntries, Fits}
use Rattle.basic_toml_write.proofs.FittingValueIsTaken as f
use Rattle.basic_toml_write.proofs.FittingValueIsTaken.{after_entry, after_present}

abbrev NotWhole : Result State CallFault → Type 0
NotWhole (Err e) = ⊤
NotWhole (Ok s) = elim s.open_frames [ [] ↦ elim s.is_done [ true ↦ ⊥ | false ↦ ⊤ ] | (f ∷ fs) ↦ ⊤ ]

refuse_ok : (b : Bool) (e : CallFault) (r : Result State CallFault) (g : State → Result State CallFault) (s : State)
    → on_ok g (refuse_if b e r) ≡ Ok s → (b ≡ false) × (on_ok g r ≡ Ok s)
refuse_ok true e r g s h = absurd (cc)
refuse_ok false e r g s h = (refl, h)

-- both ways are refused
refused_either : (b : Bool) (e e' : CallFault) (g : State → Result State CallFault) (s : State)
    → on_ok g (refuse_if b e (Err e')) ≡ Ok s → ⊥
refused_either true e e' g s h = cc
refused_either false e e' g s h = cc

module _ (limit : ℕ) (T : List ℕ) where
  abbrev Whole : State
  Whole = state T [] true

  wrong : {r : Result State CallFault} → r ≡ Ok Whole → NotWhole r → ⊥
  wrong h p = subst NotWhole h p

  abbrev ValuesTaken : List Item → ℕ → Type 0
  ValuesTaken is n = (es : Elements) × (rest : List Item) × (AreElements is es rest) × (FitsOthers limit n es)
      × (length rest ≤ length is)

  abbrev TablesTaken : List Item → ℕ → Type 0
  TablesTaken is n = (es : Elements) × (rest : List Item) × (AreElements is es rest) × (FitsTables limit n es)
      × (length rest ≤ length is)

  abbrev ArrayTaken : List Item → ℕ → Bool → Type 0
  ArrayTaken is n w = (es : Elements) × (rest : List Item) × (AreElements is es rest) × (FitsArray limit n w es)
      × (length rest ≤ length is)

  abbrev ValueTaken : List Item → ℕ → Bool → PresentKeys → List ℕ → Type 0
  ValueTaken is n w p k = (v : Written) × (rest : List Item) × (IsPrefixed is v rest) × (FitsEntry limit n w p k v)
      × (length rest ≤ length is)

  abbrev RowsTaken : List Item → ℕ → Bool → PresentKeys → Type 0
  RowsTaken is n w p = (es : Entries) × (rest : List Item) × (AreEntries is es rest) × (FitsEntries limit n w p es)
      × (length rest ≤ length is)

  -- the rest of a table after an entry
  abbrev RestTaken : List Item → ℕ → Bool → PresentKeys → List ℕ → Written → Type 0
  RestTaken is n w p k v = (es : Entries) × (rest : List Item) × (AreEntries is es rest)
      × (FitsEntries limit n w p (entry k v es)) × (length rest ≤ length is)

  rest_taken : (mid : List Item) (t : List ℕ) (w : OpenTable)
      (k : List ℕ) (fs : List Frame) (v : Written) → FitsEntry limit (suc (length fs)) w.holds_section w.keys k v
      → run limit (after_entry t w k fs v) mid ≡ Ok Whole
      → ((t' : List ℕ) (w' : OpenTable)
      → run limit (state t' (o.a_table no_key w' ∷ fs) false) mid ≡ Ok Whole
      → RowsTaken mid (suc (length fs)) w'.holds_section w'.keys)
      → RestTaken mid (suc (length fs)) w.holds_section w.keys k v
  rest_taken mid t w k fs absent f q ih = ih t w q
  rest_taken mid t w k fs (scalar x) f q ih = let r = ih _ (after_present k (scalar x) w) q in
      (r.0, r.1, r.2, (f, r.3), r.4)
  rest_taken mid t w k fs (array no_elements) f q ih = let r = ih _ (after_present k (array no_elements) w) q in
      (r.0, r.1, r.2, (f, r.3), r.4)
  rest_taken mid t w k fs (array (element (table x) y)) f q ih = let r =
      ih _ (after_present k (array (element (table x) y)) w) q in (r.0, r.1, r.2, (f, r.3), r.4)
  rest_taken mid t w k fs (array (element x y)) f q ih = let r = ih _ (after_present k (array (element x y)) w) q in
      (r.0, r.1, r.2, (f, r.3), r.4)
  rest_taken mid t w k fs (table x) f q ih = let r = ih _ (after_present k (table x) w) q in
      (r.0, r.1, r.2, (f, r.3), r.4)

  mutual
    -- an array that stands in an array
    inner_taken : (n : ℕ) (is : List Item) → length is ≤ n → (t : List ℕ) (later later' : Bool) (fs : List Frame)
        → run limit (state t (o.an_array unknown later ∷ o.an_array others later' ∷ fs) false) is ≡ Ok Whole
        → ValuesTaken is (suc (suc (length fs)))
    inner_taken n [] le t later later' fs h = absurd (wrong h tt)
    inner_taken zero (i ∷ is) le t later later' fs h = absurd (omega arith)
    inner_taken (suc n) (a_scalar x ∷ is) le t later later' fs h =
        let a = refuse_ok _ _ _ _ _ h in
        let b = refuse_ok _ _ _ _ _ a.1 in
        let r = more_taken n is (omega arith) _ later (o.an_array others later' ∷ fs) b.1 in
        (element (scalar x) r.0, r.1, member one_scalar r.2, ((a.0, b.0), r.3), omega arith)
    inner_taken (suc n) (an_absent ∷ is) le t later later' fs h = absurd (wrong h tt)
    inner_taken (suc n) (open_array ∷ is) le t later later' fs h =
        let a = refuse_ok _ _ _ _ _ h in
        let q = inner_taken n is (omega arith) _ later later (o.an_array others later' ∷ fs) a.1 in
        let r = more_taken n q.1 (omega arith) _ later (o.an_array others later' ∷ fs)
        (sym (f.first_values limit q.2 _ later (o.an_array others later ∷ o.an_array others later' ∷ fs) refl q.3)
        ∙ a.1) in
        (element (array q.0) r.0, r.1, member (an_array q.2) r.2, ((a.0, q.3), r.3), omega arith)
    inner_taken (suc n) (open_table ∷ is) le t later later' fs h = absurd (wrong h tt)
    inner_taken (suc n) (close ∷ is) le t later later' fs h = (no_elements, is, array_end, tt, omega arith)
    inner_taken (suc n) (key ∷ is) le t later later' fs h = absurd (wrong h tt)
    inner_taken (suc n) (field k ∷ is) le t later later' fs h = absurd (wrong h tt)
    inner_taken (suc n) (some_prefix ∷ is) le t later later' fs h = let r =
        inner_taken n is (omega arith) t later later' fs h in (r.0, r.1, a_some r.2, r.3, omega arith)
    inner_taken (suc n) (value_prefix ∷ is) le t later later' fs h = absurd (wrong h tt)
    inner_taken (suc n) (element_prefix ∷ is) le t later later' fs h = let r =
        inner_taken n is (omega arith) t later later' fs h in (r.0, r.1, an_element r.2, r.3, omega arith)

    -- the elements of an array of others after the first
    more_taken : (n : ℕ) (is : List Item) → length is ≤ n → (t : List ℕ) (later : Bool) (fs : List Frame)
        → run limit (state t (o.an_array others later ∷ fs) false) is ≡ Ok Whole → ValuesTaken is (suc (length fs))
    more_taken n [] le t later fs h = absurd (wrong h tt)
    more_taken zero (i ∷ is) le t later fs h = absurd (omega arith)
    more_taken (suc n) (a_scalar x ∷ is) le t later fs h =
        let a = refuse_ok _ _ _ _ _ h in
        let b = refuse_ok _ _ _ _ _ a.1 in
        let r = more_taken n is (omega arith) _ later fs b.1 in
        (element (scalar x) r.0, r.1, member one_scalar r.2, ((a.0, b.0), r.3), omega arith)
    more_taken (suc n) (an_absent ∷ is) le t later fs h = absurd (wrong h tt)
    more_taken (suc n) (open_array ∷ is) le t later fs h =
        let a = refuse_ok _ _ _ _ _ h in
        let q = inner_taken n is (omega arith) _ later later fs a.1 in
        let r = more_taken n q.1 (omega arith) _ later fs
        (sym (f.first_values limit q.2 _ later (o.an_array others later ∷ fs) refl q.3) ∙ a.1) in
        (element (array q.0) r.0, r.1, member (an_array q.2) r.2, ((a.0, q.3), r.3), omega arith)
    more_taken (suc n) (open_table ∷ is) le t later fs h = absurd (wrong h tt)
    more_taken (suc n) (close ∷ is) le t later fs h = (no_elements, is, array_end, tt, omega arith)
    more_taken (suc n) (key ∷ is) le t later fs h = absurd (wrong h tt)
    more_taken (suc n) (field k ∷ is) le t later fs h = absurd (wrong h tt)
    more_taken (suc n) (some_prefix ∷ is) le t later fs h = let r = more_taken n is (omega arith) t later fs h in
        (r.0, r.1, a_some r.2, r.3, omega arith)
    more_taken (suc n) (value_prefix ∷ is) le t later fs h = absurd (wrong h tt)
    more_taken (suc n) (element_prefix ∷ is) le t later fs h = let r = more_taken n is (omega arith) t later fs h in
        (r.0, r.1, an_element r.2, r.3, omega arith)

  mutual
    -- the elements of an array of tables after the first
    tables_taken : (n : ℕ) (is : List Item) → length is ≤ n → (t : List ℕ) (later : Bool) (fs : List Frame)
        → run limit (state t (o.an_array tables later ∷ fs) false) is ≡ Ok Whole → TablesTaken is (suc (length fs))
    tables_taken n [] le t later fs h = absurd (wrong h tt)
    tables_taken zero (i ∷ is) le t later fs h = absurd (omega arith)
    tables_taken (suc n) (a_scalar x ∷ is) le t later fs h =
        absurd (refused_either (is_refused x) unsupported_type unsupported_type (λ s. run limit s is) Whole h)
    tables_taken (suc n) (an_absent ∷ is) le t later fs h = absurd (wrong h tt)
    tables_taken (suc n) (open_array ∷ is) le t later fs h = absurd (wrong h tt)
    tables_taken (suc n) (open_table ∷ is) le t later fs h =
        let a = refuse_ok _ _ _ _ _ h in
        let q = rows_taken n is (omega arith) _ (empty_table settled) (o.an_array tables later ∷ fs) a.1 in
        let r = tables_taken n q.1 (omega arith) _ later fs
        (sym (f.rows limit q.2 _ (empty_table settled) (o.an_array tables later ∷ fs) q.3) ∙ a.1) in
        (element (table q.0) r.0, r.1, member (a_table q.2) r.2, (a.0, q.3, r.3), omega arith)
    tables_taken (suc n) (close ∷ is) le t later fs h = (no_elements, is, array_end, tt, omega arith)
    tables_taken (suc n) (key ∷ is) le t later fs h = absurd (wrong h tt)
    tables_taken (suc n) (field k ∷ is) le t later fs h = absurd (wrong h tt)
    tables_taken (suc n) (some_prefix ∷ is) le t later fs h = let r = tables_taken n is (omega arith) t later fs h in
        (r.0, r.1, a_some r.2, r.3, omega arith)
    tables_taken (suc n) (value_prefix ∷ is) le t later fs h = absurd (wrong h tt)
    tables_taken (suc n) (element_prefix ∷ is) le t later fs h = let r =
        tables_taken n is (omega arith) t later fs h in (r.0, r.1, an_element r.2, r.3, omega arith)

    -- an array that stands in a table
    array_taken : (n : ℕ) (is : List Item) → length is ≤ n
        → (t : List ℕ) (later : Bool) (w : OpenTable)
        (fs : List Frame) → run limit (state t (o.an_array unknown later ∷ o.a_table no_key w ∷ fs) false) is
        ≡ Ok Whole → ArrayTaken is (suc (suc (length fs))) w.holds_section
    array_taken n [] le t later w fs e = absurd (wrong e tt)
    array_taken zero (i ∷ is) le t later w fs e = absurd (omega arith)
    array_taken (suc n) (a_scalar x ∷ is) le t later w fs e =
        let a = refuse_ok _ _ _ _ _ e in
        let b = refuse_ok _ _ _ _ _ a.1 in
        let c = refuse_ok _ _ _ _ _ b.1 in
        let r = more_taken n is (omega arith) _ later (o.a_table no_key (with_settled w) ∷ fs) c.1 in
        (element (scalar x) r.0, r.1, member one_scalar r.2, (b.0, (a.0, c.0), r.3), omega arith)
    array_taken (suc n) (an_absent ∷ is) le t later w fs e = absurd (wrong e tt)
    array_taken (suc n) (open_array ∷ is) le t later w fs e =
        let a = refuse_ok _ _ _ _ _ e in
        let b = refuse_ok _ _ _ _ _ a.1 in
        let q = inner_taken n is (omega arith) _ later later (o.a_table no_key (with_settled w) ∷ fs) b.1 in
        let r = more_taken n q.1 (omega arith) _ later (o.a_table no_key (with_settled w) ∷ fs)
        (sym (f.first_values limit q.2 _ later (o.an_array others later ∷ o.a_table no_key (with_settled w) ∷ fs)
        refl q.3) ∙ b.1) in
        (element (array q.0) r.0, r.1, member (an_array q.2) r.2, (a.0, (b.0, q.3), r.3), omega arith)
    array_taken (suc n) (open_table ∷ is) le t later w fs e =
        let a = refuse_ok _ _ _ _ _ e in
        let q = rows_taken n is (omega arith) _ (empty_table settled) (o.an_array tables later
        ∷ o.a_table no_key (with_section w) ∷ fs) a.1 in
        let r = tables_taken n q.1 (omega arith) _ later (o.a_table no_key (with_section w) ∷ fs)
        (sym (f.rows limit q.2 _ (empty_table settled) (o.an_array tables later
        ∷ o.a_table no_key (with_section w) ∷ fs) q.3) ∙ a.1) in
        (element (table q.0) r.0, r.1, member (a_table q.2) r.2, (a.0, q.3, r.3), omega arith)
    array_taken (suc n) (close ∷ is) le t later w fs e = let a = refuse_ok _ _ _ _ _ e in
        (no_elements, is, array_end, a.0, omega arith)
    array_taken (suc n) (key ∷ is) le t later w fs e = absurd (wrong e tt)
    array_taken (suc n) (field x ∷ is) le t later w fs e = absurd (wrong e tt)
    array_taken (suc n) (some_prefix ∷ is) le t later w fs e = let r =
        array_taken n is (omega arith) t later w fs e in (r.0, r.1, a_some r.2, r.3, omega arith)
    array_taken (suc n) (value_prefix ∷ is) le t later w fs e = absurd (wrong e tt)
    array_taken (suc n) (element_prefix ∷ is) le t later w fs e = let r =
        array_taken n is (omega arith) t later w fs e in (r.0, r.1, an_element r.2, r.3, omega arith)

    -- the value of an entry
    value_taken : (n : ℕ) (is : List Item) → length is ≤ n
        → (t : List ℕ) (w : OpenTable) (k : List ℕ) (fs : List Frame)
        → run limit (state t (o.a_table (key_set k) w ∷ fs) false) is ≡ Ok Whole
        → ValueTaken is (suc (length fs)) w.holds_section w.keys k
    value_taken n [] le t w k fs e = absurd (wrong e tt)
    value_taken zero (i ∷ is) le t w k fs e = absurd (omega arith)
    value_taken (suc n) (a_scalar x ∷ is) le t w k fs e =
        let a = refuse_ok _ _ _ _ _ e in
        let b = refuse_ok _ _ _ _ _ a.1 in
        let c = refuse_ok _ _ _ _ _ b.1 in
        let d = refuse_ok _ _ _ _ _ c.1 in
        (scalar x, is, bare one_scalar, (a.0, b.0, c.0, d.0), omega arith)
    value_taken (suc n) (an_absent ∷ is) le t w k fs e = (absent, is, bare none, tt, omega arith)
    value_taken (suc n) (open_array ∷ is) le t w k fs e =
        let a = refuse_ok _ _ _ _ _ e in
        let b = refuse_ok _ _ _ _ _ a.1 in
        let r = array_taken n is (omega arith) _ (is_some w.last) (entered k w) fs b.1 in
        (array r.0, r.1, bare (an_array r.2), (a.0, b.0, r.3), omega arith)
    value_taken (suc n) (open_table ∷ is) le t w k fs e =
        let a = refuse_ok _ _ _ _ _ e in
        let b = refuse_ok _ _ _ _ _ a.1 in
        let r = rows_taken n is (omega arith) _ (empty_table (due (is_some w.last)))
        (o.a_table no_key (with_section (entered k w)) ∷ fs) b.1 in
        (table r.0, r.1, bare (a_table r.2), (a.0, b.0, r.3), omega arith)
    value_taken (suc n) (close ∷ is) le t w k fs e = absurd (wrong e tt)
    value_taken (suc n) (key ∷ is) le t w k fs e = absurd (wrong e tt)
    value_taken (suc n) (field x ∷ is) le t w k fs e = absurd (wrong e tt)
    value_taken (suc n) (some_prefix ∷ is) le t w k fs e = let r =
        value_taken n is (omega arith) t w k fs e in (r.0, r.1, with_some r.2, r.3, omega arith)
    value_taken (suc n) (value_prefix ∷ is) le t w k fs e = let r =
        value_taken n is (omega arith) t w k fs e in (r.0, r.1, with_value r.2, r.3, omega arith)
    value_taken (suc n) (element_prefix ∷ is) le t w k fs e = absurd (wrong e tt)

    -- the entries of a table
    rows_taken : (n : ℕ) (is : List Item) → length is ≤ n
        → (t : List ℕ) (w : OpenTable) (fs : List Frame)
        → run limit (state t (o.a_table no_key w ∷ fs) false) is ≡ Ok Whole
        → RowsTaken is (suc (length fs)) w.holds_section w.keys
    rows_taken n [] le t w fs e = absurd (wrong e tt)
    rows_taken zero (i ∷ is) le t w fs e = absurd (omega arith)
    rows_taken (suc n) (a_scalar x ∷ is) le t w fs e = absurd (wrong e tt)
    rows_taken (suc n) (an_absent ∷ is) le t w fs e = absurd (wrong e tt)
    rows_taken (suc n) (open_array ∷ is) le t w fs e = absurd (wrong e tt)
    rows_taken (suc n) (open_table ∷ is) le t w fs e = absurd (wrong e tt)
    rows_taken (suc n) (close ∷ is) le t w fs e = (no_entries, is, table_end, tt, omega arith)
    rows_taken (suc n) (some_prefix ∷ is) le t w fs e = absurd (wrong e tt)
    rows_taken (suc n) (value_prefix ∷ is) le t w fs e = absurd (wrong e tt)
    rows_taken (suc n) (element_prefix ∷ is) le t w fs e = absurd (wrong e tt)
    rows_taken (suc n) (field k ∷ is) le t w fs e =
        let q = value_taken n is (omega arith) t w k fs e in
        let r = rest_taken q.1 t w k fs q.0 q.3 (sym (f.marked limit q.2 t w k fs q.3) ∙ e)
        (λ t' w' e'. rows_taken n q.1 (omega arith) t' w' fs e') in
        (entry k q.0 r.0, r.1, by_field q.2 r.2, r.3, omega arith)
    rows_taken (suc n) (key ∷ []) le t w fs e = absurd (wrong e tt)
    rows_taken (suc n) (key ∷ (a_scalar (text k) ∷ is)) le t w fs e =
        let q = value_taken n is (omega arith) t w k fs e in
        let r = rest_taken q.1 t w k fs q.0 q.3 (sym (f.marked limit q.2 t w k fs q.3) ∙ e)
        (λ t' w' e'. rows_taken n q.1 (omega arith) t' w' fs e') in
        (entry k q.0 r.0, r.1, by_key q.2 r.2, r.3, omega arith)
    rows_taken (suc n) (key ∷ (a_scalar (integer x) ∷ is)) le t w fs e = absurd (wrong e tt)
    rows_taken (suc n) (key ∷ (a_scalar (boolean x) ∷ is)) le t w fs e = absurd (wrong e tt)
    rows_taken (suc n) (key ∷ (a_scalar x ∷ is)) le t w fs e = absurd (wrong e tt)
    rows_taken (suc n) (key ∷ (i ∷ is)) le t w fs e = absurd (wrong e tt)

  no_more : (is : List Item) (t : List ℕ) → run limit (state t [] true) is ≡ Ok Whole → is ≡ []
  no_more [] t e = refl
  no_more (i ∷ is) t e = absurd (wrong e tt)

  pub taken : (is : List Item) → run limit fresh is ≡ Ok Whole → (w : Written) × (Spells is w) × (Fits limit w)
  taken [] e = absurd (wrong e tt)
  taken (a_scalar x ∷ is) e =
      absurd (refused_either (is_refused x) unsupported_type unsupported_type (λ s. run limit s is) Whole e)
  taken (an_absent ∷ is) e = absurd (wrong e tt)
  taken (open_array ∷ is) e = absurd (wrong e tt)
  taken (open_table ∷ is) e =
      let a = refuse_ok _ _ _ _ _ e in
      let q = rows_taken (length is) is (omega arith) [] (empty_table settled) [] a.1 in
      let end : q.1 ≡ [] = no_more q.1 _ (sym (f.rows limit q.2 [] (empty_table settled) [] q.3) ∙ a.1) in
      (table q.0, root (a_table (subst (λ z. AreEntries is q.0 z) end q.2)), (a.0, q.3))
  taken (close ∷ is) e = absurd (wrong e tt)
  taken (key ∷ is) e = absurd (wrong e tt)
  taken (field k ∷ is) e = absurd (wrong e tt)
  taken (some_prefix ∷ is) e = let r = taken is e in (r.0, root_some r.1, r.2)
  taken (value_prefix ∷ is) e = absurd (wrong e tt)
  taken (element_prefix ∷ is) e = absurd (wrong e tt)
