-- The items of a written value that fits are all taken, and leave its text.
use Rattle.std.proofs.Common.{◌≡◌, suc, List, [], ◌∷◌, ◌++◌, refl, sym, ◌∙◌, ap, subst, Bool, true, false, cond, ℕ}
use Rattle.std.proofs.Common.{Ok, length}
use Rattle.std.specs.Prelude.{nat_le, is_some}
use Rattle.std.proofs.lemmas.List.{append_assoc, append-nil}
use Rattle.basic_toml_layout.specs.Written.{Scalar, Written, scalar, absent, array, table, Elements, no_elements}
use Rattle.basic_toml_layout.specs.Written.{element, Entries, entry}
use Rattle.basic_toml_emit.specs.Items.{Item, a_scalar, open_array, open_table, close}
use Rattle.basic_toml_write.specs.Spelling.{IsValue, one_scalar, none, an_array, a_table, AreElements, array_end}
use Rattle.basic_toml_write.specs.Spelling.{a_some, an_element, member, AreEntries, table_end, by_key, by_field}
use Rattle.basic_toml_write.specs.Spelling.{IsPrefixed, bare, with_some, with_value, Spells, root, root_some}
use Rattle.basic_toml_layout.specs.Texts.{written_scalar, comma}
use Rattle.basic_toml_layout.specs.Layout.{written, written_elements, more_elements, element_header, entry_text}
use Rattle.basic_toml_layout.specs.Layout.{array_text, sections_text, entries_text, is_header_due, form, Form, row}
use Rattle.basic_toml_layout.specs.Layout.{layout}
use Rattle.basic_toml_write.specs.Shapes.{then_after}
use Rattle.basic_toml_emit.specs.Open as o
use Rattle.basic_toml_emit.specs.Open.{State, state, Frame, Header, settled, due, no_key, key_set}
use Rattle.basic_toml_emit.specs.Open.{unknown, tables, others, OpenTable, empty_table, entered}
use Rattle.basic_toml_emit.specs.Open.{with_settled, with_section, new_table, fresh}
use Rattle.basic_toml_emit.specs.Rules.{holds_section}
use Rattle.basic_toml_emit.specs.Calls as m
use Rattle.basic_toml_emit.specs.Calls.{run, path, header_text, array_start, with_row}
use Rattle.basic_toml_emit.specs.Calls.{is_nothing_open}
use Rattle.basic_toml_write.proofs.ValuesThatFit.{FitsValue, FitsOthers, FitsTables, FitsArray, FitsEntry}
use Rattle.basic_toml_write.proofs.ValuesThatFit.{FitsEntries, Fits}

with_row-length : (fs : List Frame) → length (with_row fs) ≡ length fs
with_row-length [] = refl
with_row-length (o.a_table s w ∷ fs) = refl
with_row-length (o.an_array c l ∷ fs) = refl

array_end-with_row : (fs : List Frame) → m.array_end (with_row fs) ≡ m.array_end fs
array_end-with_row [] = refl
array_end-with_row (o.a_table s w ∷ fs) = refl
array_end-with_row (o.an_array c l ∷ fs) = refl

-- the header that is written before or after the entries of a table
abbrev pub pending : Header → List Frame → Entries → List ℕ
pending h fs es = cond (is_header_due es) (header_text h fs) []

cond-nothing : (b : Bool) → cond {A = List ℕ} b [] [] ≡ []
cond-nothing true = refl
cond-nothing false = refl

-- the header that is written with an entry
abbrev pub before : Header → List Frame → Form → List ℕ
before h fs row = header_text h fs
before h fs _ = []

-- a table after an entry that is present
abbrev pub after_present : List ℕ → Written → OpenTable → OpenTable
after_present k v w = record (with_settled (entered k w)) { holds_section = then_after w.holds_section (form v) }

-- the state after an entry
abbrev pub after_entry : List ℕ → OpenTable → List ℕ → List Frame → Written → State
after_entry t w k fs absent = state t (o.a_table no_key w ∷ fs) false
after_entry t w k fs v =
    state (t ++ (before w.header fs (form v) ++ entry_text (path fs) k (is_some w.last) v))
    (o.a_table no_key (after_present k v w) ∷ fs) false

module _ (limit : ℕ) where
  at_text : (fs : List Frame) (d : Bool) (rest : List Item) (a b : List ℕ) → a ≡ b
      → run limit (state a fs d) rest ≡ run limit (state b fs d) rest
  at_text fs d rest a b e = ap (λ t. run limit (state t fs d) rest) e

  scalar_more : (l : Scalar) (t : List ℕ) (later : Bool) (fs : List Frame) (rest : List Item)
      → FitsValue limit (suc (length fs)) (scalar l)
      → run limit (state t (o.an_array others later ∷ fs) false) (a_scalar l ∷ rest)
      ≡ run limit (state (t ++ (comma ++ written_scalar l)) (o.an_array others later ∷ fs) false) rest
  scalar_more l t later fs rest f = rw (f.0, f.1) refl

  scalar_first : (l : Scalar) (t : List ℕ) (later : Bool) (fs : List Frame) (rest : List Item)
      → holds_section fs ≡ false → FitsValue limit (suc (length fs)) (scalar l)
      → run limit (state t (o.an_array unknown later ∷ fs) false) (a_scalar l ∷ rest)
      ≡ run limit (state (t ++ (array_start fs ++ written_scalar l)) (o.an_array others later ∷ with_row fs) false) rest
  scalar_first l t later fs rest s f = rw (f.0, f.1, s) refl

  open_more : (t : List ℕ) (later : Bool) (fs : List Frame) (is : List Item) → nat_le limit (suc (length fs)) ≡ false
      → run limit (state t (o.an_array others later ∷ fs) false) (open_array ∷ is)
      ≡ run limit (state (t ++ comma) (o.an_array unknown later ∷ o.an_array others later ∷ fs) false) is
  open_more t later fs is f = rw f refl

  open_first : (t : List ℕ) (later : Bool) (fs : List Frame) (is : List Item) → holds_section fs ≡ false
      → nat_le limit (suc (length fs)) ≡ false
      → run limit (state t (o.an_array unknown later ∷ fs) false) (open_array ∷ is)
      ≡ run limit (state (t ++ array_start fs) (o.an_array unknown later ∷ o.an_array others later ∷ with_row fs)
      false) is
  open_first t later fs is s f = rw (s, f) refl

  open_table_more : (t : List ℕ) (later : Bool) (fs : List Frame) (is : List Item)
      → nat_le limit (suc (length fs)) ≡ false
      → run limit (state t (o.an_array tables later ∷ fs) false) (open_table ∷ is)
      ≡ run limit (state (t ++ element_header true (path fs)) (new_table settled ∷ o.an_array tables later ∷ fs)
      false) is
  open_table_more t later fs is f = rw f refl

  open_table_first : (t : List ℕ) (later : Bool) (k : List ℕ) (w : OpenTable)
      (fs : List Frame) (is : List Item) → nat_le limit (suc (suc (length fs))) ≡ false
      → run limit (state t (o.an_array unknown later ∷ o.a_table no_key (entered k w) ∷ fs) false) (open_table ∷ is)
      ≡ run limit (state (t ++ element_header later (k ∷ path fs)) (new_table settled ∷ o.an_array tables later
      ∷ o.a_table no_key (with_section (entered k w)) ∷ fs) false) is
  open_table_first t later k w fs is f = rw f refl

  open_table_root : (is : List Item) → nat_le limit 0 ≡ false
      → run limit fresh (open_table ∷ is) ≡ run limit (state [] (new_table settled ∷ []) false) is
  open_table_root is f = rw f refl

  scalar_entry : (x : Scalar) (t : List ℕ) (w : OpenTable) (k : List ℕ) (fs : List Frame) (rest : List Item)
      → FitsEntry limit (suc (length fs)) w.holds_section w.keys k (scalar x)
      → run limit (state t (o.a_table (key_set k) w ∷ fs) false) (a_scalar x ∷ rest)
      ≡ run limit (after_entry t w k fs (scalar x)) rest
  scalar_entry x t w k fs rest f = rw (f.0, f.1, f.2, f.3) refl

  open_array_entry : (t : List ℕ) (w : OpenTable) (k : List ℕ)
      (fs : List Frame) (is : List Item) → w.keys k ≡ false → nat_le limit (suc (length fs)) ≡ false
      → run limit (state t (o.a_table (key_set k) w ∷ fs) false) (open_array ∷ is)
      ≡ run limit (state t (o.an_array unknown (is_some w.last) ∷ o.a_table no_key (entered k w) ∷ fs) false)
      is
  open_array_entry t w k fs is f g = rw (f, g) refl

  open_table_entry : (t : List ℕ) (w : OpenTable) (k : List ℕ)
      (fs : List Frame) (is : List Item) → w.keys k ≡ false → nat_le limit (suc (length fs)) ≡ false
      → run limit (state t (o.a_table (key_set k) w ∷ fs) false) (open_table ∷ is)
      ≡ run limit (state t (new_table (due (is_some w.last)) ∷ o.a_table no_key (with_section (entered k w)) ∷ fs)
      false) is
  open_table_entry t w k fs is f g = rw (f, g) refl

  close_first : (t : List ℕ) (later : Bool) (fs : List Frame) (is : List Item) → holds_section fs ≡ false
      → run limit (state t (o.an_array unknown later ∷ fs) false) (close ∷ is)
      ≡ run limit (state (t ++ (array_start fs ++ m.array_end fs)) (with_row fs) false) is
  close_first t later fs is s = rw s refl

  fine_below : (fs : List Frame) (es : Elements) → FitsOthers limit (suc (length fs)) es
      → FitsOthers limit (suc (length (with_row fs))) es
  fine_below fs es f = subst (λ n. FitsOthers limit (suc n) es) (sym (with_row-length fs)) f

  fine_below2 : (fs : List Frame) (es : Elements) → FitsOthers limit (suc (suc (length fs))) es
      → FitsOthers limit (suc (suc (length (with_row fs)))) es
  fine_below2 fs es f = subst (λ n. FitsOthers limit (suc (suc n)) es) (sym (with_row-length fs)) f

  -- an entry that is present, and then the rest of the table
  present_next : (mid rest : List Item) (es : Entries) (early it t : List ℕ) (w : OpenTable) (fs : List Frame)
      → run limit (state (t ++ (early ++ it)) (o.a_table no_key w ∷ fs) false) mid
      ≡ run limit (state ((t ++ (early ++ it)) ++ (pending settled fs es ++ entries_text (path fs) (true) es)) fs
      (is_nothing_open fs)) rest
      → run limit (state (t ++ (early ++ it)) (o.a_table no_key w ∷ fs) false) mid
      ≡ run limit (state (t ++ (early ++ (it ++ entries_text (path fs) true es))) fs (is_nothing_open fs)) rest
  present_next mid rest es early it t w fs ih = ih ∙
      at_text fs (is_nothing_open fs) rest _ _ (rw (cond-nothing (is_header_due es)) (simp append_assoc))

  fine_entry : (n : ℕ) (w : OpenTable) (k : List ℕ) (v : Written) (es : Entries)
      → FitsEntries limit n w.holds_section w.keys (entry k v es) → FitsEntry limit n w.holds_section w.keys k v
  fine_entry n w k absent es f = tt
  fine_entry n w k (scalar l) es f = f.0
  fine_entry n w k (array x) es f = f.0
  fine_entry n w k (table x) es f = f.0

  -- an entry, and then the rest of the table
  entry_next : (mid rest : List Item) (es : Entries) (t : List ℕ) (w : OpenTable) (k : List ℕ) (fs : List Frame)
      (v : Written)
      → FitsEntries limit (suc (length fs)) w.holds_section w.keys (entry k v es)
      → ((t' : List ℕ) (w' : OpenTable)
      → FitsEntries limit (suc (length fs)) w'.holds_section w'.keys es
      → run limit (state t' (o.a_table no_key w' ∷ fs) false) mid
      ≡ run limit (state (t' ++ (pending w'.header fs es ++ entries_text (path fs) (is_some w'.last) es)) fs
      (is_nothing_open fs)) rest)
      → run limit (after_entry t w k fs v) mid
      ≡ run limit (state (t ++ (pending w.header fs (entry k v es)
      ++ entries_text (path fs) (is_some w.last) (entry k v es))) fs (is_nothing_open fs)) rest
  entry_next mid rest es t w k fs absent f ih = ih t w f
  entry_next mid rest es t w k fs (scalar x) f ih =
      present_next mid rest es _ _ t _ fs (ih _ (after_present k (scalar x) w) f.1)
  entry_next mid rest es t w k fs (array no_elements) f ih =
      present_next mid rest es _ _ t _ fs (ih _ (after_present k (array no_elements) w) f.1)
  entry_next mid rest es t w k fs (array (element (table x) y)) f ih =
      present_next mid rest es [] (array_text (path fs) k (is_some w.last) (element (table x) y)) t _ fs
      (ih _ (after_present k (array (element (table x) y)) w) f.1)
  entry_next mid rest es t w k fs (array (element x y)) f ih =
      present_next mid rest es _ _ t _ fs (ih _ (after_present k (array (element x y)) w) f.1)
  entry_next mid rest es t w k fs (table x) f ih =
      present_next mid rest es [] (entry_text (path fs) k (is_some w.last) (table x)) t _ fs
      (ih _ (after_present k (table x) w) f.1)

  mutual
    pub in_more : {is mid : List Item} {v : Written} → IsValue is v mid
        → (t : List ℕ) (later : Bool) (fs : List Frame) → FitsValue limit (suc (length fs)) v
        → run limit (state t (o.an_array others later ∷ fs) false) is
        ≡ run limit (state (t ++ (comma ++ written v)) (o.an_array others later ∷ fs) false) mid
    in_more (one_scalar {l = l} {rest = rest}) t later fs f = scalar_more l t later fs rest f
    in_more none t later fs f = absurd f
    in_more (an_array {is = is} {rest = rest} ms) t later fs f = open_more t later fs is f.0 ∙
        (first_values ms (t ++ comma) later (o.an_array others later ∷ fs) refl f.1 ∙
        at_text (o.an_array others later ∷ fs) false rest _ _ (simp append_assoc))
    in_more (a_table rs) t later fs f = absurd f

    pub in_first : {is mid : List Item} {v : Written} → IsValue is v mid
        → (t : List ℕ) (later : Bool) (fs : List Frame) → holds_section fs ≡ false
        → FitsValue limit (suc (length fs)) v
        → run limit (state t (o.an_array unknown later ∷ fs) false) is
        ≡ run limit (state (t ++ (array_start fs ++ written v)) (o.an_array others later ∷ with_row fs) false) mid
    in_first (one_scalar {l = l} {rest = rest}) t later fs s f = scalar_first l t later fs rest s f
    in_first none t later fs s f = absurd f
    in_first (an_array {is = is} {rest = rest} {es = es} ms) t later fs s f = open_first t later fs is s f.0 ∙
        (first_values ms (t ++ array_start fs) later (o.an_array others later ∷ with_row fs) refl
        (fine_below2 fs es f.1) ∙ at_text (o.an_array others later ∷ with_row fs) false rest _ _ (simp append_assoc))
    in_first (a_table rs) t later fs s f = absurd f

    pub more_values : {is rest : List Item} {es : Elements} → AreElements is es rest
        → (t : List ℕ) (later : Bool) (fs : List Frame) → FitsOthers limit (suc (length fs)) es
        → run limit (state t (o.an_array others later ∷ fs) false) is
        ≡ run limit (state (t ++ (more_elements es ++ m.array_end fs)) fs false) rest
    more_values array_end t later fs f = refl
    more_values (a_some ms) t later fs f = more_values ms t later fs f
    more_values (an_element ms) t later fs f = more_values ms t later fs f
    more_values (member {rest = rest} {v = v} d ms) t later fs f = in_more d t later fs f.0 ∙
        (more_values ms (t ++ (comma ++ written v)) later fs f.1 ∙ at_text fs false rest _ _ (simp append_assoc))

    pub first_values : {is rest : List Item} {es : Elements} → AreElements is es rest
        → (t : List ℕ) (later : Bool) (fs : List Frame) → holds_section fs ≡ false
        → FitsOthers limit (suc (length fs)) es
        → run limit (state t (o.an_array unknown later ∷ fs) false) is
        ≡ run limit (state (t ++ (array_start fs ++ (written_elements es ++ m.array_end fs))) (with_row fs) false) rest
    first_values (array_end {rest = rest}) t later fs s f = close_first t later fs rest s
    first_values (a_some ms) t later fs s f = first_values ms t later fs s f
    first_values (an_element ms) t later fs s f = first_values ms t later fs s f
    first_values (member {rest = rest} {v = v} {es = es} d ms) t later fs s f = in_first d t later fs s f.0 ∙
        (more_values ms (t ++ (array_start fs ++ written v)) later (with_row fs) (fine_below fs es f.1) ∙
        at_text (with_row fs) false rest _ _ (rw (array_end-with_row fs) (simp append_assoc)))

    pub more_sections : {is rest : List Item} {es : Elements} → AreElements is es rest
        → (t : List ℕ) (later : Bool) (fs : List Frame) → FitsTables limit (suc (length fs)) es
        → run limit (state t (o.an_array tables later ∷ fs) false) is
        ≡ run limit (state (t ++ sections_text (path fs) es) fs false) rest
    more_sections array_end t later fs f = at_text fs false _ _ _ (sym (append-nil t))
    more_sections (a_some ms) t later fs f = more_sections ms t later fs f
    more_sections (an_element ms) t later fs f = more_sections ms t later fs f
    more_sections (member none ms) t later fs f = absurd f
    more_sections (member one_scalar ms) t later fs f = absurd f
    more_sections (member (an_array d) ms) t later fs f = absurd f
    more_sections (member {rest = rest} {es = es} (a_table {is = is} {rest = mid} {es = rs} d) ms) t later fs f =
        open_table_more t later fs is f.0
        ∙ (rows d (t ++ element_header true (path fs)) (empty_table settled) (o.an_array tables later ∷ fs) f.1
        ∙ (at_text (o.an_array tables later ∷ fs) false mid _ _
        (ap (λ z. (t ++ element_header true (path fs)) ++ (z ++ entries_text (path fs) false rs))
        (cond-nothing (is_header_due rs)))
        ∙ (more_sections ms ((t ++ element_header true (path fs)) ++ entries_text (path fs) false rs) later fs f.2
        ∙ at_text fs false rest _ _ (simp append_assoc))))

    pub entry_array : {is rest : List Item} {es : Elements} → AreElements is es rest
        → (t : List ℕ) (w : OpenTable) (k : List ℕ) (fs : List Frame)
        → FitsArray limit (suc (suc (length fs))) w.holds_section es
        → run limit (state t (o.an_array unknown (is_some w.last) ∷ o.a_table no_key (entered k w) ∷ fs)
        false) is ≡ run limit (after_entry t w k fs (array es)) rest
    entry_array (array_end {rest = rest}) t w k fs f =
        close_first t (is_some w.last) (o.a_table no_key (entered k w) ∷ fs) rest f ∙
        at_text (o.a_table no_key (with_settled (entered k w)) ∷ fs) false rest _ _ (simp append_assoc)
    entry_array (a_some ms) t w k fs f = entry_array ms t w k fs f
    entry_array (an_element ms) t w k fs f = entry_array ms t w k fs f
    entry_array (member none ms) t w k fs f = absurd f.1
    entry_array (member {rest = rest} (one_scalar {l = x} {rest = mid}) ms) t w k fs f =
        scalar_first x t (is_some w.last) (o.a_table no_key (entered k w) ∷ fs) mid f.0 f.1
        ∙ (more_values ms (t ++ (array_start (o.a_table no_key (entered k w) ∷ fs) ++ written_scalar x))
        (is_some w.last) (o.a_table no_key (with_settled (entered k w)) ∷ fs) f.2
        ∙ at_text (o.a_table no_key (with_settled (entered k w)) ∷ fs) false rest _ _ (simp append_assoc))
    entry_array (member {rest = rest} (an_array {rest = mid} {es = x} d) ms) t w k fs f =
        in_first (an_array d) t (is_some w.last) (o.a_table no_key (entered k w) ∷ fs) f.0 f.1
        ∙ (more_values ms (t ++ (array_start (o.a_table no_key (entered k w) ∷ fs)
        ++ written (array x))) (is_some w.last) (o.a_table no_key (with_settled (entered k w)) ∷ fs) f.2
        ∙ at_text (o.a_table no_key (with_settled (entered k w)) ∷ fs) false rest _ _ (simp append_assoc))
    entry_array (member {rest = rest} (a_table {is = is} {rest = mid} {es = rs} d) ms) t w k fs f =
        open_table_first t (is_some w.last) k w fs is f.0
        ∙ (rows d (t ++ element_header (is_some w.last) (k ∷ path fs)) (empty_table settled)
        (o.an_array tables (is_some w.last) ∷ o.a_table no_key (with_section (entered k w)) ∷ fs) f.1
        ∙ (at_text (o.an_array tables (is_some w.last) ∷ o.a_table no_key (with_section (entered k w)) ∷ fs) false
        mid _ _ (ap (λ z. (t ++ element_header (is_some w.last) (k ∷ path fs))
        ++ (z ++ entries_text (k ∷ path fs) false rs)) (cond-nothing (is_header_due rs)))
        ∙ (more_sections ms ((t ++ element_header (is_some w.last) (k ∷ path fs))
        ++ entries_text (k ∷ path fs) false rs) (is_some w.last) (o.a_table no_key (with_section (entered k w)) ∷ fs) f.2
        ∙ at_text (o.a_table no_key (with_section (entered k w)) ∷ fs) false rest _ _ (simp append_assoc))))

    pub entry_value : {is rest : List Item} {v : Written} → IsValue is v rest
        → (t : List ℕ) (w : OpenTable) (k : List ℕ) (fs : List Frame)
        → FitsEntry limit (suc (length fs)) w.holds_section w.keys k v
        → run limit (state t (o.a_table (key_set k) w ∷ fs) false) is
        ≡ run limit (after_entry t w k fs v) rest
    entry_value (one_scalar {l = x} {rest = rest}) t w k fs f = scalar_entry x t w k fs rest f
    entry_value none t w k fs f = refl
    entry_value (an_array {is = is} ms) t w k fs f = open_array_entry t w k fs is f.0 f.1 ∙
        entry_array ms t w k fs f.2
    entry_value (a_table {is = is} rs) t w k fs f = open_table_entry t w k fs is f.0 f.1 ∙
        rows rs t (empty_table (due (is_some w.last))) (o.a_table no_key (with_section (entered k w)) ∷ fs) f.2

    pub marked : {is rest : List Item} {v : Written} → IsPrefixed is v rest
        → (t : List ℕ) (w : OpenTable) (k : List ℕ) (fs : List Frame)
        → FitsEntry limit (suc (length fs)) w.holds_section w.keys k v
        → run limit (state t (o.a_table (key_set k) w ∷ fs) false) is
        ≡ run limit (after_entry t w k fs v) rest
    marked (bare d) t w k fs f = entry_value d t w k fs f
    marked (with_some d) t w k fs f = marked d t w k fs f
    marked (with_value d) t w k fs f = marked d t w k fs f

    pub rows : {is rest : List Item} {es : Entries} → AreEntries is es rest
        → (t : List ℕ) (w : OpenTable) (fs : List Frame)
        → FitsEntries limit (suc (length fs)) w.holds_section w.keys es
        → run limit (state t (o.a_table no_key w ∷ fs) false) is
        ≡ run limit (state (t ++ (pending w.header fs es ++ entries_text (path fs) (is_some w.last) es)) fs
        (is_nothing_open fs)) rest
    rows (table_end {rest = rest}) t w fs f =
        at_text fs (is_nothing_open fs) rest _ _ (ap (λ z. t ++ z) (sym (append-nil (header_text w.header fs))))
    rows (by_key {mid = mid} {rest = rest} {k = k} {v = v} {es = es} d rs) t w fs f =
        marked d t w k fs (fine_entry (suc (length fs)) w k v es f) ∙
        entry_next mid rest es t w k fs v f (λ t' w' f'. rows rs t' w' fs f')
    rows (by_field {mid = mid} {rest = rest} {k = k} {v = v} {es = es} d rs) t w fs f =
        marked d t w k fs (fine_entry (suc (length fs)) w k v es f) ∙
        entry_next mid rest es t w k fs v f (λ t' w' f'. rows rs t' w' fs f')

  pub spelled : {is : List Item} {w : Written} → Spells is w → Fits limit w
      → run limit fresh is ≡ Ok (state (layout w) [] true)
  spelled (root_some d) f = spelled d f
  spelled (root one_scalar) f = absurd f
  spelled (root none) f = absurd f
  spelled (root (an_array d)) f = absurd f
  spelled (root (a_table {is = is} {es = es} d)) f = open_table_root is f.0 ∙
      (rows d [] (empty_table settled) [] f.1 ∙
      at_text [] true [] _ _ (ap (λ z. z ++ entries_text [] false es) (cond-nothing (is_header_due es))))
