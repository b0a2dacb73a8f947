-- From a list that spells a written value, want of order and a key that is no text do not come.
use Rattle.std.proofs.Common.{◌≡◌, ℕ, List, [], ◌∷◌, ◌++◌, refl, sym, ◌∙◌, ap, subst, Bool, true, false}
use Rattle.std.proofs.Common.{Result, Ok, Err, inl, inr, ◌⊎◌, MatchResult}
use Rattle.std.specs.Prelude.{⊤, is_some}
use Rattle.basic_toml_layout.specs.Written.{Scalar, Written, Elements, Entries, is_refused}
use Rattle.basic_toml_emit.specs.Items.{Item, a_scalar, open_array, open_table, close}
use Rattle.basic_toml_write.specs.Spelling.{IsValue, one_scalar, none, an_array, a_table, AreElements, array_end}
use Rattle.basic_toml_write.specs.Spelling.{a_some, an_element, member, AreEntries, table_end, by_key, by_field}
use Rattle.basic_toml_write.specs.Spelling.{IsPrefixed, bare, with_some, with_value, Spells, root, root_some}
use Rattle.basic_toml_emit.specs.Open as o
use Rattle.basic_toml_emit.specs.Open.{State, state, Frame, Header, settled, due, ElementKind, unknown, tables}
use Rattle.basic_toml_emit.specs.Open.{others, no_key, key_set, OpenTable, empty_table, entered, fresh}
use Rattle.basic_toml_emit.specs.Open.{with_settled, with_section}
use Rattle.basic_toml_emit.specs.Rules.{CallFault, unsupported_type, value_after_table, unsupported_none}
use Rattle.basic_toml_emit.specs.Rules.{nested_too_deeply, duplicate_key, refuse_if, first_fault, Rule, Place}
use Rattle.basic_toml_emit.specs.Rules.{place_of, may_stand, is_no_text_at_key, is_refused_kind, is_absent_outside}
use Rattle.basic_toml_emit.specs.Rules.{is_misfit, is_repeated, key_of, is_late_row, is_too_deep}
use Rattle.basic_toml_write.specs.Write.{IsFair}
use Rattle.basic_toml_emit.specs.Calls as c
use Rattle.basic_toml_emit.specs.Calls.{run, on_ok, step, taken, array_start, with_row, with_sections}
use Rattle.basic_toml_emit.specs.Calls.{is_nothing_open, outcome, finished}

-- what an array may change of the frame that it stands on
abbrev Below : List Frame → Type 0
Below [] = ⊤
Below (o.a_table s w ∷ fs) = Header × Bool
Below (o.an_array c l ∷ fs) = ElementKind × Bool

abbrev below : (fs : List Frame) → Below fs → List Frame
below [] x = []
below (o.a_table s w ∷ fs) x = o.a_table s (record w { header = x.0; holds_section = x.1 }) ∷ fs
below (o.an_array c l ∷ fs) x = o.an_array x.0 x.1 ∷ fs

same_below : (fs : List Frame) → (x : Below fs) × (below fs x ≡ fs)
same_below [] = (tt, refl)
same_below (o.a_table s w ∷ fs) = ((w.header, w.holds_section), refl)
same_below (o.an_array c l ∷ fs) = ((c, l), refl)

row_below : (fs : List Frame) → (x : Below fs) × (below fs x ≡ with_row fs)
row_below [] = (tt, refl)
row_below (o.a_table s w ∷ fs) = ((settled, w.holds_section), refl)
row_below (o.an_array c l ∷ fs) = ((c, l), refl)

sections_below : (fs : List Frame) → (x : Below fs) × (below fs x ≡ with_sections fs)
sections_below [] = (tt, refl)
sections_below (o.a_table s w ∷ fs) = ((settled, true), refl)
sections_below (o.an_array c l ∷ fs) = ((c, l), refl)

below_below : (fs : List Frame) (x : Below fs) (y : Below (below fs x)) → (z : Below fs)
    × (below fs z ≡ below (below fs x) y)
below_below [] x y = (tt, refl)
below_below (o.a_table s w ∷ fs) x y = (y, refl)
below_below (o.an_array c l ∷ fs) x y = (y, refl)

abbrev AreFair : List Rule → Type 0
AreFair [] = ⊤
AreFair (b ∷ bs) = IsFair b.1 × AreFair bs

fair_rules : (bs : List Rule) → AreFair bs → (r : Result State CallFault)
    → ((e : CallFault) × IsFair e × (first_fault bs r ≡ Err e)) ⊎ (first_fault bs r ≡ r)
fair_rules [] f r = inr refl
fair_rules ((true, e) ∷ bs) f r = inl (e, f.0, refl)
fair_rules ((false, e) ∷ bs) f r = fair_rules bs f.1 r

module _ (limit : ℕ) where
  -- the run from a state is refused fairly, or goes on from one of these states with the rest
  abbrev Goes : {X : Type 0} → (X → State) → Result State CallFault → List Item → Type 0
  Goes {X} st r rest = ((e : CallFault) × IsFair e × (r ≡ Err e)) ⊎ ((x : X) × (r ≡ run limit (st x) rest))

  -- the rules after those on order
  abbrev later_rules : Place → List Frame → Item → List Rule
  later_rules p fs i =
      (is_refused_kind i, unsupported_type)
      ∷ (is_absent_outside p i, unsupported_none)
      ∷ (is_misfit fs i, unsupported_type)
      ∷ (is_repeated fs i, duplicate_key (key_of fs))
      ∷ (is_late_row fs i, value_after_table)
      ∷ (is_too_deep limit fs i, nested_too_deeply)
      ∷ []

  -- an item that may stand is refused fairly, or taken
  fair_step : (t : List ℕ) (fs : List Frame) (d : Bool) (i : Item) → is_no_text_at_key (place_of fs d) i ≡ false
      → may_stand (place_of fs d) i ≡ true → ((e : CallFault) × IsFair e × (step limit t fs d i ≡ Err e))
      ⊎ (step limit t fs d i ≡ Ok (taken t fs d i))
  fair_step t fs d i a b =
      rw (a, b) (fair_rules (later_rules (place_of fs d) fs i) (tt, (tt, (tt, (tt, (tt, (tt, tt))))))
      (Ok (taken t fs d i)))

  take : {X : Type 0} (st : X → State) (t : List ℕ) (fs : List Frame) (d : Bool) (i : Item) (is rest : List Item)
      → is_no_text_at_key (place_of fs d) i ≡ false → may_stand (place_of fs d) i ≡ true
      → Goes st (run limit (taken t fs d i) is) rest → Goes st (run limit (state t fs d) (i ∷ is)) rest
  take {X = X} st t fs d i is rest a b h = from (fair_step t fs d i a b)
    where
      from : ((e : CallFault) × IsFair e × (step limit t fs d i ≡ Err e))
          ⊎ (step limit t fs d i ≡ Ok (taken t fs d i)) → Goes st (run limit (state t fs d) (i ∷ is)) rest
      from (inl q) = inl (q.0, q.1, ap (on_ok (λ s. run limit s is)) q.2)
      from (inr q) = subst (λ r. Goes st (on_ok (λ s. run limit s is) r) rest) (sym q) h

  goes_on : {X Y : Type 0} (st : X → State) (su : Y → State) (r : Result State CallFault) (mid rest : List Item)
      → Goes st r mid → ((x : X) → Goes su (run limit (st x) mid) rest) → Goes su r rest
  goes_on st su r mid rest (inl a) k = inl a
  goes_on st su r mid rest (inr a) k = subst (λ z. Goes su z rest) (sym a.1) (k a.0)

  goes_at : {X Y : Type 0} (st : X → State) (su : Y → State) (r : Result State CallFault) (rest : List Item)
      → Goes st r rest → ((x : X) → (y : Y) × (st x ≡ su y)) → Goes su r rest
  goes_at st su r rest (inl a) k = inl a
  goes_at st su r rest (inr a) k = inr ((k a.0).0, a.1 ∙ ap (λ s. run limit s rest) (k a.0).1)

  -- a table with no key; an array; what an array leaves
  abbrev keyless : List Frame → (List ℕ × OpenTable) → State
  keyless fs x = state x.0 (o.a_table no_key x.1 ∷ fs) false

  abbrev in_array : (fs : List Frame) → (List ℕ × ElementKind × Bool × Below fs) → State
  in_array fs x = state x.0 (o.an_array x.1 x.2 ∷ below fs x.3) false

  abbrev left : (fs : List Frame) → (List ℕ × Below fs) → State
  left fs x = state x.0 (below fs x.1) false

  abbrev ended : (fs : List Frame) → List ℕ → State
  ended fs t = state t fs (is_nothing_open fs)

  at_same : (fs gs : List Frame) (x : Below fs) (t : List ℕ) (kind : ElementKind) (l : Bool) → below fs x ≡ gs
      → (is : List Item) → Goes (in_array fs) (run limit (state t (o.an_array kind l ∷ gs) false) is) is
  at_same fs gs x t kind l e is =
      inr ((t, kind, l, x), ap (λ g. run limit (state t (o.an_array kind l ∷ g) false) is) (sym e))

  mutual
    element_goes : {is mid : List Item} {v : Written} → IsValue is v mid
        → (t : List ℕ) (kind : ElementKind) (l : Bool) (fs : List Frame)
        → Goes (in_array fs) (run limit (state t (o.an_array kind l ∷ fs) false) is) mid
    element_goes (one_scalar {l = x} {rest = rest}) t unknown l fs =
        take (in_array fs) t (o.an_array unknown l ∷ fs) false (a_scalar x) rest rest refl refl
        (at_same fs _ (row_below fs).0 _ _ _ (row_below fs).1 rest)
    element_goes (one_scalar {l = x} {rest = rest}) t others l fs =
        take (in_array fs) t (o.an_array others l ∷ fs) false (a_scalar x) rest rest refl refl
        (at_same fs _ (same_below fs).0 _ _ _ (same_below fs).1 rest)
    element_goes (one_scalar {l = x} {rest = rest}) t tables l fs =
        take (in_array fs) t (o.an_array tables l ∷ fs) false (a_scalar x) rest rest refl refl
        (at_same fs _ (same_below fs).0 _ _ _ (same_below fs).1 rest)
    element_goes none t unknown l fs = inl (unsupported_none, tt, refl)
    element_goes none t tables l fs = inl (unsupported_none, tt, refl)
    element_goes none t others l fs = inl (unsupported_none, tt, refl)
    element_goes (an_array {is = is} {rest = rest} ms) t unknown l fs =
        take (in_array fs) t (o.an_array unknown l ∷ fs) false open_array is rest refl refl
        (goes_at _ _ _ rest (members_go ms _ unknown l (o.an_array others l ∷ with_row fs))
        (λ x. (
          (x.0, x.1.0, x.1.1, (row_below fs).0),
          ap (λ g. state x.0 (o.an_array x.1.0 x.1.1 ∷ g) false) (sym (row_below fs).1),
        )))
    element_goes (an_array {is = is} {rest = rest} ms) t others l fs =
        take (in_array fs) t (o.an_array others l ∷ fs) false open_array is rest refl refl
        (goes_at _ _ _ rest (members_go ms _ unknown l (o.an_array others l ∷ fs))
        (λ x. (
          (x.0, x.1.0, x.1.1, (same_below fs).0),
          ap (λ g. state x.0 (o.an_array x.1.0 x.1.1 ∷ g) false) (sym (same_below fs).1),
        )))
    element_goes (an_array ms) t tables l fs = inl (unsupported_type, tt, refl)
    element_goes (a_table {is = is} {rest = rest} rs) t unknown l fs =
        take (in_array fs) t (o.an_array unknown l ∷ fs) false open_table is rest refl refl
        (goes_at _ _ _ rest (rows_go rs _ (empty_table settled) (o.an_array tables l ∷ with_sections fs))
        (λ x. (
          (x, tables, l, (sections_below fs).0),
          ap (λ g. state x (o.an_array tables l ∷ g) false) (sym (sections_below fs).1),
        )))
    element_goes (a_table rs) t others l fs = inl (unsupported_type, tt, refl)
    element_goes (a_table {is = is} {rest = rest} rs) t tables l fs =
        take (in_array fs) t (o.an_array tables l ∷ fs) false open_table is rest refl refl
        (goes_at _ _ _ rest (rows_go rs _ (empty_table settled) (o.an_array tables l ∷ fs))
        (λ x. (
          (x, tables, l, (same_below fs).0),
          ap (λ g. state x (o.an_array tables l ∷ g) false) (sym (same_below fs).1),
        )))

    members_go : {is rest : List Item} {es : Elements} → AreElements is es rest
        → (t : List ℕ) (kind : ElementKind) (l : Bool) (fs : List Frame)
        → Goes (left fs) (run limit (state t (o.an_array kind l ∷ fs) false) is) rest
    members_go (array_end {rest = rest}) t unknown l fs =
        take (left fs) t (o.an_array unknown l ∷ fs) false close rest rest refl refl
        (inr (
          (t ++ (array_start fs ++ c.array_end fs), (row_below fs).0),
          ap (λ g. run limit (state (t ++ (array_start fs ++ c.array_end fs)) g false) rest) (sym (row_below fs).1),
        ))
    members_go (array_end {rest = rest}) t others l fs =
        inr (
          (t ++ c.array_end fs, (same_below fs).0),
          ap (λ g. run limit (state (t ++ c.array_end fs) g false) rest) (sym (same_below fs).1),
        )
    members_go (array_end {rest = rest}) t tables l fs =
        inr ((t, (same_below fs).0), ap (λ g. run limit (state t g false) rest) (sym (same_below fs).1))
    members_go (a_some ms) t unknown l fs = members_go ms t unknown l fs
    members_go (a_some ms) t others l fs = members_go ms t others l fs
    members_go (a_some ms) t tables l fs = members_go ms t tables l fs
    members_go (an_element ms) t unknown l fs = members_go ms t unknown l fs
    members_go (an_element ms) t others l fs = members_go ms t others l fs
    members_go (an_element ms) t tables l fs = members_go ms t tables l fs
    members_go (member {mid = mid} {rest = rest} d ms) t kind l fs =
        goes_on (in_array fs) (left fs) _ mid rest (element_goes d t kind l fs)
        (λ x. goes_at (left (below fs x.3)) (left fs) _ rest (members_go ms x.0 x.1 x.2 (below fs x.3)) (λ y. let z =
        below_below fs x.3 y.1 in ((y.0, z.0), ap (λ g. state y.0 g false) (sym z.1))))

    value_goes : {is rest : List Item} {v : Written} → IsValue is v rest
        → (t : List ℕ) (k : List ℕ) (w : OpenTable) (fs : List Frame)
        → Goes (keyless fs) (run limit (state t (o.a_table (key_set k) w ∷ fs) false) is) rest
    value_goes (one_scalar {l = x} {rest = rest}) t k w fs =
        take (keyless fs) t (o.a_table (key_set k) w ∷ fs) false (a_scalar x) rest rest refl refl
        (inr ((_, with_settled (entered k w)), refl))
    value_goes none t k w fs = inr ((t, w), refl)
    value_goes (an_array {is = is} {rest = rest} ms) t k w fs =
        take (keyless fs) t (o.a_table (key_set k) w ∷ fs) false open_array is rest refl refl
        (goes_at _ _ _ rest (members_go ms _ unknown (is_some w.last) (o.a_table no_key (entered k w) ∷ fs))
        (λ x. ((x.0, record (entered k w) { header = x.1.0; holds_section = x.1.1 }), refl)))
    value_goes (a_table {is = is} {rest = rest} rs) t k w fs =
        take (keyless fs) t (o.a_table (key_set k) w ∷ fs) false open_table is rest refl refl
        (goes_at _ _ _ rest (rows_go rs _ (empty_table (due (is_some w.last)))
        (o.a_table no_key (with_section (entered k w)) ∷ fs))
        (λ x. ((x, with_section (entered k w)), refl)))

    marked_goes : {is rest : List Item} {v : Written} → IsPrefixed is v rest
        → (t : List ℕ) (k : List ℕ) (w : OpenTable) (fs : List Frame)
        → Goes (keyless fs) (run limit (state t (o.a_table (key_set k) w ∷ fs) false) is) rest
    marked_goes (bare d) t k w fs = value_goes d t k w fs
    marked_goes (with_some d) t k w fs = marked_goes d t k w fs
    marked_goes (with_value d) t k w fs = marked_goes d t k w fs

    rows_go : {is rest : List Item} {es : Entries} → AreEntries is es rest
        → (t : List ℕ) (w : OpenTable) (fs : List Frame)
        → Goes (ended fs) (run limit (state t (o.a_table no_key w ∷ fs) false) is) rest
    rows_go table_end t w fs = inr (_, refl)
    rows_go (by_key {mid = mid} {rest = rest} {k = k} d rs) t w fs =
        goes_on (keyless fs) (ended fs) _ mid rest (marked_goes d t k w fs)
        (λ x. rows_go rs x.0 x.1 fs)
    rows_go (by_field {mid = mid} {rest = rest} {k = k} d rs) t w fs =
        goes_on (keyless fs) (ended fs) _ mid rest (marked_goes d t k w fs)
        (λ x. rows_go rs x.0 x.1 fs)

  -- a scalar at the root is refused as it is, or for where it stands
  unfit_scalar : (x : Scalar) → MatchResult (outcome limit (a_scalar x ∷ [])) (λ _. ⊤) IsFair
  unfit_scalar x = unfit (is_refused x)
    where
      unfit : (b : Bool) → MatchResult
          (on_ok finished (on_ok (λ s. run limit s [])
          (refuse_if {A = State} b unsupported_type (Err unsupported_type)))) (λ _. ⊤) IsFair
      unfit true = tt
      unfit false = tt

  -- a whole list comes to a text, or is refused fairly
  abbrev Comes : Result (List ℕ) CallFault → Type 0
  Comes r = MatchResult r (λ _. ⊤) IsFair

  comes : (r : Result State CallFault) → Goes (ended []) r [] → Comes (on_ok finished r)
  comes r (inl q) = subst (λ z. Comes (on_ok finished z)) (sym q.2) q.1
  comes r (inr q) = subst (λ z. Comes (on_ok finished z)) (sym q.1) tt

  pub ordered : {is : List Item} {w : Written} → Spells is w → MatchResult (outcome limit is) (λ _. ⊤) IsFair
  ordered (root_some d) = ordered d
  ordered (root (one_scalar {l = x})) = unfit_scalar x
  ordered (root none) = tt
  ordered (root (an_array d)) = tt
  ordered (root (a_table {is = is} d)) =
      comes (run limit fresh (open_table ∷ is))
      (take (ended []) [] [] false open_table is [] refl refl (rows_go d [] (empty_table settled) []))
