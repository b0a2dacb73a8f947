-- A table of data that fits is a written value that does, and its calls are all taken.
use Rattle.std.proofs.Common.{◌≡◌, ℕ, suc, ◌+◌, Bool, true, false, cond, List, [], refl, sym, subst}
use Rattle.std.proofs.Common.{arith, Ok}
use Rattle.std.specs.Prelude.{◌||◌, ◌&&◌, not, bytes_eq, nat_le, ⊤}
use Rattle.std.proofs.lemmas.Bool.{or_parts, lt-leb, ltb-true, true≢false}
use Rattle.basic_toml_value.specs.Data.{Data, integer, float, boolean, string, array, table, Items, no_items, item}
use Rattle.basic_toml_value.specs.Data.{Members, no_members, member}
use Rattle.basic_toml_index.specs.Keys.{is_among, are_distinct}
use Rattle.basic_toml_value.specs.Nesting.{nesting_limit}
use Rattle.basic_toml_layout.specs.Written as w
use Rattle.basic_toml_layout.specs.Layout.{form, layout}
use Rattle.basic_toml_open_keys.specs.Keys.{PresentKeys, no_keys, with_key}
use Rattle.basic_toml_emit.specs.Open.{state, fresh}
use Rattle.basic_toml_emit.specs.Calls.{run}
use Rattle.basic_toml_write.specs.Impls.{data_calls}
use Rattle.basic_toml_write.specs.Shapes.{then_after}
use Rattle.basic_toml_layout.specs.Trees.{written_of, elements_of, entries_of}
use Rattle.basic_toml_layout.specs.Sections.{begins_with_table, is_section}
use Rattle.basic_toml_write.specs.DataFits.{member_keys, may_open, fits_in_row}
use Rattle.basic_toml_write.specs.DataFits.{items_fit_in_row, members_fit, entry_fits, tables_fit, is_fitting_table}
use Rattle.basic_toml_write.specs.DataFits.{table_fits}
use Rattle.basic_toml_write.proofs.ValuesThatFit.{FitsValue, FitsOthers, FitsTables, FitsArray, FitsEntry, FitsEntries}
use Rattle.basic_toml_write.proofs.ValuesThatFit.{Fits}
use Rattle.basic_toml_write.proofs.FittingValueIsTaken.{spelled}
use Rattle.basic_toml_write.proofs.TreesAreKept.{spells_tree}

both : (a b : Bool) → a && b ≡ true → (a ≡ true) × (b ≡ true)
both true b e = (refl, e)
both false b e = absurd (true≢false (sym e))

is_not : (b : Bool) → not b ≡ true → b ≡ false
is_not true e = absurd (true≢false (sym e))
is_not false e = refl

-- fewer are open than may be
room : (n : ℕ) → may_open n ≡ true → nat_le nesting_limit n ≡ false
room n e = lt-leb nesting_limit n (ltb-true n nesting_limit e)

one : (n : ℕ) → n + 1 ≡ suc n
one n = omega arith

mutual
  value_in_row : (d : Data) (n : ℕ) → fits_in_row n d ≡ true → FitsValue nesting_limit n (written_of d)
  value_in_row (integer z) n e = (is_not (w.is_refused (w.integer z)) e, refl)
  value_in_row (float t) n e = (refl, refl)
  value_in_row (boolean b) n e = (refl, refl)
  value_in_row (string t) n e = (refl, refl)
  value_in_row (array xs) n e = let p = both (may_open n) (items_fit_in_row (n + 1) xs) e in
      (room n p.0, items_in_row xs (suc n) (subst (λ m. items_fit_in_row m xs ≡ true) (one n) p.1))
  value_in_row (table ms) n e = absurd (true≢false (sym e))

  items_in_row : (xs : Items) (n : ℕ) → items_fit_in_row n xs ≡ true → FitsOthers nesting_limit n (elements_of xs)
  items_in_row no_items n e = tt
  items_in_row (item x xs) n e = let p = both (fits_in_row n x) (items_fit_in_row n xs) e in
      (value_in_row x n p.0, items_in_row xs n p.1)

-- no key of these is seen
abbrev AreNew : PresentKeys → Members → Type 0
AreNew seen no_members = ⊤
AreNew seen (member k x ms) = (seen k ≡ false) × AreNew seen ms

new_after : (seen : PresentKeys) (k : List ℕ) (ms : Members) → is_among (member_keys ms) k ≡ false → AreNew seen ms
    → AreNew (with_key k seen) ms
new_after seen k no_members e h = tt
new_after seen k (member l x ms) e h = let p = or_parts (bytes_eq k l) (is_among (member_keys ms) k) e in
    (rw (p.0) h.0, new_after seen k ms p.1 h.1)

all_new : (ms : Members) → AreNew no_keys ms
all_new no_members = tt
all_new (member k x ms) = (refl, all_new ms)

-- the form of an entry says whether rows may follow
late_after : (late : Bool) (x : Data) → then_after late (form (written_of x)) ≡ late || is_section x
late_after true (integer z) = refl
late_after false (integer z) = refl
late_after true (float z) = refl
late_after false (float z) = refl
late_after true (boolean z) = refl
late_after false (boolean z) = refl
late_after true (string z) = refl
late_after false (string z) = refl
late_after true (table z) = refl
late_after false (table z) = refl
late_after true (array no_items) = refl
late_after false (array no_items) = refl
late_after true (array (item (integer z) xs)) = refl
late_after false (array (item (integer z) xs)) = refl
late_after true (array (item (float z) xs)) = refl
late_after false (array (item (float z) xs)) = refl
late_after true (array (item (boolean z) xs)) = refl
late_after false (array (item (boolean z) xs)) = refl
late_after true (array (item (string z) xs)) = refl
late_after false (array (item (string z) xs)) = refl
late_after true (array (item (array z) xs)) = refl
late_after false (array (item (array z) xs)) = refl
late_after true (array (item (table z) xs)) = refl
late_after false (array (item (table z) xs)) = refl

-- an entry is present
entries_more : (n : ℕ) (late : Bool) (seen : PresentKeys) (k : List ℕ) (x : Data) (es : w.Entries)
    → FitsEntry nesting_limit n late seen k (written_of x)
    → FitsEntries nesting_limit n (then_after late (form (written_of x))) (with_key k seen) es
    → FitsEntries nesting_limit n late seen (w.entry k (written_of x) es)
entries_more n late seen k (integer z) es f g = (f, g)
entries_more n late seen k (float z) es f g = (f, g)
entries_more n late seen k (boolean z) es f g = (f, g)
entries_more n late seen k (string z) es f g = (f, g)
entries_more n late seen k (array z) es f g = (f, g)
entries_more n late seen k (table z) es f g = (f, g)

row_array : (n : ℕ) (late : Bool) (xs : Items) → begins_with_table xs ≡ false → late ≡ false
    → FitsOthers nesting_limit n (elements_of xs) → FitsArray nesting_limit n late (elements_of xs)
row_array n late no_items b l f = l
row_array n late (item (integer z) xs) b l f = (l, f.0, f.1)
row_array n late (item (float z) xs) b l f = (l, f.0, f.1)
row_array n late (item (boolean z) xs) b l f = (l, f.0, f.1)
row_array n late (item (string z) xs) b l f = (l, f.0, f.1)
row_array n late (item (array z) xs) b l f = (l, f.0, f.1)
row_array n late (item (table z) xs) b l f = absurd (true≢false b)

sections_array : (n : ℕ) (late : Bool) (xs : Items) → begins_with_table xs ≡ true
    → FitsTables nesting_limit n (elements_of xs) → FitsArray nesting_limit n late (elements_of xs)
sections_array n late no_items b f = absurd (true≢false (sym b))
sections_array n late (item (integer z) xs) b f = absurd (true≢false (sym b))
sections_array n late (item (float z) xs) b f = absurd (true≢false (sym b))
sections_array n late (item (boolean z) xs) b f = absurd (true≢false (sym b))
sections_array n late (item (string z) xs) b f = absurd (true≢false (sym b))
sections_array n late (item (array z) xs) b f = absurd (true≢false (sym b))
sections_array n late (item (table z) xs) b f = f

array_rows : (n : ℕ) (late : Bool) (xs : Items) → begins_with_table xs ≡ false
    → not late && items_fit_in_row n xs ≡ true → FitsArray nesting_limit n late (elements_of xs)
array_rows n late xs b e = let p = both (not late) (items_fit_in_row n xs) e in
    row_array n late xs b (is_not late p.0) (items_in_row xs n p.1)

array_by : (n : ℕ) (late : Bool) (xs : Items) (b : Bool) → begins_with_table xs ≡ b
    → (tables_fit n xs ≡ true → FitsTables nesting_limit n (elements_of xs))
    → cond b (tables_fit n xs) (not late && items_fit_in_row n xs) ≡ true
    → FitsArray nesting_limit n late (elements_of xs)
array_by n late xs true is tables e = sections_array n late xs is (tables e)
array_by n late xs false is tables e = array_rows n late xs is e

mutual
  members_in : (ms : Members) (n : ℕ) (late : Bool) (seen : PresentKeys) → members_fit n late ms ≡ true
      → are_distinct (member_keys ms) ≡ true → AreNew seen ms
      → FitsEntries nesting_limit n late seen (entries_of ms)
  members_in no_members n late seen e d h = tt
  members_in (member k x ms) n late seen e d h =
      let p = both (entry_fits n late x) (members_fit n (late || is_section x) ms) e in
      let q = both (not (is_among (member_keys ms) k)) (are_distinct (member_keys ms)) d in
      entries_more n late seen k x (entries_of ms) (entry_in x n late seen k p.0 h.0)
      (subst (λ l. FitsEntries nesting_limit n l (with_key k seen) (entries_of ms)) (sym (late_after late x))
      (members_in ms n (late || is_section x) (with_key k seen) p.1 q.1
      (new_after seen k ms (is_not (is_among (member_keys ms) k) q.0) h.1)))

  entry_in : (x : Data) (n : ℕ) (late : Bool) (seen : PresentKeys) (k : List ℕ) → entry_fits n late x ≡ true
      → seen k ≡ false → FitsEntry nesting_limit n late seen k (written_of x)
  entry_in (integer z) n late seen k e s = let p = both (not late) (fits_in_row n (integer z)) e in
      (is_not (w.is_refused (w.integer z)) p.1, s, is_not late p.0, refl)
  entry_in (float z) n late seen k e s = let p = both (not late) true e in (refl, s, is_not late p.0, refl)
  entry_in (boolean z) n late seen k e s = let p = both (not late) true e in (refl, s, is_not late p.0, refl)
  entry_in (string z) n late seen k e s = let p = both (not late) true e in (refl, s, is_not late p.0, refl)
  entry_in (array xs) n late seen k e s =
      let p = both (may_open n) (cond (begins_with_table xs) (tables_fit (n + 1) xs)
      (not late && items_fit_in_row (n + 1) xs)) e in (
        s,
        room n p.0,
        array_by (suc n) late xs (begins_with_table xs) refl (λ h. tables_in xs (suc n) h) (subst (λ m.
            cond (begins_with_table xs) (tables_fit m xs) (not late && items_fit_in_row m xs) ≡ true) (one n) p.1),
      )
  entry_in (table ms) n late seen k e s =
      let p = both (may_open n) (are_distinct (member_keys ms) && members_fit (n + 1) false ms) e in
      let q = both (are_distinct (member_keys ms)) (members_fit (n + 1) false ms) p.1 in (
        s,
        room n p.0,
        members_in ms (suc n) false no_keys (subst (λ m. members_fit m false ms ≡ true) (one n) q.1) q.0
            (all_new ms),
      )

  tables_in : (xs : Items) (n : ℕ) → tables_fit n xs ≡ true → FitsTables nesting_limit n (elements_of xs)
  tables_in no_items n e = tt
  tables_in (item (integer z) xs) n e = absurd (true≢false (sym e))
  tables_in (item (float z) xs) n e = absurd (true≢false (sym e))
  tables_in (item (boolean z) xs) n e = absurd (true≢false (sym e))
  tables_in (item (string z) xs) n e = absurd (true≢false (sym e))
  tables_in (item (array z) xs) n e = absurd (true≢false (sym e))
  tables_in (item (table ms) xs) n e =
      let r = both (is_fitting_table n (table ms)) (tables_fit n xs) e in
      let p = both (may_open n) (are_distinct (member_keys ms) && members_fit (n + 1) false ms) r.0 in
      let q = both (are_distinct (member_keys ms)) (members_fit (n + 1) false ms) p.1 in (
        room n p.0,
        members_in ms (suc n) false no_keys (subst (λ m. members_fit m false ms ≡ true) (one n) q.1) q.0
            (all_new ms),
        tables_in xs n r.1,
      )

pub whole_fits : (ms : Members) → table_fits 0 ms ≡ true → Fits nesting_limit (written_of (table ms))
whole_fits ms e =
    let p = both (may_open 0) (are_distinct (member_keys ms) && members_fit 1 false ms) e in
    let q = both (are_distinct (member_keys ms)) (members_fit 1 false ms) p.1 in
    (refl, members_in ms 1 false no_keys q.1 q.0 (all_new ms))

-- the calls of a table that fits, from the start
pub whole_taken : (ms : Members) → table_fits 0 ms ≡ true
    → run nesting_limit fresh (data_calls (table ms)) ≡ Ok (state (layout (written_of (table ms))) [] true)
whole_taken ms e = spelled nesting_limit (spells_tree (table ms)) (whole_fits ms e)
