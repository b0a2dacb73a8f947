-- With its rows first data has no unsupported shape but those that no order mends.
use Rattle.std.proofs.Common.{◌≡◌, ℕ, suc, Bool, true, false, not, ◌&&◌, ◌||◌, cond, List, refl, sym, ap, ◌∙◌, arith}
use Rattle.std.specs.Prelude.{nat_lt, max, IsTrue}
use Rattle.std.specs.Str.{bytes_eq}
use Rattle.std.proofs.Math.Bool.{or_assoc}
use Rattle.std.proofs.lemmas.Bool.{and_parts, or_from, not-true}
use Rattle.basic_toml_value.specs.Data.{Data, integer, float, boolean, string, array, table, Items, no_items, item}
use Rattle.basic_toml_value.specs.Data.{Members, no_members, member}
use Rattle.basic_toml_index.specs.Keys.{is_among, are_distinct}
use Rattle.basic_toml_value.specs.Nesting.{nesting_limit}
use Rattle.basic_toml_layout.specs.Layout.{form}
use Rattle.basic_toml_layout.specs.Sections.{is_section}
use Rattle.basic_toml_layout.specs.Trees.{written_of, elements_of, entries_of}
use Rattle.basic_toml_layout.specs.Written.{is_table, is_absent}
use Rattle.basic_toml_emit.specs.Depth.{depth, elements_depth, entries_depth}
use Rattle.basic_toml_write.specs.DataFits.{member_keys}
use Rattle.basic_toml_write.specs.Shapes.{holds_table, holds_other, holds_absent, is_array_with_table}
use Rattle.basic_toml_write.specs.Shapes.{holds_array_with_table, is_bad_array, is_late, then_after, has_late_row}
use Rattle.basic_toml_write.specs.Shapes.{has_key, repeats_key, has_bad, element_has_bad, entry_has_bad}
use Rattle.basic_toml_write.specs.Shapes.{is_unsupported}
use Rattle.basic_toml_order.specs.RowsFirst.{followed_by, rows_first, items_rows_first, rows_of, sections_of}
use Rattle.basic_toml_order.specs.RowsFirst.{members_rows_first, are_sections, are_in_order}
use Rattle.basic_toml_order.specs.Sound.{is_sound, are_sound, hold_sound}
use Rattle.basic_toml_order.specs.Writable.{has_bad_array, hold_bad_array, lead_to_bad_array, is_unwritable}
use Rattle.basic_toml_order.proofs.KeysStayDistinct.{distinct-rows_first}
use Rattle.basic_toml_order.proofs.RowsComeFirst.{ap2, members_ordered}

-- a row after a section
late_form : (after : Bool) (d : Data) → is_late after (form (written_of d)) ≡ not (is_section d) && after
late_form after (integer z) = refl
late_form after (float t) = refl
late_form after (boolean b) = refl
late_form after (string t) = refl
late_form after (array no_items) = refl
late_form after (array (item (integer z) xs)) = refl
late_form after (array (item (float t) xs)) = refl
late_form after (array (item (boolean b) xs)) = refl
late_form after (array (item (string t) xs)) = refl
late_form after (array (item (array ys) xs)) = refl
late_form after (array (item (table ms) xs)) = refl
late_form after (table ms) = refl

after_form : (after : Bool) (d : Data) → then_after after (form (written_of d)) ≡ is_section d || after
after_form after (integer z) = refl
after_form after (float t) = refl
after_form after (boolean b) = refl
after_form after (string t) = refl
after_form after (array no_items) = refl
after_form after (array (item (integer z) xs)) = refl
after_form after (array (item (float t) xs)) = refl
after_form after (array (item (boolean b) xs)) = refl
after_form after (array (item (string t) xs)) = refl
after_form after (array (item (array ys) xs)) = refl
after_form after (array (item (table ms) xs)) = refl
after_form after (table ms) = refl

sections_not_late : (ms : Members) (after : Bool) → are_sections ms ≡ true → has_late_row after (entries_of ms) ≡ false
sections_not_late no_members after are = refl
sections_not_late (member k d ms) after are = let parts = and_parts _ _ are in
    or_from _ _ (late_form after d ∙ ap (λ b. not b && after) parts.0)
    (sections_not_late ms (then_after after (form (written_of d))) parts.1)

member_not_late : (d : Data) (ms : Members) (b : Bool) → is_section d ≡ b
    → cond b (are_sections ms) (are_in_order ms) ≡ true
    → (are_in_order ms ≡ true → has_late_row false (entries_of ms) ≡ false)
    → is_late false (form (written_of d)) || has_late_row (then_after false (form (written_of d))) (entries_of ms)
    ≡ false
member_not_late d ms true is are more =
    or_from _ _ (late_form false d ∙ ap (λ b. not b && false) is)
    (sections_not_late ms (then_after false (form (written_of d))) are)
member_not_late d ms false is are more =
    or_from _ _ (late_form false d ∙ ap (λ b. not b && false) is)
    (ap (λ after. has_late_row after (entries_of ms)) (after_form false d ∙ ap (λ b. b || false) is) ∙ more are)

not_late : (ms : Members) → are_in_order ms ≡ true → has_late_row false (entries_of ms) ≡ false
not_late no_members are = refl
not_late (member k d ms) are = member_not_late d ms (is_section d) refl are (not_late ms)

-- keys that differ
has_key-entries : (k : List ℕ) (ms : Members) → has_key k (entries_of ms) ≡ is_among (member_keys ms) k
has_key-entries k no_members = refl
has_key-entries k (member l (integer z) ms) = ap (λ b. bytes_eq k l || b) (has_key-entries k ms)
has_key-entries k (member l (float t) ms) = ap (λ b. bytes_eq k l || b) (has_key-entries k ms)
has_key-entries k (member l (boolean t) ms) = ap (λ b. bytes_eq k l || b) (has_key-entries k ms)
has_key-entries k (member l (string t) ms) = ap (λ b. bytes_eq k l || b) (has_key-entries k ms)
has_key-entries k (member l (array xs) ms) = ap (λ b. bytes_eq k l || b) (has_key-entries k ms)
has_key-entries k (member l (table ns) ms) = ap (λ b. bytes_eq k l || b) (has_key-entries k ms)

key_once : (k : List ℕ) (ms : Members) → not (is_among (member_keys ms) k) ≡ true → repeats_key (entries_of ms) ≡ false
    → has_key k (entries_of ms) || repeats_key (entries_of ms) ≡ false
key_once k ms absent more = or_from _ _ (has_key-entries k ms ∙ not-true _ absent) more

keys_once : (ms : Members) → are_distinct (member_keys ms) ≡ true → repeats_key (entries_of ms) ≡ false
keys_once no_members distinct = refl
keys_once (member k (integer z) ms) distinct = let parts = and_parts _ _ distinct in
    key_once k ms parts.0 (keys_once ms parts.1)
keys_once (member k (float t) ms) distinct = let parts = and_parts _ _ distinct in
    key_once k ms parts.0 (keys_once ms parts.1)
keys_once (member k (boolean b) ms) distinct = let parts = and_parts _ _ distinct in
    key_once k ms parts.0 (keys_once ms parts.1)
keys_once (member k (string t) ms) distinct = let parts = and_parts _ _ distinct in
    key_once k ms parts.0 (keys_once ms parts.1)
keys_once (member k (array xs) ms) distinct = let parts = and_parts _ _ distinct in
    key_once k ms parts.0 (keys_once ms parts.1)
keys_once (member k (table ns) ms) distinct = let parts = and_parts _ _ distinct in
    key_once k ms parts.0 (keys_once ms parts.1)

-- elements stay of their kinds
is_table-same : (d : Data) → is_table (written_of (rows_first d)) ≡ is_table (written_of d)
is_table-same (integer z) = refl
is_table-same (float t) = refl
is_table-same (boolean b) = refl
is_table-same (string t) = refl
is_table-same (array xs) = refl
is_table-same (table ms) = refl

is_absent-same : (d : Data) → is_absent (written_of (rows_first d)) ≡ is_absent (written_of d)
is_absent-same (integer z) = refl
is_absent-same (float t) = refl
is_absent-same (boolean b) = refl
is_absent-same (string t) = refl
is_absent-same (array xs) = refl
is_absent-same (table ms) = refl

holds_table-same : (xs : Items) → holds_table (elements_of (items_rows_first xs)) ≡ holds_table (elements_of xs)
holds_table-same no_items = refl
holds_table-same (item d xs) = ap2 (λ a b. a || b) (is_table-same d) (holds_table-same xs)

with_table-same : (d : Data) → is_array_with_table (written_of (rows_first d)) ≡ is_array_with_table (written_of d)
with_table-same (integer z) = refl
with_table-same (float t) = refl
with_table-same (boolean b) = refl
with_table-same (string t) = refl
with_table-same (array xs) = holds_table-same xs
with_table-same (table ms) = refl

holds_other-same : (xs : Items) → holds_other (elements_of (items_rows_first xs)) ≡ holds_other (elements_of xs)
holds_other-same no_items = refl
holds_other-same (item d xs) =
    ap2 (λ a b. not a || b) (ap2 (λ a b. a || b) (is_table-same d) (is_absent-same d)) (holds_other-same xs)

holds_absent-same : (xs : Items) → holds_absent (elements_of (items_rows_first xs)) ≡ holds_absent (elements_of xs)
holds_absent-same no_items = refl
holds_absent-same (item d xs) = ap2 (λ a b. a || b) (is_absent-same d) (holds_absent-same xs)

holds_arrays-same : (xs : Items)
    → holds_array_with_table (elements_of (items_rows_first xs)) ≡ holds_array_with_table (elements_of xs)
holds_arrays-same no_items = refl
holds_arrays-same (item d xs) = ap2 (λ a b. a || b) (with_table-same d) (holds_arrays-same xs)

bad_array-same : (xs : Items) → is_bad_array (elements_of (items_rows_first xs)) ≡ is_bad_array (elements_of xs)
bad_array-same xs =
    ap2 (λ a b. a || b) (ap2 (λ a b. a && b) (holds_table-same xs) (holds_other-same xs))
    (ap2 (λ a b. a || b) (holds_arrays-same xs) (holds_absent-same xs))

-- shapes of entries in another order
has_bad-followed : (ms ns : Members)
    → entry_has_bad (entries_of (followed_by ms ns)) ≡ entry_has_bad (entries_of ms) || entry_has_bad (entries_of ns)
has_bad-followed no_members ns = refl
has_bad-followed (member k d ms) ns =
    ap (λ b. has_bad (written_of d) || b) (has_bad-followed ms ns)
    ∙ sym (or_assoc (has_bad (written_of d)) (entry_has_bad (entries_of ms)) (entry_has_bad (entries_of ns)))

or_between : (a b c : Bool) → a || (b || c) ≡ b || (a || c)
or_between true true c = refl
or_between true false c = refl
or_between false true c = refl
or_between false false c = refl

member_bad : (k : List ℕ) (d : Data) (ms : Members) (b here more : Bool)
    → has_bad (written_of (rows_first d)) ≡ here
    → entry_has_bad (entries_of (rows_of ms)) || entry_has_bad (entries_of (sections_of ms)) ≡ more
    → entry_has_bad (entries_of (cond b (rows_of ms) (member k (rows_first d) (rows_of ms))))
    || entry_has_bad (entries_of (cond b (member k (rows_first d) (sections_of ms)) (sections_of ms))) ≡ here || more
member_bad k d ms true here more is rest =
    or_between (entry_has_bad (entries_of (rows_of ms))) (has_bad (written_of (rows_first d)))
    (entry_has_bad (entries_of (sections_of ms))) ∙ ap2 (λ a b. a || b) is rest
member_bad k d ms false here more is rest =
    or_assoc (has_bad (written_of (rows_first d))) (entry_has_bad (entries_of (rows_of ms)))
    (entry_has_bad (entries_of (sections_of ms))) ∙ ap2 (λ a b. a || b) is rest

pub shape_same : (ms : Members) → are_distinct (member_keys ms) ≡ true
    → (has_late_row false (entries_of (members_rows_first ms)) || repeats_key (entries_of (members_rows_first ms)))
    ≡ false
shape_same ms distinct =
    or_from _ _ (not_late (members_rows_first ms) (members_ordered ms))
    (keys_once (members_rows_first ms) (distinct-rows_first ms distinct))

mutual
  pub bad_same : (d : Data) → is_sound d ≡ true → has_bad (written_of (rows_first d)) ≡ has_bad_array d
  bad_same (integer z) sound = not-true _ sound
  bad_same (float t) sound = refl
  bad_same (boolean b) sound = refl
  bad_same (string t) sound = refl
  bad_same (array xs) sound = ap2 (λ a b. a || b) (bad_array-same xs) (items_bad xs sound)
  bad_same (table ms) sound = let parts = and_parts _ _ sound in
      ap (λ b. b || entry_has_bad (entries_of (members_rows_first ms))) (shape_same ms parts.0)
      ∙ has_bad-followed (rows_of ms) (sections_of ms) ∙ members_bad ms parts.1

  items_bad : (xs : Items) → are_sound xs ≡ true
      → element_has_bad (elements_of (items_rows_first xs)) ≡ hold_bad_array xs
  items_bad no_items sound = refl
  items_bad (item d xs) sound = let parts = and_parts _ _ sound in
      ap2 (λ a b. a || b) (bad_same d parts.0) (items_bad xs parts.1)

  members_bad : (ms : Members) → hold_sound ms ≡ true
      → entry_has_bad (entries_of (rows_of ms)) || entry_has_bad (entries_of (sections_of ms)) ≡ lead_to_bad_array ms
  members_bad no_members sound = refl
  members_bad (member k d ms) sound = let parts = and_parts _ _ sound in
      member_bad k d ms (is_section d) (has_bad_array d) (lead_to_bad_array ms) (bad_same d parts.0)
      (members_bad ms parts.1)

-- the depth
depth-followed : (ms ns : Members)
    → entries_depth (entries_of (followed_by ms ns)) ≡ max (entries_depth (entries_of ms)) (entries_depth (entries_of ns))
depth-followed no_members ns = omega arith
depth-followed (member k d ms) ns = let more = depth-followed ms ns in omega arith

member_depth : (k : List ℕ) (d : Data) (ms : Members) (b : Bool) (here more : ℕ) → depth (written_of (rows_first d)) ≡ here
    → max (entries_depth (entries_of (rows_of ms))) (entries_depth (entries_of (sections_of ms))) ≡ more
    → max (entries_depth (entries_of (cond b (rows_of ms) (member k (rows_first d) (rows_of ms)))))
    (entries_depth (entries_of (cond b (member k (rows_first d) (sections_of ms)) (sections_of ms)))) ≡ max here more
member_depth k d ms true here more is rest = omega arith
member_depth k d ms false here more is rest = omega arith

mutual
  pub depth_same : (d : Data) → depth (written_of (rows_first d)) ≡ depth (written_of d)
  depth_same (integer z) = refl
  depth_same (float t) = refl
  depth_same (boolean b) = refl
  depth_same (string t) = refl
  depth_same (array xs) = ap (λ n. suc n) (items_depth xs)
  depth_same (table ms) = ap (λ n. suc n) (depth-followed (rows_of ms) (sections_of ms) ∙ members_depth ms)

  items_depth : (xs : Items) → elements_depth (elements_of (items_rows_first xs)) ≡ elements_depth (elements_of xs)
  items_depth no_items = refl
  items_depth (item d xs) = ap2 max (depth_same d) (items_depth xs)

  members_depth : (ms : Members)
      → max (entries_depth (entries_of (rows_of ms))) (entries_depth (entries_of (sections_of ms)))
      ≡ entries_depth (entries_of ms)
  members_depth no_members = refl
  members_depth (member k d ms) = member_depth k d ms (is_section d) (depth (written_of d))
      (entries_depth (entries_of ms)) (depth_same d) (members_depth ms)

pub unsupported_same : (ms : Members) → IsTrue (is_sound (table ms))
    → is_unsupported nesting_limit (written_of (rows_first (table ms))) ≡ is_unwritable (table ms)
unsupported_same ms sound =
    ap2 (λ a n. a || nat_lt nesting_limit n) (bad_same (table ms) sound) (depth_same (table ms))

-- what a table with its rows first comes to, and a copy of it
pub written : (moved ms : Members) → moved ≡ members_rows_first ms → IsTrue (is_sound (table ms))
    → is_unsupported nesting_limit (written_of (table moved)) ≡ is_unwritable (table ms)
written moved ms order sound =
    ap (λ ns. is_unsupported nesting_limit (written_of (table ns))) order ∙ unsupported_same ms sound

pub copy_written : (moved copy ms : Members)
    → is_unsupported nesting_limit (written_of (table moved)) ≡ is_unwritable (table copy) → copy ≡ ms
    → is_unsupported nesting_limit (written_of (table moved)) ≡ is_unwritable (table ms)
copy_written moved copy ms is same = is ∙ ap (λ ns. is_unwritable (table ns)) same
