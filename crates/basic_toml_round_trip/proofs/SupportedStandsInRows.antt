-- A scalar that calls can record, and an array that begins with no table, stand in a row where no shape is unsupported.
use Rattle.std.proofs.Common.{◌≡◌, ℕ, ◌^◌, ◌<◌, Bool, true, false, ◌&&◌, ◌||◌, List, [], ◌∷◌, inl, inr, refl, arith}
use Rattle.std.specs.Prelude.{All, ℤ, pos, negsuc}
use Rattle.std.proofs.lemmas.Bool.{or_parts, true≢false, lt-ltb}
use Rattle.std.proofs.lemmas.Bool.Decides.{nat_tests}
use Rattle.std.proofs.lemmas.Int.{ints}
use Rattle.std.proofs.lemmas.List.Elements.{All-head, All-tail}
use Rattle.basic_toml_layout.specs.Written as w
use Rattle.basic_toml_layout.specs.Written.{Scalar, Written, scalar, absent, array, table, Elements, no_elements}
use Rattle.basic_toml_layout.specs.Written.{element, is_refused}
use Rattle.basic_toml_layout.specs.Layout.{row, form}
use Rattle.basic_toml_write.specs.Recordable.{IsRecordableScalar}
use Rattle.basic_toml_write.specs.Shapes.{holds_table, holds_other, holds_absent, holds_array_with_table}
use Rattle.basic_toml_write.specs.Shapes.{is_bad_array, has_bad, element_has_bad}
use Rattle.basic_toml_value.specs.Data.{Items}
use Rattle.basic_toml_layout.proofs.OrderedText.{AllHoldNone}
use Rattle.basic_toml_layout.specs.Trees.{number_items, scalar_tree, tree_of, element_trees}
use Rattle.basic_toml_round_trip.proofs.IntegersAreReadBack.{fits}
use Rattle.basic_toml_round_trip.proofs.LaidOut.{AreInRow, IsPlainRow}
use Rattle.basic_toml_round_trip.proofs.SpelledIsRecorded.{AreRecorded}

-- an integer that a call can record, and that is not refused, lies in i64
integer_fits : (z : ℤ) → is_refused (w.integer z) ≡ false → IsRecordableScalar (w.integer z) → fits z ≡ true
integer_fits (pos n) b r = grind (arith, nat_tests)
integer_fits (negsuc n) b (inl f) = lt-ltb n (2 ^ 63) (omega (arith, ints, f))
integer_fits (negsuc n) b (inr f) = absurd (omega (arith, ints, f.0))

bytes_hold_none : (ns : List ℕ) → AllHoldNone (number_items ns)
bytes_hold_none [] = tt
bytes_hold_none (n ∷ ns) = (tt, bytes_hold_none ns)

bytes_in_row : (ns : List ℕ) → All (λ n. n < 256) ns → AreInRow (number_items ns)
bytes_in_row [] h = tt
bytes_in_row (n ∷ ns) h =
    let small : n < 256 = All-head (λ n. n < 256) n ns h in
    (lt-ltb n (2 ^ 63) (omega arith), bytes_in_row ns (All-tail (λ n. n < 256) n ns h))

pub scalar_in_row : (l : Scalar) → is_refused l ≡ false → IsRecordableScalar l → IsPlainRow (scalar_tree l)
scalar_in_row (w.integer z) b r = record { none = tt; value = integer_fits z b r }
scalar_in_row (w.boolean x) b r = record { none = tt; value = tt }
scalar_in_row (w.float t) b r = record { none = tt; value = r }
scalar_in_row (w.text t) b r = record { none = tt; value = r }
scalar_in_row (w.other_text t) b r = record { none = tt; value = r }
scalar_in_row (w.bytes ns) b r = record { none = bytes_hold_none ns; value = bytes_in_row ns r }
scalar_in_row w.refused b r = absurd (true≢false b)

-- elements of an array that holds no table, nothing absent, and no array with a table
pub record ArePlain (es : Elements) : Type 0 where
  pub tables : holds_table es ≡ false
  pub absents : holds_absent es ≡ false
  pub arrays : holds_array_with_table es ≡ false
  pub bad : element_has_bad es ≡ false

plain_array : (es : Elements) → holds_table es ≡ false → has_bad (array es) ≡ false → ArePlain es
plain_array es t b =
    let p : (is_bad_array es ≡ false) × (element_has_bad es ≡ false) = or_parts _ _ b in
    let q : ((holds_table es && holds_other es) ≡ false) × ((holds_array_with_table es || holds_absent es) ≡ false) =
    or_parts _ _ p.0 in
    let r : (holds_array_with_table es ≡ false) × (holds_absent es ≡ false) = or_parts _ _ q.1 in
    record { tables = t; absents = r.1; arrays = r.0; bad = p.1 }

record ArePlainRows (xs : Items) : Type 0 where
  none : AllHoldNone xs
  value : AreInRow xs

elements_in_row : (es : Elements) → ArePlain es → AreRecorded es → ArePlainRows (element_trees es)
elements_in_row no_elements h r = record { none = tt; value = tt }
elements_in_row (element (scalar l) es) h r =
    let b : (is_refused l ≡ false) × (element_has_bad es ≡ false) = or_parts _ _ h.bad in
    let others : ArePlain es = record { tables = h.tables; absents = h.absents; arrays = h.arrays; bad = b.1 } in
    let first = scalar_in_row l b.0 r.0 in
    let rest = elements_in_row es others r.1 in
    record { none = (first.none, rest.none); value = (first.value, rest.value) }
elements_in_row (element absent es) h r = absurd (true≢false h.absents)
elements_in_row (element (table x) es) h r = absurd (true≢false h.tables)
elements_in_row (element (array us) es) h r =
    let a : (holds_table us ≡ false) × (holds_array_with_table es ≡ false) = or_parts _ _ h.arrays in
    let b : (has_bad (array us) ≡ false) × (element_has_bad es ≡ false) = or_parts _ _ h.bad in
    let others : ArePlain es = record { tables = h.tables; absents = h.absents; arrays = a.1; bad = b.1 } in
    let first = elements_in_row us (plain_array us a.0 b.0) r.0 in
    let rest = elements_in_row es others r.1 in
    record { none = (first.none, rest.none); value = (first.value, rest.value) }

-- an array that does not begin with a table holds none
and_true : (b : Bool) → (b && true) ≡ false → b ≡ false
and_true true e = e
and_true false e = refl

no_table : (es : Elements) → form (array es) ≡ row → has_bad (array es) ≡ false → holds_table es ≡ false
no_table no_elements f b = refl
no_table (element (table x) es) f b = cc
no_table (element (scalar l) es) f b = and_true (holds_table es) (or_parts _ _ (or_parts _ _ b).0).0
no_table (element absent es) f b =
    let p : ((holds_table es && holds_other es) ≡ false) × ((holds_array_with_table es || true) ≡ false) =
    or_parts _ _ (or_parts _ _ b).0 in
    absurd (true≢false (or_parts (holds_array_with_table es) true p.1).1)
no_table (element (array us) es) f b =
    let p : ((holds_table es && true) ≡ false)
    × (((holds_table us || holds_array_with_table es) || holds_absent es) ≡ false) =
    or_parts _ _ (or_parts _ _ b).0 in
    and_true (holds_table es) p.0

pub array_in_row : (es : Elements) → form (array es) ≡ row → has_bad (array es) ≡ false → AreRecorded es
    → IsPlainRow (tree_of (array es))
array_in_row es f b r =
    let rows = elements_in_row es (plain_array es (no_table es f b) b) r in
    record { none = rows.none; value = rows.value }
