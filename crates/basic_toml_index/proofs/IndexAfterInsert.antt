-- What an index is after a call: of the same texts, or of one text more.
use Rattle.std.proofs.Common.{◌≡◌, ℕ, ◌<◌, ◌≤◌, List, [], ◌∷◌, ◌++◌, length, Option, Some, Result, Ok, Err, OnOk, Box}
use Rattle.std.proofs.Common.{Vec, subst, IsTrue, true}
use Rattle.std.specs.Option.{ForSome}
use Rattle.std.specs.declared.alloc.AllocError.{AllocError}
use Rattle.std.specs.declared.alloc.Global.{Global}
use Rattle.basic_toml_index.specs.Keys.{are_distinct}
use Rattle.basic_toml_index.specs.Index.{leaves_of, joined, before, after, are_filled, few, IsIndex, IsGap, IsSorted}
use Rattle.basic_toml_index.specs.declared.Gap.{Gap}
use Rattle.basic_toml_index.specs.declared.Index.{Index}
use Rattle.basic_toml_index.specs.declared.leaves.Slot.{Slot}
use Rattle.basic_toml_index.proofs.IndexGrows.{slot_in, IsSorted-insert}
use Rattle.basic_toml_index.proofs.DistinctKeys.{are_distinct-push}

abbrev pub Boxed : Type 0
Boxed = Box (Vec (Vec Slot Global) Global) Global

for_some : {T : Type 0} (x : T) (P : T → Type 0) → P x → ForSome (Some x) P
for_some x P holds y is = let same : x ≡ y = cc in subst P same holds

pub IsIndex-boxed : (keys : List (List ℕ)) (boxed : Boxed) → IsTrue (are_distinct keys)
    → IsSorted keys (leaves_of boxed.value.items) → IsIndex keys (record { leaves = Some boxed })
IsIndex-boxed keys boxed distinct sorted =
    record {
      distinct = distinct;
      sorted =
          for_some boxed (λ leaves. IsSorted keys (leaves_of leaves.value.items)) sorted;
      unsorted = λ none. absurd (cc);
    }

pub IsIndex-none : (keys : List (List ℕ)) (leaves : Option Boxed) → IsTrue (are_distinct keys) → length keys ≤ few
    → ((boxed : Boxed) → leaves ≡ Some boxed → ⊥) → IsIndex keys (record { leaves = leaves })
IsIndex-none keys leaves distinct low none =
    record { distinct = distinct; sorted = λ boxed is. absurd (none boxed is); unsorted = λ is. low }

pub distinct_with : (keys : List (List ℕ)) (index : Index) (gap : Gap) (key : List ℕ) → IsIndex keys index
    → IsGap keys index key gap → IsTrue (are_distinct (keys ++ key ∷ []))
distinct_with keys index gap key of_keys of_gap = are_distinct-push keys key of_keys.distinct of_gap.absent

-- the leaves of an index where a slot was put into its gap
pub IsIndex-insert : (result : Result (Unit {0}) AllocError) (keys : List (List ℕ)) (index : Index)
    (boxed next : Boxed) (gap : Gap) (position : ℕ) (key : List ℕ) → position ≡ length keys →
    IsIndex keys index → IsGap keys index key gap → index.leaves ≡ Some boxed →
    OnOk result (joined (leaves_of next.value.items) ≡ before (leaves_of boxed.value.items) gap.leaf gap.slot
    ++ slot_in gap position ∷ after (leaves_of boxed.value.items) gap.leaf gap.slot) →
    0 < length (leaves_of next.value.items) → are_filled (leaves_of next.value.items) ≡ true
    → OnOk result (IsIndex (keys ++ key ∷ []) (record { leaves = Some next }))
IsIndex-insert (Ok v) keys index boxed next gap position key counted of_keys of_gap is joined_is some filled =
    IsIndex-boxed (keys ++ key ∷ []) next (distinct_with keys index gap key of_keys of_gap)
    (IsSorted-insert keys (leaves_of boxed.value.items) (leaves_of next.value.items) gap position key counted
    (of_keys.sorted boxed is) (of_gap.place boxed is) joined_is some filled)
IsIndex-insert (Err e) keys index boxed next gap position key counted of_keys of_gap is joined_is some filled = tt
