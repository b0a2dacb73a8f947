use Rattle.std.proofs.Common.{◌≡◌, ◌/◌, ◌++◌, length, arith, sym, ap, ap₂, ◌∙◌, subst, List}
use Rattle.std.proofs.lemmas.List.{take-append-drop}
use Rattle.std.specs.List.Sorted.{IsPermutation}
use Rattle.std.proofs.lemmas.List.Sorted.{length_permutation}
use Rattle.basic_toml_index.proofs.RunsMerged.{halves_moved, found_weaker}
use Rattle.basic_toml_index.specs.declared.leaves.Slot.{Slot}
use Rattle.basic_toml_index.proofs.leaves.sorted.+sorted.Goals as goal

pub merged-requires-clause-some : goal.merged-requires-clause-some
merged-requires-clause-some g n c =
    let left = length_permutation c.split_at.result.0.now c.in-Some.left.items (rw c.in-Some.is at c.in_ok-left.ensures.moved) in
    let right = length_permutation c.split_at.result.1.now c.in-Some-2.right.items (rw c.in-Some-2.is at c.in_ok-right.ensures.moved) in (
      omega (arith, left, ap (λ s. length s) c.as_slice.ensures.value, c.split_at.ensures.front_len, c.if-slots-le-FEW.false),
      omega (arith, right, ap (λ s. length s) c.as_slice-2.ensures.value, c.split_at.ensures.back_len, c.if-slots-le-FEW.false),
    )

pub merged-requires-clause-room : goal.merged-requires-clause-room
merged-requires-clause-room g n c =
    let left = length_permutation c.split_at.result.0.now c.in-Some.left.items (rw c.in-Some.is at c.in_ok-left.ensures.moved) in
    let right = length_permutation c.split_at.result.1.now c.in-Some-2.right.items (rw c.in-Some-2.is at c.in_ok-right.ensures.moved) in
    omega (
      arith,
      left,
      right,
      ap (λ s. length s) c.as_slice.ensures.value,
      ap (λ s. length s) c.as_slice-2.ensures.value,
      c.split_at.ensures.front_len,
      c.split_at.ensures.back_len,
    )

pub returns-clause-moved : goal.returns-clause-moved
returns-clause-moved g n c =
    let slots = c.args.slots.now in
    let front = c.split_at.result.0.now in
    let back = c.split_at.result.1.now in
    let left = c.in-Some.left.items in
    let right = c.in-Some-2.right.items in
    let whole : slots ≡ front ++ back =
    sym (ap₂ (λ xs ys. xs ++ ys) c.split_at.ensures.front c.split_at.ensures.back ∙ take-append-drop (length slots / 2) slots) in
    found_weaker c.merged.result (λ run. IsPermutation (c.as_slice.result.now ++ c.as_slice-2.result.now) run.items)
    (λ run. IsPermutation slots run.items)
    (λ run moved. halves_moved slots front back left right run.items whole
    (rw c.in-Some.is at c.in_ok-left.ensures.moved) (rw c.in-Some-2.is at c.in_ok-right.ensures.moved)
    (subst (λ (ss : List Slot). IsPermutation ss run.items)
    (ap₂ (λ xs ys. xs ++ ys) c.as_slice.ensures.value c.as_slice-2.ensures.value) moved)) c.merged.ensures.moved
