use Rattle.std.proofs.Common.{◌+◌, ◌++◌, List, length, arith, ap, ap₂, ◌∙◌, subst}
use Rattle.std.specs.List.Sorted.{IsPermutation}
use Rattle.basic_toml_index.specs.declared.leaves.Slot.{Slot}
use Rattle.basic_toml_index.proofs.FirstTexts.{run_merged, run_length, part_length}
use Rattle.basic_toml_index.proofs.leaves.first.with_part.Goals as goal
use Rattle.basic_toml_index.proofs.leaves.first.with_part.Goals.{in-Endings, in_default-means}

pub merged-requires-clause-some : goal.merged-requires-clause-some
merged-requires-clause-some g c =
    let keys = g.T.Texts.texts c.args.texts.now in
    let count = c.args.run.now.count in
    let next = count + c.min.result in (
      omega (
        arith,
        ap (λ s. length s) c.as_slice.ensures.value,
        run_length keys count c.args.run.now.slots.items c.requires.first,
        c.requires.some,
      ),
      omega (
        arith,
        ap (λ s. length s) c.as_slice-2.ensures.value,
        part_length keys count next c.in-Some.part.slots.items (omega arith) (rw c.in-Some.is at c.in_ok-part.ensures.keys),
      ),
    )

pub merged-requires-clause-room : goal.merged-requires-clause-room
merged-requires-clause-room g c =
    let keys = g.T.Texts.texts c.args.texts.now in
    let count = c.args.run.now.count in
    let next = count + c.min.result in
    let left = ap (λ s. length s) c.as_slice.ensures.value
    ∙ run_length keys count c.args.run.now.slots.items c.requires.first in
    let right = ap (λ s. length s) c.as_slice-2.ensures.value
    ∙ part_length keys count next c.in-Some.part.slots.items (omega arith) (rw c.in-Some.is at c.in_ok-part.ensures.keys) in
    elim c.match-part.branch [
      | in-Endings w ↦ omega (arith, w.room-is, left, right)
      | in_default-means w ↦ omega (arith, w.room-is, left, right)
    ]

pub returns-clause-first : goal.returns-clause-first
returns-clause-first g c =
    let keys = g.T.Texts.texts c.args.texts.now in
    let count = c.args.run.now.count in
    let next = count + c.min.result in
    let run = c.args.run.now.slots.items in
    let part = c.in-Some.part.slots.items in
    run_merged keys count next run part c.in-Some-longer.slots.items (omega arith) (omega arith) c.requires.first
    (rw c.in-Some.is at c.in_ok-part.ensures.keys) (rw c.in-Some.is at c.in_ok-part.ensures.low)
    (subst (λ (ss : List Slot). IsPermutation ss c.in-Some-longer.slots.items)
    (ap₂ (λ xs ys. xs ++ ys) c.as_slice.ensures.value c.as_slice-2.ensures.value)
    (rw c.in-Some-longer.is at c.in_ok-longer.ensures.moved))
    (rw c.in-Some-longer.is at c.in_ok-longer.ensures.run)
