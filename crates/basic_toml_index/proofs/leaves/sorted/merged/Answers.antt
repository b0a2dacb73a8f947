use Rattle.std.proofs.Common.{sym, subst, List, ◌++◌}
use Rattle.std.specs.List.Sorted.{IsPermutation}
use Rattle.std.proofs.lemmas.List.Sorted.{IsPermutation-append_comm}
use Rattle.basic_toml_index.specs.SlotOrder.{IsRun}
use Rattle.basic_toml_index.specs.declared.leaves.Slot.{Slot}
use Rattle.basic_toml_index.proofs.RunsMerged.{run_append}
use Rattle.basic_toml_index.proofs.leaves.sorted.merged.Goals as goal

pub returns-then-ends_before-clause-run : goal.returns-then-ends_before-clause-run
returns-then-ends_before-clause-run g c =
    subst (λ (r : List Slot). IsRun (g.T.Texts.texts c.args.texts.now) r) (sym c.in_ok-joined.ensures)
    (run_append (g.T.Texts.texts c.args.texts.now) c.args.left.now c.args.right.now c.requires.left c.requires.right
    c.requires.some.0 c.requires.some.1 (c.ends_before.ensures c.if-ends_before.true))

pub returns-then-ends_before-2-clause-moved : goal.returns-then-ends_before-2-clause-moved
returns-then-ends_before-2-clause-moved g c =
    subst (λ (r : List Slot). IsPermutation (c.args.left.now ++ c.args.right.now) r) (sym c.in_ok-joined-2.ensures)
    (IsPermutation-append_comm c.args.left.now c.args.right.now)

pub returns-then-ends_before-2-clause-run : goal.returns-then-ends_before-2-clause-run
returns-then-ends_before-2-clause-run g c =
    subst (λ (r : List Slot). IsRun (g.T.Texts.texts c.args.texts.now) r) (sym c.in_ok-joined-2.ensures)
    (run_append (g.T.Texts.texts c.args.texts.now) c.args.right.now c.args.left.now c.requires.right c.requires.left
    c.requires.some.1 c.requires.some.0 (c.ends_before-2.ensures c.if-ends_before-2.true))
