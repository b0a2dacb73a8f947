use Rattle.std.proofs.Common.{List, sym, subst, ◌∙◌}
use Rattle.basic_toml_index.specs.Index.{leaves_of}
use Rattle.basic_toml_index.specs.SlotOrder.{IsRunOfFirst}
use Rattle.basic_toml_index.specs.declared.leaves.Slot.{Slot}
use Rattle.basic_toml_index.proofs.FirstTexts.{first_in_leaves, count_some}
use Rattle.basic_toml_index.proofs.leaves.first.with_sorted.Goals as goal

pub loop-run-init : goal.loop-run-init
loop-run-init g c =
    let keys = g.T.Texts.texts c.args.texts.now in
    record {
      some = count_some keys c.args.count (leaves_of c.args.leaves.items) c.requires;
      first = subst (λ (ss : List Slot). IsRunOfFirst keys c.args.count ss) (sym c.in_ok-in_a_row.ensures) c.requires.first;
    }

pub returns : goal.returns
returns g c =
    first_in_leaves (g.T.Texts.texts c.args.texts.now) c.loop-run.run.count (leaves_of c.in_ok-cut.field-0.items)
    c.loop-run.run.slots.items c.loop-run.invariant.some (c.in_ok-cut.ensures.row ∙ c.as_slice.ensures.value)
    c.in_ok-cut.ensures.filled c.loop-run.invariant.first
