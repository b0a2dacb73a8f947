use Rattle.std.proofs.Common.{ap, subst, ◌∙◌}
use Rattle.std.specs.List.{list_all}
use Rattle.basic_toml_index.specs.Index.{is_sound}
use Rattle.basic_toml_index.specs.SlotOrder.{AreInOrder}
use Rattle.basic_toml_index.proofs.RunsMerged.{run_in_order, all_moved}
use Rattle.basic_toml_index.proofs.leaves.sorted.few_sorted.Goals as goal

pub returns-then-are_in_order-clause-run : goal.returns-then-are_in_order-clause-run
returns-then-are_in_order-clause-run g c =
    let keys = g.T.Texts.texts c.args.texts.now in
    let run = c.sort_unstable_by.new.self.items in
    run_in_order keys run
    (all_moved (is_sound keys) c.in_ok-run.run'.items run c.sort_unstable_by.ensures.permutation
    (ap (list_all (is_sound keys)) c.in_ok-run.ensures.items ∙ c.requires.sound))
    (subst (AreInOrder keys) c.as_slice.ensures.value (c.are_in_order.ensures.0 c.if-are_in_order.true))
