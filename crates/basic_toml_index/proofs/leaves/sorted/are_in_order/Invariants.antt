-- Each slot passed is before the next one.
use Rattle.std.proofs.Common.{ℕ, ◌+◌, ◌<◌, IsTrue}
use Rattle.basic_toml_index.specs.Index.{slot_at}
use Rattle.basic_toml_index.specs.SlotOrder.{is_before}
use Rattle.basic_toml_index.proofs.leaves.sorted.are_in_order.Given as goal

abbrev pub invariant-loop-at : goal.invariant-loop-at
invariant-loop-at g l = (k : ℕ) → k + 1 < l.at
    → IsTrue (is_before (g.T.Texts.texts l.texts) (slot_at l.slots k) (slot_at l.slots (k + 1)))
