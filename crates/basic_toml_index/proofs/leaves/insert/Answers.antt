use Rattle.std.proofs.Common.{◌∙◌}
use Rattle.std.proofs.lemmas.List.{length-map}
use Rattle.basic_toml_index.specs.Index.{leaves_of}
use Rattle.basic_toml_index.proofs.SlotsInLeaves.{joined-with_slot, are_filled-with_slot}
use Rattle.basic_toml_index.proofs.leaves.insert.Goals as goal

pub split-requires-clause-filled : goal.split-requires-clause-filled
split-requires-clause-filled c =
    rw c.in_ok-place.ensures.ok
    (are_filled-with_slot (leaves_of c.args.leaves.now.items) c.args.gap.leaf c.args.gap.slot
    (record { ending = c.args.gap.ending; position = c.args.position }) c.requires.filled)

pub returns-then-is_full-2-clause-row : goal.returns-then-is_full-2-clause-row
returns-then-is_full-2-clause-row c =
    c.split.ensures.row
    ∙ rw c.in_ok-place.ensures.ok
    (joined-with_slot (leaves_of c.args.leaves.now.items) c.args.gap.leaf c.args.gap.slot
    (record { ending = c.args.gap.ending; position = c.args.position })
    (rw (length-map c.args.leaves.now.items (λ leaf. leaf.items)) c.requires.in_leaves))

pub returns-else-is_full-2-clause-row : goal.returns-else-is_full-2-clause-row
returns-else-is_full-2-clause-row c =
    rw c.in_ok-place.ensures.ok
    (joined-with_slot (leaves_of c.args.leaves.now.items) c.args.gap.leaf c.args.gap.slot
    (record { ending = c.args.gap.ending; position = c.args.position })
    (rw (length-map c.args.leaves.now.items (λ leaf. leaf.items)) c.requires.in_leaves))

pub returns-else-is_full-2-clause-filled : goal.returns-else-is_full-2-clause-filled
returns-else-is_full-2-clause-filled c =
    rw c.in_ok-place.ensures.ok
    (are_filled-with_slot (leaves_of c.args.leaves.now.items) c.args.gap.leaf c.args.gap.slot
    (record { ending = c.args.gap.ending; position = c.args.position }) c.requires.filled)
