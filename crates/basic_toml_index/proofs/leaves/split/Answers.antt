use Rattle.std.proofs.Common.{◌≡◌, ◌∙◌, ◌/◌, ◌<◌, length, refl, ap, arith}
use Rattle.std.proofs.lemmas.List.{length-map}
use Rattle.basic_toml_index.specs.Index.{leaves_of, leaf_at}
use Rattle.basic_toml_index.proofs.SlotsInLeaves.{with_split, joined-with_split, are_filled-with_split}
use Rattle.basic_toml_index.proofs.SlotsInLeaves.{leaves_of-split, leaf_at-read}
use Rattle.basic_toml_index.proofs.leaves.split.Goals as goal
use Rattle.basic_toml_index.proofs.leaves.split.Goals.{In-Ok-insert}

-- the leaves with the one at `at` split
split_is : (c : In-Ok-insert)
    → leaves_of c.insert.new.self.items
    ≡ with_split (leaves_of c.args.leaves.now.items) c.args.at (c.len-middle.result / 2)
split_is c =
    ap leaves_of c.in-Ok-insert.ensures.items
    ∙ leaves_of-split c.try_reserve.new.self.items c.args.at (c.len-middle.result / 2) c.index_mut-leaf.result.now
    c.split_off.new.self c.in-Ok.right
    (rw c.try_reserve.ensures.items c.requires.within) c.index_mut-leaf.ensures.value c.in-Ok.ensures.items
    c.in-Ok.ensures.tail
    ∙ rw c.try_reserve.ensures.items refl

within : (c : In-Ok-insert) → c.args.at < length (leaves_of c.args.leaves.now.items)
within c = rw (length-map c.args.leaves.now.items (λ leaf. leaf.items)) c.requires.within

pub returns-clause-row : goal.returns-clause-row
returns-clause-row c =
    let at = (goal.at.returns-clause-row c).In-Ok-insert in
    rw (split_is at) (joined-with_split (leaves_of c.args.leaves.now.items) c.args.at (c.len-middle.result / 2)
    (within at))

pub returns-clause-filled : goal.returns-clause-filled
returns-clause-filled c =
    let at = (goal.at.returns-clause-filled c).In-Ok-insert in
    let leaf : leaf_at (leaves_of c.args.leaves.now.items) c.args.at ≡ c.index_mut-leaf.result.now.items =
    leaf_at-read c.args.leaves.now.items c.args.at c.index_mut-leaf.result.now c.requires.within
    (rw c.try_reserve.ensures.items at c.index_mut-leaf.ensures.value) in
    let two = rw leaf at c.requires.two in
    let len : c.len-middle.result ≡ length c.index_mut-leaf.result.now.items = c.len-middle.ensures ∙
    c.index_mut-leaf.result.now.ok.0 in
    rw (split_is at) (are_filled-with_split (leaves_of c.args.leaves.now.items) c.args.at (c.len-middle.result / 2)
    (within at) (omega arith) (rw leaf (omega arith)) c.requires.filled)
