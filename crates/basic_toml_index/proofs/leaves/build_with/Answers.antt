use Rattle.std.proofs.lemmas.List.{length-map}
use Rattle.basic_toml_index.specs.Index.{leaves_of}
use Rattle.basic_toml_index.proofs.IndexGrows.{IsSorted-insert}
use Rattle.basic_toml_index.proofs.leaves.build_with.Goals as goal

pub returns : goal.returns
returns g c =
    let leaves = leaves_of c.in_ok-leaves.leaves.items in
    let place = rw c.as_slice.ensures.value at c.gap-gap.ensures.place in
    IsSorted-insert (g.T.Texts.texts c.args.texts.now) leaves (leaves_of c.insert.new.leaves.items) c.gap-gap.result
    c.count.result c.args.key.now c.count.ensures c.in_ok-leaves.ensures
    (place (rw (c.in_ok-leaves.ensures.same c.args.key.now) c.requires.absent))
    c.in_ok-insert.ensures.row
    (rw (length-map c.insert.new.leaves.items (λ leaf. leaf.items)) c.in_ok-insert.ensures.some)
    c.in_ok-insert.ensures.filled
