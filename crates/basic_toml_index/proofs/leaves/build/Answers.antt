use Rattle.std.proofs.Common.{◌≡◌, length, arith}
use Rattle.std.proofs.lemmas.List.{length-map}
use Rattle.basic_toml_index.specs.Index.{leaves_of}
use Rattle.basic_toml_index.proofs.IndexGrows.{IsRowOf-insert, IsSorted-whole, absent_from_row}
use Rattle.basic_toml_index.proofs.leaves.build.Goals as goal

pub loop-position-preserved : goal.loop-position-preserved
loop-position-preserved g c =
    let keys = g.T.Texts.texts c.args.texts.now in
    let leaves = leaves_of c.loop-position.leaves.items in
    let text = c.text-in-loop-position in
    let place = rw c.as_slice.ensures.value at c.gap-gap.ensures.place in
    IsRowOf-insert keys c.loop-position.position leaves (leaves_of c.insert.new.leaves.items) c.gap-gap.result
    text.result.now c.loop-position.invariant
    (place (absent_from_row keys c.loop-position.position leaves text.result.now c.loop-position.invariant
    c.requires.distinct text.ensures))
    text.ensures c.in_ok-insert.ensures.row
    (rw (length-map c.insert.new.leaves.items (λ leaf. leaf.items)) c.in_ok-insert.ensures.some)
    c.in_ok-insert.ensures.filled

pub returns : goal.returns
returns g c =
    let end : c.loop-position.position ≡ length (g.T.Texts.texts c.args.texts.now) = omega arith in
    IsSorted-whole (g.T.Texts.texts c.args.texts.now) (leaves_of c.loop-position.leaves.items)
    (rw end at c.loop-position.invariant)
