use Rattle.std.proofs.Common.{◌∙◌, take, ap, sym}
use Rattle.std.proofs.lemmas.List.{length-map}
use Rattle.basic_toml_index.specs.Keys.{is_among}
use Rattle.basic_toml_index.specs.Index.{leaves_of}
use Rattle.basic_toml_index.proofs.KeysOfSlots.{key_from}
use Rattle.basic_toml_index.proofs.FirstTexts.{first_insert, row_of_first, among_first}
use Rattle.basic_toml_index.proofs.leaves.first.put_in.Goals as goal

pub search-requires : goal.search-requires
search-requires g c =
    let keys = g.T.Texts.texts c.args.texts.now in
    rw c.as_slice.ensures.value
    (row_of_first keys c.loop-position.position (leaves_of c.loop-position.leaves.items) c.loop-position.invariant)

pub returns-in-At-clause-repeat : goal.returns-in-At-clause-repeat
returns-in-At-clause-repeat g c = λ within.
    let keys = g.T.Texts.texts c.args.texts.now in
    let leaves = leaves_of c.loop-position.leaves.items in
    let key = c.text.result.now in
    let among = rw c.as_slice.ensures.value at c.in-At.ensures.among in
    ap (is_among (take c.loop-position.position keys)) (key_from keys c.loop-position.position key c.text.ensures)
    ∙ sym (among_first keys c.loop-position.position leaves key c.loop-position.invariant) ∙ among

pub loop-position-preserved : goal.loop-position-preserved
loop-position-preserved g c =
    let keys = g.T.Texts.texts c.args.texts.now in
    first_insert keys c.loop-position.position (leaves_of c.loop-position.leaves.items)
    (leaves_of c.insert.new.leaves.items) c.in-Absent.gap c.text.result.now c.loop-position.invariant
    (rw c.as_slice.ensures.value at c.in-Absent.ensures.place) c.text.ensures c.in_ok-insert-in-Absent.ensures.row
    (rw (length-map c.insert.new.leaves.items (λ leaf. leaf.items)) c.in_ok-insert-in-Absent.ensures.some)
    c.in_ok-insert-in-Absent.ensures.filled
