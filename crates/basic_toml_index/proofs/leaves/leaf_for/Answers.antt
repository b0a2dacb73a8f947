use Rattle.std.proofs.Common.{◌+◌, ◌-◌, ◌/◌, ◌<◌, length, arith}
use Rattle.std.proofs.lemmas.List.{length-map}
use Rattle.basic_toml_index.specs.Index.{is_sound, leaf_at, leaves_of}
use Rattle.basic_toml_index.proofs.SlotsInLeaves.{filled_at, all_in_leaf, all_at}
use Rattle.basic_toml_index.proofs.leaves.leaf_for.Goals as goal

pub is_above-requires-clause-sound : goal.is_above-requires-clause-sound
is_above-requires-clause-sound g c =
    let leaves = leaves_of c.args.leaves.now in
    let middle = c.loop-high.low + (c.loop-high.high - c.loop-high.low) / 2 in
    let within : middle < length leaves = rw (length-map c.args.leaves.now (λ leaf. leaf.items)) (omega arith) in
    let sound = all_in_leaf (is_sound (g.T.Texts.texts c.args.texts.now)) leaves middle c.requires.sound within in
    rw c.leaf.ensures (all_at (is_sound (g.T.Texts.texts c.args.texts.now)) (leaf_at leaves middle) 0
    (record { ending = 0; position = 0 }) sound (filled_at leaves middle c.requires.filled within))
