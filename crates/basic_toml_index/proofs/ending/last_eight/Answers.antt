use Rattle.std.proofs.Common.{◌-◌, ◌∙◌, length, drop, arith}
use Rattle.std.proofs.lemmas.List.{take_all, length-drop}
use Rattle.basic_toml_index.proofs.LastEightBytes.{last_eight-long, last_eight-short}
use Rattle.basic_toml_index.proofs.ending.last_eight.Goals as goal

pub returns-then-len-ge8 : goal.returns-then-len-ge8
returns-then-len-ge8 c =
    let len = length c.args.bytes.now in
    let tail = drop (len - 8) c.args.bytes.now in
    c.eight.ensures ∙ take_all (len - (len - 8)) tail (rw (length-drop (len - 8) c.args.bytes.now) (omega arith)) ∙
    last_eight-long c.args.bytes.now c.if-len-ge8.true

pub returns : goal.returns
returns c = rw c.copy_from_slice.ensures.after (last_eight-short c.args.bytes.now c.if-len-ge8.false)
