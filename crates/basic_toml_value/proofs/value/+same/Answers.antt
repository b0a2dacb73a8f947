use Rattle.std.proofs.Common.{arith}
use Rattle.basic_toml_value.proofs.Sizes.{data_size-at, data_size-pair}
use Rattle.basic_toml_value.proofs.value.+same.Goals as goal

pub same_elements-same_values-requires : goal.same_elements-same_values-requires
same_elements-same_values-requires t c =
    let smaller = data_size-at c.args.left.now c.loop-i.i c.index-left-i.result c.loop-i-test.true c.index-left-i.is in
    (omega arith, tt)

pub same_entries-same_pairs-requires : goal.same_entries-same_pairs-requires
same_entries-same_pairs-requires t c =
    let smaller = data_size-pair c.args.left.now c.loop-i.i c.index-left-i.result c.loop-i-test.true c.index-left-i.is
    in
    (omega arith, tt)
