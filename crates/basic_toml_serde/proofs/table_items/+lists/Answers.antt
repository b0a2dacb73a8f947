use Rattle.std.proofs.Common.{arith}
use Rattle.basic_toml_value.proofs.Sizes.{data_size-at, data_size-pair}
use Rattle.basic_toml_serde.proofs.table_items.+lists.Goals as goal

pub add_array-add_value-requires : goal.add_array-add_value-requires
add_array-add_value-requires t c =
    let smaller = data_size-at c.args.values.now c.loop-i.i c.index-values-i.result c.loop-i-test.true c.index-values-i.is in
    (omega arith, tt)

pub add_pairs-add_value-requires : goal.add_pairs-add_value-requires
add_pairs-add_value-requires t c =
    let smaller = data_size-pair c.args.pairs.now c.loop-i.i c.index-pairs-i.result c.loop-i-test.true c.index-pairs-i.is
    in
    (omega arith, tt)
