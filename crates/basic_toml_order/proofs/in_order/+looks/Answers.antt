use Rattle.std.proofs.Common.{arith}
use Rattle.basic_toml_value.proofs.Sizes.{data_size-at, data_size-pair}
use Rattle.basic_toml_order.proofs.OrderIsSeen.{sound_table}
use Rattle.basic_toml_order.proofs.in_order.+looks.Goals as goal

pub are_elements_in_order-is_in_order-requires : goal.are_elements_in_order-is_in_order-requires
are_elements_in_order-is_in_order-requires t c =
    let smaller = data_size-at c.args.values.now c.loop-i.i c.index-values-i.result c.loop-i-test.true c.index-values-i.is in
    (omega arith, tt)

pub are_pairs_in_order-is_in_order-requires : goal.are_pairs_in_order-is_in_order-requires
are_pairs_in_order-is_in_order-requires t c =
    let smaller = data_size-pair c.args.pairs.now c.loop-i.i c.index-pairs-i.result c.loop-i-test.true c.index-pairs-i.is
    in
    (omega arith, tt)

pub is_table_in_order-returns-clause-sound : goal.is_table_in_order-returns-clause-sound
is_table_in_order-returns-clause-sound t c = λ yes.
    sound_table c.args.table.now _ c.entries.ensures.pairs c.entries.ensures.distinct
    (c.are_pairs_in_order.ensures.sound yes)
