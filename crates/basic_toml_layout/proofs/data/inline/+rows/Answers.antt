use Rattle.std.proofs.Common.{arith, string_bytes}
use Rattle.basic_toml_value.proofs.Sizes.{data_size-at, data_size-pair}
use Rattle.basic_toml_layout.proofs.DataIsLaidOut.{if_added, entries_smaller, array_inline, table_inline}
use Rattle.basic_toml_layout.proofs.data.inline.+rows.Goals as goal

pub write_elements-write_inline-requires : goal.write_elements-write_inline-requires
write_elements-write_inline-requires t c =
    let smaller = data_size-at c.args.values.now c.loop-i.i c.index-values-i.result c.loop-i-test.true c.index-values-i.is in
    (omega arith, tt)

pub write_entries-write_inline-requires : goal.write_entries-write_inline-requires
write_entries-write_inline-requires t c =
    let smaller = data_size-pair c.args.pairs.now c.loop-i.i c.index-pairs-i.result c.loop-i-test.true c.index-pairs-i.is
    in
    (omega arith, tt)

pub write_inline-write_entries-requires : goal.write_inline-write_entries-requires
write_inline-write_entries-requires t c =
    let smaller = entries_smaller c.args.value.now c.in-Table.table c.entries.result.now c.in-Table.is
    c.entries.ensures.pairs in
    (omega arith, tt)

pub write_inline-returns-in_ok-write_elements-in-Array : goal.write_inline-returns-in_ok-write_elements-in-Array
write_inline-returns-in_ok-write_elements-in-Array t c =
    if_added c.push-in-Array.result _ _ _ (λ last. array_inline c.args.value.now c.in-Array.values c.as_slice.result.now
    c.in-Array.is c.as_slice.ensures.value (string_bytes c.args.text.now) (string_bytes c.push.new.self)
    (string_bytes c.write_elements.new.text) (string_bytes c.push-in-Array.new.self) c.in_ok-push-in-Array.ensures.bytes
    c.in_ok-write_elements-in-Array.ensures last) c.push-in-Array.ensures.bytes

pub write_inline-returns-in_ok-write_entries-in-Table : goal.write_inline-returns-in_ok-write_entries-in-Table
write_inline-returns-in_ok-write_entries-in-Table t c =
    if_added c.push-in-Table-2.result _ _ _ (λ last. table_inline c.args.value.now c.in-Table.table c.entries.result.now
    c.in-Table.is c.entries.ensures.pairs (string_bytes c.args.text.now) (string_bytes c.push-in-Table.new.self)
    (string_bytes c.write_entries.new.text) (string_bytes c.push-in-Table-2.new.self)
    c.in_ok-push-in-Table.ensures.bytes c.in_ok-write_entries-in-Table.ensures last) c.push-in-Table-2.ensures.bytes
