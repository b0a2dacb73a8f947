use Rattle.std.proofs.Common.{arith, refl}
use Rattle.std.proofs.lemmas.Option.{slice_get_read}
use Rattle.basic_toml_grow.specs.Simple.{child_of}
use Rattle.basic_toml_grow.specs.declared.item.Table.{out-Table}
use Rattle.basic_toml_tree.specs.declared.spot.Fields.TheVariants as fields
use Rattle.basic_toml_tree.proofs.Nodes.NodesInOrder.{pair_read}
use Rattle.basic_toml_tree.proofs.Nodes.EntryNodes.{entry_enters, gives_next, no_entry, none_left, plain_read, row_read}
use Rattle.basic_toml_tree.proofs.Nodes.EntryNodes.{row_enters, rows_differ}
use Rattle.basic_toml_tree.proofs.entries.EntriesIterator.next.Goals as goal

pub returns-then-at-len-clause-steps : goal.returns-then-at-len-clause-steps
returns-then-at-len-clause-steps c =
    let table = rw c.in-Table.is at c.in_ok-table.ensures in
    none_left c.args.self.now (fields.Table c.in-Table.table) table.fields table.«data»
    (omega (arith, c.len.ensures, c.if-at-len.true))

pub returns-else-at-len : goal.returns-else-at-len
returns-else-at-len c =
    let table = rw c.in-Table.is at c.in_ok-table.ensures in
    let there = pair_read (out-Table c.in-Table.table.now).entries c.args.self.now.at c.key-key.result.now
    c.value.result.now c.key-key.ensures c.value.ensures in
    gives_next c.args.self.now (fields.Table c.in-Table.table) table.fields table.«data» c.key-key.result
    c.below.result (λ s. c.value.result.now) (λ s. c.entries-pairs.ensures.distinct) (λ s. there)
    (λ s. entry_enters c.below.ensures)

-- the rows of an inline table
pub plain_row-requires : goal.plain_row-requires
plain_row-requires c =
    let table = rw c.in-Rows.is at c.in_ok-table.ensures in
    let read = c.in_ok-row-in-Rows.ensures.lookup in
    plain_read c.in-Rows.rows.now table.fields.1 c.args.self.now.at c.in_ok-row-in-Rows.row.now
    (slice_get_read _ _ _ _ refl read.3.0 read.1)

pub returns-in_err-row-in-Rows-clause-steps : goal.returns-in_err-row-in-Rows-clause-steps
returns-in_err-row-in-Rows-clause-steps c =
    let table = rw c.in-Rows.is at c.in_ok-table.ensures in
    rw (c.from_residual-in_err-row-in-Rows.ensures) (none_left c.args.self.now (fields.Rows c.in-Rows.rows) table.fields
    table.«data» (no_entry c.in-Rows.rows.now 0 c.args.self.now.at c.in_err-row-in-Rows.ensures.lookup.3))

pub returns-in_ok-row-in-Rows : goal.returns-in_ok-row-in-Rows
returns-in_ok-row-in-Rows c =
    let at = c.args.self.now.at in
    let rows = c.in-Rows.rows.now in
    let r = c.in_ok-row-in-Rows.row.now in
    let table = rw c.in-Rows.is at c.in_ok-table.ensures in
    let read = c.in_ok-row-in-Rows.ensures.lookup in
    let there = slice_get_read _ _ _ _ refl read.3.0 read.1 in
    let is = row_enters rows r table.fields.0 (plain_read rows table.fields.1 at r there) c.plain_row.ensures in
    gives_next c.args.self.now (fields.Rows c.in-Rows.rows) table.fields table.«data» c.as_str.result
    c.plain_row.result (λ s. child_of s r) (rows_differ rows table.fields.1)
    (λ s. rw (c.as_str.ensures.value) (row_read rows s at r there)) (λ s. rw (c.as_str.ensures.value) (is s))

-- the rows of a section
pub section_row-requires : goal.section_row-requires
section_row-requires c =
    let table = rw c.in-Section.is at c.in_ok-table.ensures in
    let read = c.in_ok-row-in-Section.ensures.lookup in
    plain_read c.in-Section.rows.now table.fields.1 c.args.self.now.at c.in_ok-row-in-Section.row.now
    (slice_get_read _ _ _ _ refl read.3.0 read.1)

pub returns-in_err-row-in-Section-clause-steps : goal.returns-in_err-row-in-Section-clause-steps
returns-in_err-row-in-Section-clause-steps c =
    let table = rw c.in-Section.is at c.in_ok-table.ensures in
    let past = no_entry c.in-Section.rows.now c.in-Section.section c.args.self.now.at
    c.in_err-row-in-Section.ensures.lookup.3 in
    rw (c.from_residual-in_err-row-in-Section.ensures) (none_left c.args.self.now
    (fields.Section c.in-Section.rows c.in-Section.section) table.fields table.«data» past)

pub returns-in_ok-row-in-Section : goal.returns-in_ok-row-in-Section
returns-in_ok-row-in-Section c =
    let at = c.args.self.now.at in
    let s = c.in-Section.section in
    let rows = c.in-Section.rows.now in
    let r = c.in_ok-row-in-Section.row.now in
    let table = rw c.in-Section.is at c.in_ok-table.ensures in
    let read = c.in_ok-row-in-Section.ensures.lookup in
    let there = slice_get_read _ _ _ _ refl read.3.0 read.1 in
    gives_next c.args.self.now (fields.Section c.in-Section.rows s) table.fields table.«data» c.as_str-in-Section.result
    c.section_row.result (λ _. child_of s r) (λ _. rows_differ rows table.fields.1 s)
    (λ _. rw (c.as_str-in-Section.ensures.value) (row_read rows s at r there))
    (λ _. rw (c.as_str-in-Section.ensures.value) (entry_enters c.section_row.ensures))
