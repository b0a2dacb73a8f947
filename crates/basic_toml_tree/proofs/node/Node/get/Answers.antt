use Rattle.std.proofs.Common.{◌≡◌, ◌∙◌, rules}
use Rattle.basic_toml_tree.specs.Data.{table_data}
use Rattle.basic_toml_tree.specs.Nodes.{node_data}
use Rattle.basic_toml_tree.specs.declared.spot.Fields.TheVariants as fields
use Rattle.basic_toml_tree.proofs.ItemData.{data_at_absent}
use Rattle.basic_toml_tree.proofs.Nodes.EntryNodes.{entry_enters, entry_given, key_absent, plain_read, row_enters}
use Rattle.basic_toml_tree.proofs.Nodes.EntryNodes.{section_at}
use Rattle.basic_toml_tree.proofs.node.Node.get.Goals as goal

pub returns-in_default-clause-data : goal.returns-in_default-clause-data
returns-in_default-clause-data c =
    let here : node_data c.args.self ≡ table_data c.in-Table.table.now = search (rules) in
    rw here (data_at_absent c.in-Table.table.now c.args.key.now c.in_default.ensures.value)

pub returns-in-Some : goal.returns-in-Some
returns-in-Some c =
    let table = rw c.in-Table.is at c.in_ok-table.ensures in
    entry_given (fields.Table c.in-Table.table) table.fields table.«data» (λ s. c.in-Some.ensures.value)
    (λ s. entry_enters (rw (c.as_str.ensures.value ∙ c.in-Some.ensures.same) at c.below.ensures))

-- a row of an inline table
pub plain_row-requires : goal.plain_row-requires
plain_row-requires c =
    let table = rw c.in-Rows.is at c.in_ok-table.ensures in
    let found = c.in-Some-row_at.ensures in
    plain_read c.in-Rows.rows.now table.fields.1 found.0 c.in-Some-row_at.row.now found.1

pub returns-in-Some-row_at : goal.returns-in-Some-row_at
returns-in-Some-row_at c =
    let table = rw c.in-Rows.is at c.in_ok-table.ensures in
    let found = c.in-Some-row_at.ensures in
    let rows = c.in-Rows.rows.now in
    let r = c.in-Some-row_at.row.now in
    rw (← (found.2)) (entry_given (fields.Rows c.in-Rows.rows) table.fields table.«data»
    (λ s. section_at rows table.fields.1 s found.0 r found.1)
    (row_enters rows r table.fields.0 (plain_read rows table.fields.1 found.0 r found.1) c.plain_row.ensures))

pub returns-in-None-clause-data : goal.returns-in-None-clause-data
returns-in-None-clause-data c =
    let table = rw c.in-Rows.is at c.in_ok-table.ensures in
    rw (table.«data») (key_absent c.in-Rows.rows.now table.fields.1 c.args.key.now c.in-None.ensures)

-- a row of a section
pub section_row-requires : goal.section_row-requires
section_row-requires c =
    let table = rw c.in-Section.is at c.in_ok-table.ensures in
    let found = c.in-Some-row_at-2.ensures in
    plain_read c.in-Section.rows.now table.fields.1 found.0 c.in-Some-row_at-2.row.now found.1

pub returns-in-Some-row_at-2 : goal.returns-in-Some-row_at-2
returns-in-Some-row_at-2 c =
    let table = rw c.in-Section.is at c.in_ok-table.ensures in
    let found = c.in-Some-row_at-2.ensures in
    let rows = c.in-Section.rows in
    let n = c.in-Section.section in
    rw (← (found.2)) (entry_given (fields.Section rows n) table.fields table.«data»
    (λ s. section_at rows.now table.fields.1 n found.0 c.in-Some-row_at-2.row.now found.1)
    (λ s. entry_enters c.section_row.ensures))

pub returns-in-None-row_at-clause-data : goal.returns-in-None-row_at-clause-data
returns-in-None-row_at-clause-data c =
    let table = rw c.in-Section.is at c.in_ok-table.ensures in
    rw (table.«data») (key_absent c.in-Section.rows.now table.fields.1 c.args.key.now c.in-None-row_at.ensures)
