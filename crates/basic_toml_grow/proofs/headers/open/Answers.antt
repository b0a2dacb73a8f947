use Rattle.std.proofs.Common.{arith, rules}
use Rattle.basic_toml_grow.specs.declared.item.Item.{the_lemmas}
use Rattle.basic_toml_grow.proofs.TablesOpened.{open_named}
use Rattle.basic_toml_grow.proofs.headers.open.Goals as goal

pub returns-clause-entered : goal.returns-clause-entered
returns-clause-entered c =
    open_named c.args.table.now c.take_rows.ensures.takes (search (rules, the_lemmas)) c.if-table-2.false
    c.if-table.false (omega arith)
