use Rattle.std.proofs.Common.{append_assoc, arith, length-append}
use Rattle.basic_toml_plain.specs.PlainTables.{all_in, tables_in}
use Rattle.basic_toml_plain.proofs.TablesInBlocks.{tables_count}
use Rattle.basic_toml_plain.proofs.tables.PlainTables.len.Goals as goal

pub returns : goal.returns
returns c =
    let count = tables_count c.self.inside.full.items c.self.invariant.0 in
    let all = length-append (all_in c.self.inside.full.items) (tables_in c.self.inside.last) in
    rw (← c.self.view_is, append_assoc) (omega arith)
