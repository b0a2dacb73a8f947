use Rattle.std.proofs.Common.{refl, append-nil, append_assoc}
use Rattle.basic_toml_plain.proofs.TablesInBlocks.{one_block_more}
use Rattle.basic_toml_plain.proofs.tables.PlainTables.push.Goals as goal

pub returns-in_ok-begin_block-clause-tables : goal.returns-in_ok-begin_block-clause-tables
returns-in_ok-begin_block-clause-tables c =
    let made = c.in_ok-begin_block.ensures in
    rw (made.full, made.last, one_block_more, ← c.self.view_is, append-nil, append_assoc) refl
