use Rattle.std.proofs.Common.{arith}
use Rattle.basic_toml_plain.proofs.PartsOfRows.{tables_count}
use Rattle.basic_toml_plain.proofs.table_block.TableBlock.len.Goals as goal

pub returns : goal.returns
returns c =
    let count = tables_count _ _ _ _ c.self.invariant c.self.view_is in
    omega arith
