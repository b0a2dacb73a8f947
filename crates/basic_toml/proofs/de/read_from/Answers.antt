use Rattle.basic_toml.proofs.MemoryIsWanted.{lined_grows}
use Rattle.basic_toml.proofs.de.read_from.Goals as goal

pub returns-in-Err-clause-memory : goal.returns-in-Err-clause-memory
returns-in-Err-clause-memory g c =
    lined_grows _ c.args.text.now c.in-Err.error c.with_line.result c.with_line.ensures c.in-Err.ensures.memory
