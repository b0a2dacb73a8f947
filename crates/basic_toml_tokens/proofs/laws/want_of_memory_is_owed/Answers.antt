use Rattle.basic_toml_tokens.proofs.MemoryIsOwed.{owed}
use Rattle.basic_toml_tokens.proofs.laws.want_of_memory_is_owed.Goals as goal

pub returns : goal.returns
returns c = owed
