use Rattle.basic_toml_tokens.proofs.MemoryIsOwed.{before_a_break}
use Rattle.basic_toml_tokens.proofs.laws.only_copies_before_a_break.Goals as goal

pub returns : goal.returns
returns c = before_a_break
