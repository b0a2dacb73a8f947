use Rattle.std.proofs.Common.{rules}
use Rattle.basic_toml_index.specs.Index.{ending_of}
use Rattle.basic_toml_index.proofs.ending.ending_of.Goals as goal

pub returns : goal.returns
unfolding ending_of
returns c = search rules
