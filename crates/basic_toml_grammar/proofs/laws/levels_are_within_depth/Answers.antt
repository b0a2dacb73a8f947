use Rattle.basic_toml_grammar.proofs.LawsHold.{within}
use Rattle.basic_toml_grammar.proofs.laws.levels_are_within_depth.Goals as goal

pub returns : goal.returns
returns c = within
