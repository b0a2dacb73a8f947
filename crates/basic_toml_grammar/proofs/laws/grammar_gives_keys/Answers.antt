use Rattle.basic_toml_grammar.proofs.LawsHold.{keyed}
use Rattle.basic_toml_grammar.proofs.laws.grammar_gives_keys.Goals as goal

pub returns : goal.returns
returns c = keyed
