use Rattle.basic_toml_grammar.proofs.LawsHold.{read}
use Rattle.basic_toml_grammar.proofs.laws.grammar_is_read.Goals as goal

pub returns : goal.returns
returns c = read
