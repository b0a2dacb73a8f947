use Rattle.basic_toml_grammar.proofs.LawsHold.{unambiguous}
use Rattle.basic_toml_grammar.proofs.laws.grammar_is_unambiguous.Goals as goal

pub returns : goal.returns
returns c = unambiguous
