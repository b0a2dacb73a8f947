use Rattle.basic_toml_grammar.proofs.Viable.FaultsAreOne.{grammar_texts_have_none}
use Rattle.basic_toml_grammar.proofs.laws.grammar_texts_have_none.Goals as goal

pub returns : goal.returns
returns c = grammar_texts_have_none
