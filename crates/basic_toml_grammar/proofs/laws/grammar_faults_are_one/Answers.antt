use Rattle.basic_toml_grammar.proofs.Viable.FaultsAreOne.{grammar_faults_are_one}
use Rattle.basic_toml_grammar.proofs.laws.grammar_faults_are_one.Goals as goal

pub returns : goal.returns
returns c = grammar_faults_are_one
