use Rattle.basic_toml_grammar.proofs.Nesting.WithinTheLimit as within
use Rattle.basic_toml_grammar.proofs.laws.deep_stops_pass_the_limit.Goals as goal

pub returns : goal.returns
returns c = within.deep_stops_pass_the_limit
