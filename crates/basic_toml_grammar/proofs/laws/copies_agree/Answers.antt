use Rattle.basic_toml_grammar.proofs.Grammar.CopiesAgree.{copies_agree}
use Rattle.basic_toml_grammar.proofs.laws.copies_agree.Goals as goal

pub returns : goal.returns
returns c = copies_agree
