use Rattle.basic_toml_read.proofs.ListIsAnswered.{stop_answered}
use Rattle.basic_toml_tokens.specs.Text.{folded}
use Rattle.basic_toml_grammar.proofs.Grammar.ReaderIsSound.{list_read}
use Rattle.basic_toml_read.proofs.reader.sections.Goals as goal

pub returns-in-Ok : goal.returns-in-Ok
returns-in-Ok c = (list_read (folded c.args.text.now) _ c.in-Ok.ensures.is, c.in-Ok.ensures.limit)

pub returns-in-Err : goal.returns-in-Err
returns-in-Err c = stop_answered c.args.text.now c.in-Err.stop c.explain.result c.utf8.text c.in-Err.ensures
    c.explain.ensures
