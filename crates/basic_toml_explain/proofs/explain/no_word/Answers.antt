use Rattle.basic_toml_explain.proofs.ErrorsAreDue.{word_due, period_due}
use Rattle.basic_toml_explain.proofs.explain.no_word.Goals as goal

pub returns-in-Ok : goal.returns-in-Ok
returns-in-Ok c =
    period_due c.args.text.now c.args.at c.utf8.text c.requires.boundary c.after_value.result.now c.at-cursor.result
    tt c.wanted.result c.at-cursor.ensures c.in-Ok.ensures c.requires.stops.hole c.requires.stops.some c.wanted.ensures

pub returns-in-Err : goal.returns-in-Err
returns-in-Err c =
    word_due c.args.text.now c.args.at c.utf8.text c.requires.boundary c.args.end c.after_value.result.now
    c.at-cursor.result c.in-Err.error c.at-cursor.ensures c.after_value.ensures c.requires.stops c.in-Err.ensures
