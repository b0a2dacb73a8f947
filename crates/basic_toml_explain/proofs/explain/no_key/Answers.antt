use Rattle.basic_toml_explain.proofs.ErrorsAreDue.{key_due, key_absent}
use Rattle.basic_toml_explain.proofs.explain.no_key.Goals as goal

pub returns-in-Ok : goal.returns-in-Ok
returns-in-Ok c = absurd (key_absent c.args.text.now c.args.at c.utf8.text c.requires.boundary c.at.result
    c.key.new.self c.in-Ok.field-0 c.at.ensures c.requires.none c.in-Ok.ensures)

pub returns : goal.returns
returns c =
    key_due c.args.text.now c.args.at c.utf8.text c.requires.boundary c.at.result c.key.new.self c.in-Err.error
    c.at.ensures c.requires.hole c.in-Err.ensures
