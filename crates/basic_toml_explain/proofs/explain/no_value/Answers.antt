use Rattle.std.proofs.Common.{sym, subst}
use Rattle.basic_toml_explain.specs.Explain.{IsDue}
use Rattle.basic_toml_explain.proofs.ErrorsAreDue.{value_due, over_due}
use Rattle.basic_toml_explain.proofs.explain.no_value.Goals as goal

pub returns-then-at-text : goal.returns-then-at-text
returns-then-at-text c =
    subst (IsDue c.args.text.now) (sym c.at.ensures)
    (over_due c.args.text.now c.args.at c.utf8.text c.requires.boundary c.requires.hole c.if-at-text.true)

pub returns : goal.returns
returns c =
    value_due c.args.text.now c.args.at c.utf8.text c.requires.boundary c.wanted.result c.requires.hole
    c.requires.none c.if-at-text.false c.wanted.ensures
