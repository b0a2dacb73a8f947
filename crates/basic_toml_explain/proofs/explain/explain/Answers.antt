use Rattle.basic_toml_explain.specs.declared.stop.Why.TheVariants.{Equals, Bracket, Comma, Newline, Word}
use Rattle.basic_toml_explain.proofs.ErrorsAreDue.{by_reason, equals_due, bracket_due, comma_due, newline_due}
use Rattle.basic_toml_explain.proofs.explain.explain.Goals as goal

pub returns-in-Equals : goal.returns-in-Equals
returns-in-Equals c =
    let fault = c.wanted.result in
    by_reason c.args.text.now c.args.stop Equals fault c.in-Equals.is (λ e. cc) c.requires.inside c.requires.stands
    (λ b s. equals_due c.args.text.now c.args.stop.at c.utf8.text b fault s c.wanted.ensures)

pub returns-in-Bracket : goal.returns-in-Bracket
returns-in-Bracket c =
    let fault = c.wanted-in-Bracket.result in
    by_reason c.args.text.now c.args.stop Bracket fault c.in-Bracket.is (λ e. cc) c.requires.inside c.requires.stands
    (λ b s. bracket_due c.args.text.now c.args.stop.at c.utf8.text b fault s c.wanted-in-Bracket.ensures)

pub returns-in-Comma : goal.returns-in-Comma
returns-in-Comma c =
    let fault = c.wanted-in-Comma.result in
    by_reason c.args.text.now c.args.stop Comma fault c.in-Comma.is (λ e. cc) c.requires.inside c.requires.stands
    (λ b s. comma_due c.args.text.now c.args.stop.at c.utf8.text b fault s c.wanted-in-Comma.ensures)

pub returns-in-Newline : goal.returns-in-Newline
returns-in-Newline c =
    let fault = c.wanted-in-Newline.result in
    by_reason c.args.text.now c.args.stop Newline fault c.in-Newline.is (λ e. cc) c.requires.inside c.requires.stands
    (λ b s. newline_due c.args.text.now c.args.stop.at c.utf8.text b fault s.0 s.1 c.wanted-in-Newline.ensures)

pub returns-in-Word : goal.returns-in-Word
returns-in-Word c =
    by_reason c.args.text.now c.args.stop (Word c.in-Word.end) c.no_word.result c.in-Word.is (λ e. cc)
    c.requires.inside c.requires.stands (λ b s. c.no_word.ensures)
