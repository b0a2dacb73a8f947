use Rattle.std.proofs.Common.{ap}
use Rattle.basic_toml_tokens.specs.Text.{run, is_keylike}
use Rattle.basic_toml_explain.proofs.RefusedBehind.{accepts_end}
use Rattle.basic_toml_explain.proofs.TakenTokenStands.{takes_word}
use Rattle.basic_toml_explain.proofs.cursor.Cursor.keylike.Goals as goal

pub returns-in-Some : goal.returns-in-Some
returns-in-Some c =
    let taken = rw c.in-Some.is at c.in_ok-token.ensures in
    takes_word c.args.self.now c.next.new.self _ _ c.word_of.result taken c.word_of.ensures

pub returns-in-None : goal.returns-in-None
returns-in-None c =
    let over = rw c.in-None.is at c.in_ok-token.ensures in (ap (run is_keylike) over.0, accepts_end over.0)
