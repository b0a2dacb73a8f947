use Rattle.basic_toml.proofs.RespelledTextIsRead.{read_with_returns, read_with_mark, read_by_older_rules}
use Rattle.basic_toml.proofs.de.from_str.Goals as goal

pub returns-clause-line_feeds : goal.returns-clause-line_feeds
returns-clause-line_feeds g c =
    read_with_returns g.T.Deserialize.takes g.T.Deserialize.reads g.T.Deserialize.faults c.args.s.now c.read_text.result c.utf8.s
    c.read_text.ensures.read

pub returns-clause-mark : goal.returns-clause-mark
returns-clause-mark g c =
    read_with_mark g.T.Deserialize.takes g.T.Deserialize.reads g.T.Deserialize.faults c.args.s.now c.read_text.result c.read_text.ensures.read

pub returns-clause-older_rules : goal.returns-clause-older_rules
returns-clause-older_rules g c =
    read_by_older_rules g.T.Deserialize.takes g.T.Deserialize.reads g.T.Deserialize.faults c.args.s.now c.read_text.result c.read_text.ensures.read
